use Rattle.std.proofs.Common.{ℕ, sym, subst}
use Rattle.pp_terms.specs.format.Traffic.{Quiet}
use Rattle.pp_seats.specs.Standing.{SeatsState, StandsFor}
use Rattle.pp_seats.specs.Hearing.{Ready}
use Rattle.pp_seats.proofs.Comings.{waited}
use Rattle.pp_seats.proofs.seats.Seats.quiet.Goals as goal

pub returns-clause-stands : goal.returns-clause-stands
returns-clause-stands c x most past h =
    let p : SeatsState = record { descriptor = c.self.inside.descriptor; table = c.self.inside.lives; seats = c.self.inside.seats.items; moment = c.self.inside.moment } in
    subst (λ (n : ℕ). Ready x most (record p { moment = n }) (Quiet c.args.at) past) (sym c.max-self-inside.ensures)
    (waited x most c.args.at p past (subst (λ (q : SeatsState). StandsFor x most q past) (sym c.self.view_is) h))
