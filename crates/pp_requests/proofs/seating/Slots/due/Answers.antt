use Rattle.std.proofs.Common.{◌∙◌, sym, ap}
use Rattle.pp_requests.specs.Seats.{seat_count}
use Rattle.pp_requests.proofs.SeatCounts.{none_counted, never_due}
use Rattle.pp_requests.proofs.seating.Slots.due.Goals as goal

pub returns-in_err-served-clause-due : goal.returns-in_err-served-clause-due
returns-in_err-served-clause-due c =
    never_due c.from_residual-in_err-served.result c.args.self.now c.args.now c.from_residual-in_err-served.ensures
    (ap (λ s. seat_count s.slots) (sym c.self.view_is) ∙ none_counted c.self.inside.slots c.in_err-served.ensures)
