use Rattle.std.proofs.Common.{subst}
use Rattle.pp_requests.specs.Seats.{Seating}
use Rattle.pp_peer.specs.Slotting.{GrantsAll}
use Rattle.pp_peer.proofs.Slotted.{given_up}
use Rattle.pp_peer.proofs.parts.Parts.give_up_slot.Goals as goal

pub returns-clause-gives_up : goal.returns-clause-gives_up
returns-clause-gives_up c =
    subst (λ (s : Seating). GrantsAll (record c.args.self.now { slots = s }) c.give_free_slots.new.self)
    (given_up c.args.self.now.slots c.release.new.self c.wait.new.self c.args.seat c.moment-now.result
    c.args.self.now.seats.moment c.moment-now.ensures c.release.ensures c.wait.ensures) c.give_free_slots.ensures.grants
