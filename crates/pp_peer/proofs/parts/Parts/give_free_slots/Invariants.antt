use Rattle.pp_requests.specs.Seats.{seat_count}
use Rattle.pp_peer.specs.Slotting.{KeepsButSlots}
use Rattle.pp_peer.proofs.Slotted.{LeadsOn}
use Rattle.pp_peer.proofs.parts.Parts.give_free_slots.Given as goal

abbrev pub invariant-slots : goal.invariant-slots
invariant-slots l = LeadsOn l.initial.self l.self × KeepsButSlots l.initial.self l.self

abbrev pub decreases-slots : goal.decreases-slots
decreases-slots l = seat_count l.self.slots.waiting
