use Rattle.std.proofs.Common.{sym, subst}
use Rattle.pp_peer.specs.declared.parts.Parts.{Parts}
use Rattle.pp_peer.specs.Slotting.{HasNoneToGrant}
use Rattle.pp_peer.proofs.Slotted.{leads_more, keeps_twice}
use Rattle.pp_peer.proofs.parts.Parts.give_free_slots.Goals as goal

pub slots-preserved : goal.slots-preserved
slots-preserved c = (
  leads_more c.args.self.now c.slots.self c.give_free_slot.new.self c.slots.invariant.0 c.slots-test.ensures.grants.1,
  keeps_twice c.args.self.now c.slots.self c.give_free_slot.new.self c.slots.invariant.1 c.slots-test.ensures.keeps,
)

pub returns-clause-all : goal.returns-clause-all
returns-clause-all c = subst (λ (p : Parts). HasNoneToGrant p) (sym c.slots-test.ensures.grants.0) c.slots-test.ensures.grants.1
