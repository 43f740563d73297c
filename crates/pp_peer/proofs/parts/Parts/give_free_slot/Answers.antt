use Rattle.std.proofs.Common.{arith}
use Rattle.pp_peer.proofs.Slotted.{fewer_wait, grants_one, keeps_turned}
use Rattle.pp_peer.proofs.parts.Parts.give_free_slot.Goals as goal

pub returns-clause-grants : goal.returns-clause-grants
returns-clause-grants c = (
  fewer_wait c.args.self.now c.turn.new.self c.release.new.self c.grant.new.self c.is_free.result c.grant.result c.in-Some.first
      c.moment-now.result (omega arith) c.is_free.ensures c.if-not-is_free.false c.in-Some.ensures c.moment-now.ensures c.release.ensures
      c.grant.ensures.free c.grant.ensures.granted c.turn.ensures,
  grants_one c.args.self.now c.turn.new.self c.release.new.self c.grant.new.self c.is_free.result c.grant.result c.in-Some.first
      c.moment-now.result (omega arith) c.is_free.ensures c.if-not-is_free.false c.in-Some.ensures c.moment-now.ensures c.release.ensures
      c.grant.ensures.free c.grant.ensures.granted c.turn.ensures,
)

pub returns-clause-keeps : goal.returns-clause-keeps
returns-clause-keeps c = keeps_turned c.args.self.now c.turn.new.self c.grant.new.self c.in-Some.first c.turn.ensures
