use Rattle.pp_audit.proofs.LastTurns.{earlier_none, earlier_some}
use Rattle.pp_audit.proofs.turns.earlier.Goals as goal

pub returns-then-start-eq0 : goal.returns-then-start-eq0
returns-then-start-eq0 c = earlier_none c.args.entries.now c.turn_start-start.result c.turn_start-start.ensures.start c.if-start-eq0.true

pub returns-else-start-eq0 : goal.returns-else-start-eq0
returns-else-start-eq0 c = earlier_some c.args.entries.now c.turn_start-start.result c.turn_start-start.ensures.start c.if-start-eq0.false
