use Rattle.std.proofs.Common.{length, ◌-◌}
use Rattle.pp_store.proofs.Fillings.{IsFilled}
use Rattle.pp_node.proofs.taking.take.Given as goal

abbrev pub invariant-loop-filled : goal.invariant-loop-filled
invariant-loop-filled g l = IsFilled (g.S.Source.state l.initial.source) (g.S.Source.state l.source) l.buffer l.filled

abbrev pub decreases-loop-filled : goal.decreases-loop-filled
decreases-loop-filled g l = length l.initial.buffer - l.filled
