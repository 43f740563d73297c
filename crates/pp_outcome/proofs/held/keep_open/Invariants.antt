use Rattle.pp_terms.specs.disk.Image.{is_open}
use Rattle.pp_outcome.proofs.Gates.{AreKeptBelow}
use Rattle.pp_outcome.proofs.held.keep_open.Given as goal

abbrev pub invariant-loop-i : goal.invariant-loop-i
invariant-loop-i l = AreKeptBelow (is_open l.descriptor l.bytes) l.initial.set l.i l.set
