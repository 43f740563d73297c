use Rattle.std.proofs.Common.{◌-◌, length}
use Rattle.pp_store.proofs.Committing.{IsCommitting}
use Rattle.pp_store.proofs.keeping.commit_all.Given as goal

abbrev pub invariant-loop-i : goal.invariant-loop-i
invariant-loop-i l = IsCommitting l.initial.committed l.initial.pending l.committed l.pending l.from

abbrev pub decreases-loop-i : goal.decreases-loop-i
decreases-loop-i l = length l.initial.pending - l.from
