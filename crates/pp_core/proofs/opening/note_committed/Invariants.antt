use Rattle.pp_core.specs.Opening.{NotesBelow}
use Rattle.pp_core.proofs.opening.note_committed.Given as goal

abbrev pub invariant-loop-i : goal.invariant-loop-i
invariant-loop-i l = NotesBelow l.i l.committed l.initial.fetching l.fetching
