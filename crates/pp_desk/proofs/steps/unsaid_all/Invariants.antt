use Rattle.std.proofs.Common.{take}
use Rattle.pp_desk.specs.Steps.{AreRefused}
use Rattle.pp_desk.proofs.steps.unsaid_all.Given as goal

abbrev pub invariant-loop-note : goal.invariant-loop-note
invariant-loop-note l = AreRefused (take l.note-index l.notes) l.initial.seat l.seat
