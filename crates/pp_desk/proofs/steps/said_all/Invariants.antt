use Rattle.std.proofs.Common.{◌≡◌, take}
use Rattle.pp_desk.specs.Steps.{AreSaid}
use Rattle.pp_desk.proofs.steps.said_all.Given as goal

abbrev pub invariant-loop-note : goal.invariant-loop-note
invariant-loop-note l = record {
  said : AreSaid l.now l.set_back (take l.note-index l.notes) l.initial.seat l.seat;
  chunks : l.seat.told.chunks ≡ l.initial.seat.told.chunks;
}
