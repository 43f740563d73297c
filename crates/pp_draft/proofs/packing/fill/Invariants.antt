use Rattle.std.proofs.Common.{◌≡◌, ◌≤◌, length}
use Rattle.pp_draft.proofs.Filling.{HasFilled}
use Rattle.pp_draft.proofs.packing.fill.Given as goal

abbrev pub invariant-loop-note : goal.invariant-loop-note
invariant-loop-note l = record {
  filled : HasFilled l.descriptor l.notes l.from l.initial.out l.note-index l.end l.out;
  count : l.count ≡ l.note-index;
  first : l.note-index ≡ 0 → l.end ≡ l.from;
  size : length l.out ≡ 16384;
  within : l.note-index ≤ length l.notes;
}
