use Rattle.std.proofs.Common.{◌≡◌, length, map, take}
use Rattle.pp_tree.specs.Book.{entry}
use Rattle.pp_verdict.specs.Courses.{IsSome}
use Rattle.pp_verdict.specs.Findings.{AreFound}
use Rattle.pp_verdict.specs.Reaches.{reached}
use Rattle.pp_verdict.proofs.findings.note_lives.Given as goal

abbrev pub invariant-loop-reach : goal.invariant-loop-reach
invariant-loop-reach l = record {
  room : length l.findings ≡ length l.entries;
  some : IsSome l.course l.descriptor;
  found : AreFound l.descriptor (entry l.book) l.entries (map reached (take l.reach-index l.reaches)) l.findings;
}
