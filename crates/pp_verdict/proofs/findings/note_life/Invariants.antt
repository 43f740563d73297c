use Rattle.std.proofs.Common.{◌≡◌, ℕ, ◌<◌, ◌≤◌, get_or, length}
use Rattle.pp_tree.specs.Book.{entry}
use Rattle.pp_recorded.specs.declared.entry.Entry.{Entry}
use Rattle.pp_recorded.proofs.Pasts.{first}
use Rattle.pp_verdict.specs.Courses.{Follows}
use Rattle.pp_verdict.specs.Findings.{case_at, Notes}
use Rattle.pp_verdict.specs.Reaches.{reached}
use Rattle.pp_verdict.specs.declared.findings.Finding.{Finding}
use Rattle.pp_verdict.proofs.findings.note_life.Given as goal

abbrev pub invariant-loop-place : goal.invariant-loop-place
invariant-loop-place l = record {
  room : length l.findings ≡ length l.initial.findings;
  follows : Follows l.course l.descriptor (reached l.reach) (first l.place l.entries);
  noted : (k : ℕ) (x : Entry) (f g : Finding) → k < l.place → x ≡ get_or l.entries k x → f ≡ get_or l.initial.findings k f → g ≡ get_or l.findings k g
      → Notes (case_at l.descriptor (entry l.book) l.entries k x) (reached l.reach) f g;
  later : (k : ℕ) (z : Finding) → l.place ≤ k → get_or l.findings k z ≡ get_or l.initial.findings k z;
}
