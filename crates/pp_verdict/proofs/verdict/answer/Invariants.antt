use Rattle.std.proofs.Common.{◌≡◌, ◌≤◌}
use Rattle.std.specs.Prelude.{count_by}
use Rattle.pp_tree.specs.Book.{entry}
use Rattle.pp_traffic.specs.Serving.{window_of, ServesAll}
use Rattle.pp_recorded.proofs.Pasts.{first}
use Rattle.pp_verdict.specs.Chunks.{has_chunk}
use Rattle.pp_verdict.proofs.verdict.answer.Given as goal

abbrev pub invariant-loop-place : goal.invariant-loop-place
invariant-loop-place l = record {
  served : ServesAll l.descriptor (entry l.book) (window_of l.descriptor) (first l.place l.entries);
  counted : l.chunks ≡ count_by (has_chunk l.descriptor) (first l.place l.entries);
  few : l.chunks ≤ l.place;
}
