use Rattle.std.proofs.Common.{◌≡◌}
use Rattle.pp_tree.specs.Book.{entry}
use Rattle.pp_audit.specs.Stored.{stores_all}
use Rattle.pp_recorded.proofs.Pasts.{first}
use Rattle.pp_audit.proofs.stored.each_stores.Given as goal

abbrev pub invariant-loop-place : goal.invariant-loop-place
invariant-loop-place l = l.all ≡ stores_all l.descriptor (entry l.book) l.held (first l.place l.entries)
