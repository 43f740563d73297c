use Rattle.std.proofs.Common.{◌≡◌, ℕ, ◌<◌, true, false, length, get_or}
use Rattle.std.specs.Prelude.{is_some}
use Rattle.pp_terms.specs.disk.Disk.{IsKnown}
use Rattle.pp_tree.specs.Book.{entry}
use Rattle.pp_scan.specs.Look.{KeepsAll}
use Rattle.pp_scan.specs.Holding.{is_there}
use Rattle.pp_scan.proofs.verifying.hold_chunks.Given as goal

abbrev pub invariant-loop-i : goal.invariant-loop-i
invariant-loop-i g l = record {
  keeps : KeepsAll (g.D.Disk.state l.initial.disk) (g.D.Disk.state l.disk);
  count : length l.set ≡ length l.initial.set;
  leaf : (k : ℕ) → k < l.i → get_or l.set k false ≡ true → is_some (entry l.book 0 k) ≡ true;
  held : IsKnown (g.D.Disk.state l.initial.disk) → (k : ℕ) → k < l.i → get_or l.set k false ≡ is_there l.descriptor (g.D.Disk.state l.initial.disk).history.reads (entry l.book) k;
}
