-- A holding that was just opened.
use Rattle.std.proofs.Common.{◌≡◌, inl, ℕ, Bool, true, false, List, [], length, replicate, get_or, Err, sym, ◌∙◌, ap, arith}
use Rattle.std.specs.Prelude.{count_by, ◌||◌}
use Rattle.std.proofs.Math.Bool.{or-false}
use Rattle.std.proofs.lemmas.Bool.{false≢true}
use Rattle.std.proofs.lemmas.List.{length-replicate}
use Rattle.pp_terms.specs.tree.Book.{LookUp}
use Rattle.pp_terms.specs.format.Descriptor.{Descriptor, chunks_of}
use Rattle.pp_terms.specs.disk.Disk.{DiskState, IsKnown, IsImage, Throughout, moment_of}
use Rattle.pp_terms.proofs.Facts.{none_in}
use Rattle.pp_scan.specs.declared.scanning.ScanFault.{ScanFault}
use Rattle.pp_scan.specs.declared.scanning.ScanFault.TheVariants.{NotAStore, Disk, Memory}
use Rattle.pp_scan.specs.Scan.{HasFound}
use Rattle.pp_store.specs.Sound.{IsGated}
use Rattle.pp_store.specs.Store.{StoreState, is_committed, AgreesWith, AllStand}
use Rattle.pp_store.proofs.Gated.{gated_more}
use Rattle.pp_tree.proofs.HeldCounts.{none_counted}
use Rattle.pp_holding.specs.Holding.{HasWaiting}
use Rattle.pp_holding.specs.Opening.{IsOpenFault}
use Rattle.pp_holding.specs.Stock.{may_be_open, IsKept}
use Rattle.pp_holding.proofs.Advancing.{committed_open}

pub begun_fault : (P : Type 0) (d : Descriptor) (old new : DiskState) (book : LookUp) (fault : ScanFault) → HasFound ((new ≡ old) × P) d old new book (Err fault)
    → IsOpenFault d old new fault
begun_fault P d old new book (NotAStore at found want) it = it
begun_fault P d old new book Disk it = it
begun_fault P d old new book Memory it = it.0

module _ (s : StoreState) (none : s.pending ≡ replicate (chunks_of s.descriptor) false) where
  none_pending : (i : ℕ) → get_or s.pending i false ≡ false
  none_pending i = ap (λ (xs : List Bool). get_or xs i false) none ∙ none_in (chunks_of s.descriptor) i

  pub begun_waiting : length s.committed ≡ chunks_of s.descriptor → HasWaiting s []
  begun_waiting size = record {
    committed_size = size;
    pending_size = ap (λ (xs : List Bool). length xs) none ∙ length-replicate (chunks_of s.descriptor) false;
    apart = λ i at. absurd (false≢true (sym (none_pending i) ∙ at));
    each = λ i. sym (none_pending i);
    as_many = sym (ap (λ (xs : List Bool). count_by (λ (b : Bool). b) xs) none ∙ none_counted (chunks_of s.descriptor));
  }

  pub begun_kept : (book : LookUp) (disk : DiskState) → IsKnown disk → IsImage disk.history.epoch disk.history.reads → AgreesWith s book disk.history.reads
      → AllStand s.descriptor s.committed disk.history → Throughout disk.history (moment_of disk.history) (IsGated s.descriptor (is_committed s))
      → IsKept (moment_of disk.history) (record { store = s; book = book; disk = disk })
  begun_kept book disk known whole agrees stands gated = record {
    known = known;
    past = omega arith;
    agrees = agrees;
    holds = λ live i at.
        let at' : is_committed s i ≡ true = sym (ap (λ (b : Bool). get_or s.committed i false || b) (none_pending i) ∙ or-false (get_or s.committed i false)) ∙ at in
        let it = stands i at' disk.history.reads (inl whole) in
        record { begins = it.begins; within = it.within; held = it.held };
    gated = λ image at. gated_more s.descriptor (is_committed s) (may_be_open s) image (λ i is. committed_open s i is) (gated image at);
    stands = stands;
  }
