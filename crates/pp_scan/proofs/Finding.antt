-- What a scan finds, step by step.
use Rattle.std.proofs.Common.{◌≡◌, ◌⊎◌, inl, inr, ⊎_elim, ℕ, suc, ◌^◌, ◌<◌, ◌≤◌, Bool, true, false, not, List, [], length, get_or, replicate, Result, Ok, Err, refl, sym, ◌∙◌, ap, subst, arith}
use Rattle.std.specs.Prelude.{◌&&◌, is_some}
use Rattle.std.proofs.lemmas.Bool.{false≢true, and_parts, and_right}
use Rattle.std.proofs.lemmas.List.{length-replicate}
use Rattle.pp_terms.specs.tree.Content.{chunk_length}
use Rattle.pp_terms.specs.tree.Book.{LookUp, has_peaks}
use Rattle.pp_terms.specs.format.Descriptor.{Descriptor, chunks_of, height_of, IsDescriptor}
use Rattle.pp_terms.specs.disk.Image.{holds, is_found}
use Rattle.pp_terms.specs.disk.Disk.{DiskState, History, IsKnown, DoesSync}
use Rattle.pp_terms.proofs.Knowing.{known_on}
use Rattle.pp_terms.proofs.Facts.{none_in}
use Rattle.pp_terms.specs.disk.Store.{HasHeader}
use Rattle.pp_tree.proofs.Sizes.{chunk_size_range, chunk_begins}
use Rattle.pp_tree.specs.Book.{HasRootAlone}
use Rattle.pp_scan.specs.declared.scanning.ScanFault.{ScanFault}
use Rattle.pp_scan.specs.declared.scanning.ScanFault.TheVariants.{NotAStore, Disk, Memory}
use Rattle.pp_scan.specs.Look.{KeepsAll, OnlySyncs, synced}
use Rattle.pp_scan.specs.Layers.{HasKnown, HasOnlyKnown}
use Rattle.pp_scan.specs.Gates.{ShowsGate, ShowsGates}
use Rattle.pp_scan.specs.Holding.{is_there}
use Rattle.pp_scan.specs.Scan.{IsScanned, HasFound}
use Rattle.pp_scan.specs.Verify.{IsVerified, HasVerified}
use Rattle.pp_scan.proofs.Reading.{known_after}
use Rattle.pp_scan.proofs.Holds.{found_is, held_there, none_held, empty_none, empty_known}
use Rattle.pp_scan.proofs.Slots.{slot_or_last}

-- a chunk has a byte
pub some_bytes : (d : Descriptor) (i : ℕ) → IsDescriptor d → i < chunks_of d → 0 < chunk_length d.size d.chunk i
some_bytes d i valid lt =
    let range = chunk_size_range d.chunk valid.chunk_size in
    let begins = chunk_begins d.size d.chunk i (omega arith) lt in
    omega arith

-- the same, seen from before calls that changed nothing that is read
module _ (d : Descriptor) (old mid new : DiskState) (book : LookUp) (known_mid : IsKnown old → IsKnown mid)
    (same : IsKnown old → mid.history.reads ≡ old.history.reads) (later : old.faults ≤ mid.faults) where
  scanned_from : (set : List Bool) → IsScanned d mid book set → IsScanned d old book set
  scanned_from set is = record {
    count = is.count;
    leaf = is.leaf;
    peaks = is.peaks;
    begins = λ known. subst (λ (r : List ℕ). (r ≡ []) ⊎ HasHeader d r) (same known) (is.begins (known_mid known));
    found = λ known i lt. is.found (known_mid known) i lt ∙ ap (λ (r : List ℕ). is_found d r i) (same known);
    known = λ known. subst (λ (r : List ℕ). HasKnown d r book) (same known) (is.known (known_mid known));
  }

  pub found_from : (unread : Type 0) (result : Result (List Bool) ScanFault) → HasFound ⊥ d mid new book result → HasFound unread d old new book result
  found_from unread (Ok set) is = scanned_from set is
  found_from unread (Err (NotAStore at found want)) is = record {
    within = is.within;
    differ = is.differ;
    wanted = is.wanted;
    some = λ known. subst (λ (r : List ℕ). 0 < length r) (same known) (is.some (known_mid known));
    first = λ known. let one = is.first (known_mid known) in record {
      within = one.within;
      found_is = one.found_is ∙ ap (λ (r : List ℕ). get_or r at 0) (same known);
      want_is = one.want_is;
      differ = one.differ;
      first = λ k lt. ap (λ (r : List ℕ). get_or r k 0) (sym (same known)) ∙ one.first k lt;
    };
  }
  found_from unread (Err Disk) risen = λ below. let r : mid.faults < new.faults = risen below in omega arith
  found_from unread (Err Memory) none = absurd none

  pub only_from : (IsKnown mid → HasOnlyKnown d mid.history.reads book) → IsKnown old → HasOnlyKnown d old.history.reads book
  only_from only known = subst (λ (r : List ℕ). HasOnlyKnown d r book) (same known) (only (known_mid known))

pub found_weaker : (unread : Type 0) (d : Descriptor) (old new : DiskState) (book : LookUp) (result : Result (List Bool) ScanFault)
    → HasFound ⊥ d old new book result → HasFound unread d old new book result
found_weaker unread d old new book (Ok set) found = found
found_weaker unread d old new book (Err (NotAStore at found' want)) found = found
found_weaker unread d old new book (Err Disk) found = found
found_weaker unread d old new book (Err Memory) none = absurd none

pub found_after : (d : Descriptor) (old mid new : DiskState) (book : LookUp) (result : Result (List Bool) ScanFault) → KeepsAll old mid
    → HasFound ⊥ d mid new book result → HasFound ⊥ d old new book result
found_after d old mid new book result keeps found =
    found_from d old mid new book (known_after old mid keeps) (λ known. ap (λ (h : History). h.reads) keeps.same) keeps.faults ⊥ result found

pub only_after : (d : Descriptor) (old mid : DiskState) (book : LookUp) → KeepsAll old mid
    → (IsKnown mid → HasOnlyKnown d mid.history.reads book) → IsKnown old → HasOnlyKnown d old.history.reads book
only_after d old mid book keeps only known = subst (λ (h : History). HasOnlyKnown d h.reads book) keeps.same (only (known_after old mid keeps known))

-- a sync, and then what follows
module _ {E : Type 0} (d : Descriptor) (old mid new : DiskState) (book : LookUp) (u : Unit {0}) (syncs : DoesSync {E = E} old (Ok u) mid) where
  known_synced : IsKnown old → IsKnown mid
  known_synced = known_on old mid syncs.call.tells syncs.call.honest

  reads_synced : IsKnown old → mid.history.reads ≡ old.history.reads
  reads_synced known = ap (λ (h : History). h.reads) (syncs.done known)

  pub found_synced : (unread : Type 0) (result : Result (List Bool) ScanFault) → HasFound ⊥ d mid new book result → HasFound unread d old new book result
  found_synced unread result found = found_from d old mid new book known_synced reads_synced syncs.call.cause.later unread result found

  pub only_synced : (IsKnown mid → HasOnlyKnown d mid.history.reads book) → IsKnown old → HasOnlyKnown d old.history.reads book
  only_synced only = only_from d old mid new book known_synced reads_synced syncs.call.cause.later only

  pub history_synced : KeepsAll mid new → IsKnown old → new.history ≡ synced old.history
  history_synced keeps known = keeps.same ∙ syncs.done known

  pub looks_synced : KeepsAll mid new → OnlySyncs old new
  looks_synced keeps = record {
    tells = keeps.tells ∙ syncs.call.tells;
    honest = keeps.honest ∙ syncs.call.honest;
    later = let same = ap (λ (h : History). length h.past) keeps.same in omega (arith, syncs.call.later, same);
    either = λ known. inr (history_synced keeps known);
    faults = omega (arith, keeps.faults, syncs.call.cause.later);
    hard = omega (arith, keeps.hard, syncs.hard_cause.later);
  }

-- an empty file
pub found_empty : (d : Descriptor) (disk : DiskState) (book : LookUp) (set : List Bool) → IsDescriptor d → HasRootAlone d book → set ≡ replicate (chunks_of d) false
    → (IsKnown disk → disk.history.reads ≡ []) → IsScanned d disk book set
found_empty d disk book set valid alone none empty =
    let out : (i : ℕ) → get_or set i false ≡ false = λ i. ap (λ (s : List Bool). get_or s i false) none ∙ none_in (chunks_of d) i in
    record {
      count = ap (λ (s : List Bool). length s) none ∙ length-replicate (chunks_of d) false;
      leaf = λ i is. absurd (false≢true (sym (out i) ∙ is));
      peaks = λ i is. absurd (false≢true (sym (out i) ∙ is));
      begins = λ known. inl (empty known);
      found = λ known i lt. out i ∙ sym (ap (λ (r : List ℕ). is_found d r i) (empty known) ∙ empty_none d i);
      known = λ known. subst (λ (r : List ℕ). HasKnown d r book) (sym (empty known)) (empty_known d book alone);
    }

-- a file that begins with the header, once the open gates of chunks that aren't known are taken out of the set
pub found_kept : (d : Descriptor) (disk : DiskState) (book : LookUp) (set set' : List Bool) → length set ≡ chunks_of d → length set' ≡ length set
    → (IsKnown disk → HasHeader d disk.history.reads) → (IsKnown disk → HasKnown d disk.history.reads book)
    → (IsKnown disk → (i : ℕ) → ShowsGate d disk.history.reads book set i)
    → ((i : ℕ) → get_or set' i false ≡ (get_or set i false && has_peaks book (chunks_of d) && is_some (book 0 i)))
    → IsScanned d disk book set'
found_kept d disk book set set' room count begins known_is gates kept = record {
  count = count ∙ room;
  leaf = λ i is. (parts i is).1;
  peaks = λ i is. (and_parts (get_or set i false) (has_peaks book (chunks_of d)) (parts i is).0).1;
  begins = λ known. inr (begins known);
  found = λ known i lt. kept i ∙ found_is d disk.history.reads book i (get_or set i false) (known_is known) (λ some. gates known i lt some);
  known = known_is;
}
  where
    parts : (i : ℕ) → get_or set' i false ≡ true
        → ((get_or set i false && has_peaks book (chunks_of d)) ≡ true) × (is_some (book 0 i) ≡ true)
    parts i is = and_parts (get_or set i false && has_peaks book (chunks_of d)) (is_some (book 0 i)) (sym (kept i) ∙ is)

-- the gates under the root and the last one are all
pub gates_all : (d : Descriptor) (reads : List ℕ) (book : LookUp) (set set' : List Bool) → chunks_of d ≤ 2 ^ height_of d
    → ShowsGates d reads (height_of d) 0 book set
    → ((s : ℕ) → (suc s ≡ 2 ^ height_of d → ⊥) → get_or set' s false ≡ get_or set s false)
    → ((s : ℕ) → suc s ≡ 2 ^ height_of d → ShowsGate d reads book set' s)
    → (s : ℕ) → ShowsGate d reads book set' s
gates_all d reads book set set' fits under others last s inside some = ⊎_elim
    (λ slot. others s (λ end. let to = slot.to in omega (arith, to, end)) ∙ under s slot inside some)
    (λ end. last s end inside some)
    (slot_or_last d s fits inside)

-- ---- what hashing finds

-- a file in which some peak isn't known
pub verified_none : (d : Descriptor) (disk : DiskState) (book : LookUp) (set set' : List Bool) → length set ≡ chunks_of d → length set' ≡ length set
    → has_peaks book (chunks_of d) ≡ false → (IsKnown disk → HasKnown d disk.history.reads book)
    → ((i : ℕ) → get_or set' i false ≡ (get_or set i false && has_peaks book (chunks_of d) && is_some (book 0 i)))
    → IsVerified d disk book set'
verified_none d disk book set set' room count lacks known_is kept =
    let out : (i : ℕ) → get_or set' i false ≡ false = λ i. kept i ∙ ap (λ (b : Bool). get_or set i false && b && is_some (book 0 i)) lacks
    ∙ ap (λ (b : Bool). b && is_some (book 0 i)) (and_right (get_or set i false) false refl) in
    record {
      count = count ∙ room;
      leaf = λ i is. absurd (false≢true (sym (out i) ∙ is));
      peaks = λ i is. absurd (false≢true (sym (out i) ∙ is));
      held = λ known i lt. out i ∙ sym (none_held d disk.history.reads book i (known_is known) lacks);
      known = known_is;
    }

-- and one in which all are
pub verified_held : (d : Descriptor) (disk : DiskState) (book : LookUp) (set set' : List Bool) → length set ≡ chunks_of d → length set' ≡ length set
    → has_peaks book (chunks_of d) ≡ true → (IsKnown disk → HasKnown d disk.history.reads book)
    → ((i : ℕ) → get_or set' i false ≡ true → is_some (book 0 i) ≡ true)
    → (IsKnown disk → (i : ℕ) → i < chunks_of d → get_or set' i false ≡ is_there d disk.history.reads book i)
    → IsVerified d disk book set'
verified_held d disk book set set' room count all known_is leaf held = record {
  count = count ∙ room;
  leaf = leaf;
  peaks = λ i is. all;
  held = λ known i lt. held known i lt ∙ held_there d disk.history.reads book i (known_is known) all;
  known = known_is;
}

-- the same, seen from before calls that changed nothing that is read
pub verified_after : (unread : Type 0) (d : Descriptor) (old mid new : DiskState) (book : LookUp) (result : Result (List Bool) ScanFault) → KeepsAll old mid
    → HasVerified ⊥ d mid new book result → HasVerified unread d old new book result
verified_after unread d old mid new book (Ok set) keeps is = record {
  count = is.count;
  leaf = is.leaf;
  peaks = is.peaks;
  held = λ known i lt. is.held (known_after old mid keeps known) i lt ∙ ap (λ (h : History). holds d h.reads i) keeps.same;
  known = λ known. subst (λ (h : History). HasKnown d h.reads book) keeps.same (is.known (known_after old mid keeps known));
}
verified_after unread d old mid new book (Err (NotAStore at found want)) keeps none = absurd none
verified_after unread d old mid new book (Err Disk) keeps risen = λ below. let r : mid.faults < new.faults = risen below in omega (arith, keeps.faults)
verified_after unread d old mid new book (Err Memory) keeps none = absurd none

pub not_false : (b : Bool) → not b ≡ true → b ≡ false
not_false b e = elim b as (λ v. not v ≡ true → v ≡ false) [ true ↦ λ h. absurd cc | false ↦ λ h. refl ] e
