-- A store is opened, and its chunks are read.
use Rattle.std.proofs.Common.{◌≡◌, ◌⊎◌, inl, inr, ⊎_elim, ℕ, ◌+◌, ◌-◌, ◌<◌, ◌≤◌, ◌==◌, nat_eq, Bool, true, false, Option, Some, List, [], ◌∷◌, ◌++◌, length, get_or, take, drop, replicate, Result, Ok, Err, IfOk, IfErr, refl, sym, ◌∙◌, ap, subst, arith}
use Rattle.std.specs.Prelude.{◌&&◌}
use Rattle.std.specs.Cmp.Lexicographic.{pointwise, same_text, other_text}
use Rattle.std.proofs.lemmas.Bool.{cases_lt, cases_eq, false≢true, eqb-true}
use Rattle.std.proofs.lemmas.List.{length-take, length-drop, take_at, get_or_past}
use Rattle.sha2.specs.Sha256.{sha256}
use Rattle.pp_terms.specs.Count.{HasRisen}
use Rattle.pp_terms.specs.tree.Content.{chunk_length}
use Rattle.pp_terms.specs.tree.Book.{LookUp, has_peaks}
use Rattle.pp_terms.specs.format.Descriptor.{Descriptor, chunks_of, IsDescriptor}
use Rattle.pp_terms.specs.disk.Store.{header, chunk_place, gate_place, file_size, Has, HasHeader}
use Rattle.pp_terms.specs.disk.Image.{slice, known, matches, holds, is_open, StandsIn}
use Rattle.pp_terms.specs.disk.Disk.{DiskState, History, IsImage, IsKnown, IsRead, DoesLen, MayLeave, MayLeaveSince, Throughout, moment_of, written}
use Rattle.pp_terms.proofs.Headers.{length-header}
use Rattle.pp_terms.proofs.Images.{length-written, written_inside, written_outside, sole_image, since_now, since_settled, throughout_settled}
use Rattle.pp_terms.proofs.Facts.{member_below}
use Rattle.pp_terms.proofs.Founds.{found_parts}
use Rattle.pp_terms.specs.disk.Sound.{IsSound}
use Rattle.pp_tree.specs.Book.{HasRootAlone}
use Rattle.pp_scan.specs.declared.scanning.ScanFault.{ScanFault}
use Rattle.pp_scan.specs.declared.scanning.ScanFault.TheVariants.{Disk}
use Rattle.pp_scan.specs.Look.{SyncsAtMost, synced}
use Rattle.pp_scan.specs.Holding.{is_there}
use Rattle.pp_scan.specs.Scan.{IsScanned, HasFound}
use Rattle.pp_scan.proofs.Reading.{no_bytes, read_slice}
use Rattle.pp_scan.proofs.Finding.{found_empty, some_bytes}
use Rattle.pp_store.specs.Keep.{kept}
use Rattle.pp_store.specs.Store.{made, IsOpened, AllStand, GoesOn}
use Rattle.pp_store.specs.Sound.{StaysSound}
use Rattle.pp_store.specs.ReadChunk.{IsRightChunk, IsDamaged}

-- an empty file
pub fresh_found : {E : Type 0} (d : Descriptor) (old mid new : DiskState) (book : LookUp) (n : ℕ) (set : List Bool) (result : Result (List Bool) ScanFault)
    → DoesLen {E = E} old (Ok n) mid → n ≡ 0 → IsDescriptor d → HasRootAlone d book → set ≡ replicate (chunks_of d) false
    → IfOk result (λ s. s ≡ set) → IfErr result (λ f. (f ≡ Disk) × HasRisen mid.faults new.faults) → HasFound ⊥ d old new book result
fresh_found d old mid new book n set (Ok s) counts none valid alone is_none same fault =
    found_empty d old book s valid alone (same ∙ is_none) (λ known. no_bytes old.history.reads (sym (counts.counted known) ∙ none))
fresh_found d old mid new book n set (Err f) counts none valid alone is_none same fault =
    subst (λ (x : ScanFault). HasFound ⊥ d old new book (Err x)) (sym fault.0)
    (λ below. let r : mid.faults < new.faults = fault.1 below in omega (arith, counts.call.cause.later))

-- of both tests of a pair of them
pub and_left : (a b : Bool) → (a && b) ≡ true → a ≡ true
and_left a b e = elim a as (λ v. (v && b) ≡ true → v ≡ true) [ true ↦ λ h. refl | false ↦ λ h. h ] e

pub and_right : (a b : Bool) → (a && b) ≡ true → b ≡ true
and_right a b e = elim a as (λ v. (v && b) ≡ true → b ≡ true) [ true ↦ λ h. h | false ↦ λ h. absurd (false≢true h) ] e

-- a chunk that is held lies inside the file
inside : (d : Descriptor) (reads : List ℕ) (i : ℕ) → 0 < chunk_length d.size d.chunk i
    → length (slice reads (chunk_place d.chunk i) (chunk_length d.size d.chunk i)) ≡ chunk_length d.size d.chunk i
    → chunk_place d.chunk i + chunk_length d.size d.chunk i ≤ length reads
inside d reads i some long =
    omega (arith, length-take (chunk_length d.size d.chunk i) (drop (chunk_place d.chunk i) reads), length-drop (chunk_place d.chunk i) reads)

held_inside : (d : Descriptor) (reads : List ℕ) (i : ℕ) → 0 < chunk_length d.size d.chunk i → holds d reads i ≡ true → 64 < length reads
held_inside d reads i some is =
    let bytes = slice reads (chunk_place d.chunk i) (chunk_length d.size d.chunk i) in
    let both : (has_peaks (known d reads) (chunks_of d) && (length bytes == chunk_length d.size d.chunk i)) ≡ true = and_left _ (matches (known d reads 0 i) (sha256 bytes)) is in
    let test : (length bytes == chunk_length d.size d.chunk i) ≡ true = and_right (has_peaks (known d reads) (chunks_of d)) _ both in
    let le = inside d reads i some (eqb-true _ _ test) in omega arith

pub has_header : (d : Descriptor) (reads : List ℕ) → IsDescriptor d → HasHeader d reads → 64 ≤ length reads → Has 0 (header d) reads
has_header d reads valid begins long =
    let size = length-header d valid.root_length in
    record {
      inside = omega (arith, size);
      same = λ k lt. let at : 0 + k ≡ k = omega arith in ap (λ (n : ℕ). get_or reads n 0) at ∙ begins k (omega (arith, size));
    }

-- the one image after a sync
pub only_image : (h old : History) (image : List ℕ) → h ≡ synced old → MayLeaveSince h (moment_of h) image → image ≡ old.reads
only_image h old image is since =
    sole_image old.reads image (since_now (synced old) image (subst (λ (x : History). MayLeaveSince x (moment_of x) image) is since))

-- what a file that was made reads, and that this is the one image
abbrev pub made_reads : Descriptor → History → List ℕ
made_reads d old = (made d old).reads

pub made_image : (d : Descriptor) (old new : History) (image : List ℕ) → new ≡ made d old → MayLeave new image → image ≡ made_reads d old
made_image d old new image is may = sole_image (made_reads d old) image (subst (λ (h : History). MayLeave h image) is may)

pub made_begins : (d : Descriptor) (old : History) → IsDescriptor d → HasHeader d (made_reads d old)
made_begins d old valid k lt =
    let before = (kept (kept (synced old) 0 (replicate 8 0)) (file_size d - 1) (0 ∷ [])).reads in
    let at : 0 + k ≡ k = omega arith in
    let lt' : k < length (header d) = omega (arith, length-header d valid.root_length) in
    ap (λ (n : ℕ). get_or (written before 0 (header d)) n 0) (sym at) ∙ written_inside before 0 (header d) k lt'

-- where a gate is open the file isn't empty
pub some_file : (d : Descriptor) (reads : List ℕ) (i : ℕ) → is_open d reads i ≡ true → 0 < length reads
some_file d reads i opened = ⊎_elim
    (λ some. some)
    (λ none. absurd (false≢true (sym (ap (λ (r : List ℕ). is_open d r i) (no_bytes reads (omega arith))) ∙ opened)))
    (cases_lt 0 (length reads))

module _ (d : Descriptor) (old new : DiskState) (book : LookUp) (set : List Bool) (valid : IsDescriptor d) (scanned : IsScanned d old book set)
    (known : IsKnown old) (opened : IsOpened d old.history new.history) where
  pub opened_begins : Throughout new.history (moment_of new.history) (HasHeader d)
  opened_begins image since = ⊎_elim
      (λ some. ⊎_elim
      (λ empty. absurd (let none : length old.history.reads ≡ 0 = ap (λ (r : List ℕ). length r) empty in omega arith))
      (λ begins. subst (HasHeader d) (sym (only_image new.history old.history image (opened.scanned some) since)) begins)
      (scanned.begins known))
      (λ none.
      let empty : old.history.reads ≡ [] = no_bytes old.history.reads (omega arith) in
      let image_is = made_image d old.history new.history image (opened.fresh empty) (since_now new.history image since) in
      λ k lt. ap (λ (x : List ℕ). get_or x k 0) image_is ∙ made_begins d old.history valid k lt)
      (cases_lt 0 (length old.history.reads))

  pub opened_stands : IsSound d old.history.reads → AllStand d set new.history
  opened_stands sound i is image since =
      let within : i < chunks_of d = omega (arith, member_below set i is, scanned.count) in
      let parts = found_parts d old.history.reads i (sym (scanned.found known i within) ∙ is) in
      let bytes = some_bytes d i valid within in
      let some : 0 < length old.history.reads = some_file d old.history.reads i parts.0 in
      let image_is = only_image new.history old.history image (opened.scanned some) since in
      ⊎_elim
      (λ empty. absurd (let none : length old.history.reads ≡ 0 = ap (λ (r : List ℕ). length r) empty in omega arith))
      (λ begins.
      let held = sound.held begins i within parts.0 in
      let long = held_inside d old.history.reads i bytes held in
      subst (λ (x : List ℕ). StandsIn d x i) (sym image_is) (record {
        begins = has_header d old.history.reads valid begins (omega arith);
        within = within;
        opened = sym (sym parts.0);
        held = sym (sym held);
      }))
      (scanned.begins known)

-- the buffer's front, as it was read
front : (into rest : List ℕ) (size : ℕ) → length into ≡ size → take size (into ++ rest) ≡ into
front into rest size long = take_at into rest size long

pub right_chunk : (d : Descriptor) (i : ℕ) (book : LookUp) (disk : DiskState) (into rest digest : List ℕ) (place size : ℕ) → length into ≡ size
    → size ≡ chunk_length d.size d.chunk i → place ≡ chunk_place d.chunk i → book 0 i ≡ Some digest
    → true ≡ pointwise nat_eq digest (sha256 into) → (IsKnown disk → IsRead disk.history.reads place into)
    → IsRightChunk d i book disk (into ++ rest) size
right_chunk d i book disk into rest digest place size long size_is place_is entry test read = record {
  count_is = size_is;
  leaf_is = entry ∙ ap (λ (x : List ℕ). Some x) (same_text digest (sha256 into) test ∙ ap (λ (x : List ℕ). sha256 x) (sym (front into rest size long)));
  read = λ known. subst (λ (x : List ℕ). IsRead disk.history.reads (chunk_place d.chunk i) x) (sym (front into rest size long))
      (subst (λ (p : ℕ). IsRead disk.history.reads p into) place_is (read known));
}

pub damaged_chunk : (d : Descriptor) (i : ℕ) (book : LookUp) (disk : DiskState) (into rest digest found : List ℕ) (place size : ℕ) → length into ≡ size
    → size ≡ chunk_length d.size d.chunk i → place ≡ chunk_place d.chunk i → book 0 i ≡ Some digest → found ≡ sha256 into
    → false ≡ pointwise nat_eq digest (sha256 into) → (IsKnown disk → IsRead disk.history.reads place into)
    → IsDamaged d i book disk (into ++ rest) found digest
damaged_chunk d i book disk into rest digest found place size long size_is place_is entry found_is test read =
    let at : take (chunk_length d.size d.chunk i) (into ++ rest) ≡ into = front into rest (chunk_length d.size d.chunk i) (long ∙ size_is) in
    record {
      kept_is = entry;
      found_is = found_is ∙ ap (λ (x : List ℕ). sha256 x) (sym at);
      differ = λ e. other_text digest (sha256 into) test (sym e ∙ found_is);
      read = λ known. subst (λ (x : List ℕ). IsRead disk.history.reads (chunk_place d.chunk i) x) (sym at)
          (subst (λ (p : ℕ). IsRead disk.history.reads p into) place_is (read known));
    }

-- a chunk that is there is read with its digest
pub there_sound : (d : Descriptor) (i : ℕ) (book : LookUp) (reads into digest : List ℕ) (place size : ℕ) → 0 < size → length into ≡ size
    → size ≡ chunk_length d.size d.chunk i → place ≡ chunk_place d.chunk i → book 0 i ≡ Some digest → IsRead reads place into
    → is_there d reads book i ≡ true → false ≡ pointwise nat_eq digest (sha256 into) → ⊥
there_sound d i book reads into digest place size some long size_is place_is entry read there test =
    let bytes = slice reads (chunk_place d.chunk i) (chunk_length d.size d.chunk i) in
    let whole : length bytes ≡ chunk_length d.size d.chunk i = eqb-true _ _ (and_left (length bytes == chunk_length d.size d.chunk i) _ there) in
    let le = inside d reads i (omega arith) whole in
    let is : into ≡ bytes = read_slice reads place into read (omega arith) ∙ (λ j. slice reads (place_is j) ((long ∙ size_is) j)) in
    let good : matches (book 0 i) (sha256 bytes) ≡ true = and_right (length bytes == chunk_length d.size d.chunk i) _ there in
    let good' : pointwise nat_eq digest (sha256 into) ≡ true = ap (λ (x : List ℕ). pointwise nat_eq digest (sha256 x)) is ∙ ap (λ (o : Option (List ℕ)). matches o (sha256 bytes)) (sym entry) ∙ good in
    false≢true (test ∙ good')

-- ---- what stands in every image goes on standing

pub goes_on_same : (d : Descriptor) (old new : History) → new ≡ old → GoesOn d old new
goes_on_same d old new same i all = subst (λ (h : History). Throughout h (moment_of old) (λ image. StandsIn d image i)) (sym same) all

pub goes_on_synced : (d : Descriptor) (old mid new : History) → IsImage old.epoch old.reads → mid ≡ old → (new ≡ mid) ⊎ (new ≡ synced mid) → GoesOn d old new
goes_on_synced d old mid new whole unmoved (inl same) = goes_on_same d old new (same ∙ unmoved)
goes_on_synced d old mid new whole unmoved (inr is) = λ i all image since.
    ⊎_elim
    (λ before. all image before)
    (λ read. subst (λ (x : List ℕ). StandsIn d x i) (sym read) (all old.reads (inl whole)))
    (since_settled old (moment_of old) old.reads image (omega arith) (subst (λ (h : History). MayLeaveSince h (moment_of old) image) (is ∙ ap synced unmoved) since))

pub sound_same : (d : Descriptor) (old new : History) → new ≡ old → StaysSound d old new
sound_same d old new same moment le all = subst (λ (h : History). Throughout h moment (IsSound d)) (sym same) all

pub sound_synced : (d : Descriptor) (old mid new : History) → IsImage old.epoch old.reads → mid ≡ old → (new ≡ mid) ⊎ (new ≡ synced mid) → StaysSound d old new
sound_synced d old mid new whole unmoved (inl same) = sound_same d old new (same ∙ unmoved)
sound_synced d old mid new whole unmoved (inr is) = λ moment le all.
    subst (λ (h : History). Throughout h moment (IsSound d)) (sym (is ∙ ap synced unmoved))
    (throughout_settled old moment old.reads (IsSound d) le all (all old.reads (inl whole)))

-- at most one sync, seen from before calls that changed nothing
pub syncs_after : (old mid new : History) → mid ≡ old → SyncsAtMost mid new → SyncsAtMost old new
syncs_after old mid new unmoved syncs = subst (λ (h : History). SyncsAtMost h new) unmoved syncs

-- of an empty file nothing stands
pub goes_on_empty : (d : Descriptor) (old new : DiskState) (n : ℕ) {E : Type 0} (mid : DiskState) → IsDescriptor d → IsImage old.history.epoch old.history.reads
    → DoesLen {E = E} old (Ok n) mid → n ≡ 0 → IsKnown old → GoesOn d old.history new.history
goes_on_empty d old new n mid valid whole counts none known i all =
    let stood = all old.history.reads (inl whole) in
    absurd (let long = stood.begins.inside in omega (arith, long, length-header d valid.root_length, counts.counted known))

-- ---- soundness

-- the file that was made is as long as the store, and none of its gates is open
module _ (d : Descriptor) (old : History) (valid : IsDescriptor d) (empty : old.reads ≡ []) where
  abbrev pub cleared_bytes : List ℕ
  cleared_bytes = written old.reads 0 (replicate 8 0)

  abbrev pub stretched_bytes : List ℕ
  stretched_bytes = written cleared_bytes (file_size d - 1) (0 ∷ [])

  none : length old.reads ≡ 0
  none = ap (λ (r : List ℕ). length r) empty

  pub made_long : 64 < file_size d → file_size d ≤ length (made_reads d old)
  made_long large = omega (arith, length-written stretched_bytes 0 (header d), length-written cleared_bytes (file_size d - 1) (0 ∷ []), large)

  pub stretched_gate : (i : ℕ) → get_or stretched_bytes (gate_place d.chunk i) 0 ≡ 0
  stretched_gate i = ⊎_elim
      (λ last. let at : file_size d - 1 + 0 ≡ gate_place d.chunk i = omega (arith, last) in
      ap (λ (n : ℕ). get_or stretched_bytes n 0) (sym at) ∙ written_inside cleared_bytes (file_size d - 1) (0 ∷ []) 0 (omega arith))
      (λ other. written_outside cleared_bytes (file_size d - 1) (0 ∷ []) (gate_place d.chunk i) (λ w. other (omega (arith, w.0, w.1)))
      ∙ get_or_past cleared_bytes (gate_place d.chunk i) 0 (omega (arith, length-written old.reads 0 (replicate 8 0), none)))
      (cases_eq (gate_place d.chunk i) (file_size d - 1))

  pub made_closed : (i : ℕ) → is_open d (made_reads d old) i ≡ false
  made_closed i =
      let zero_there : get_or (made_reads d old) (gate_place d.chunk i) 0 ≡ 0 =
      written_outside stretched_bytes 0 (header d) (gate_place d.chunk i) (λ w. omega (arith, w.1, length-header d valid.root_length)) ∙ stretched_gate i in
      ap (λ (b : ℕ). b == 0x4f) zero_there
