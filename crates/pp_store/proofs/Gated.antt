-- Writes that keep images sound.
use Rattle.std.proofs.lemmas.Bool.{cases_lt, false≢true}
use Rattle.std.proofs.Common.{◌≡◌, ◌⊎◌, inl, inr, ⊎_elim, ℕ, ◌^◌, ◌<◌, ◌≤◌, ◌==◌, Bool, true, false, List, [], length, get_or, sym, ◌∙◌, ap, subst, arith}
use Rattle.pp_terms.specs.format.Descriptor.{Descriptor, chunks_of, height_of, IsDescriptor}
use Rattle.pp_terms.specs.disk.Store.{slot_size, gate_place, file_size, AreApart, HasHeader}
use Rattle.pp_terms.specs.disk.Image.{holds, is_open}
use Rattle.pp_terms.specs.tree.Book.{LookUp}
use Rattle.pp_terms.specs.disk.Disk.{DiskState, History, IsKnown, IsOver, Throughout, moment_of}
use Rattle.pp_terms.proofs.Images.{since_now}
use Rattle.pp_terms.proofs.Founds.{held_found}
use Rattle.pp_scan.specs.Scan.{IsScanned}
use Rattle.pp_scan.proofs.Reading.{no_bytes}
use Rattle.pp_terms.specs.disk.Sound.{IsSound}
use Rattle.pp_store.specs.Sound.{IsGated}
use Rattle.pp_store.specs.Store.{HoldsIn, IsOpened}
use Rattle.pp_store.proofs.Opening.{has_header, only_image, made_reads, made_image, made_begins, made_long, made_closed}
use Rattle.pp_store.proofs.Pieces.{slot_order}
use Rattle.pp_store.proofs.Surviving.{IsClear, some_chunks, covers_all, holds_over}

pub gated_sound : (d : Descriptor) (member : ℕ → Bool) (image : List ℕ) → IsGated d member image → IsSound d image
gated_sound d member image gated = record { long = λ begins. gated.long; held = λ begins. gated.held }

pub gated_more : (d : Descriptor) (member more : ℕ → Bool) (image : List ℕ) → ((i : ℕ) → member i ≡ true → more i ≡ true) → IsGated d member image → IsGated d more image
gated_more d member more image all gated = record {
  begins = gated.begins;
  long = gated.long;
  gates = λ i lt is. all i (gated.gates i lt is);
  held = gated.held;
}

-- a gate stands inside the file
pub gate_low : (d : Descriptor) (i : ℕ) → IsDescriptor d → i < chunks_of d → gate_place d.chunk i < file_size d
gate_low d i valid lt =
    let covers = covers_all d valid in
    let le = slot_order (slot_size d.chunk) i (2 ^ height_of d) (omega (arith, lt, covers)) in omega (arith, le)

-- the file has more than its header
pub file_long : (d : Descriptor) → IsDescriptor d → 0 < chunks_of d → 64 < file_size d
file_long d valid some = let low = gate_low d 0 valid some in omega (arith, low)

module _ (d : Descriptor) (member : ℕ → Bool) (place size : ℕ) (under image : List ℕ) (valid : IsDescriptor d) (behind : 64 ≤ place) (over : IsOver place size under image)
    (gated : IsGated d member under) where
  pub begins_over : 0 < chunks_of d → HasHeader d image
  begins_over some k lt =
      let long = file_long d valid some in
      over.outside k (omega (arith, gated.long, long)) (λ w. omega (arith, w.0)) ∙ gated.begins k lt

  -- the gate has the byte that it had
  pub open_under : (i : ℕ) → i < chunks_of d → AreApart (gate_place d.chunk i) 1 place size → is_open d image i ≡ true → is_open d under i ≡ true
  open_under i lt apart is =
      let low = gate_low d i valid lt in
      let same = over.outside (gate_place d.chunk i) (omega (arith, low, gated.long)) (λ w. ⊎_elim (λ before. omega (arith, w.0)) (λ after. omega (arith, w.1)) apart) in
      ap (λ (b : ℕ). b == 0x4f) (sym same) ∙ is

  -- and what was held behind it is
  pub held_over : (i : ℕ) → i < chunks_of d → IsClear d i place size → holds d under i ≡ true → holds d image i ≡ true
  held_over i lt clear is =
      let long = file_long d valid (omega (arith, lt)) in
      let stands : HoldsIn d under i = record { begins = has_header d under valid gated.begins (omega (arith, gated.long, long)); within = lt; held = sym (sym is) } in
      sym (sym (holds_over d i place size under image valid clear over stands).held)

  -- a write that is apart from all gates, and from what each member needs
  pub gated_over : 0 < chunks_of d → ((i : ℕ) → AreApart (gate_place d.chunk i) 1 place size) → ((i : ℕ) → member i ≡ true → IsClear d i place size) → IsGated d member image
  gated_over some apart clear = record {
    begins = begins_over some;
    long = omega (arith, gated.long, over.no_shorter);
    gates = λ i lt is. gated.gates i lt (open_under i lt (apart i) is);
    held = λ i lt is.
        let before = open_under i lt (apart i) is in
        held_over i lt (clear i (gated.gates i lt before)) (gated.held i lt before);
  }

-- ---- what is opened

-- an image whose sound bytes were scanned
scanned_gated : (d : Descriptor) (disk : DiskState) (book : LookUp) (set : List Bool) → IsScanned d disk book set → IsKnown disk → 0 < length disk.history.reads
    → IsSound d disk.history.reads → IsGated d (λ i. get_or set i false) disk.history.reads
scanned_gated d disk book set scanned known some sound = by (scanned.begins known)
  where
    by : (disk.history.reads ≡ []) ⊎ HasHeader d disk.history.reads → IsGated d (λ i. get_or set i false) disk.history.reads
    by (inl empty) = absurd (let none : length disk.history.reads ≡ 0 = ap (λ (r : List ℕ). length r) empty in omega arith)
    by (inr begins) = record {
      begins = begins;
      long = sound.long begins;
      gates = λ i lt is. scanned.found known i lt ∙ held_found d disk.history.reads i is (sound.held begins i lt is);
      held = sound.held begins;
    }

-- and a file that was made
made_gated : (d : Descriptor) (old : History) (member : ℕ → Bool) → IsDescriptor d → old.reads ≡ [] → IsGated d member (made_reads d old)
made_gated d old member valid empty = record {
  begins = made_begins d old valid;
  long = made_long d old valid empty (file_long d valid (some_chunks d valid).0);
  gates = λ i lt is. absurd (false≢true (sym (made_closed d old valid empty i) ∙ is));
  held = λ i lt is. absurd (false≢true (sym (made_closed d old valid empty i) ∙ is));
}

pub opened_gated : (d : Descriptor) (disk : DiskState) (new : History) (book : LookUp) (set : List Bool) → IsDescriptor d → IsScanned d disk book set → IsKnown disk
    → IsOpened d disk.history new → IsSound d disk.history.reads → Throughout new (moment_of new) (IsGated d (λ i. get_or set i false))
opened_gated d disk new book set valid scanned known opened sound image since = ⊎_elim
    (λ some. subst (IsGated d (λ i. get_or set i false)) (sym (only_image new disk.history image (opened.scanned some) since)) (scanned_gated d disk book set scanned known some sound))
    (λ none.
    let empty : disk.history.reads ≡ [] = no_bytes disk.history.reads (omega arith) in
    subst (IsGated d (λ i. get_or set i false)) (sym (made_image d disk.history new image (opened.fresh empty) (since_now new image since)))
    (made_gated d disk.history (λ i. get_or set i false) valid empty))
    (cases_lt 0 (length disk.history.reads))
