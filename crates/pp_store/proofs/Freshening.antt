-- While an empty file is made a store each image is sound.
use Rattle.std.proofs.Common.{◌≡◌, inl, inr, ⊎_elim, ℕ, ◌-◌, ◌<◌, ◌≤◌, ◌==◌, false, List, [], ◌∷◌, length, get_or, replicate, Result, Ok, Err, sym, ◌∙◌, ap, subst, arith}
use Rattle.std.proofs.lemmas.Bool.{false≢true}
use Rattle.pp_terms.specs.format.Descriptor.{Descriptor, chunks_of, IsDescriptor}
use Rattle.pp_terms.specs.disk.Store.{header, gate_place, file_size}
use Rattle.pp_terms.specs.disk.Image.{is_open}
use Rattle.pp_terms.specs.disk.Sound.{IsSound}
use Rattle.pp_terms.specs.disk.Disk.{DiskState, History, IsImage, IsKnown, IsRefusedWrite, Throughout, moment_of, written, pends, after_write}
use Rattle.pp_terms.proofs.Headers.{length-header}
use Rattle.pp_terms.proofs.Images.{length-written, written_inside, written_outside, moment-settled, throughout_settled}
use Rattle.pp_scan.specs.Look.{synced}
use Rattle.pp_store.specs.Keep.{kept, DoesKeep}
use Rattle.pp_store.specs.Front.{Leaves, unsynced, front_refused, front_unsynced, front_kept}
use Rattle.pp_store.specs.Sound.{StaysSound}
use Rattle.pp_store.specs.Store.{cleared, made}
use Rattle.pp_store.proofs.Surviving.{some_chunks}
use Rattle.pp_store.proofs.Opening.{cleared_bytes, stretched_bytes, stretched_gate, made_closed, made_long}
use Rattle.pp_store.proofs.Gated.{gate_low, file_long}
use Rattle.pp_store.proofs.Sealing.{no_store, short_no_store}

-- ---- one write, and then a sync, refused or not

module _ (P : List ℕ → Type 0) (h : History) (place : ℕ) (bytes : List ℕ) (moment : ℕ)
    (there : (image : List ℕ) → IsImage (pends h.epoch place bytes) image → P image) (all : Throughout h moment P) where
  pub written_all : Throughout (after_write h place bytes) moment P
  written_all image (inl now) = there image now
  written_all image (inr was) = all image (inr was)

  pub refused_all : (new : History) → IsRefusedWrite h place bytes new → Throughout new moment P
  refused_all new (inl same) = subst (λ (x : History). Throughout x moment P) (sym same) all
  refused_all new (inr torn) = subst (λ (x : History). Throughout x moment P) (sym torn.2) torn_all
    where
      torn_all : Throughout (record h { reads = torn.0; epoch = pends h.epoch place bytes }) moment P
      torn_all image (inl now) = there image now
      torn_all image (inr was) = all image (inr was)

  pub kept_all : moment ≤ moment_of h → P (written h.reads place bytes) → Throughout (kept h place bytes) moment P
  kept_all le done = throughout_settled (after_write h place bytes) moment (written h.reads place bytes) P le written_all done

pub keep_all : {E : Type 0} (P : List ℕ → Type 0) (old new : DiskState) (place : ℕ) (bytes : List ℕ) (moment : ℕ) (result : Result (Unit {0}) E)
    → ((image : List ℕ) → IsImage (pends old.history.epoch place bytes) image → P image) → P (written old.history.reads place bytes)
    → DoesKeep old place bytes result new → IsKnown old → moment ≤ moment_of old.history → Throughout old.history moment P
    → Throughout new.history moment P
keep_all P old new place bytes moment (Ok u) there done does known le all =
    subst (λ (x : History). Throughout x moment P) (sym (does.done known)) (kept_all P old.history place bytes moment there all le done)
keep_all P old new place bytes moment (Err e) there done does known le all = ⊎_elim
    (λ refused. refused_all P old.history place bytes moment there all new.history refused)
    (λ unsynced. subst (λ (x : History). Throughout x moment P) (sym unsynced) (written_all P old.history place bytes moment there all))
    (does.refused known)

-- ---- images without a header, and without an open gate

pub sound_short : (d : Descriptor) (image : List ℕ) → IsDescriptor d → length image ≤ 10 → IsSound d image
sound_short d image valid short = record {
  long = λ begins. absurd (short_no_store image short d valid begins);
  held = λ begins. absurd (short_no_store image short d valid begins);
}

pub sound_zero : (d : Descriptor) (image : List ℕ) → IsDescriptor d → get_or image 0 0 ≡ 0 → IsSound d image
sound_zero d image valid none = record {
  long = λ begins. absurd (no_store image none d valid begins);
  held = λ begins. absurd (no_store image none d valid begins);
}

pub sound_closed : (d : Descriptor) (image : List ℕ) → file_size d ≤ length image
    → ((i : ℕ) → i < chunks_of d → is_open d image i ≡ false) → IsSound d image
sound_closed d image long closed = record {
  long = λ begins. long;
  held = λ begins i lt is. absurd (false≢true (sym (closed i lt) ∙ is));
}

-- ---- the steps

module _ (d : Descriptor) (old : History) (valid : IsDescriptor d) (empty : old.reads ≡ []) where
  nothing : length old.reads ≡ 0
  nothing = ap (λ (r : List ℕ). length r) empty

  -- while eight zero bytes are written at the front
  front_there : (image : List ℕ) → IsImage (pends (synced old).epoch 0 (replicate 8 0)) image → IsSound d image
  front_there image is = sound_short d image valid (omega (arith, is.no_longer, nothing))

  front_done : IsSound d (written (synced old).reads 0 (replicate 8 0))
  front_done = sound_short d (written old.reads 0 (replicate 8 0)) valid (omega (arith, length-written old.reads 0 (replicate 8 0), nothing))

  pub front_sound : (new : History) → Leaves (replicate 8 0) old new → StaysSound d old new
  front_sound new leaves moment le all = by new leaves
    where
      first : Throughout (synced old) moment (IsSound d)
      first = throughout_settled old moment old.reads (IsSound d) le all (sound_short d old.reads valid (omega (arith, nothing)))

      by : (new : History) → Leaves (replicate 8 0) old new → Throughout new moment (IsSound d)
      by _ (unsynced new is) = subst (λ (x : History). Throughout x moment (IsSound d)) (sym is) all
      by _ (front_refused new refused) = refused_all (IsSound d) (synced old) 0 (replicate 8 0) moment front_there first new refused
      by _ (front_unsynced new is) =
          subst (λ (x : History). Throughout x moment (IsSound d)) (sym is) (written_all (IsSound d) (synced old) 0 (replicate 8 0) moment front_there first)
      by _ (front_kept new is) =
          subst (λ (x : History). Throughout x moment (IsSound d)) (sym is)
          (kept_all (IsSound d) (synced old) 0 (replicate 8 0) moment front_there first (omega (arith, le, moment-settled old old.reads)) front_done)

  large : 64 < file_size d
  large = file_long d valid (some_chunks d valid).0

  -- while the file is made as long as the store
  pub stretch_there : (image : List ℕ) → IsImage (pends (cleared old).epoch (file_size d - 1) (0 ∷ [])) image → IsSound d image
  stretch_there image is =
      sound_zero d image valid
      (is.stays 0 (omega (arith, length-written old.reads 0 (replicate 8 0))) (λ p. ⊎_elim (λ w. omega (arith, w.0, large)) (λ none. none) p)
      ∙ written_inside old.reads 0 (replicate 8 0) 0 (omega arith))

  pub stretch_done : IsSound d (written (cleared old).reads (file_size d - 1) (0 ∷ []))
  stretch_done =
      sound_zero d (stretched_bytes d old valid empty) valid
      (written_outside (cleared_bytes d old valid empty) (file_size d - 1) (0 ∷ []) 0 (λ w. omega (arith, w.0, large))
      ∙ written_inside old.reads 0 (replicate 8 0) 0 (omega arith))

  -- and while its header is written
  pub header_there : (image : List ℕ) → IsImage (pends (kept (cleared old) (file_size d - 1) (0 ∷ [])).epoch 0 (header d)) image → IsSound d image
  header_there image is =
      let stretched = length-written (cleared_bytes d old valid empty) (file_size d - 1) (0 ∷ []) in
      let long : file_size d ≤ length image = omega (arith, is.no_shorter, stretched, large) in
      sound_closed d image long (λ i lt.
      let low = gate_low d i valid lt in
      ap (λ (b : ℕ). b == 0x4f)
      (is.stays (gate_place d.chunk i) (omega (arith, low, stretched, large)) (λ p. ⊎_elim (λ w. omega (arith, w.1, length-header d valid.root_length)) (λ none. none) p)
      ∙ stretched_gate d old valid empty i))

  pub header_done : IsSound d (made d old).reads
  header_done = sound_closed d (made d old).reads (made_long d old valid empty large) (λ i lt. made_closed d old valid empty i)

-- the file that was cleared gets its length
pub stretch_sound : {E : Type 0} (d : Descriptor) (begun : History) (old new : DiskState) (result : Result (Unit {0}) E) → IsDescriptor d → begun.reads ≡ []
    → old.history ≡ cleared begun → DoesKeep old (file_size d - 1) (0 ∷ []) result new → IsKnown old → StaysSound d old.history new.history
stretch_sound d begun old new result valid empty at does known moment le all =
    keep_all (IsSound d) old new (file_size d - 1) (0 ∷ []) moment result
    (subst (λ (h : History). (image : List ℕ) → IsImage (pends h.epoch (file_size d - 1) (0 ∷ [])) image → IsSound d image) (sym at) (stretch_there d begun valid empty))
    (subst (λ (h : History). IsSound d (written h.reads (file_size d - 1) (0 ∷ []))) (sym at) (stretch_done d begun valid empty))
    does known le all

-- and its header
pub header_sound : {E : Type 0} (d : Descriptor) (begun : History) (old new : DiskState) (result : Result (Unit {0}) E) → IsDescriptor d → begun.reads ≡ []
    → old.history ≡ kept (cleared begun) (file_size d - 1) (0 ∷ []) → DoesKeep old 0 (header d) result new → IsKnown old → StaysSound d old.history new.history
header_sound d begun old new result valid empty at does known moment le all =
    keep_all (IsSound d) old new 0 (header d) moment result
    (subst (λ (h : History). (image : List ℕ) → IsImage (pends h.epoch 0 (header d)) image → IsSound d image) (sym at) (header_there d begun valid empty))
    (subst (λ (h : History). IsSound d (written h.reads 0 (header d))) (sym at) (header_done d begun valid empty))
    does known le all

pub sound_more : (d : Descriptor) (old mid new : History) → moment_of old ≤ moment_of mid → StaysSound d old mid → StaysSound d mid new → StaysSound d old new
sound_more d old mid new later one two moment le all = two moment (omega (arith, le, later)) (one moment le all)
