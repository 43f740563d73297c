-- What goes on holding of every image while a file is cleared, written behind its front, and given its header.
use Rattle.std.proofs.Common.{◌≡◌, inl, inr, ℕ, ◌+◌, ◌<◌, ◌≤◌, List, [], ◌∷◌, length, get_or, drop, replicate, refl, sym, ◌∙◌, ap, subst, arith}
use Rattle.sha2.proofs.Facts256.{length-sha256}
use Rattle.pp_terms.specs.tree.Content.{chunk_of}
use Rattle.pp_terms.specs.tree.Tree.{leaf_of, height}
use Rattle.pp_terms.specs.format.Descriptor.{Descriptor, IsDescriptor}
use Rattle.pp_terms.specs.disk.Store.{header, Has, HasHeader, IsStoreOf}
use Rattle.pp_terms.specs.disk.Sound.{IsSound}
use Rattle.pp_terms.specs.disk.Disk.{Epoch, History, IsImage, WasImage, Throughout, moment_of, written, pends, after_write, settled}
use Rattle.pp_terms.proofs.Nodes.{length-node}
use Rattle.pp_terms.proofs.Images.{length-written, written_inside, sole_image, since_now, moment-settled, throughout_settled}
use Rattle.pp_scan.specs.Look.{synced}
use Rattle.pp_store.specs.Behind.{IsBehind}
use Rattle.pp_store.specs.Front.{Leaves, unsynced, front_refused, front_unsynced, front_kept}
use Rattle.pp_store.specs.Growing.{IsContent, IsWhole, chunks_in}
use Rattle.pp_store.specs.Imported.{imported}
use Rattle.pp_store.specs.Sound.{StaysSound}
use Rattle.pp_store.specs.Store.{cleared}
use Rattle.pp_store.proofs.Freshening.{written_all, refused_all, kept_all, sound_zero, front_sound}
use Rattle.pp_store.proofs.Gated.{file_long}
use Rattle.pp_store.proofs.Opening.{has_header}
use Rattle.pp_store.proofs.Rereading.{stands}
use Rattle.pp_store.proofs.Sealing.{store_is, image_is}
use Rattle.pp_store.proofs.Surviving.{some_chunks}

-- ---- what goes on holding of every image since any moment

abbrev pub Stays : (List ℕ → Type 0) → History → History → Type 0
Stays P old new = (moment : ℕ) → moment ≤ moment_of old → Throughout old moment P → Throughout new moment P

pub stays_more : (P : List ℕ → Type 0) (old mid new : History) → moment_of old ≤ moment_of mid → Stays P old mid → Stays P mid new → Stays P old new
stays_more P old mid new later one two moment le all = two moment (omega (arith, le, later)) (one moment le all)

pub sync_stays : (P : List ℕ → Type 0) (old : History) → P old.reads → Stays P old (synced old)
sync_stays P old here moment le all = throughout_settled old moment old.reads P le all here

-- bytes at the front
pub front_stays : (P : List ℕ → Type 0) (bytes : List ℕ) (old : History) → P old.reads
    → ((image : List ℕ) → IsImage (pends (synced old).epoch 0 bytes) image → P image) → P (written old.reads 0 bytes)
    → (new : History) → Leaves bytes old new → Stays P old new
front_stays P bytes old here there done new leaves moment le all = by new leaves
  where
    first : Throughout (synced old) moment P
    first = sync_stays P old here moment le all

    by : (new : History) → Leaves bytes old new → Throughout new moment P
    by _ (unsynced new is) = subst (λ (x : History). Throughout x moment P) (sym is) all
    by _ (front_refused new refused) = refused_all P (synced old) 0 bytes moment there first new refused
    by _ (front_unsynced new is) = subst (λ (x : History). Throughout x moment P) (sym is) (written_all P (synced old) 0 bytes moment there first)
    by _ (front_kept new is) =
        subst (λ (x : History). Throughout x moment P) (sym is)
        (kept_all P (synced old) 0 bytes moment there first (omega (arith, le, moment-settled old old.reads)) done)

-- ---- writes behind a zero byte

-- a zero byte stands first in every image
abbrev pub ZeroStands : History → Type 0
ZeroStands h = Throughout h (moment_of h) (Has 0 (0 ∷ []))

pub settled_zero : (h : History) (bytes : List ℕ) → 0 < length bytes → get_or bytes 0 0 ≡ 0 → ZeroStands (settled h bytes)
settled_zero h bytes some none image since =
    let is = sole_image bytes image (since_now (settled h bytes) image since) in
    subst (Has 0 (0 ∷ [])) (sym is) (record {
      inside = omega (arith, some);
      same = λ k lt. let e : k ≡ 0 = omega arith in
          subst (λ (n : ℕ). get_or bytes (0 + n) 0 ≡ get_or (0 ∷ []) n 0) (sym e) none;
    })

pub behind_stays : (P : List ℕ → Type 0) → ((image : List ℕ) → get_or image 0 0 ≡ 0 → P image) → (old new : History) → ZeroStands old → IsBehind old new
    → Stays P old new
behind_stays P zero_first old new stands behind moment le all image (inl now) =
    zero_first image ((behind.front (moment_of old) 0 (0 ∷ []) (omega arith) stands image (inl now)).same 0 (omega arith))
behind_stays P zero_first old new stands behind moment le all image (inr was) =
    all image (inr (subst (λ (past : List Epoch). WasImage (drop moment past) image) behind.past was))

-- ---- an empty file that was cleared

module _ (d : Descriptor) (valid : IsDescriptor d) (old : History) (empty : old.reads ≡ []) where
  cleared_zero : ZeroStands (cleared old)
  cleared_zero =
      settled_zero (after_write (synced old) 0 (replicate 8 0)) (written old.reads 0 (replicate 8 0))
      (omega (arith, length-written old.reads 0 (replicate 8 0))) (written_inside old.reads 0 (replicate 8 0) 0 (omega arith))

  -- and written behind its front
  pub walking_sound : (walked : History) → IsBehind (cleared old) walked → StaysSound d old walked
  walking_sound walked behind =
      stays_more (IsSound d) old (cleared old) walked
      (omega (arith, moment-settled (after_write (synced old) 0 (replicate 8 0)) (written old.reads 0 (replicate 8 0)), moment-settled old old.reads))
      (front_sound d old valid empty (cleared old) (front_kept (cleared old) refl))
      (behind_stays (IsSound d) (λ image none. sound_zero d image valid none) (cleared old) walked cleared_zero behind)

-- ---- a content's whole store

module _ (chunk : ℕ) (content : List ℕ) (fits : IsContent chunk content) where
  abbrev d : Descriptor
  d = imported content chunk

  valid : IsDescriptor d
  valid = record { chunk_size = fits.chunk_size; content_size = fits.content_size; root_length = root_long }
    where
      root_long : length d.root ≡ 32
      root_long = length-node (leaf_of content chunk) (chunks_in chunk content) (height (chunks_in chunk content)) 0 (λ i. length-sha256 (chunk_of content chunk i))

  pub whole_sound : (image : List ℕ) → IsStoreOf d content image → IsSound d image
  whole_sound image whole = record {
    long = λ begins. omega (arith, whole.size);
    held = λ begins i within opened. sym (sym (stands chunk content image fits whole i within).held);
  }

  -- the file was cleared, or begun to be
  pub clearing_sound : (old : History) → old.reads ≡ [] → (new : History) → Leaves (replicate 8 0) old new → StaysSound d old new
  clearing_sound old empty new leaves = front_sound d old valid empty new leaves

  -- pieces were written, and then the header
  module _ (old : History) (empty : old.reads ≡ []) (walked : History) (behind : IsBehind (cleared old) walked) where
    pub importing_sound : StaysSound d old walked
    importing_sound = walking_sound d valid old empty walked behind

    module _ (whole : IsWhole chunk content walked.reads) where
      there : (image : List ℕ) → IsImage (pends (synced walked).epoch 0 (header d)) image → IsSound d image
      there image is = record { long = λ begins. (by begins).long begins; held = λ begins. (by begins).held begins }
        where
          by : HasHeader d image → IsSound d image
          by begins =
              let large = file_long d valid (some_chunks d valid).0 in
              let has = has_header d image valid begins (omega (arith, is.no_shorter, whole.long, large)) in
              subst (IsSound d) (sym (image_is chunk content walked.reads whole image is has))
              (whole_sound (written walked.reads 0 (header d)) (store_is chunk content walked.reads whole))

      pub finishing_sound : (new : History) → Leaves (header d) walked new → StaysSound d old new
      finishing_sound new leaves =
          stays_more (IsSound d) old walked new later importing_sound
          (front_stays (IsSound d) (header d) walked (sound_zero d walked.reads valid none) there
          (whole_sound (written walked.reads 0 (header d)) (store_is chunk content walked.reads whole)) new leaves)
        where
          none : get_or walked.reads 0 0 ≡ 0
          none = behind.header 0 (omega arith) ∙ written_inside old.reads 0 (replicate 8 0) 0 (omega arith)

          later : moment_of old ≤ moment_of walked
          later = let same : moment_of walked ≡ moment_of (cleared old) = ap (λ (past : List Epoch). length past) behind.past in
              omega (arith, same, moment-settled (after_write (synced old) 0 (replicate 8 0)) (written old.reads 0 (replicate 8 0)), moment-settled old old.reads)
