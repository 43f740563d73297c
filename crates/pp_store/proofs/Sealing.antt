-- What a crash may leave during an import.
use Rattle.std.proofs.Common.{◌≡◌, inl, inr, ⊎_elim, ℕ, zero, suc, ◌+◌, ◌<◌, ◌≤◌, List, [], ◌∷◌, length, get_or, drop, replicate, refl, sym, ◌∙◌, ap, subst, arith}
use Rattle.std.proofs.lemmas.Grind.{same_number_lists}
use Rattle.std.proofs.lemmas.Bool.{cases_lt}
use Rattle.std.proofs.lemmas.List.{get_or_past}
use Rattle.std.specs.Int.{w32, to_be_bytes}
use Rattle.pp_terms.specs.tree.Content.{IsChunkSize}
use Rattle.pp_terms.specs.format.Descriptor.{Descriptor}
use Rattle.pp_terms.specs.disk.Store.{header, Has, IsStoreOf, IsNoStore, IsPiece, the_header, a_chunk, a_pair, a_gate}
use Rattle.pp_terms.specs.disk.Disk.{Epoch, History, IsImage, WasImage, IsRefusedWrite, MayLeaveSince, Throughout, moment_of, written, pends, after_write}
use Rattle.pp_terms.proofs.Images.{length-written, written_outside, written_inside, sole_image, since_now, moment-settled, throughout_settled}
use Rattle.pp_terms.proofs.Headers.{header-first}
use Rattle.pp_tree.proofs.Sizes.{size_of_chunk_size}
use Rattle.pp_store.specs.Keep.{kept, SameAttachment}
use Rattle.pp_store.specs.Store.{cleared}
use Rattle.pp_store.specs.Behind.{IsBehind}
use Rattle.pp_store.specs.Imported.{imported}
use Rattle.pp_store.specs.Growing.{IsBuilt, IsWhole}
use Rattle.pp_scan.specs.Look.{synced}
use Rattle.pp_store.specs.Front.{Leaves, unsynced, front_refused, front_unsynced, front_kept}
use Rattle.pp_store.proofs.Pieces.{piece_kept, staged_more, has_written, header_size, count_range}

-- a file that begins with another byte than a header, and one whose chunk size would be nothing
pub no_store : (reads : List ℕ) → get_or reads 0 0 ≡ 0 → IsNoStore reads
no_store reads none d valid same = let p : 0 ≡ 80 = sym none ∙ same 0 (omega arith) ∙ header-first d in absurd (omega (arith, p))

pub empty_no_store : (reads : List ℕ) → reads ≡ [] → IsNoStore reads
empty_no_store reads empty = subst IsNoStore (sym empty) (no_store [] refl)

size_at : (d : Descriptor) → get_or (header d) 10 0 ≡ get_or (to_be_bytes w32 d.chunk) 2 0
unfolding header
size_at d = refl

size_byte : (d : Descriptor) → IsChunkSize d.chunk → get_or (header d) 10 0 ≡ 0 → ⊥
size_byte d size = ⊎_elim (λ e. at 256 e (λ z. cc)) (λ r. ⊎_elim (λ e. at 512 e (λ z. cc)) (λ r. ⊎_elim (λ e. at 1024 e (λ z. cc))
    (λ r. ⊎_elim (λ e. at 2048 e (λ z. cc)) (λ r. ⊎_elim (λ e. at 4096 e (λ z. cc)) (λ e. at 8192 e (λ z. cc)) r) r) r) r) (size_of_chunk_size d.chunk size)
  where
    at : (n : ℕ) → d.chunk ≡ n → (get_or (to_be_bytes w32 n) 2 0 ≡ 0 → ⊥) → get_or (header d) 10 0 ≡ 0 → ⊥
    at n is differ none = differ (ap (λ (c : ℕ). get_or (to_be_bytes w32 c) 2 0) (sym is) ∙ sym (size_at d) ∙ none)

pub short_no_store : (reads : List ℕ) → length reads ≤ 10 → IsNoStore reads
short_no_store reads short d valid same =
    size_byte d valid.chunk_size (sym (same 10 (omega arith)) ∙ get_or_past reads 10 0 short)

weaker : (epoch : Epoch) (place : ℕ) (bytes image : List ℕ) → IsImage epoch image → IsImage (pends epoch place bytes) image
weaker epoch place bytes image is = record {
  no_shorter = is.no_shorter;
  no_longer = omega (arith, is.no_longer);
  stays = λ k lt none. is.stays k lt (λ p. none (inr p));
}

same_moment : (old new : History) (place : ℕ) (bytes : List ℕ) → IsRefusedWrite old place bytes new → moment_of new ≡ moment_of old
same_moment old new place bytes (inl same) = ap moment_of same
same_moment old new place bytes (inr torn) = ap moment_of torn.2

-- the same attachment, step by step
along : (old next new : History) → new ≡ next → SameAttachment old next → SameAttachment old new
along old next new is same = subst (SameAttachment old) (sym is) same

refused_along : (old mid new : History) (place : ℕ) (bytes : List ℕ) → SameAttachment old mid → IsRefusedWrite mid place bytes new → SameAttachment old new
refused_along old mid new place bytes same (inl is) = along old mid new is same
refused_along old mid new place bytes same (inr torn) = along old _ new torn.2 (record { start = same.start; first = same.first; found = same.found; names = same.names })

pub attachment_left : (bytes : List ℕ) (old walked new : History) → SameAttachment old walked → Leaves bytes walked new → SameAttachment old new
attachment_left bytes old walked _ same (unsynced new is) = along old walked new is same
attachment_left bytes old walked _ same (front_refused new refused) =
    refused_along old (synced walked) new 0 bytes (record { start = same.start; first = same.first; found = same.found; names = same.names }) refused
attachment_left bytes old walked _ same (front_unsynced new is) = along old (after_write (synced walked) 0 bytes) new is (record { start = same.start; first = same.first; found = same.found; names = same.names })
attachment_left bytes old walked _ same (front_kept new is) = along old (kept (synced walked) 0 bytes) new is (record { start = same.start; first = same.first; found = same.found; names = same.names })

module _ (chunk : ℕ) (content : List ℕ) (reads : List ℕ) (whole : IsWhole chunk content reads) where
  abbrev built : IsBuilt chunk content reads
  built = whole.built

  abbrev d : Descriptor
  d = imported content chunk

  size : length (header d) ≡ 64
  size = header_size chunk content

  -- the file is longer than the header
  long : 64 ≤ length reads
  long = let has = (built.chunks 0 (count_range chunk content built.fits).0).there in omega (arith, has.inside)

  -- with the header it is the whole store
  pub store_is : IsStoreOf d content (written reads 0 (header d))
  store_is =
      let staged = staged_more chunk content built.fits reads 0 (header d) the_header built.staged in
      record {
        pieces = each;
        zeros = staged.zeros;
        size = omega (arith, length-written reads 0 (header d), long, size, whole.long);
      }
    where
      each : (place : ℕ) (bytes : List ℕ) → IsPiece d content place bytes → Has place bytes (written reads 0 (header d))
      each place bytes the_header = has_written reads 0 (header d)
      each place bytes (a_chunk i lt) = piece_kept chunk content built.fits reads _ _ 0 (header d) (a_chunk i lt) the_header (built.chunks i lt).there
      each place bytes (a_gate i lt) = piece_kept chunk content built.fits reads _ _ 0 (header d) (a_gate i lt) the_header (built.chunks i lt).gate
      each place bytes (a_pair k j low lt) = piece_kept chunk content built.fits reads _ _ 0 (header d) (a_pair k j low lt) the_header (built.pairs k j low lt)

  -- An image that a crash may leave while the header is written, and that has the header, is the whole store.
  pub image_is : (image : List ℕ) → IsImage (pends (record { durable = reads; pending = [] }) 0 (header d)) image
      → Has 0 (header d) image → image ≡ written reads 0 (header d)
  image_is image is has =
      same_number_lists image (written reads 0 (header d)) (omega (arith, length-written reads 0 (header d), long, size, is.no_shorter, is.no_longer)) (λ k lt. byte k lt)
    where
      byte : (k : ℕ) → k < length image → get_or image k 0 ≡ get_or (written reads 0 (header d)) k 0
      byte k lt = ⊎_elim
          (λ low. let at : 0 + k ≡ k = omega arith in let k' : k < length (header d) = omega (arith, size) in
          ap (λ (n : ℕ). get_or image n 0) (sym at) ∙ has.same k k' ∙ sym (written_inside reads 0 (header d) k k') ∙ ap (λ (n : ℕ). get_or (written reads 0 (header d)) n 0) at)
          (λ from. is.stays k (omega (arith, lt, is.no_longer, long, size)) (λ p. ⊎_elim (λ w. omega (arith, w.1, size)) (λ none. none) p)
          ∙ sym (written_outside reads 0 (header d) k (λ w. omega (arith, w.1, size))))
          (cases_lt k 64)

-- ---- the images of an import

-- since another moment
pub since_later : (h : History) (one two : ℕ) (image : List ℕ) → one ≤ two → MayLeaveSince h two image → MayLeaveSince h one image
since_later h one two image le (inl now) = inl now
since_later h one two image le (inr was) = inr (was_later h.past one two le was)
  where
    was_later : (past : List Epoch) (a b : ℕ) → a ≤ b → WasImage (drop b past) image → WasImage (drop a past) image
    was_later past zero zero low w = w
    was_later [] zero (suc b) low w = w
    was_later (e ∷ past) zero (suc b) low w = inr (was_later past zero b (omega arith) w)
    was_later past (suc a) zero low w = absurd (omega arith)
    was_later [] (suc a) (suc b) low w = w
    was_later (e ∷ past) (suc a) (suc b) low w = was_later past a b (omega arith) w

pub throughout_later : (h : History) (one two : ℕ) (P : List ℕ → Type 0) → one ≤ two → Throughout h one P → Throughout h two P
throughout_later h one two P le all image since = all image (since_later h one two image le since)

-- of the images since the first sync all that is wanted is said of short ones, and of those that begin with a zero byte
module _ (P : List ℕ → Type 0) (short : (image : List ℕ) → length image ≤ 10 → P image) (zero_first : (image : List ℕ) → get_or image 0 0 ≡ 0 → P image)
    (old : History) (empty : old.reads ≡ []) where
  abbrev first : ℕ
  first = suc (moment_of old)

  synced-moment : moment_of (synced old) ≡ first
  synced-moment = moment-settled old old.reads

  cleared_first : get_or (written old.reads 0 (replicate 8 0)) 0 0 ≡ 0
  cleared_first = written_inside old.reads 0 (replicate 8 0) 0 (omega arith)

  -- while the file is cleared
  pending_short : (h : History) → moment_of h ≡ first → ((image : List ℕ) → IsImage h.epoch image → IsImage (pends (synced old).epoch 0 (replicate 8 0)) image)
      → Throughout h first P
  pending_short h at weak image since =
      let is = weak image (since_now h image (subst (λ (m : ℕ). MayLeaveSince h m image) (sym at) since)) in
      let none : length old.reads ≡ 0 = ap (λ (r : List ℕ). length r) empty in
      short image (omega (arith, is.no_longer, none))

  synced_short : Throughout (synced old) first P
  synced_short = pending_short (synced old) synced-moment (λ image is. weaker (synced old).epoch 0 (replicate 8 0) image is)

  pub clearing : (new : History) → Leaves (replicate 8 0) old new → (m : ℕ) → moment_of old < m → m ≤ moment_of new → Throughout new m P
  clearing _ (unsynced new is) m after le = let same : moment_of new ≡ moment_of old = ap moment_of is in absurd (omega (arith, after, le, same))
  clearing _ (front_refused new (inl same)) m after le =
      throughout_later new first m P after (subst (λ (h : History). Throughout h first P) (sym same) synced_short)
  clearing _ (front_refused new (inr torn)) m after le =
      throughout_later new first m P after (pending_short new (ap moment_of torn.2 ∙ synced-moment) (λ image is. subst (λ (h : History). IsImage h.epoch image) torn.2 is))
  clearing _ (front_unsynced new is) m after le =
      throughout_later new first m P after (pending_short new (ap moment_of is ∙ synced-moment) (λ image im. subst (λ (h : History). IsImage h.epoch image) is im))
  clearing _ (front_kept new is) m after le = throughout_later new first m P after (subst (λ (h : History). Throughout h first P) (sym is) done)
    where
      done : Throughout (cleared old) first P
      done = throughout_settled (after_write (synced old) 0 (replicate 8 0)) first (written old.reads 0 (replicate 8 0)) P
          (omega (arith, synced-moment))
          (pending_short (after_write (synced old) 0 (replicate 8 0)) synced-moment (λ image is. is))
          (zero_first (written old.reads 0 (replicate 8 0)) cleared_first)

  cleared_short : Throughout (cleared old) first P
  cleared_short = clearing (cleared old) (front_kept (cleared old) refl) first (omega arith)
      (omega (arith, moment-settled (after_write (synced old) 0 (replicate 8 0)) (written old.reads 0 (replicate 8 0)), synced-moment))

  -- a zero byte stands first from then on
  zero_stands : Throughout (cleared old) (moment_of (cleared old)) (Has 0 (0 ∷ []))
  zero_stands image since =
      let is = sole_image (written old.reads 0 (replicate 8 0)) image (since_now (cleared old) image since) in
      subst (Has 0 (0 ∷ [])) (sym is) (record {
        inside = omega (arith, length-written old.reads 0 (replicate 8 0));
        same = λ k lt. let e : k ≡ 0 = omega arith in
            subst (λ (n : ℕ). get_or (written old.reads 0 (replicate 8 0)) (0 + n) 0 ≡ get_or (0 ∷ []) n 0) (sym e) cleared_first;
      })

  -- pieces were written behind it
  module _ (walked : History) (behind : IsBehind (cleared old) walked) where
    cleared-moment : moment_of (cleared old) ≡ suc first
    cleared-moment = moment-settled (after_write (synced old) 0 (replicate 8 0)) (written old.reads 0 (replicate 8 0)) ∙ ap suc synced-moment

    walked-moment : moment_of walked ≡ suc first
    walked-moment = ap (λ past. length past) behind.past ∙ cleared-moment

    pub walked_first : get_or walked.reads 0 0 ≡ 0
    walked_first = behind.header 0 (omega arith) ∙ cleared_first

    walked_now : (image : List ℕ) → IsImage walked.epoch image → P image
    walked_now image is =
        let has = behind.front (moment_of (cleared old)) 0 (0 ∷ []) (omega arith) zero_stands image (inl is) in
        zero_first image (has.same 0 (omega arith))

    pub walked_all : Throughout walked first P
    walked_all image (inl now) = walked_now image now
    walked_all image (inr was) = cleared_short image (inr (subst (λ past. WasImage (drop first past) image) behind.past was))

    -- and then the header
    module _ (bytes : List ℕ) (there : (image : List ℕ) → IsImage (pends (synced walked).epoch 0 bytes) image → P image) (done : P (written walked.reads 0 bytes)) where
      synced_all : Throughout (synced walked) first P
      synced_all = throughout_settled walked first walked.reads P (omega (arith, walked-moment)) walked_all (zero_first walked.reads walked_first)

      headed : (h : History) → h.past ≡ (synced walked).past → ((image : List ℕ) → IsImage h.epoch image → IsImage (pends (synced walked).epoch 0 bytes) image) → Throughout h first P
      headed h same weak image (inl now) = there image (weak image now)
      headed h same weak image (inr was) = synced_all image (inr (subst (λ past. WasImage (drop first past) image) same was))

      sealing : (new : History) → Leaves bytes walked new → Throughout new first P
      sealing _ (unsynced new is) = subst (λ (h : History). Throughout h first P) (sym is) walked_all
      sealing _ (front_refused new (inl same)) = subst (λ (h : History). Throughout h first P) (sym same) synced_all
      sealing _ (front_refused new (inr torn)) = headed new (ap (λ (h : History). h.past) torn.2) (λ image is. subst (λ (h : History). IsImage h.epoch image) torn.2 is)
      sealing _ (front_unsynced new is) = headed new (ap (λ (h : History). h.past) is) (λ image im. subst (λ (h : History). IsImage h.epoch image) is im)
      sealing _ (front_kept new is) = subst (λ (h : History). Throughout h first P) (sym is)
          (throughout_settled (after_write (synced walked) 0 bytes) first (written walked.reads 0 bytes) P
          (omega (arith, moment-settled walked walked.reads, walked-moment))
          (headed (after_write (synced walked) 0 bytes) refl (λ image im. im)) done)

      pub sealed_since : (new : History) → Leaves bytes walked new → (m : ℕ) → moment_of old < m → Throughout new m P
      sealed_since new leaves m after = throughout_later new first m P after (sealing new leaves)

  pub walked_since : (walked : History) → IsBehind (cleared old) walked → (m : ℕ) → moment_of old < m → Throughout walked m P
  walked_since walked behind m after = throughout_later walked first m P after (walked_all walked behind)

-- An image that begins with the content's header is its whole store.
abbrev IsRight : ℕ → List ℕ → List ℕ → Type 0
IsRight chunk content image = Has 0 (header (imported content chunk)) image → IsStoreOf (imported content chunk) content image

module _ (chunk : ℕ) (content : List ℕ) where
  right_short : (image : List ℕ) → length image ≤ 10 → IsRight chunk content image
  right_short image short has = absurd (let inside = has.inside in omega (arith, header_size chunk content))

  right_zero : (image : List ℕ) → get_or image 0 0 ≡ 0 → IsRight chunk content image
  right_zero image none has = absurd (let p : 0 ≡ 80 = sym none ∙ has.same 0 (omega (arith, header_size chunk content)) ∙ header-first (imported content chunk) in omega (arith, p))

-- Since the first sync an image that begins with the header is the whole store: while the file is cleared, while pieces are
-- written behind the zeros, and while the header is written.
module _ (chunk : ℕ) (content : List ℕ) (old : History) (empty : old.reads ≡ []) where
  pub clearing_right : (new : History) → Leaves (replicate 8 0) old new → (m : ℕ) → moment_of old < m → m ≤ moment_of new → Throughout new m (IsRight chunk content)
  clearing_right = clearing (IsRight chunk content) (right_short chunk content) (right_zero chunk content) old empty

  pub walking_right : (walked : History) → IsBehind (cleared old) walked → (m : ℕ) → moment_of old < m → Throughout walked m (IsRight chunk content)
  walking_right = walked_since (IsRight chunk content) (right_short chunk content) (right_zero chunk content) old empty

  pub sealing_right : (walked : History) → IsBehind (cleared old) walked → IsWhole chunk content walked.reads
      → (new : History) → Leaves (header (imported content chunk)) walked new → (m : ℕ) → moment_of old < m → Throughout new m (IsRight chunk content)
  sealing_right walked behind whole = sealed_since (IsRight chunk content) (right_short chunk content) (right_zero chunk content) old empty walked behind (header (imported content chunk))
      (λ image is has. subst (IsStoreOf (imported content chunk) content) (sym (image_is chunk content walked.reads whole image is has)) (store_is chunk content walked.reads whole))
      (λ has. store_is chunk content walked.reads whole)

-- No store was begun while there was no header.
pub walking_none : (old walked : History) → old.reads ≡ [] → IsBehind (cleared old) walked → (m : ℕ) → moment_of old < m → Throughout walked m IsNoStore
walking_none old walked empty = walked_since IsNoStore short_no_store no_store old empty walked

pub walking_reads : (old walked : History) → old.reads ≡ [] → IsBehind (cleared old) walked → IsNoStore walked.reads
walking_reads old walked empty behind = no_store walked.reads (walked_first IsNoStore short_no_store no_store old empty walked behind)

-- Nothing was synced.
pub unsynced_none : (old new : History) → old.reads ≡ [] → Leaves (replicate 8 0) old new → moment_of new ≡ moment_of old → IsNoStore new.reads
unsynced_none old _ empty (unsynced new is) same = subst (λ (h : History). IsNoStore h.reads) (sym is) (empty_no_store old.reads empty)
unsynced_none old _ empty (front_refused new refused) same = absurd (omega (arith, same_moment (synced old) new 0 (replicate 8 0) refused, moment-settled old old.reads, same))
unsynced_none old _ empty (front_unsynced new is) same = let at : moment_of new ≡ moment_of (synced old) = ap moment_of is in absurd (omega (arith, at, moment-settled old old.reads, same))
unsynced_none old _ empty (front_kept new is) same =
    let at : moment_of new ≡ moment_of (cleared old) = ap moment_of is in
    absurd (omega (arith, at, moment-settled (after_write (synced old) 0 (replicate 8 0)) (written old.reads 0 (replicate 8 0)), moment-settled old old.reads, same))

pub cleared-moment-of : (old : History) → moment_of (cleared old) ≡ suc (suc (moment_of old))
cleared-moment-of old = moment-settled (after_write (synced old) 0 (replicate 8 0)) (written old.reads 0 (replicate 8 0)) ∙ ap suc (moment-settled old old.reads)

pub leaves-moment : (bytes : List ℕ) (old new : History) → Leaves bytes old new → moment_of old ≤ moment_of new
leaves-moment bytes old _ (unsynced new is) = let at = ap moment_of is in omega (arith, at)
leaves-moment bytes old _ (front_refused new refused) = omega (arith, same_moment (synced old) new 0 bytes refused, moment-settled old old.reads)
leaves-moment bytes old _ (front_unsynced new is) = let at : moment_of new ≡ moment_of (synced old) = ap moment_of is in omega (arith, at, moment-settled old old.reads)
leaves-moment bytes old _ (front_kept new is) =
    let at : moment_of new ≡ moment_of (kept (synced old) 0 bytes) = ap moment_of is in
    omega (arith, at, moment-settled (after_write (synced old) 0 bytes) (written old.reads 0 bytes), moment-settled old old.reads)

-- all is done
pub stored : (chunk : ℕ) (content : List ℕ) (walked new : History) → IsWhole chunk content walked.reads → new ≡ kept (synced walked) 0 (header (imported content chunk))
    → Throughout new (moment_of new) (IsStoreOf (imported content chunk) content)
stored chunk content walked new whole is = subst (λ (h : History). Throughout h (moment_of h) (IsStoreOf (imported content chunk) content)) (sym is)
    (λ image since. subst (IsStoreOf (imported content chunk) content)
    (sym (sole_image (written walked.reads 0 (header (imported content chunk))) image (since_now (kept (synced walked) 0 (header (imported content chunk))) image since)))
    (store_is chunk content walked.reads whole))
