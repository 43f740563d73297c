-- Chunks one behind the other.
use Rattle.std.proofs.Common.{◌≡◌, ⊎_elim, ℕ, zero, suc, ◌+◌, ◌-◌, ◌*◌, ◌<◌, ◌≤◌, true, List, [], ◌++◌, length, take, drop, sym, ◌∙◌, ap, subst, arith, length-append, length-drop}
use Rattle.std.proofs.lemmas.Bool.{cases_lt}
use Rattle.std.proofs.lemmas.List.{take_all, length-take, append-nil, take-append-le, drop-append-le}
use Rattle.std.proofs.Math.Seq.{drop-append-add}
use Rattle.pp_terms.specs.tree.Content.{chunk_of, chunk_length}
use Rattle.pp_terms.specs.format.Descriptor.{Descriptor, IsDescriptor, chunks_of}
use Rattle.pp_terms.specs.disk.Disk.{DiskState, History, IsRead}
use Rattle.pp_terms.specs.disk.Store.{chunk_place}
use Rattle.pp_tree.specs.Book.{entry}
use Rattle.pp_tree.proofs.Sizes.{chunk_size_range, chunk_begins}
use Rattle.pp_scan.specs.Look.{KeepsAll}
use Rattle.pp_scan.proofs.Reading.{known_after, no_bytes}
use Rattle.pp_store.specs.ReadChunk.{IsRightChunk, IsDamaged}
use Rattle.pp_store.specs.Store.{is_held, AgreesWith}
use Rattle.pp_store.proofs.RunSteps.{damaged_absent}
use Rattle.pp_holding.specs.Holding.{HoldingState, AreTied}
use Rattle.pp_stream.specs.Chunks.{IsChunk, AreNext, IsDamagedChunk}

pub some_bytes : (d : Descriptor) → IsDescriptor d → 0 < d.chunk
some_bytes d valid = let range = chunk_size_range d.chunk valid.chunk_size in omega (arith, range.0)

-- ---- chunks in a text

-- bytes behind whole chunks change none of them
chunk_kept : (bytes piece : List ℕ) (chunk n i : ℕ) → length bytes ≡ n * chunk → i < n → chunk_of (bytes ++ piece) chunk i ≡ chunk_of bytes chunk i
chunk_kept bytes piece chunk n i size lt =
    let below : (i + 1) * chunk ≤ n * chunk = grind arith in
    let inside : i * chunk ≤ length bytes = omega (arith, size) in
    let room : chunk ≤ length (drop (i * chunk) bytes) = omega (arith, size, length-drop (i * chunk) bytes) in
    ap (λ (b : List ℕ). take chunk b) (drop-append-le (i * chunk) bytes piece inside) ∙ take-append-le chunk (drop (i * chunk) bytes) piece room

-- and are the next chunks
chunk_next : (bytes piece : List ℕ) (chunk n k : ℕ) → length bytes ≡ n * chunk → chunk_of (bytes ++ piece) chunk (n + k) ≡ chunk_of piece chunk k
chunk_next bytes piece chunk n k size =
    let place : length bytes + k * chunk ≡ (n + k) * chunk = omega (arith, size) in
    ap (λ (p : ℕ). take chunk (drop p (bytes ++ piece))) (sym place) ∙ ap (λ (b : List ℕ). take chunk b) (drop-append-add bytes piece (k * chunk))

-- what holds of each
pub next_map : (d : Descriptor) (Old New : ℕ → List ℕ → Type 0) → ((i : ℕ) (bytes : List ℕ) → Old i bytes → New i bytes)
    → (first count : ℕ) (bytes : List ℕ) → AreNext d Old first count bytes → AreNext d New first count bytes
next_map d Old New step first count bytes are = record {
  within = are.within;
  size = are.size;
  each = λ k lt. step (first + k) (chunk_of bytes d.chunk k) (are.each k lt);
}

module _ (d : Descriptor) (So : ℕ → List ℕ → Type 0) (first : ℕ) where
  pub next_none : first ≤ chunks_of d → AreNext d So first 0 []
  next_none le = record { within = omega (arith, le); size = omega arith; each = λ k lt. absurd (omega arith) }

  -- chunks with another one behind them are whole
  pub next_whole : (count : ℕ) (bytes : List ℕ) → IsDescriptor d → first + count < chunks_of d → AreNext d So first count bytes → length bytes ≡ count * d.chunk
  next_whole count bytes valid lt are =
      let begins : (first + count) * d.chunk < d.size = chunk_begins d.size d.chunk (first + count) (some_bytes d valid) lt in
      let split : (first + count) * d.chunk ≡ first * d.chunk + count * d.chunk = omega arith in
      omega (arith, are.size, begins, split)

  pub next_one : (piece : List ℕ) → first < chunks_of d → length piece ≡ chunk_length d.size d.chunk first → So first piece → AreNext d So first 1 piece
  next_one piece within size is = record {
    within = omega (arith, within);
    size = size ∙ omega arith;
    each = λ k lt.
        let none : k ≡ 0 = omega arith in
        let here : first ≡ first + k = omega (arith, none) in
        let start : k * d.chunk ≡ 0 = ap (λ (n : ℕ). n * d.chunk) none ∙ omega arith in
        let same : piece ≡ chunk_of piece d.chunk k = sym (ap (λ (n : ℕ). take d.chunk (drop n piece)) start ∙ take_all d.chunk piece (omega (arith, size))) in
        subst (So (first + k)) same (subst (λ (i : ℕ). So i piece) here is);
  }

  pub next_some : (count more : ℕ) (bytes piece : List ℕ) → IsDescriptor d → 0 < more → AreNext d So first count bytes → AreNext d So (first + count) more piece
      → AreNext d So first (count + more) (bytes ++ piece)
  next_some count more bytes piece valid some are next =
      let within : first + count < chunks_of d = omega (arith, some, next.within) in
      let size = next_whole count bytes valid within are in
      let begins : (first + count) * d.chunk < d.size = chunk_begins d.size d.chunk (first + count) (some_bytes d valid) within in
      let split : (first + count) * d.chunk ≡ first * d.chunk + count * d.chunk = omega arith in
      let all : (count + more) * d.chunk ≡ count * d.chunk + more * d.chunk = omega arith in
      record {
        within = omega (arith, next.within);
        size = length-append bytes piece ∙ omega (arith, size, next.size, begins, split, all);
        each = λ k lt. ⊎_elim
            (λ low. subst (So (first + k)) (sym (chunk_kept bytes piece d.chunk count k size low)) (are.each k low))
            (λ high.
            let at : count + (k - count) ≡ k = omega arith in
            let number : first + count + (k - count) ≡ first + k = omega (arith, at) in
            subst (λ (n : ℕ). So (first + k) (chunk_of (bytes ++ piece) d.chunk n)) at
            (subst (So (first + k)) (sym (chunk_next bytes piece d.chunk count (k - count) size))
            (subst (λ (i : ℕ). So i (chunk_of piece d.chunk (k - count))) number (next.each (k - count) (omega arith)))))
            (cases_lt k count);
      }

  -- some chunks and those behind them
  pub next_more : (count more : ℕ) (bytes piece : List ℕ) → IsDescriptor d → AreNext d So first count bytes → AreNext d So (first + count) more piece
      → AreNext d So first (count + more) (bytes ++ piece)
  next_more count zero bytes piece valid are next =
      let none : piece ≡ [] = no_bytes piece (next.size ∙ omega arith) in
      let same : bytes ≡ bytes ++ piece = sym (ap (λ (b : List ℕ). bytes ++ b) none ∙ append-nil bytes) in
      let as_many : count ≡ count + 0 = omega arith in
      subst (λ (n : ℕ). AreNext d So first n (bytes ++ piece)) as_many (subst (AreNext d So first count) same are)
  next_more count (suc more) bytes piece valid are next = next_some count (suc more) bytes piece valid (omega arith) are next

-- ---- chunks of a peer

-- as seen from before calls that only read
module _ (s : HoldingState) (old new : DiskState) (keeps : KeepsAll old new) where
  reads_same : new.history.reads ≡ old.history.reads
  reads_same = ap (λ (h : History). h.reads) keeps.same

  pub chunk_before : (i : ℕ) (bytes : List ℕ) → IsChunk s new i bytes → IsChunk s old i bytes
  chunk_before i bytes is = record {
    backed = is.backed;
    read = λ k. subst (λ (r : List ℕ). IsRead r (chunk_place s.store.descriptor.chunk i) bytes) reads_same (is.read (known_after old new keeps k));
  }

  pub damaged_before : (i : ℕ) (found kept : List ℕ) → IsDamagedChunk s new i found kept → IsDamagedChunk s old i found kept
  damaged_before i found kept is = record {
    bytes = is.bytes;
    size = is.size;
    found_is = is.found_is;
    kept_is = is.kept_is;
    differ = is.differ;
    read = λ k. subst (λ (r : List ℕ). IsRead r (chunk_place s.store.descriptor.chunk i) is.bytes) reads_same (is.read (known_after old new keeps k));
    never = λ k agrees. is.never (known_after old new keeps k) (subst (AgreesWith s.store (entry s.book)) (sym reads_same) agrees);
  }

-- what was read into a buffer
module _ (s : HoldingState) (disk : DiskState) (i : ℕ) (out : List ℕ) (tied : AreTied s) (valid : IsDescriptor s.store.descriptor) (within : i < chunks_of s.store.descriptor)
    (room : chunk_length s.store.descriptor.size s.store.descriptor.chunk i ≤ length out) where
  pub chunk_read : (count : ℕ) → IsRightChunk s.store.descriptor i (entry s.book) disk out count → IsChunk s disk i (take count out)
  chunk_read count is = record {
    backed = record {
      rooted = tied.book_is.rooted;
      within = within;
      whole = length-take count out ∙ omega (arith, is.count_is, room);
      leaf = is.leaf_is;
    };
    read = is.read;
  }

  pub chunk_damaged : (found kept : List ℕ) → is_held s.store i ≡ true → IsDamaged s.store.descriptor i (entry s.book) disk out found kept → IsDamagedChunk s disk i found kept
  chunk_damaged found kept held is =
      let begins : i * s.store.descriptor.chunk < s.store.descriptor.size =
      chunk_begins s.store.descriptor.size s.store.descriptor.chunk i (some_bytes s.store.descriptor valid) within in
      let some : 0 < chunk_length s.store.descriptor.size s.store.descriptor.chunk i = omega (arith, begins, some_bytes s.store.descriptor valid) in
      record {
        bytes = take (chunk_length s.store.descriptor.size s.store.descriptor.chunk i) out;
        size = length-take (chunk_length s.store.descriptor.size s.store.descriptor.chunk i) out ∙ omega (arith, room);
        found_is = is.found_is;
        kept_is = is.kept_is;
        differ = is.differ;
        read = is.read;
        never = λ k agrees. damaged_absent s.store.descriptor i (entry s.book) disk out found kept is k some room (agrees.chunks i held);
      }
