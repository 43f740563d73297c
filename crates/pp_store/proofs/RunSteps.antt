-- Chunks that are read one behind the other into a buffer, and judged there.
use Rattle.std.proofs.Common.{◌≡◌, ⊎_elim, ℕ, ◌+◌, ◌-◌, ◌*◌, ◌<◌, ◌≤◌, nat_eq, true, Option, Some, None, List, [], ◌++◌, length, take, drop, refl, sym, ◌∙◌, ap, subst, arith, below_more}
use Rattle.std.specs.Prelude.{◌/◌, ◌%◌, slice_index}
use Rattle.std.specs.Cmp.Lexicographic.{pointwise, same_text}
use Rattle.std.proofs.Math.Nat.{mul-le-mul_left, mul-le-mul_right}
use Rattle.std.proofs.Math.Seq.{drop-append_seam}
use Rattle.std.proofs.lemmas.Bool.{cases_lt, cases_Bool}
use Rattle.std.proofs.lemmas.List.{places, append-nil, drop_all, drop-drop, drop-append-le, take-append-le, take-append-drop, length-take, length-drop}
use Rattle.sha2.specs.Sha256.{sha256}
use Rattle.pp_terms.specs.tree.Content.{chunk_length}
use Rattle.pp_terms.specs.tree.Book.{LookUp}
use Rattle.pp_terms.specs.format.Descriptor.{Descriptor, chunks_of}
use Rattle.pp_terms.specs.disk.Disk.{DiskState, IsKnown, IsRead}
use Rattle.pp_terms.specs.disk.Store.{chunk_place}
use Rattle.pp_scan.specs.Holding.{is_there}
use Rattle.pp_store.specs.ReadChunk.{IsDamaged}
use Rattle.pp_store.specs.declared.reading.ReadFault.{ReadFault}
use Rattle.pp_store.specs.Runs.{run_length, HasEnded, AreRightChunks, chunk_in, AreRead, AreTogether, AreLeaves, IsFirstDamaged}
use Rattle.pp_store.proofs.Opening.{there_sound}

-- whole chunks take no more bytes than more of them
pub chunks_within : (k count chunk : ℕ) → k < count → k * chunk + chunk ≤ count * chunk
chunks_within k count chunk lt = let le = mul-le-mul_left chunk lt in omega (arith, le)

-- behind the bytes of the first `from` chunks
pub chunk_in_behind : (d : Descriptor) (first from start : ℕ) (out : List ℕ) → start ≡ from * d.chunk → (j : ℕ) → chunk_in d (first + from) (drop start out) j ≡ chunk_in d first out (from + j)
chunk_in_behind d first from start out is j =
    let number : first + from + j ≡ first + (from + j) = omega arith in
    let place : start + j * d.chunk ≡ (from + j) * d.chunk = omega (arith, is) in
    ap (λ (i : ℕ). take (chunk_length d.size d.chunk i) (drop (j * d.chunk) (drop start out))) number
    ∙ ap (λ (xs : List ℕ). take (chunk_length d.size d.chunk (first + (from + j))) xs) (drop-drop (j * d.chunk) start out ∙ ap (λ (n : ℕ). drop n out) place)

-- as many leaves more
pub leaves_on : (d : Descriptor) (first : ℕ) (book : LookUp) (out : List ℕ) (from start more : ℕ) → start ≡ from * d.chunk → AreLeaves d first book out from
    → AreLeaves d (first + from) book (drop start out) more → AreLeaves d first book out (from + more)
leaves_on d first book out from start more is before next k lt = ⊎_elim
    (λ low. before k low)
    (λ high.
    let at : from + (k - from) ≡ k = omega arith in
    let number : first + from + (k - from) ≡ first + k = omega arith in
    ap (λ (i : ℕ). book 0 i) (sym number) ∙ next (k - from) (omega arith)
    ∙ ap (λ (xs : List ℕ). Some (sha256 xs)) (chunk_in_behind d first from start out is (k - from) ∙ ap (λ (i : ℕ). chunk_in d first out i) at))
    (cases_lt k from)

-- the chunks in front of a write
front_kept : (d : Descriptor) (first at : ℕ) (front one other : List ℕ) → length front ≡ at * d.chunk → (k : ℕ) → k < at → chunk_in d first (front ++ one) k ≡ chunk_in d first (front ++ other) k
front_kept d first at front one other size k lt =
    let room = chunks_within k at d.chunk lt in
    let inside : k * d.chunk ≤ length front = omega (arith, room, size) in
    let long : chunk_length d.size d.chunk (first + k) ≤ length (drop (k * d.chunk) front) = omega (arith, room, size, length-drop (k * d.chunk) front) in
    same one inside long ∙ sym (same other inside long)
  where
    same : (rest : List ℕ) → k * d.chunk ≤ length front → chunk_length d.size d.chunk (first + k) ≤ length (drop (k * d.chunk) front)
        → chunk_in d first (front ++ rest) k ≡ take (chunk_length d.size d.chunk (first + k)) (drop (k * d.chunk) front)
    same rest inside long =
        ap (λ (xs : List ℕ). take (chunk_length d.size d.chunk (first + k)) xs) (drop-append-le (k * d.chunk) front rest inside)
        ∙ take-append-le (chunk_length d.size d.chunk (first + k)) (drop (k * d.chunk) front) rest long

-- a write behind the chunks that were read, and one chunk more there
module _ (d : Descriptor) (first : ℕ) (reads out new : List ℕ) (at start : ℕ) (is : start ≡ at * d.chunk) (inside : start ≤ length out) (before : AreRead d first reads out at) where
  long : length (take start out) ≡ at * d.chunk
  long = length-take start out ∙ omega (arith, inside, is)

  kept : (k : ℕ) → k < at → chunk_in d first out k ≡ chunk_in d first (take start out ++ new) k
  kept k lt = ap (λ (xs : List ℕ). chunk_in d first xs k) (sym (take-append-drop start out)) ∙ front_kept d first at (take start out) (drop start out) new long k lt

  last : chunk_in d first (take start out ++ new) at ≡ take (chunk_length d.size d.chunk (first + at)) new
  last = ap (λ (n : ℕ). take (chunk_length d.size d.chunk (first + at)) (drop n (take start out ++ new))) (sym long)
      ∙ ap (λ (xs : List ℕ). take (chunk_length d.size d.chunk (first + at)) xs) (drop-append_seam (take start out) new)

  pub read_kept : AreRead d first reads (take start out ++ new) at
  read_kept k lt = subst (IsRead reads (chunk_place d.chunk (first + k))) (kept k lt) (before k lt)

  pub read_more : IsRead reads (chunk_place d.chunk (first + at)) (take (chunk_length d.size d.chunk (first + at)) new) → AreRead d first reads (take start out ++ new) (at + 1)
  read_more read = below_more _ _ read_kept (subst (IsRead reads (chunk_place d.chunk (first + at))) (sym last) read)

-- chunks that were read behind these, to the end of the buffer
module _ (d : Descriptor) (first : ℕ) (reads out new : List ℕ) (at start more : ℕ) (is : start ≡ at * d.chunk) (inside : start ≤ length out) where
  front_long : length (take start out) ≡ start
  front_long = length-take start out ∙ omega (arith, inside)

  new_behind : drop start (take start out ++ new) ≡ new
  new_behind = ap (λ (n : ℕ). drop n (take start out ++ new)) (sym front_long) ∙ drop-append_seam (take start out) new

  chunk_same : (k : ℕ) → at ≤ k → chunk_in d (first + at) new (k - at) ≡ chunk_in d first (take start out ++ new) k
  chunk_same k le =
      ap (λ (xs : List ℕ). chunk_in d (first + at) xs (k - at)) (sym new_behind)
      ∙ chunk_in_behind d first at start (take start out ++ new) is (k - at)
      ∙ ap (λ (i : ℕ). chunk_in d first (take start out ++ new) i) (omega (arith, le))

  both : AreRead d first reads out at → AreRead d (first + at) reads new more → AreRead d first reads (take start out ++ new) (at + more)
  both before next k lt = ⊎_elim
      (λ low. read_kept d first reads out new at start is inside before k low)
      (λ high.
      let number : first + at + (k - at) ≡ first + k = omega (arith, high) in
      subst (λ (i : ℕ). IsRead reads (chunk_place d.chunk i) (chunk_in d first (take start out ++ new) k)) number
      (subst (IsRead reads (chunk_place d.chunk (first + at + (k - at)))) (chunk_same k (omega (arith, high))) (next (k - at) (omega (arith, lt, high)))))
      (cases_lt k at)

  pub read_on : AreRead d first reads out at → AreRead d (first + at) reads new more
      → AreRead d first reads (take start out ++ (new ++ drop (length out - start) (drop start out))) (at + more)
  read_on before next =
      let none : drop (length out - start) (drop start out) ≡ [] = drop_all (length out - start) (drop start out) (omega (arith, length-drop start out)) in
      subst (λ (xs : List ℕ). AreRead d first reads (take start out ++ xs) (at + more)) (sym (ap (λ (ys : List ℕ). new ++ ys) none ∙ append-nil new)) (both before next)

-- so many slots fit
pub slots_fit : (count room chunk : ℕ) → chunk ≤ room → count ≤ 1 + (room - chunk) / (chunk + 65) → (count - 1) * (chunk + 65) + chunk ≤ room
slots_fit count room chunk fits le =
    let most : (room - chunk) / (chunk + 65) * (chunk + 65) ≤ room - chunk = omega arith in
    let below : (count - 1) * (chunk + 65) ≤ (room - chunk) / (chunk + 65) * (chunk + 65) = mul-le-mul_right (chunk + 65) (omega (arith, le)) in
    omega (arith, most, below, fits)

-- the chunks of slots that were read at once, and then moved together
pub slots_read : (d : Descriptor) (first count : ℕ) (reads into rest new : List ℕ) → 0 < count
    → length into ≡ (count - 1) * (d.chunk + 65) + chunk_length d.size d.chunk (first + count - 1)
    → IsRead reads (chunk_place d.chunk first) into → AreTogether d.chunk count (into ++ rest) new → AreRead d first reads new count
slots_read d first count reads into rest new some long read together k lt j less =
    let size : ℕ = chunk_length d.size d.chunk (first + k) in
    let at : ℕ = k * (d.chunk + 65) + j in
    let low : j < size = omega (arith, less, length-take size (drop (k * d.chunk) new)) in
    let most : size ≤ d.chunk = omega arith in
    let inside : at < length into = ⊎_elim
    (λ before. let le = chunks_within k (count - 1) (d.chunk + 65) before in omega (arith, le, low, most, long))
    (λ here.
    let same : k ≡ count - 1 = omega (arith, here, lt) in
    let sizes : size ≡ chunk_length d.size d.chunk (first + count - 1) = ap (λ (i : ℕ). chunk_length d.size d.chunk i) (omega (arith, same, some)) in
    let begin : k * (d.chunk + 65) ≡ (count - 1) * (d.chunk + 65) = ap (λ (i : ℕ). i * (d.chunk + 65)) same in
    omega (arith, low, sizes, begin, long))
    (cases_lt k (count - 1)) in
    one new (k * d.chunk) size j low
    ∙ together.1 k j lt (omega (arith, low, most))
    ∙ front into rest at inside
    ∙ read at inside
    ∙ ap (λ (i : ℕ). slice_index reads i) (omega arith)
  where
    one : (xs : List ℕ) (from n i : ℕ) → i < n → slice_index (take n (drop from xs)) i ≡ slice_index xs (from + i)
    one xs from n i lt' = grind (arith, places)

    front : (xs ys : List ℕ) (i : ℕ) → i < length xs → slice_index (xs ++ ys) i ≡ slice_index xs i
    front xs ys i lt' = grind (arith, places)

-- ---- a whole run

-- the buffer has room for each chunk of a run
pub run_room : (d : Descriptor) (first room k : ℕ) → 0 < d.chunk → k < run_length d first room → k * d.chunk + d.chunk ≤ room
run_room d first room k some lt =
    let most : room / d.chunk * d.chunk ≤ room = omega arith in
    let le = chunks_within k (room / d.chunk) d.chunk (omega (arith, lt)) in
    omega (arith, most, le)

-- and for all of them
pub run_fits : (d : Descriptor) (first room count : ℕ) → count ≤ run_length d first room → count * d.chunk ≤ room
run_fits d first room count le =
    let below : count * d.chunk ≤ room / d.chunk * d.chunk = mul-le-mul_right d.chunk (omega arith) in
    ⊎_elim
    (λ some. let most : room / d.chunk * d.chunk ≤ room = omega arith in omega (arith, below, most))
    (λ none. let zero : count * d.chunk ≡ count * 0 = ap (λ (n : ℕ). count * n) (omega arith) in omega (arith, zero))
    (cases_lt 0 d.chunk)

-- no run has no chunk
pub run_some : (d : Descriptor) (first room : ℕ) → 0 < d.chunk → d.chunk ≤ room → first < chunks_of d → 0 < run_length d first room
run_some d first room some fits within = ⊎_elim
    (λ more. omega arith)
    (λ none. absurd (let zero : room / d.chunk * d.chunk ≡ 0 * d.chunk = ap (λ (n : ℕ). n * d.chunk) (omega arith) in
    let rest : room % d.chunk < d.chunk = omega arith in
    let whole : room / d.chunk * d.chunk + room % d.chunk ≡ room = omega arith in omega (arith, zero, rest, whole)))
    (cases_lt 0 (room / d.chunk))

-- a run is no longer than that
pub run_within : (d : Descriptor) (first : ℕ) (book : LookUp) (disk disk' : DiskState) (out : List ℕ) (count : ℕ) (fault : Option ReadFault) → HasEnded d first book disk disk' out count fault
    → count ≤ run_length d first (length out)
run_within d first book disk disk' out count None is = omega arith
run_within d first book disk disk' out count (Some fault) is = omega (arith, is.0)

-- what was read and has its leaves' digests
pub right_run : (d : Descriptor) (first : ℕ) (book : LookUp) (disk : DiskState) (out : List ℕ) (read count : ℕ) → count ≤ read → (IsKnown disk → AreRead d first disk.history.reads out read)
    → AreLeaves d first book out count → AreRightChunks d first book disk out count
right_run d first book disk out read count le reads leaves k lt = record { count_is = refl; leaf_is = leaves k lt; read = λ known. reads known k (omega (arith, le, lt)) }

pub damaged_run : (d : Descriptor) (first : ℕ) (book : LookUp) (disk : DiskState) (out : List ℕ) (read at : ℕ) (found kept : List ℕ) → (IsKnown disk → AreRead d first disk.history.reads out read)
    → IsFirstDamaged d first book out read at found kept → IsDamaged d (first + at) book disk (drop (at * d.chunk) out) found kept
damaged_run d first book disk out read at found kept reads is = record {
  kept_is = is.kept_is;
  found_is = is.found_is;
  differ = is.differ;
  read = λ known. reads known at is.among;
}

-- a damaged chunk isn't there
pub damaged_absent : (d : Descriptor) (i : ℕ) (book : LookUp) (disk : DiskState) (out found kept : List ℕ) → IsDamaged d i book disk out found kept → IsKnown disk
    → 0 < chunk_length d.size d.chunk i → chunk_length d.size d.chunk i ≤ length out → is_there d disk.history.reads book i ≡ true → ⊥
damaged_absent d i book disk out found kept is known some room there =
    let size : ℕ = chunk_length d.size d.chunk i in
    let bytes : List ℕ = take size out in
    ⊎_elim
    (λ same. is.differ (is.found_is ∙ sym (same_text kept (sha256 bytes) (sym same))))
    (λ other. there_sound d i book disk.history.reads bytes kept (chunk_place d.chunk i) size some (length-take size out ∙ omega (arith, room)) refl refl is.kept_is (is.read known) there (sym other))
    (cases_Bool (pointwise nat_eq kept (sha256 bytes)))
