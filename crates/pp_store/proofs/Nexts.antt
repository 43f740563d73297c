-- A buffer of a content's next chunks.
use Rattle.std.proofs.Common.{◌≡◌, ⊎_elim, ℕ, ◌+◌, ◌-◌, ◌*◌, ◌/◌, ◌%◌, ◌^◌, ◌<◌, ◌≤◌, List, length, take, drop, refl, sym, ◌∙◌, ap, arith}
use Rattle.std.proofs.Math.Nat.{mul-le-mul_left, lt_of_mul-lt-mul_right}
use Rattle.std.proofs.lemmas.Bool.{cases_lt}
use Rattle.std.proofs.lemmas.List.{take_all, take-take, drop-take, drop-drop, length-drop, length-take}
use Rattle.pp_terms.specs.tree.Content.{chunk_of, chunk_count, IsChunkSize}
use Rattle.pp_tree.proofs.Sizes.{chunk_count_holds, chunk_begins, size_of_chunk_size}
use Rattle.pp_store.specs.Growing.{IsNext, chunks_in}

-- a chunk that begins inside is counted, and the others aren't
pub counted_below : (bytes chunk i : ℕ) → 0 < chunk → i * chunk < bytes → i < chunk_count bytes chunk
counted_below bytes chunk i some lt =
    let held = chunk_count_holds bytes chunk some in
    lt_of_mul-lt-mul_right chunk {m = i} {n = chunk_count bytes chunk} (omega (arith, held.0, lt))

pub counted_all : (bytes chunk i : ℕ) → 0 < chunk → bytes ≤ i * chunk → i ≤ chunk_count bytes chunk → i ≡ chunk_count bytes chunk
counted_all bytes chunk i some le low = ⊎_elim
    (λ less. absurd (let begins = chunk_begins bytes chunk i some less in omega (arith, begins, le)))
    (λ more. omega arith)
    (cases_lt i (chunk_count bytes chunk))

next_whole : (chunk i size : ℕ) → 0 < chunk → size % chunk ≡ 0 → i * chunk < size → i * chunk + chunk ≤ size
next_whole chunk i size some whole lt =
    let q = size / chunk in
    let is : q * chunk ≡ size = omega arith in
    let less : i < q = lt_of_mul-lt-mul_right chunk {m = i} {n = q} (omega (arith, is, lt)) in
    let le = mul-le-mul_left chunk less in
    omega (arith, le, is)

-- chunk i of the buffer
pub next_chunk : (chunk : ℕ) (content : List ℕ) (count i : ℕ) (pieces : List ℕ) → 0 < chunk → IsNext chunk content count pieces → i * chunk < length pieces
    → chunk_of pieces chunk i ≡ chunk_of content chunk (count + i)
next_chunk chunk content count i pieces some next lt =
    let rest : List ℕ = drop (count * chunk) content in
    let left : ℕ = length pieces - i * chunk in
    let far : List ℕ = drop ((count + i) * chunk) content in
    let split : i * chunk + left ≡ length pieces = omega arith in
    let place : count * chunk + i * chunk ≡ (count + i) * chunk = omega arith in
    let behind : drop (i * chunk) pieces ≡ take left far =
    ap (λ (xs : List ℕ). drop (i * chunk) xs) (next.given ∙ ap (λ (n : ℕ). take n rest) (sym split)) ∙ drop-take (i * chunk) left rest
    ∙ ap (λ (xs : List ℕ). take left xs) (drop-drop (i * chunk) (count * chunk) content ∙ ap (λ (n : ℕ). drop n content) place) in
    ap (λ (xs : List ℕ). take chunk xs) behind ∙ ⊎_elim
    (λ short. take_all chunk (take left far) (omega (arith, length-take left far)) ∙ take_all left far (end short place) ∙ sym (take_all chunk far (omega (arith, end short place))))
    (λ fits. take-take chunk left far fits)
    (cases_lt (length pieces - i * chunk) chunk)
  where
    end : length pieces - i * chunk < chunk → count * chunk + i * chunk ≡ (count + i) * chunk → length (drop ((count + i) * chunk) content) ≤ length pieces - i * chunk
    end short place = ⊎_elim
        (λ whole. absurd (let le = next_whole chunk i (length pieces) some whole lt in omega arith))
        (λ last. omega (arith, length-drop ((count + i) * chunk) content, place, last, lt))
        next.whole

pub next_counted : (chunk : ℕ) (content : List ℕ) (count i : ℕ) (pieces : List ℕ) → 0 < chunk → IsNext chunk content count pieces → i * chunk < length pieces
    → count + i < chunks_in chunk content
next_counted chunk content count i pieces some next lt =
    let place : count * chunk + i * chunk ≡ (count + i) * chunk = omega arith in
    counted_below (length content) chunk (count + i) some (omega (arith, next.inside, lt))

-- the bound that the code needs
pub next_low : (chunk count i size : ℕ) → count * chunk + size ≤ 2 ^ 20 * chunk → i * chunk < size → count + i < 2 ^ 20
next_low chunk count i size room lt =
    let place : count * chunk + i * chunk ≡ (count + i) * chunk = omega arith in
    lt_of_mul-lt-mul_right chunk {m = count + i} {n = 2 ^ 20} (omega arith)

pub few_leaves : (chunk i size : ℕ) → 256 ≤ chunk → size ≤ 65536 → i * chunk < size → i < 256
few_leaves chunk i size large few lt =
    let le = mul-le-mul_left i large in
    omega (arith, le, lt)

-- a full buffer is cut into whole chunks
pub full_whole : (chunk : ℕ) → IsChunkSize chunk → 65536 % chunk ≡ 0
full_whole chunk size = ⊎_elim (λ e. at 256 e refl) (λ r. ⊎_elim (λ e. at 512 e refl) (λ r. ⊎_elim (λ e. at 1024 e refl) (λ r. ⊎_elim (λ e. at 2048 e refl)
    (λ r. ⊎_elim (λ e. at 4096 e refl) (λ e. at 8192 e refl) r) r) r) r) (size_of_chunk_size chunk size)
  where
    at : (n : ℕ) → chunk ≡ n → 65536 % n ≡ 0 → 65536 % chunk ≡ 0
    at n e is = ap (λ (m : ℕ). 65536 % m) e ∙ is

-- a chunk is cut into whole blocks of SHA-256
pub blocks_whole : (chunk : ℕ) → IsChunkSize chunk → chunk % 64 ≡ 0
blocks_whole chunk size = ⊎_elim (λ e. at 256 e refl) (λ r. ⊎_elim (λ e. at 512 e refl) (λ r. ⊎_elim (λ e. at 1024 e refl) (λ r. ⊎_elim (λ e. at 2048 e refl)
    (λ r. ⊎_elim (λ e. at 4096 e refl) (λ e. at 8192 e refl) r) r) r) r) (size_of_chunk_size chunk size)
  where
    at : (n : ℕ) → chunk ≡ n → n % 64 ≡ 0 → chunk % 64 ≡ 0
    at n e is = ap (λ (m : ℕ). m % 64) e ∙ is

-- the chunks of whole ones and of some bytes more
pub counted_more : (chunk count size : ℕ) → 0 < chunk → count + chunk_count size chunk ≡ chunk_count (count * chunk + size) chunk
counted_more chunk count size some =
    let held = chunk_count_holds size chunk some in
    let n = chunk_count size chunk in
    let times : (count + n) * chunk ≡ count * chunk + n * chunk = omega arith in
    counted_all (count * chunk + size) chunk (count + n) some (omega (arith, held.0)) (⊎_elim
    (λ none. let e : n ≡ 0 = omega arith in ⊎_elim (λ zero_count. omega arith) (λ some_count.
    let down : count - 1 + 1 ≡ count = omega arith in
    let less : (count - 1) * chunk < count * chunk + size = (let f : (count - 1 + 1) * chunk ≡ count * chunk = ap (λ (x : ℕ). x * chunk) down in omega arith) in
    let in_it = counted_below (count * chunk + size) chunk (count - 1) some less in omega arith) (cases_lt count 1))
    (λ some_n.
    let down : count + n - 1 + 1 ≡ count + n = omega arith in
    let less : (count + n - 1) * chunk < count * chunk + size = (let f : (count + n - 1 + 1) * chunk ≡ (count + n) * chunk = ap (λ (x : ℕ). x * chunk) down in omega (arith, held.1)) in
    let in_it = counted_below (count * chunk + size) chunk (count + n - 1) some less in omega arith)
    (cases_lt n 1))
