-- The sizes of contents and of their last chunks.
use Rattle.std.proofs.Common.{◌≡◌, ◌≢◌, ℕ, suc, ◌+◌, ◌-◌, ◌*◌, ◌^◌, ◌<◌, ◌≤◌, List, length, ◌∙◌, ap, inl, inr, arith, length-drop}
use Rattle.std.proofs.lemmas.Bool.{cases_lt}
use Rattle.std.proofs.lemmas.List.{length-take}
use Rattle.std.proofs.Math.Nat.{mul-le-mul_left}
use Rattle.pp_terms.specs.tree.Content.{chunk_of, chunk_count, chunk_length, IsContentSize}
use Rattle.pp_tree.proofs.Sizes.{chunk_count_holds}
use Rattle.pp_targets.specs.Target.{last_length}

pub length-chunk_of : (content : List ℕ) (chunk i : ℕ) → length (chunk_of content chunk i) ≡ chunk_length (length content) chunk i
length-chunk_of content chunk i = simp (length-take, length-drop)

-- fewer times as many
less_times : (a b c : ℕ) → a * c < b * c → a < b
less_times a b c lt = elim (cases_lt a b) [
  | inl less ↦ less
  | inr ge ↦ let more = mul-le-mul_left c ge in absurd (omega arith)
]

-- so many whole chunks and a part of one
pub count_with_part : (bytes chunk i part : ℕ) → bytes ≡ i * chunk + part → 0 < part → part ≤ chunk → chunk_count bytes chunk ≡ suc i
count_with_part bytes chunk i part is some most =
    let room : 0 < chunk = omega arith in
    let held = chunk_count_holds bytes chunk room in
    let low : i < chunk_count bytes chunk = less_times i (chunk_count bytes chunk) chunk (omega arith) in
    let high : chunk_count bytes chunk < i + 2 = less_times (chunk_count bytes chunk) (i + 2) chunk (omega arith) in
    omega arith

-- of 64 bytes there is only the last chunk
pub only_last : (bytes chunk i : ℕ) → 256 ≤ chunk → last_length bytes chunk ≢ 64 → chunk_length bytes chunk i ≡ 64 → ⊥
only_last bytes chunk i wide apart is =
    let part : bytes - i * chunk ≡ 64 = omega arith in
    let sum : bytes ≡ i * chunk + 64 = omega arith in
    let count = count_with_part bytes chunk i 64 sum (omega arith) (omega arith) in
    let last : chunk_count bytes chunk - 1 ≡ i = omega arith in
    apart (ap (λ (l : ℕ). chunk_length bytes chunk l) last ∙ is)

-- the last chunk ends the content
pub last_part : (bytes chunk i : ℕ) → 0 < chunk → chunk_count bytes chunk ≡ suc i → bytes ≡ i * chunk + chunk_length bytes chunk i
last_part bytes chunk i some count =
    let held = chunk_count_holds bytes chunk some in
    let whole : chunk_count bytes chunk * chunk ≡ i * chunk + chunk = ap (λ (n : ℕ). n * chunk) count ∙ omega arith in
    omega (arith, held.0, held.1, whole)

-- a chunk of that number ends a content
pub size_ended : (chunk i part size : ℕ) → i < 2 ^ 20 → 0 < part → part ≤ chunk → size ≡ i * chunk + part → IsContentSize chunk size
size_ended chunk i part size few some most is =
    let next : i + 1 ≤ 2 ^ 20 = omega arith in
    let more = mul-le-mul_left chunk next in
    record { some = omega arith; within = omega (arith, more) }
