-- The digest of a message of whole blocks, whose padding is one block.
use Rattle.std.proofs.Common.{◌≡◌, ℕ, ◌+◌, ◌-◌, ◌*◌, ◌/◌, ◌%◌, ◌≤◌, List, length, take, drop, refl, ap, ◌∙◌, arith, length-append}
use Rattle.std.proofs.lemmas.List.{drop-drop, drop-take, take_all, take-take}
use Rattle.std.proofs.Math.Seq.{drop-append_seam}
use Rattle.sha2.specs.Sha256.{compress, digest_bytes, hash_after, initial_hash_256, padded_message, padding, sha256}
use Rattle.sha2.proofs.Absorbing256.{hash_after-append, hash_after_next}

pub length-padding : (n : ℕ) → n % 64 ≡ 0 → length (padding n) ≡ 64
length-padding n whole = rw whole refl

-- Block i of the piece at byte o is the block of the bytes that begins 64 * i behind o.
pub piece_block : (bytes : List ℕ) (size o i : ℕ) → i * 64 + 64 ≤ size → take 64 (drop (64 * i + o) bytes) ≡ take 64 (drop (i * 64) (take size (drop o bytes)))
piece_block bytes size o i fits =
    let rest : i * 64 + (size - i * 64) ≡ size = omega arith in
    let at : o + i * 64 ≡ 64 * i + o = omega arith in
    let inner : drop (i * 64) (take size (drop o bytes)) ≡ take (size - i * 64) (drop (64 * i + o) bytes) =
    rw (rest, drop-drop (i * 64) o bytes, at) at (drop-take (i * 64) (size - i * 64) (drop o bytes)) in
    rw (inner, take-take 64 (size - i * 64) (drop (64 * i + o) bytes) (omega arith)) refl

-- The digest, from the hash value after the message's own blocks.
sha256_whole : (m : List ℕ) (h : List ℕ) → length m % 64 ≡ 0 → h ≡ compress (hash_after initial_hash_256 m (length m / 64)) (padding (length m)) → digest_bytes h 8 ≡ sha256 m
unfolding sha256
sha256_whole m h whole is =
    let n = length m / 64 in
    let long : length (padding (length m)) ≡ 64 = length-padding (length m) whole in
    let count : length (padded_message m) / 64 ≡ n + 1 = omega (arith, length-append m (padding (length m))) in
    let end : n * 64 ≡ length m = omega arith in
    let last : take 64 (drop (n * 64) (padded_message m)) ≡ padding (length m) =
    rw (end, drop-append_seam m (padding (length m))) (take_all 64 (padding (length m)) (omega arith)) in
    ap (λ (h : List ℕ). digest_bytes h 8)
    (rw (count, hash_after_next initial_hash_256 (padded_message m) n, last, hash_after-append initial_hash_256 m (padding (length m)) n (omega arith)) is)

-- The digest, from the hash value h after the message's own blocks and g after the padding's.
pub piece_digest : (m last h g : List ℕ) (size n : ℕ) → length m ≡ size → size % 64 ≡ 0 → n ≡ size / 64 → h ≡ hash_after initial_hash_256 m n
    → last ≡ padding size → g ≡ compress h (take 64 last) → digest_bytes g 8 ≡ sha256 m
piece_digest m last h g size n long whole count before padded after =
    let fits : length last ≡ 64 = ap length padded ∙ length-padding size whole in
    let block : take 64 last ≡ padding size = take_all 64 last (omega arith) ∙ padded in
    sha256_whole m g (rw long whole) (rw (long, ← count, ← before, ← block) after)
