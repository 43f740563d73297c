-- The octets of an IPv6 address come back from its segments.
use Rattle.std.proofs.Common.{◌≡◌, ℕ, suc, ◌+◌, ◌-◌, ◌*◌, ◌/◌, ◌%◌, ◌<◌, List, [], ◌∷◌, length, get_or, refl, arith}
use Rattle.std.specs.Net.Addr.{segments_of, octets_of}

pairs_back : (n : ℕ) (xs : List ℕ) → length xs ≡ 2 * n → ((k : ℕ) → get_or xs k 0 < 256) → octets_of (segments_of xs) ≡ xs
pairs_back n [] even small = refl
pairs_back n (a ∷ []) even small = absurd (omega arith)
pairs_back n (a ∷ b ∷ xs) even small =
    let low : b < 256 = small 1 in
    let high : (a * 256 + b) / 256 ≡ a = omega arith in
    let rest : (a * 256 + b) % 256 ≡ b = omega arith in
    λ i. high i ∷ rest i ∷ pairs_back (n - 1) xs (omega arith) (λ k. small (suc (suc k))) i

pub octets_back : (xs : List ℕ) → length xs ≡ 16 → ((k : ℕ) → get_or xs k 0 < 256) → octets_of (segments_of xs) ≡ xs
octets_back xs even small = pairs_back 8 xs even small
