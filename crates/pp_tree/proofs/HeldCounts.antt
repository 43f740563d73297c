-- How many are in a set of chunks.
use Rattle.std.proofs.Common.{◌≡◌, ℕ, zero, suc, ◌+◌, ◌<◌, ◌≤◌, Bool, true, false, cond, List, length, replicate, get_or, refl, ◌∙◌, ap, arith}
use Rattle.std.specs.Prelude.{count_by}
use Rattle.std.proofs.Math.ListN.{set}
use Rattle.std.proofs.lemmas.List.{length-set}
use Rattle.std.proofs.lemmas.List.Sums.{sum_by-set, sum_by-cons, count_by-le-length}

pub none_counted : (n : ℕ) → count_by (λ (b : Bool). b) (replicate n false) ≡ 0
none_counted zero = refl
none_counted (suc n) = sum_by-cons (λ (b : Bool). cond b 1 0) false (replicate n false) ∙ omega (arith, none_counted n)

-- one that is absent leaves room
pub room_for : (held : List Bool) (i : ℕ) → i < length held → get_or held i false ≡ false
    → count_by (λ (b : Bool). b) held + 1 ≤ length held
room_for held i within absent =
    let one = sum_by-set (λ (b : Bool). cond b 1 0) held i true false within in
    let old : cond {A = ℕ} (get_or held i false) 1 0 ≡ 0 = ap (λ (b : Bool). cond {A = ℕ} b 1 0) absent in
    let most = count_by-le-length (λ (b : Bool). b) (set held i true) in
    let same : length (set held i true) ≡ length held = length-set held i true in
    omega (arith, one, old, most, same)
