-- Bytes of a content, one by one.
use Rattle.std.proofs.Common.{◌≡◌, ℕ, zero, suc, ◌+◌, ◌<◌, List, [], ◌∷◌, ◌++◌, length, take, set, sym, ◌∙◌, ap, arith}
use Rattle.std.proofs.Math.Seq.{take-suc-set}
use Rattle.pp_world.specs.Schedule.{byte_at, content_from}

-- The first i bytes are written, and this is the next place.
pub record AreWritten (shift from place i : ℕ) (into : List ℕ) : Type 0 where
  pub place_is : place ≡ from + i
  pub written : take i into ≡ content_from shift from i

content_more : (shift from i : ℕ) → content_from shift from (suc i) ≡ content_from shift from i ++ byte_at shift (from + i) ∷ []
content_more shift from zero = let e : from ≡ from + 0 = omega arith in ap (λ (j : ℕ). byte_at shift j ∷ []) e
content_more shift from (suc i) =
    let e : from + 1 + i ≡ from + suc i = omega arith in
    ap (λ (xs : List ℕ). byte_at shift from ∷ xs) (content_more shift (from + 1) i)
    ∙ ap (λ (j : ℕ). byte_at shift from ∷ (content_from shift (from + 1) i ++ byte_at shift j ∷ [])) e

pub one_written : (shift from place i : ℕ) (into : List ℕ) (byte : ℕ) → AreWritten shift from place i into → i < length into
    → byte ≡ byte_at shift place → AreWritten shift from (place + 1) (i + 1) (set into i byte)
one_written shift from place i into byte so_far within is =
    let at = so_far.place_is in
    let next : i + 1 ≡ suc i = omega arith in record {
      place_is = omega (arith, at);
      written = ap (λ (k : ℕ). take k (set into i byte)) next ∙ take-suc-set into i byte within
          ∙ ap (λ (b : ℕ). take i into ++ b ∷ []) (is ∙ ap (byte_at shift) at)
          ∙ ap (λ (xs : List ℕ). xs ++ byte_at shift (from + i) ∷ []) so_far.written
          ∙ sym (content_more shift from i) ∙ ap (content_from shift from) (sym next);
    }
