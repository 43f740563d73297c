-- The bytes of one record among all.
use Rattle.std.proofs.Common.{◌≡◌, ℕ, zero, suc, ◌<◌, Some, List, [], ◌∷◌, length, map, slice_get, slice_index_or, sym, ap, arith}
use Rattle.pp_outside.specs.Records.{record_of, bytes_of}
use Rattle.pp_outside.specs.declared.records.Passed.{Passed}

pub bytes_at : (items : List Passed) (n : ℕ) (item : Passed) → n < length items → item ≡ slice_index_or items n item
    → slice_get (map bytes_of (map record_of items)) n ≡ Some (bytes_of (record_of item))
bytes_at [] n item within is = absurd (omega (arith, within))
bytes_at (x ∷ xs) zero item within is = ap (λ (p : Passed). Some (bytes_of (record_of p))) (sym is)
bytes_at (x ∷ xs) (suc n) item within is = bytes_at xs n item (omega (arith, within)) is
