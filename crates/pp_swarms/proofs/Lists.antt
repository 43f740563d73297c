-- Places of lists.
use Rattle.std.proofs.Common.{◌≡◌, ℕ, zero, suc, ◌<◌, List, [], ◌∷◌, ◌++◌, length, Some, refl, sym, ap, arith}
use Rattle.std.specs.Prelude.{◌≢◌, map, slice_get, slice_set}
use Rattle.std.proofs.lemmas.Option.{same_Some}

pub get_set_there : {X : Type 0} (xs : List X) (i : ℕ) (x y : X) → slice_get xs i ≡ Some y → slice_get (slice_set xs i x) i ≡ Some x
get_set_there [] i x y is = absurd cc
get_set_there (z ∷ zs) zero x y is = refl
get_set_there (z ∷ zs) (suc i) x y is = get_set_there zs i x y is

pub get_set_other : {X : Type 0} (xs : List X) (i j : ℕ) (x : X) → j ≢ i → slice_get (slice_set xs i x) j ≡ slice_get xs j
get_set_other [] i j x other = refl
get_set_other (z ∷ zs) zero zero x other = absurd (other refl)
get_set_other (z ∷ zs) zero (suc j) x other = refl
get_set_other (z ∷ zs) (suc i) zero x other = refl
get_set_other (z ∷ zs) (suc i) (suc j) x other = get_set_other zs i j x (λ e. other (ap suc e))

pub map_set : {X Y : Type 0} (f : X → Y) (xs : List X) (i : ℕ) (x : X) → map f (slice_set xs i x) ≡ slice_set (map f xs) i (f x)
map_set f [] i x = refl
map_set f (z ∷ zs) zero x = refl
map_set f (z ∷ zs) (suc i) x = ap (λ ys. f z ∷ ys) (map_set f zs i x)

pub get_map : {X Y : Type 0} (f : X → Y) (xs : List X) (i : ℕ) (x : X) → slice_get xs i ≡ Some x → slice_get (map f xs) i ≡ Some (f x)
get_map f [] i x is = absurd cc
get_map f (z ∷ zs) zero x is = ap (λ y. Some (f y)) (same_Some z x is)
get_map f (z ∷ zs) (suc i) x is = get_map f zs i x is

-- what stands behind a list
pub get_last : {X : Type 0} (xs : List X) (x : X) → slice_get (xs ++ x ∷ []) (length xs) ≡ Some x
get_last [] x = refl
get_last (z ∷ zs) x = get_last zs x

pub get_before : {X : Type 0} (xs : List X) (x : X) (i : ℕ) → i < length xs → slice_get (xs ++ x ∷ []) i ≡ slice_get xs i
get_before [] x i within = absurd (omega (arith, within))
get_before (z ∷ zs) x zero within = refl
get_before (z ∷ zs) x (suc i) within = get_before zs x i (omega (arith, within))

pub set_same : {X : Type 0} (xs : List X) (i : ℕ) (x : X) → slice_get xs i ≡ Some x → slice_set xs i x ≡ xs
set_same [] i x is = absurd cc
set_same (z ∷ zs) zero x is = ap (λ y. y ∷ zs) (sym (same_Some z x is))
set_same (z ∷ zs) (suc i) x is = ap (λ ys. z ∷ ys) (set_same zs i x is)
