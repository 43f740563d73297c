-- Lists of which one place is changed.
use Rattle.std.proofs.Common.{◌≡◌, ◌≢◌, ⊎_elim, ℕ, zero, suc, ◌+◌, ◌<◌, eqb, false, Some, List, [], ◌∷◌, ◌++◌, length, get_or, map, take, refl, sym, ◌∙◌, ap, subst, arith}
use Rattle.std.specs.List.{slice_get}
use Rattle.std.proofs.Math.ListN.{set}
use Rattle.std.proofs.lemmas.Bool.{cases_Bool, eqb-true, eqb-false}
use Rattle.std.proofs.lemmas.Option.{same_Some}
use Rattle.pp_seat.specs.Seats.{SeatState, IsFresh}
use Rattle.pp_seats.specs.Standing.{AllHold, AllFresh}
use Rattle.pp_seats.specs.Hearing.{looked_up}

pub get_set_there : (xs : List SeatState) (i : ℕ) (x y : SeatState) → slice_get xs i ≡ Some y → slice_get (set xs i x) i ≡ Some x
get_set_there [] i x y e = absurd cc
get_set_there (z ∷ xs) zero x y e = refl
get_set_there (z ∷ xs) (suc i) x y e = get_set_there xs i x y e

pub get_set_other : (xs : List SeatState) (i j : ℕ) (x : SeatState) → j ≢ i → slice_get (set xs i x) j ≡ slice_get xs j
get_set_other [] i j x ne = refl
get_set_other (z ∷ xs) zero zero x ne = absurd (ne refl)
get_set_other (z ∷ xs) zero (suc j) x ne = refl
get_set_other (z ∷ xs) (suc i) zero x ne = refl
get_set_other (z ∷ xs) (suc i) (suc j) x ne = get_set_other xs i j x (λ e. ne (ap suc e))

-- the later change counts
pub set_twice : (xs : List SeatState) (i : ℕ) (x y : SeatState) → set (set xs i x) i y ≡ set xs i y
set_twice [] i x y = refl
set_twice (z ∷ xs) zero x y = refl
set_twice (z ∷ xs) (suc i) x y = ap (λ (ys : List SeatState). z ∷ ys) (set_twice xs i x y)

pub set_length : (xs : List SeatState) (i : ℕ) (x : SeatState) → length (set xs i x) ≡ length xs
set_length [] i x = refl
set_length (z ∷ xs) zero x = refl
set_length (z ∷ xs) (suc i) x = ap suc (set_length xs i x)

-- a list has what stands in it
pub got : (xs : List SeatState) (i : ℕ) (x : SeatState) → i < length xs → slice_get xs i ≡ Some (get_or xs i x)
got [] i x lt = absurd (omega arith)
got (y ∷ xs) zero x lt = refl
got (y ∷ xs) (suc i) x lt = got xs i x (omega arith)

-- all are of one content, and one is changed that stays so
pub set_holds : (chunks : ℕ) (seats : List SeatState) (k : ℕ) (before after : SeatState) → AllHold chunks seats → slice_get seats k ≡ Some before
    → after.told.chunks ≡ before.told.chunks → AllHold chunks (set seats k after)
set_holds chunks seats k before after room there same n s has = ⊎_elim
    (λ is.
    let here = get_set_there seats k after before there in
    let s_is : after ≡ s = same_Some after s (sym here ∙ ap (slice_get (set seats k after)) (sym (eqb-true n k is)) ∙ has) in
    ap (λ (o : SeatState). o.told.chunks) (sym s_is) ∙ same ∙ room k before there)
    (λ apart. room n s (sym (get_set_other seats k n after (eqb-false n k apart)) ∙ has))
    (cases_Bool (eqb n k))

-- what stands at a place of a list that was changed all over
pub mapped : (f : SeatState → SeatState) (xs : List SeatState) (n : ℕ) (y : SeatState) → slice_get (map f xs) n ≡ Some y → (x : SeatState) × (slice_get xs n ≡ Some x) × (f x ≡ y)
mapped f [] n y e = absurd cc
mapped f (x ∷ xs) zero y e = (x, refl, same_Some (f x) y e)
mapped f (x ∷ xs) (suc n) y e = mapped f xs n y e

-- one more that is of the content, and all of them changed so that they stay of it
pub push_holds : (chunks : ℕ) (xs : List SeatState) (s : SeatState) → AllHold chunks xs → s.told.chunks ≡ chunks → AllHold chunks (xs ++ s ∷ [])
push_holds chunks [] s room same zero x has = ap (λ (o : SeatState). o.told.chunks) (sym (same_Some s x has)) ∙ same
push_holds chunks [] s room same (suc n) x has = absurd cc
push_holds chunks (y ∷ ys) s room same zero x has = room 0 x has
push_holds chunks (y ∷ ys) s room same (suc n) x has = push_holds chunks ys s (λ k o at. room (suc k) o at) same n x has

pub push_fresh : (xs : List SeatState) (s : SeatState) → AllFresh xs → IsFresh false s → AllFresh (xs ++ s ∷ [])
push_fresh [] s room fresh zero x has = subst (λ (o : SeatState). IsFresh false o) (same_Some s x has) fresh
push_fresh [] s room fresh (suc n) x has = absurd cc
push_fresh (y ∷ ys) s room fresh zero x has = room 0 x has
push_fresh (y ∷ ys) s room fresh (suc n) x has = push_fresh ys s (λ k o at. room (suc k) o at) fresh n x has

pub push_length : (xs : List SeatState) (s : SeatState) → length (xs ++ s ∷ []) ≡ length xs + 1
push_length [] s = refl
push_length (y ∷ ys) s = let rest = push_length ys s in omega (arith, rest)

pub mapped_holds : (chunks moment : ℕ) (xs : List SeatState) → AllHold chunks xs → AllHold chunks (map (looked_up moment) xs)
mapped_holds chunks moment xs room n y has = let m = mapped (looked_up moment) xs n y has in ap (λ (o : SeatState). o.told.chunks) (sym m.2) ∙ room n m.0 m.1

-- a list written over another of its length
refills : {A : Type 0} (ws ys : List A) → take (length ws) (ws ++ ys) ≡ ws
refills [] ys = refl
refills (w ∷ ws) ys = ap (λ xs. w ∷ xs) (refills ws ys)

pub refilled : {A : Type 0} (ws ys : List A) (n : ℕ) → n ≡ length ws → take n (ws ++ ys) ≡ ws
refilled ws ys n e = ap (λ (k : ℕ). take k (ws ++ ys)) e ∙ refills ws ys
