-- Counts of seats, and the one that is there longest.
use Rattle.std.proofs.Common.{◌≡◌, ◌⊎◌, ℕ, suc, ◌+◌, ◌≤◌, ◌<◌, cond, Option, Some, None, List, [], ◌∷◌, length, refl, ◌∙◌, ap, subst, inl, inr, arith}
use Rattle.std.specs.Prelude.{MatchOption, IsSome, is_some}
use Rattle.std.proofs.Math.ListN.{set}
use Rattle.std.proofs.lemmas.Bool.{cases_lt}
use Rattle.std.proofs.lemmas.List.{get_or_past}
use Rattle.std.proofs.lemmas.List.Sums.{sum_by-set, sum_by-cons}
use Rattle.pp_requests.specs.Seats.{since, seat_count, IsLongest, IsNone, IsDue, Seating}

-- a seat less, or none less
pub fewer : (seats : List (Option ℕ)) (seat limit : ℕ) → seat < length seats → seat_count seats ≤ limit
    → seat_count (set seats seat None) ≤ limit
fewer seats seat limit lt few =
    let change = sum_by-set (λ (o : Option ℕ). cond {A = ℕ} (is_some o) 1 0) seats seat None None lt in
    omega arith

-- of the seats below one: a seat with its moment, where there is one
pub record IsBest (seats : List (Option ℕ)) (below : ℕ) (best : ℕ × ℕ) : Type 0 where
  pub low : best.0 < below
  pub is_there : since seats best.0 ≡ Some best.1
  pub first : (other m : ℕ) → other < below → since seats other ≡ Some m → (best.1 < m) ⊎ ((best.1 ≡ m) × (best.0 ≤ other))

abbrev pub IsLongestBelow : List (Option ℕ) → ℕ → Option (ℕ × ℕ) → Type 0
IsLongestBelow seats below best =
    MatchOption best ((other : ℕ) → other < below → since seats other ≡ None) (IsBest seats below)

-- where no seat is there the count is 0
pub none_counted : (seats : List (Option ℕ)) → IsNone seats → seat_count seats ≡ 0
none_counted [] none = refl
none_counted (x ∷ xs) none =
    let rest = none_counted xs (λ seat. none (suc seat)) in
    let first : x ≡ None = none 0 in
    sum_by-cons (λ (o : Option ℕ). cond {A = ℕ} (is_some o) 1 0) x xs
    ∙ ap (λ (o : Option ℕ). cond {A = ℕ} (is_some o) 1 0 + seat_count xs) first ∙ omega arith

-- past the last seat there is none
past_all : (seats : List (Option ℕ)) (seat n : ℕ) → length seats ≡ n → n ≤ seat → since seats seat ≡ None
past_all seats seat n len past = get_or_past seats seat None (omega arith)

longest : (seats : List (Option ℕ)) (n : ℕ) (b : ℕ × ℕ) → length seats ≡ n → IsBest seats n b → IsLongest seats b.0
longest seats n b len best = record {
  moment = b.1;
  is_there = best.is_there;
  first = λ other m there. elim (cases_lt other n) [
    | inl lt ↦ best.first other m lt there
    | inr ge ↦ (let none = past_all seats other n len ge in cc)
  ];
}

pub longest_of_all : (seats : List (Option ℕ)) (n : ℕ) (best : Option (ℕ × ℕ)) (b : ℕ × ℕ) → length seats ≡ n → IsLongestBelow seats n best
    → best ≡ Some b → IsLongest seats b.0
longest_of_all seats n best b len below is =
    longest seats n b len (subst (λ (o : Option (ℕ × ℕ)). IsLongestBelow seats n o) is below)

-- with no seat in a slot nothing is due
pub never_due : (o : Option (ℕ × ℕ)) (seating : Seating) (now : ℕ) → o ≡ None → seat_count seating.slots ≡ 0
    → (IsSome o → IsDue seating now) × (IsDue seating now → IsSome o)
never_due None seating now is none = (λ some. cc, λ due. (let taken = due.taken in absurd (omega arith)))
never_due (Some x) seating now is none = cc
