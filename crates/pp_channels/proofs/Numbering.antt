-- The least number that no channel has.
use Rattle.std.proofs.Common.{◌≡◌, ◌⊎◌, ℕ, zero, suc, ◌+◌, ◌≤◌, ◌<◌, Bool, true, false, cond, Option, Some, None, List, [], ◌∷◌, length, refl, sym, ◌∙◌, ap, inl, inr, arith}
use Rattle.std.specs.Prelude.{◌==◌, ◌||◌, not, find, IsSome, is_none, position}
use Rattle.std.specs.List.{list_any, range_with_len}
use Rattle.std.proofs.lemmas.Bool.{ne_eqb, eqb-true, cases_Bool, false≢true, or_parts}
use Rattle.std.proofs.lemmas.Option.{same_Some}
use Rattle.std.proofs.lemmas.List.Folds.{list_any_at}
use Rattle.std.proofs.lemmas.List.Quantifiers.{position-Some}
use Rattle.pp_channels.specs.declared.channel.Channel.{Channel}
use Rattle.pp_channels.specs.Seats.{at_seat, has_local, is_used, least_unused}

-- how many of so many numbers from one on pass a test
passing : (ℕ → Bool) → ℕ → ℕ → ℕ
passing test a zero = 0
passing test a (suc n) = cond (test a) 1 0 + passing test (a + 1) n

none_pass : (test : ℕ → Bool) (a n : ℕ) → ((k : ℕ) → a ≤ k → test k ≡ false) → passing test a n ≡ 0
unfolding passing
none_pass test a zero none = refl
none_pass test a (suc n) none =
    let later = none_pass test (a + 1) n (λ k le. none k (omega arith)) in
    rw (none a (omega arith)) (omega arith)

-- At most one number is a given one.
one_passes : (x a n : ℕ) → passing (λ k. x == k) a n ≤ 1
unfolding passing
one_passes x a zero = omega arith
one_passes x a (suc n) =
    let later = one_passes x (a + 1) n in
    elim (cases_Bool (x == a)) [
      | inl same ↦ (let e = eqb-true x a same in
          let none = none_pass (λ k. x == k) (a + 1) n (λ k le. ne_eqb x k (λ is. omega arith)) in
          rw same (omega arith))
      | inr other ↦ rw other (omega arith)
    ]

either_passes : (p q : ℕ → Bool) (a n : ℕ) → passing (λ k. p k || q k) a n ≤ passing p a n + passing q a n
unfolding passing
either_passes p q a zero = omega arith
either_passes p q a (suc n) =
    let later = either_passes p q (a + 1) n in
    elim (p a) as (λ b. cond (b || q a) 1 0 + passing (λ k. p k || q k) (a + 1) n ≤ cond b 1 0 + passing p (a + 1) n + (cond (q a) 1 0 + passing q (a + 1) n)) [
      | true ↦ omega arith
      | false ↦ omega arith
    ]

-- how many seats are in use
taken : List (Option Channel) → ℕ
taken [] = 0
taken (None ∷ channels) = taken channels
taken (Some c ∷ channels) = 1 + taken channels

used_pass : (channels : List (Option Channel)) (a n : ℕ) → passing (is_used channels) a n ≤ taken channels
unfolding passing taken
used_pass [] a n = omega (arith, none_pass (is_used []) a n (λ k le. refl))
used_pass (None ∷ channels) a n = used_pass channels a n
used_pass (Some c ∷ channels) a n =
    omega (arith, either_passes (λ k. c.local == k) (is_used channels) a n, one_passes c.local a n, used_pass channels a n)

-- Some number is found that doesn't pass, or all pass.
found_or_all : (test : ℕ → Bool) (a n : ℕ) → IsSome (find (λ k. not (test k)) (range_with_len a n)) ⊎ (passing test a n ≡ n)
unfolding passing
found_or_all test a zero = inr refl
found_or_all test a (suc n) =
    let later = found_or_all test (a + 1) n in
    elim (test a) as (λ b. IsSome (cond (not b) (Some a) (find (λ k. not (test k)) (range_with_len (a + 1) n)))
    ⊎ (cond b 1 0 + passing test (a + 1) n ≡ suc n)) [
      | true ↦ (elim later [ inl found ↦ inl found | inr all ↦ inr (omega arith) ])
      | false ↦ inl refl
    ]

taken_within : (channels : List (Option Channel)) → taken channels ≤ length channels
unfolding taken
taken_within [] = omega arith
taken_within (None ∷ channels) = omega (arith, taken_within channels)
taken_within (Some c ∷ channels) = omega (arith, taken_within channels)

-- A seat is free, so fewer are in use than there are.
fewer_taken : (channels : List (Option Channel)) → list_any is_none channels ≡ true → taken channels < length channels
unfolding taken
fewer_taken [] free = absurd (false≢true free)
fewer_taken (None ∷ channels) free = omega (arith, taken_within channels)
fewer_taken (Some c ∷ channels) free = omega (arith, fewer_taken channels free)

-- Where a seat is free, some number up to the number of seats is unused.
pub found_unused : (channels : List (Option Channel)) (place : Option ℕ) → place ≡ position is_none channels → IsSome place
    → IsSome (least_unused channels)
found_unused channels None is free = cc
found_unused channels (Some place) is free =
    let first = position-Some is_none channels place None (sym is) in
    let some = list_any_at is_none channels place None first.0 first.1 in
    elim (found_or_all (is_used channels) 1 (length channels)) [
      | inl found ↦ found
      | inr all ↦ absurd (omega (arith, fewer_taken channels some, used_pass channels 1 (length channels)))
    ]

-- What is found passes, and is among the numbers.
pub found_is : (test : ℕ → Bool) (a n k : ℕ) → find (λ i. not (test i)) (range_with_len a n) ≡ Some k → (a ≤ k) × (test k ≡ false)
found_is test a zero k found = cc
found_is test a (suc n) k found = elim (cases_Bool (test a)) [
  | inl passes ↦ (let later : find (λ i. not (test i)) (range_with_len (a + 1) n) ≡ Some k = rw passes at found in
      let rest = found_is test (a + 1) n k later in
      (omega (arith, rest.0), rest.1))
  | inr fails ↦ (let here : Some a ≡ Some k = rw fails at found in
      let same = same_Some a k here in
      (omega arith, ap test (sym same) ∙ fails))
]

-- A number that isn't in use is no seat's.
pub unused_there : (channels : List (Option Channel)) (number seat : ℕ) → is_used channels number ≡ false → has_local number (at_seat channels seat) ≡ false
unused_there [] number seat unused = refl
unused_there (c ∷ channels) number zero unused = (or_parts (has_local number c) (is_used channels number) unused).0
unused_there (c ∷ channels) number (suc seat) unused =
    unused_there channels number seat (or_parts (has_local number c) (is_used channels number) unused).1
