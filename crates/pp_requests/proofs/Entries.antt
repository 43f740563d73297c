-- Lists of own requests by rising chunk: what entering one and taking one out does.
use Rattle.std.proofs.Common.{◌≡◌, ℕ, zero, suc, ◌+◌, ◌-◌, ◌≤◌, ◌<◌, ◌==◌, nat_le, nat_lt, ◌||◌, Bool, true, false, cond, Option, Some, None, List, [], ◌∷◌, length, get_or, refl, sym, ◌∙◌, ap, inl, inr, arith}
use Rattle.std.specs.Prelude.{MatchOption, insert, remove, is_some, unwrap_or, position}
use Rattle.std.specs.List.{list_any, position_or_len}
use Rattle.std.proofs.lemmas.Bool.{cases_eq, cases_lt, cases_Bool}
use Rattle.std.proofs.lemmas.Bool.Decides.{nat_tests}
use Rattle.std.proofs.lemmas.List.Quantifiers.{position-Some}
use Rattle.std.proofs.lemmas.List.Sums.{fails_before_first}
use Rattle.pp_requests.specs.declared.asking.Asking.{Asking}
use Rattle.pp_requests.specs.Moments.{asked_at, IsRisingFrom, IsLeastExpired, NoneExpired}

pub rising_weaken : (low high : ℕ) (xs : List Asking) → low ≤ high → IsRisingFrom high xs → IsRisingFrom low xs
rising_weaken low high [] le rising = tt
rising_weaken low high (x ∷ xs) le rising = (omega (arith, rising.0), rising.1)

-- what was asked for lies at the beginning or above
pub at_least : (xs : List Asking) (low j m : ℕ) → IsRisingFrom low xs → asked_at xs j ≡ Some m → low ≤ j
at_least [] low j m rising is = cc
at_least (x ∷ xs) low j m rising is = elim (cases_eq x.chunk j) [
  | inl e ↦ omega (arith, rising.0)
  | inr ne ↦
      let test : (x.chunk == j) ≡ false = grind (arith, nat_tests) in
      let rest : asked_at xs j ≡ Some m = sym (ap (λ b. cond b (Some x.moment) (asked_at xs j)) test) ∙ is in
      let above = at_least xs (x.chunk + 1) j m rising.1 rest in
      omega (arith, rising.0)
]

pub none_below : (xs : List Asking) (low j : ℕ) → IsRisingFrom low xs → j < low → asked_at xs j ≡ None
none_below [] low j rising lt = refl
none_below (x ∷ xs) low j rising lt =
    let up = rising.0 in
    let test : (x.chunk == j) ≡ false = grind (arith, nat_tests) in
    ap (λ b. cond b (Some x.moment) (asked_at xs j)) test ∙ none_below xs (x.chunk + 1) j rising.1 (omega arith)

pub member_least : (xs : List Asking) (low k : ℕ) (x : Asking) → IsRisingFrom low xs → k < length xs → x ≡ get_or xs k x → low ≤ x.chunk
member_least [] low k x rising lt at = absurd (omega arith)
member_least (y ∷ ys) low zero x rising lt at = omega (arith, ap (λ z. z.chunk) at, rising.0)
member_least (y ∷ ys) low (suc k) x rising lt at =
    let rest = member_least ys (y.chunk + 1) k x rising.1 (omega arith) at in omega (arith, rising.0)

pub member_asked : (xs : List Asking) (low k : ℕ) (x : Asking) → IsRisingFrom low xs → k < length xs → x ≡ get_or xs k x
    → asked_at xs x.chunk ≡ Some x.moment
member_asked [] low k x rising lt at = absurd (omega arith)
member_asked (y ∷ ys) low zero x rising lt at =
    let test : (y.chunk == x.chunk) ≡ true = (let e = ap (λ z. z.chunk) at in grind (arith, nat_tests)) in
    ap (λ b. cond b (Some y.moment) (asked_at ys x.chunk)) test ∙ ap (λ z. Some z.moment) (sym at)
member_asked (y ∷ ys) low (suc k) x rising lt at =
    let above = member_least ys (y.chunk + 1) k x rising.1 (omega arith) at in
    let test : (y.chunk == x.chunk) ≡ false = grind (arith, nat_tests) in
    ap (λ b. cond b (Some y.moment) (asked_at ys x.chunk)) test ∙ member_asked ys (y.chunk + 1) k x rising.1 (omega arith) at

-- one less
pub removed_rising : (xs : List Asking) (low k : ℕ) → IsRisingFrom low xs → IsRisingFrom low (remove xs k)
removed_rising [] low zero rising = tt
removed_rising [] low (suc k) rising = tt
removed_rising (y ∷ ys) low zero rising = rising_weaken low (y.chunk + 1) ys (omega (arith, rising.0)) rising.1
removed_rising (y ∷ ys) low (suc k) rising = (rising.0, removed_rising ys (y.chunk + 1) k rising.1)

-- where nothing passes, each place is before the first that does
pub all_before : (p : Asking → Bool) (xs : List Asking) (k : ℕ) → position p xs ≡ None → k < length xs → k < position_or_len p xs
all_before p xs k none lt =
    let first = position_or_len p xs in
    elim (cases_Bool (nat_lt first (length xs))) [
      | inl t ↦
          let e : position p xs ≡ Some first = ap (λ b. cond b (Some first) None) t in
          cc
      | inr f ↦ let past : length xs ≤ first = grind (arith, nat_tests) in omega arith
    ]

-- Where a chunk is to stand: those before it are less, and the next is not.
pub record IsPlace (xs : List Asking) (i n : ℕ) : Type 0 where
  pub within : n ≤ length xs
  pub before : (k : ℕ) (d : Asking) → k < n → nat_le i (get_or xs k d).chunk ≡ false
  pub after : n < length xs → (d : Asking) → nat_le i (get_or xs n d).chunk ≡ true

pub is_place : (xs : List Asking) (i n : ℕ) (o : Option ℕ) → o ≡ position (λ x. nat_le i x.chunk) xs → n ≡ unwrap_or o (length xs)
    → IsPlace xs i n
is_place xs i n (Some k) is n_is =
    let at = λ (d : Asking). position-Some (λ x. nat_le i x.chunk) xs k d (sym is) in
    record {
      within = (let any : Asking = record { chunk = 0; moment = 0; overtaken = 0 } in omega (arith, n_is, (at any).0));
      before = λ l d lt. (at d).2 l (omega (arith, n_is));
      after = λ lt d. ap (λ m. nat_le i (get_or xs m d).chunk) n_is ∙ (at d).1;
    }
is_place xs i n None is n_is = record {
  within = omega (arith, n_is);
  before = λ l d lt. fails_before_first (λ x. nat_le i x.chunk) xs l d (all_before (λ x. nat_le i x.chunk) xs l (sym is) (omega (arith, n_is)));
  after = λ lt d. absurd (omega (arith, n_is));
}

pub inserted_rising : (xs : List Asking) (low n i : ℕ) (e : Asking) → e.chunk ≡ i → IsRisingFrom low xs → low ≤ i
    → asked_at xs i ≡ None → IsPlace xs i n → IsRisingFrom low (insert xs n e)
inserted_rising [] low zero i e is rising least absent place = (omega arith, tt)
inserted_rising [] low (suc n) i e is rising least absent place = let within = place.within in absurd (omega arith)
inserted_rising (y ∷ ys) low zero i e is rising least absent place =
    let after : nat_le i y.chunk ≡ true = place.after (omega arith) y in
    let le : i ≤ y.chunk = grind (arith, nat_tests) in
    let apart : y.chunk ≡ i → ⊥ = λ same.
    let test : (y.chunk == i) ≡ true = grind (arith, nat_tests) in
    let there : asked_at (y ∷ ys) i ≡ Some y.moment = ap (λ b. cond b (Some y.moment) (asked_at ys i)) test in cc in
    (omega arith, (omega arith, rising.1))
inserted_rising (y ∷ ys) low (suc n) i e is rising least absent place =
    let before : nat_le i y.chunk ≡ false = place.before 0 y (omega arith) in
    let lt : y.chunk < i = grind (arith, nat_tests) in
    let test : (y.chunk == i) ≡ false = grind (arith, nat_tests) in
    let absent' : asked_at ys i ≡ None = sym (ap (λ b. cond b (Some y.moment) (asked_at ys i)) test) ∙ absent in
    let within = place.within in (
      rising.0,
      inserted_rising ys (y.chunk + 1) n i e is rising.1 (omega arith) absent' (record {
        within = omega arith;
        before = λ k d less. place.before (suc k) d (omega arith);
        after = λ less d. place.after (omega arith) d;
      }),
    )

-- whether a chunk was asked for
pub any_asked : (xs : List Asking) (i : ℕ) → list_any (λ x. x.chunk == i) xs ≡ is_some (asked_at xs i)
any_asked [] i = refl
any_asked (x ∷ xs) i = elim (x.chunk == i)
    as (λ b. (b || list_any (λ y. y.chunk == i) xs) ≡ is_some (cond b (Some x.moment) (asked_at xs i))) [
      | true ↦ refl
      | false ↦ any_asked xs i
    ]

-- where no entry passes a test of its moment, none that was asked for does
none_passes : (test : ℕ → Bool) (xs : List Asking) (j m : ℕ) → ((k : ℕ) (d : Asking) → k < length xs → test (get_or xs k d).moment ≡ false)
    → asked_at xs j ≡ Some m → test m ≡ false
none_passes test [] j m fails is = cc
none_passes test (x ∷ xs) j m fails is = elim (cases_eq x.chunk j) [
  | inl e ↦
      let here : (x.chunk == j) ≡ true = grind (arith, nat_tests) in
      let same : Some x.moment ≡ Some m = sym (ap (λ b. cond b (Some x.moment) (asked_at xs j)) here) ∙ is in
      let m_is : x.moment ≡ m = cc in
      ap (λ n. test n) (sym m_is) ∙ fails 0 x (omega arith)
  | inr ne ↦
      let here : (x.chunk == j) ≡ false = grind (arith, nat_tests) in
      none_passes test xs j m (λ k d lt. fails (suc k) d (omega arith))
      (sym (ap (λ b. cond b (Some x.moment) (asked_at xs j)) here) ∙ is)
]

-- the first entry that passes a test of its moment has the least chunk of those that do
least_passes : (test : ℕ → Bool) (xs : List Asking) (low k : ℕ) (x : Asking) → IsRisingFrom low xs → k < length xs → x ≡ get_or xs k x
    → ((l : ℕ) (d : Asking) → l < k → test (get_or xs l d).moment ≡ false)
    → (j m : ℕ) → asked_at xs j ≡ Some m → test m ≡ true → x.chunk ≤ j
least_passes test [] low k x rising lt at fails j m is passes = absurd (omega arith)
least_passes test (y ∷ ys) low zero x rising lt at fails j m is passes =
    let first : IsRisingFrom y.chunk (y ∷ ys) = (omega arith, rising.1) in
    let least = at_least (y ∷ ys) y.chunk j m first is in
    omega (arith, ap (λ z. z.chunk) at)
least_passes test (y ∷ ys) low (suc k) x rising lt at fails j m is passes = elim (cases_eq y.chunk j) [
  | inl e ↦
      let here : (y.chunk == j) ≡ true = grind (arith, nat_tests) in
      let same : Some y.moment ≡ Some m = sym (ap (λ b. cond b (Some y.moment) (asked_at ys j)) here) ∙ is in
      let m_is : y.moment ≡ m = cc in
      let fails' = fails 0 y (omega arith) in
      let passes' : test y.moment ≡ true = ap (λ n. test n) m_is ∙ passes in
      cc
  | inr ne ↦
      let here : (y.chunk == j) ≡ false = grind (arith, nat_tests) in
      least_passes test ys (y.chunk + 1) k x rising.1 (omega arith) at (λ l d less. fails (suc l) d (omega arith)) j m
      (sym (ap (λ b. cond b (Some y.moment) (asked_at ys j)) here) ∙ is) passes
]

-- what the first entry that passes a test of its age says
pub first_expired : (xs : List Asking) (now k : ℕ) (x : Asking) → IsRisingFrom 0 xs
    → Some k ≡ position (λ y. nat_le 10_000_000 (now - y.moment)) xs → x ≡ get_or xs k x → IsLeastExpired xs now x.chunk
first_expired xs now k x rising is at =
    let found = λ (d : Asking). position-Some (λ y. nat_le 10_000_000 (now - y.moment)) xs k d (sym is) in
    let passes : nat_le 10_000_000 (now - x.moment) ≡ true = ap (λ y. nat_le 10_000_000 (now - y.moment)) at ∙ (found x).1 in
    record {
      moment = x.moment;
      asked = member_asked xs 0 k x rising (found x).0 at;
      expired = grind (arith, nat_tests);
      least = λ j m asked old.
          let test : nat_le 10_000_000 (now - m) ≡ true = grind (arith, nat_tests) in
          least_passes (λ n. nat_le 10_000_000 (now - n)) xs 0 k x rising (found x).0 at (λ l d lt. (found d).2 l lt) j m asked test;
    }

pub none_expired : (xs : List Asking) (now : ℕ) → position (λ y. nat_le 10_000_000 (now - y.moment)) xs ≡ None → NoneExpired xs now
none_expired xs now none j m asked =
    let fails = none_passes (λ n. nat_le 10_000_000 (now - n)) xs j m
    (λ k d lt. fails_before_first (λ y. nat_le 10_000_000 (now - y.moment)) xs k d (all_before (λ y. nat_le 10_000_000 (now - y.moment)) xs k none lt)) asked in
    elim (cases_lt now (m + 10_000_000)) [
      | inl lt ↦ lt
      | inr ge ↦ (let test : nat_le 10_000_000 (now - m) ≡ true = grind (arith, nat_tests) in cc)
    ]

-- an entry found by its chunk, and none
pub found_chunk : (xs : List Asking) (i k : ℕ) (x : Asking) → Some k ≡ position (λ y. y.chunk == i) xs → x ≡ get_or xs k x
    → (k < length xs) × (x.chunk ≡ i)
found_chunk xs i k x is at =
    let found = position-Some (λ y. y.chunk == i) xs k x (sym is) in
    let same : (x.chunk == i) ≡ true = ap (λ y. y.chunk == i) at ∙ found.1 in
    (found.0, grind (arith, nat_tests))

-- nothing expired, as the code says it
pub match_none : (o : Option ℕ) (xs : List Asking) (now : ℕ) → o ≡ None → NoneExpired xs now
    → MatchOption o (NoneExpired xs now) (IsLeastExpired xs now)
match_none None xs now is none = none
match_none (Some i) xs now is none = cc
