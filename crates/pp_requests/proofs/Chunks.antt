-- The entry of each chunk in a list of own requests: what entering one, taking one out, and changing all does.
use Rattle.std.proofs.Common.{◌≡◌, ℕ, zero, suc, ◌+◌, ◌≤◌, ◌<◌, ◌==◌, nat_le, nat_lt, ◌&&◌, Bool, true, false, cond, Option, Some, None, List, [], ◌∷◌, ◌++◌, length, map, take, drop, get_or, refl, sym, ◌∙◌, ap, subst, min, inl, inr, arith}
use Rattle.std.specs.Prelude.{MatchOption, insert, remove, is_some, position, option_map}
use Rattle.std.proofs.lemmas.Bool.{cases_eq}
use Rattle.std.proofs.lemmas.Bool.Decides.{nat_tests}
use Rattle.std.proofs.lemmas.List.Quantifiers.{position-Some}
use Rattle.std.proofs.lemmas.List.Sums.{fails_before_first}
use Rattle.std.specs.List.{refill}
use Rattle.std.proofs.Math.Seq.{take-append_seam}
use Rattle.pp_requests.specs.declared.asking.Asking.{Asking}
use Rattle.pp_requests.specs.Moments.{asked_at, entry_of, IsRisingFrom, Changes, ChangesEntry, is_lost, is_timely, timely, overtaken_by, passed_by, Answers, IsLeastLost, NoneLost}
use Rattle.pp_requests.proofs.Entries.{member_least, all_before}

-- ---- one entry

moment_of : Option Asking → Option ℕ
moment_of o = option_map (λ x. x.moment) o

-- the moment is that of the entry
pub asked_entry : (xs : List Asking) (i : ℕ) → asked_at xs i ≡ option_map (λ x. x.moment) (entry_of xs i)
asked_entry [] i = refl
asked_entry (x ∷ xs) i = elim (x.chunk == i)
    as (λ b. cond b (Some x.moment) (asked_at xs i) ≡ option_map (λ (z : Asking). z.moment) (cond b (Some x) (entry_of xs i))) [
      | true ↦ refl
      | false ↦ asked_entry xs i
    ]

-- where an entry is another one or none, so is its moment
pub asked_spared : (gone : Bool) (i : ℕ) (old new : List Asking) → entry_of new i ≡ cond gone None (entry_of old i) → asked_at new i ≡ cond gone None (asked_at old i)
asked_spared gone i old new is =
    asked_entry new i ∙ ap (λ (o : Option Asking). option_map (λ x. x.moment) o) is ∙ of gone
    ∙ ap (λ (o : Option ℕ). cond gone None o) (sym (asked_entry old i))
  where
    of : (b : Bool) → option_map (λ (x : Asking). x.moment) (cond b None (entry_of old i)) ≡ cond b None (option_map (λ (x : Asking). x.moment) (entry_of old i))
    of true = refl
    of false = refl

pub asked_some : (xs : List Asking) (i : ℕ) → is_some (asked_at xs i) ≡ is_some (entry_of xs i)
asked_some xs i = ap (λ (o : Option ℕ). is_some o) (asked_entry xs i) ∙ of (entry_of xs i)
  where
    of : (o : Option Asking) → is_some (option_map (λ (x : Asking). x.moment) o) ≡ is_some o
    of None = refl
    of (Some x) = refl

-- a change of an entry is one of its moment
pub changed_moment : (i : ℕ) (e : Option Asking) (old new : List Asking) → ChangesEntry i e old new → Changes i (option_map (λ x. x.moment) e) old new
changed_moment i e old new changes j =
    asked_entry new j ∙ ap (λ (o : Option Asking). option_map (λ x. x.moment) o) (changes j) ∙ of (i == j)
    ∙ ap (λ (o : Option ℕ). cond (i == j) (option_map (λ x. x.moment) e) o) (sym (asked_entry old j))
  where
    of : (b : Bool) → option_map (λ (x : Asking). x.moment) (cond b e (entry_of old j))
        ≡ cond b (option_map (λ (x : Asking). x.moment) e) (option_map (λ (x : Asking). x.moment) (entry_of old j))
    of true = refl
    of false = refl

entry_below : (xs : List Asking) (low j : ℕ) → IsRisingFrom low xs → j < low → entry_of xs j ≡ None
entry_below [] low j rising lt = refl
entry_below (x ∷ xs) low j rising lt =
    let up = rising.0 in
    let test : (x.chunk == j) ≡ false = grind (arith, nat_tests) in
    ap (λ b. cond b (Some x) (entry_of xs j)) test ∙ entry_below xs (x.chunk + 1) j rising.1 (omega arith)

pub entry_least : (xs : List Asking) (low j : ℕ) (x : Asking) → IsRisingFrom low xs → entry_of xs j ≡ Some x → low ≤ j
entry_least [] low j x rising is = cc
entry_least (y ∷ ys) low j x rising is = elim (cases_eq y.chunk j) [
  | inl e ↦ omega (arith, rising.0)
  | inr ne ↦
      let test : (y.chunk == j) ≡ false = grind (arith, nat_tests) in
      let rest : entry_of ys j ≡ Some x = sym (ap (λ b. cond b (Some y) (entry_of ys j)) test) ∙ is in
      let above = entry_least ys (y.chunk + 1) j x rising.1 rest in
      omega (arith, rising.0)
]

-- an entry is of its chunk
pub entry_chunk : (xs : List Asking) (j : ℕ) (x : Asking) → entry_of xs j ≡ Some x → x.chunk ≡ j
entry_chunk [] j x is = cc
entry_chunk (y ∷ ys) j x is = elim (cases_eq y.chunk j) [
  | inl e ↦
      let test : (y.chunk == j) ≡ true = grind (arith, nat_tests) in
      let same : Some y ≡ Some x = sym (ap (λ b. cond b (Some y) (entry_of ys j)) test) ∙ is in
      let chunk : Some y.chunk ≡ Some x.chunk = ap (λ (o : Option Asking). option_map (λ z. z.chunk) o) same in cc
  | inr ne ↦
      let test : (y.chunk == j) ≡ false = grind (arith, nat_tests) in
      entry_chunk ys j x (sym (ap (λ b. cond b (Some y) (entry_of ys j)) test) ∙ is)
]

pub entry_there : (xs : List Asking) (low k : ℕ) (x : Asking) → IsRisingFrom low xs → k < length xs → x ≡ get_or xs k x → entry_of xs x.chunk ≡ Some x
entry_there [] low k x rising lt at = absurd (omega arith)
entry_there (y ∷ ys) low zero x rising lt at =
    let test : (y.chunk == x.chunk) ≡ true = (let e = ap (λ z. z.chunk) at in grind (arith, nat_tests)) in
    ap (λ b. cond b (Some y) (entry_of ys x.chunk)) test ∙ ap (λ z. Some z) (sym at)
entry_there (y ∷ ys) low (suc k) x rising lt at =
    let above = member_least ys (y.chunk + 1) k x rising.1 (omega arith) at in
    let test : (y.chunk == x.chunk) ≡ false = grind (arith, nat_tests) in
    ap (λ b. cond b (Some y) (entry_of ys x.chunk)) test ∙ entry_there ys (y.chunk + 1) k x rising.1 (omega arith) at

-- ---- one less, and one more

pub removed_entry : (xs : List Asking) (low k : ℕ) (x : Asking) → IsRisingFrom low xs → k < length xs → x ≡ get_or xs k x
    → ChangesEntry x.chunk None xs (remove xs k)
removed_entry [] low k x rising lt at j = absurd (omega arith)
removed_entry (y ∷ ys) low zero x rising lt at j =
    let same = ap (λ z. z.chunk) at in
    elim (cases_eq x.chunk j) [
      | inl e ↦
          let test : (x.chunk == j) ≡ true = grind (arith, nat_tests) in
          entry_below ys (y.chunk + 1) j rising.1 (omega arith) ∙ sym (ap (λ b. cond b None (entry_of (y ∷ ys) j)) test)
      | inr ne ↦
          let test : (x.chunk == j) ≡ false = grind (arith, nat_tests) in
          let test' : (y.chunk == j) ≡ false = grind (arith, nat_tests) in
          sym (ap (λ b. cond b None (entry_of (y ∷ ys) j)) test ∙ ap (λ b. cond b (Some y) (entry_of ys j)) test')
    ]
removed_entry (y ∷ ys) low (suc k) x rising lt at j =
    let rest = removed_entry ys (y.chunk + 1) k x rising.1 (omega arith) at j in
    let above = member_least ys (y.chunk + 1) k x rising.1 (omega arith) at in
    elim (cases_eq y.chunk j) [
      | inl e ↦
          let test : (x.chunk == j) ≡ false = grind (arith, nat_tests) in
          let test' : (y.chunk == j) ≡ true = grind (arith, nat_tests) in
          ap (λ b. cond b (Some y) (entry_of (remove ys k) j)) test'
          ∙ sym (ap (λ b. cond b None (entry_of (y ∷ ys) j)) test ∙ ap (λ b. cond b (Some y) (entry_of ys j)) test')
      | inr ne ↦
          let test' : (y.chunk == j) ≡ false = grind (arith, nat_tests) in
          ap (λ b. cond b (Some y) (entry_of (remove ys k) j)) test' ∙ rest
          ∙ ap (λ o. cond (x.chunk == j) None o) (sym (ap (λ b. cond b (Some y) (entry_of ys j)) test'))
    ]

pub inserted_entry : (xs : List Asking) (n i : ℕ) (e : Asking) → e.chunk ≡ i → entry_of xs i ≡ None
    → n ≤ length xs → ChangesEntry i (Some e) xs (insert xs n e)
inserted_entry xs zero i e is absent within j = ap (λ k. cond (k == j) (Some e) (entry_of xs j)) is
inserted_entry [] (suc n) i e is absent within j = absurd (omega arith)
inserted_entry (y ∷ ys) (suc n) i e is absent within j =
    elim (cases_eq y.chunk i) [
      | inl same ↦
          let test : (y.chunk == i) ≡ true = grind (arith, nat_tests) in
          let there : entry_of (y ∷ ys) i ≡ Some y = ap (λ b. cond b (Some y) (entry_of ys i)) test in cc
      | inr apart ↦
          let test : (y.chunk == i) ≡ false = grind (arith, nat_tests) in
          let absent' : entry_of ys i ≡ None = sym (ap (λ b. cond b (Some y) (entry_of ys i)) test) ∙ absent in
          let rest = inserted_entry ys n i e is absent' (omega arith) j in
          elim (cases_eq y.chunk j) [
            | inl here ↦
                let test' : (y.chunk == j) ≡ true = grind (arith, nat_tests) in
                let other : (i == j) ≡ false = grind (arith, nat_tests) in
                ap (λ b. cond b (Some y) (entry_of (insert ys n e) j)) test'
                ∙ sym (ap (λ b. cond b (Some e) (entry_of (y ∷ ys) j)) other ∙ ap (λ b. cond b (Some y) (entry_of ys j)) test')
            | inr past ↦
                let test' : (y.chunk == j) ≡ false = grind (arith, nat_tests) in
                ap (λ b. cond b (Some y) (entry_of (insert ys n e) j)) test' ∙ rest
                ∙ ap (λ o. cond (i == j) (Some e) o) (sym (ap (λ b. cond b (Some y) (entry_of ys j)) test'))
          ]
    ]

pub none_entry : (xs : List Asking) (i : ℕ) → asked_at xs i ≡ None → entry_of xs i ≡ None
none_entry xs i none = of (entry_of xs i) (sym (asked_entry xs i) ∙ none)
  where
    of : (o : Option Asking) → option_map (λ (x : Asking). x.moment) o ≡ None → o ≡ None
    of None e = refl
    of (Some x) e = cc

-- nothing changes where nothing was asked for
pub unchanged_entry : (xs : List Asking) (i : ℕ) → entry_of xs i ≡ None → ChangesEntry i None xs xs
unchanged_entry xs i none j = elim (cases_eq i j) [
  | inl e ↦
      let test : (i == j) ≡ true = grind (arith, nat_tests) in
      ap (λ k. entry_of xs k) (sym e) ∙ none ∙ sym (ap (λ b. cond b None (entry_of xs j)) test)
  | inr ne ↦
      let test : (i == j) ≡ false = grind (arith, nat_tests) in
      sym (ap (λ b. cond b None (entry_of xs j)) test)
]

-- what is found by its chunk
pub found_entry : (xs : List Asking) (i : ℕ) → position (λ y. y.chunk == i) xs ≡ None → entry_of xs i ≡ None
found_entry xs i none = absent xs (λ k d lt. fails_before_first (λ y. y.chunk == i) xs k d (all_before (λ y. y.chunk == i) xs k none lt))
  where
    absent : (ys : List Asking) → ((k : ℕ) (d : Asking) → k < length ys → ((get_or ys k d).chunk == i) ≡ false) → entry_of ys i ≡ None
    absent [] fails = refl
    absent (y ∷ ys) fails =
        ap (λ b. cond b (Some y) (entry_of ys i)) (fails 0 y (omega arith))
        ∙ absent ys (λ k d lt. fails (suc k) d (omega arith))

-- ---- all changed

-- an answer changes no chunk, and no moment
pub overtaken_chunk : (a x : Asking) → (overtaken_by a x).chunk ≡ x.chunk
overtaken_chunk a x = of (nat_lt x.chunk a.chunk && nat_le x.moment a.moment)
  where
    of : (b : Bool) → (cond b (record { chunk = x.chunk; moment = x.moment; overtaken = min (x.overtaken + 1) 3 }) x).chunk ≡ x.chunk
    of true = refl
    of false = refl

overtaken_moment : (a x : Asking) → (overtaken_by a x).moment ≡ x.moment
overtaken_moment a x = of (nat_lt x.chunk a.chunk && nat_le x.moment a.moment)
  where
    of : (b : Bool) → (cond b (record { chunk = x.chunk; moment = x.moment; overtaken = min (x.overtaken + 1) 3 }) x).moment ≡ x.moment
    of true = refl
    of false = refl

pub mapped_entry : (a : Asking) (xs : List Asking) (j : ℕ) → entry_of (map (overtaken_by a) xs) j ≡ option_map (overtaken_by a) (entry_of xs j)
mapped_entry a [] j = refl
mapped_entry a (x ∷ xs) j =
    ap (λ k. cond (k == j) (Some (overtaken_by a x)) (entry_of (map (overtaken_by a) xs) j)) (overtaken_chunk a x)
    ∙ ap (λ o. cond (x.chunk == j) (Some (overtaken_by a x)) o) (mapped_entry a xs j) ∙ of (x.chunk == j)
  where
    of : (b : Bool) → cond b (Some (overtaken_by a x)) (option_map (overtaken_by a) (entry_of xs j))
        ≡ option_map (overtaken_by a) (cond b (Some x) (entry_of xs j))
    of true = refl
    of false = refl

pub mapped_rising : (a : Asking) (low : ℕ) (xs : List Asking) → IsRisingFrom low xs → IsRisingFrom low (map (overtaken_by a) xs)
mapped_rising a low [] rising = tt
mapped_rising a low (x ∷ xs) rising =
    let chunk = overtaken_chunk a x in
    let up = rising.0 in
    (omega arith, subst (λ (k : ℕ). IsRisingFrom (k + 1) (map (overtaken_by a) xs)) (sym chunk) (mapped_rising a (x.chunk + 1) xs rising.1))

pub refilled : (xs ws : List Asking) → length ws ≡ length xs → refill (length xs) xs ws ≡ ws
refilled xs ws len =
    ap (λ (n : ℕ). take n (ws ++ drop (length ws) xs)) (sym len) ∙ take-append_seam ws (drop (length ws) xs)

pub timely_some : (now : ℕ) (x : Asking) (b : Bool) → is_timely now x ≡ b → timely now (Some x) ≡ cond b (Some x) None
timely_some now x b is = ap (λ (t : Bool). cond t (Some x) None) is

-- an answer, by what was taken out and what was changed then
pub answers : (now i : ℕ) (old mid : List Asking) (a : Option Asking) → a ≡ timely now (entry_of old i) → ChangesEntry i None old mid
    → (new : List Asking) → ((j : ℕ) → entry_of new j ≡ passed_by a (entry_of mid j)) → Answers now i old new
answers now i old mid a is changes new passed j =
    passed j ∙ ap (passed_by a) (changes j) ∙ of a (i == j) ∙ ap (λ (o : Option Asking). cond (i == j) None (passed_by o (entry_of old j))) is
  where
    of : (o : Option Asking) (b : Bool) → passed_by o (cond b None (entry_of old j)) ≡ cond b None (passed_by o (entry_of old j))
    of None true = refl
    of None false = refl
    of (Some x) true = refl
    of (Some x) false = refl

-- an answer takes out its chunk alone
pub answered_taken : (now i : ℕ) (old new : List Asking) → Answers now i old new → Changes i None old new
answered_taken now i old new answers j =
    asked_entry new j ∙ ap (λ (o : Option Asking). option_map (λ x. x.moment) o) (answers j)
    ∙ of (i == j) (timely now (entry_of old i)) (entry_of old j) ∙ ap (λ (o : Option ℕ). cond (i == j) None o) (sym (asked_entry old j))
  where
    passed : (p o : Option Asking) → option_map (λ (x : Asking). x.moment) (passed_by p o) ≡ option_map (λ (x : Asking). x.moment) o
    passed None o = refl
    passed (Some a) None = refl
    passed (Some a) (Some x) = ap Some (overtaken_moment a x)

    of : (b : Bool) (p o : Option Asking) → option_map (λ (x : Asking). x.moment) (cond b None (passed_by p o)) ≡ cond b None (option_map (λ (x : Asking). x.moment) o)
    of true p o = refl
    of false p o = passed p o

-- ---- lost ones

none_pass : (test : Asking → Bool) (xs : List Asking) (j : ℕ) (x : Asking) → ((k : ℕ) (d : Asking) → k < length xs → test (get_or xs k d) ≡ false)
    → entry_of xs j ≡ Some x → test x ≡ false
none_pass test [] j x fails is = cc
none_pass test (y ∷ ys) j x fails is = elim (cases_eq y.chunk j) [
  | inl e ↦
      let here : (y.chunk == j) ≡ true = grind (arith, nat_tests) in
      let same : Some y ≡ Some x = sym (ap (λ b. cond b (Some y) (entry_of ys j)) here) ∙ is in
      let y_is : y ≡ x = cc in
      ap test (sym y_is) ∙ fails 0 y (omega arith)
  | inr ne ↦
      let here : (y.chunk == j) ≡ false = grind (arith, nat_tests) in
      none_pass test ys j x (λ k d lt. fails (suc k) d (omega arith)) (sym (ap (λ b. cond b (Some y) (entry_of ys j)) here) ∙ is)
]

-- the first entry that passes a test has the least chunk of those that do
least_pass : (test : Asking → Bool) (xs : List Asking) (low k : ℕ) (x : Asking) → IsRisingFrom low xs → k < length xs → x ≡ get_or xs k x
    → ((l : ℕ) (d : Asking) → l < k → test (get_or xs l d) ≡ false)
    → (j : ℕ) (z : Asking) → entry_of xs j ≡ Some z → test z ≡ true → x.chunk ≤ j
least_pass test [] low k x rising lt at fails j z is passes = absurd (omega arith)
least_pass test (y ∷ ys) low zero x rising lt at fails j z is passes =
    let first : IsRisingFrom y.chunk (y ∷ ys) = (omega arith, rising.1) in
    let least = entry_least (y ∷ ys) y.chunk j z first is in
    omega (arith, ap (λ w. w.chunk) at)
least_pass test (y ∷ ys) low (suc k) x rising lt at fails j z is passes = elim (cases_eq y.chunk j) [
  | inl e ↦
      let here : (y.chunk == j) ≡ true = grind (arith, nat_tests) in
      let same : Some y ≡ Some z = sym (ap (λ b. cond b (Some y) (entry_of ys j)) here) ∙ is in
      let y_is : y ≡ z = cc in
      let fails' = fails 0 y (omega arith) in
      let passes' : test y ≡ true = ap test y_is ∙ passes in
      cc
  | inr ne ↦
      let here : (y.chunk == j) ≡ false = grind (arith, nat_tests) in
      least_pass test ys (y.chunk + 1) k x rising.1 (omega arith) at (λ l d less. fails (suc l) d (omega arith)) j z
      (sym (ap (λ b. cond b (Some y) (entry_of ys j)) here) ∙ is) passes
]

pub first_lost : (xs : List Asking) (k : ℕ) (x : Asking) → IsRisingFrom 0 xs → Some k ≡ position is_lost xs → x ≡ get_or xs k x → IsLeastLost xs x.chunk
first_lost xs k x rising is at =
    let found = λ (d : Asking). position-Some is_lost xs k d (sym is) in
    record {
      entry = x;
      there = entry_there xs 0 k x rising (found x).0 at;
      lost = ap is_lost at ∙ (found x).1;
      least = λ j z there lost. least_pass is_lost xs 0 k x rising (found x).0 at (λ l d lt. (found d).2 l lt) j z there lost;
    }

pub none_lost : (xs : List Asking) → position is_lost xs ≡ None → NoneLost xs
none_lost xs none j x is = none_pass is_lost xs j x (λ k d lt. fails_before_first is_lost xs k d (all_before is_lost xs k none lt)) is

-- nothing is lost, as the code says it
pub match_none_lost : (o : Option ℕ) (xs : List Asking) → o ≡ None → NoneLost xs → MatchOption o (NoneLost xs) (IsLeastLost xs)
match_none_lost None xs is none = none
match_none_lost (Some i) xs is none = cc
