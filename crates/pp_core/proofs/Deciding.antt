-- Whether a book contradicts what the climbs of a chunk meet can be decided: no node that they meet lies far away.
use Rattle.std.proofs.Common.{◌≡◌, ◌⊎◌, inl, inr, ℕ, zero, suc, ◌+◌, ◌-◌, ◌*◌, ◌^◌, ◌≤◌, ◌<◌, ◌==◌, ◌&&◌, true, nat_le, Some, None, List, refl, sym, ◌∙◌, subst, arith}
use Rattle.std.proofs.lemmas.Option.{same_Some}
use Rattle.std.proofs.lemmas.Bool.{cases_eq, cases_Bool, and_parts, eqb-true}
use Rattle.std.proofs.lemmas.Bool.Decides.{nat_tests}
use Rattle.std.proofs.lemmas.Nat.{pow_pos}
use Rattle.pp_terms.specs.tree.Tree.{above, is_full}
use Rattle.pp_terms.specs.tree.Book.{LookUp}
use Rattle.pp_terms.specs.tree.Proves.{last_layer, peak_offset}
use Rattle.pp_terms.specs.tree.Claims.{met, met_above, Contradicts}
use Rattle.pp_terms.specs.format.Descriptor.{Descriptor, chunks_of, height_of}
use Rattle.pp_terms.proofs.Facts.{bytes_cases}
use Rattle.pp_paths.proofs.Growth.{option_cases}

-- ---- numbers below a bound

-- some number has it, or none below the bound
some_below : (P : ℕ → Type 0) → ((x : ℕ) → P x ⊎ (P x → ⊥)) → (n : ℕ) → ((x : ℕ) × P x) ⊎ ((x : ℕ) → x < n → P x → ⊥)
some_below P each zero = inr (λ x lt p. absurd (omega arith))
some_below P each (suc n) = elim (each n) [
  | inl p ↦ inl (n, p)
  | inr not_here ↦ elim (some_below P each n) [
    | inl found ↦ inl found
    | inr none ↦ inr (λ x lt p. elim (cases_eq x n) [
      | inl e ↦ not_here (subst P e p)
      | inr ne ↦ none x (omega arith) p
    ])
  ]
]

-- ---- any two books

-- The book has another digest there.
record DiffersAt (book meets : LookUp) (k j : ℕ) : Type 0 where
  digest : List ℕ
  kept : List ℕ
  is_met : meets k j ≡ Some digest
  here : book k j ≡ Some kept
  other : kept ≡ digest → ⊥

differs_or_not : (book meets : LookUp) (k j : ℕ) → DiffersAt book meets k j ⊎ (DiffersAt book meets k j → ⊥)
differs_or_not book meets k j = elim (option_cases (meets k j)) [
  | inl none ↦ inr (λ w. let is = w.is_met in absurd cc)
  | inr (digest, is) ↦ elim (option_cases (book k j)) [
    | inl none ↦ inr (λ w. let here = w.here in absurd cc)
    | inr (kept, here) ↦ elim (bytes_cases kept digest) [
      | inl same ↦ inr (λ w.
          w.other (same_Some w.kept kept (sym w.here ∙ here) ∙ same ∙ same_Some digest w.digest (sym is ∙ w.is_met)))
      | inr differ ↦ inl (record { digest = digest; kept = kept; is_met = is; here = here; other = differ })
    ]
  ]
]

-- what is met lies below a bound, by its layer and by its offset
Lies : ℕ → LookUp → Type 0
Lies n meets = (k j : ℕ) (digest : List ℕ) → meets k j ≡ Some digest → (k < n) × (j < n)

contradicts_or_lies : (book meets : LookUp) (n : ℕ) → Lies n meets → Contradicts book meets ⊎ (Contradicts book meets → ⊥)
unfolding Lies
contradicts_or_lies book meets n lies = elim (some_below Row row n) [
  | inl (k, (j, w)) ↦ inl (record { layer = k; offset = j; digest = w.digest; kept = w.kept; is_met = w.is_met; here = w.here; other = w.other })
  | inr none ↦ inr (λ c. none c.layer (lies c.layer c.offset c.digest c.is_met).0 (c.offset, differs c))
]
  where
    Row : ℕ → Type 0
    Row k = (j : ℕ) × DiffersAt book meets k j

    row : (k : ℕ) → Row k ⊎ (Row k → ⊥)
    row k = elim (some_below (λ j. DiffersAt book meets k j) (λ j. differs_or_not book meets k j) n) [
      | inl found ↦ inl found
      | inr none ↦ inr (λ (j, w). none j (lies k j w.digest w.is_met).1 w)
    ]

    differs : (c : Contradicts book meets) → DiffersAt book meets c.layer c.offset
    differs c = record { digest = c.digest; kept = c.kept; is_met = c.is_met; here = c.here; other = c.other }

-- ---- where what is met lies

below_power : (k : ℕ) → k < 2 ^ k
below_power zero = omega arith
below_power (suc k) = let low = below_power k in let step : 2 ^ suc k ≡ 2 * 2 ^ k = grind arith in omega arith

above_low : (k c : ℕ) → above k c ≤ c
above_low zero c = omega arith
above_low (suc k) c = let low = above_low k c in omega arith

full_lies : (n k j : ℕ) → is_full n (record { layer = k; offset = j }) ≡ true → (k < n) × (j < n)
full_lies n k j full =
    let whole : (j + 1) * 2 ^ k ≤ n = grind (arith, nat_tests) in
    let some : 0 < 2 ^ k = pow_pos k in
    let power = below_power k in
    let layer : 2 ^ k ≤ (j + 1) * 2 ^ k = grind arith in
    let offset : j + 1 ≤ (j + 1) * 2 ^ k = grind arith in
    (omega arith, omega arith)

above_lies : (n k j : ℕ) (known : LookUp) (digest : List ℕ) → met_above n known k j ≡ Some digest → j ≤ n
above_lies n k j known digest is = elim (cases_Bool (nat_le last k && above (k - last) off == j)) [
  | inl test ↦
      let same = eqb-true (above (k - last) off) j (and_parts (nat_le last k) (above (k - last) off == j) test).1 in
      let low = above_low (k - last) off in
      let lower = above_low last n in
      omega arith
  | inr test ↦ (let none : met_above n known k j ≡ None = rw test refl in absurd cc)
]
  where
    last : ℕ
    last = last_layer n

    off : ℕ
    off = peak_offset last n

met_lies : (d : Descriptor) (known : LookUp) (i : ℕ) (bytes : List ℕ) → Lies (chunks_of d + height_of d + 1) (met d known i bytes)
unfolding Lies
met_lies d known i bytes k j digest is = elim (cases_Bool (is_full (chunks_of d) (record { layer = k; offset = j }))) [
  | inl full ↦ (let low = full_lies (chunks_of d) k j full in (omega (arith, low.0), omega (arith, low.1)))
  | inr part ↦ elim (cases_Bool (nat_le k (height_of d))) [
    | inl low ↦
        let layer : k ≤ height_of d = grind (arith, nat_tests) in
        let e : met d known i bytes k j ≡ met_above (chunks_of d) known k j = rw (part, low) refl in
        let offset = above_lies (chunks_of d) k j known digest (sym e ∙ is) in
        (omega arith, omega arith)
    | inr high ↦ (let none : met d known i bytes k j ≡ None = rw (part, high) refl in absurd cc)
  ]
]

-- ---- the whole

-- a book contradicts what the climbs of a chunk meet, or it doesn't
pub contradicts_or_not : (d : Descriptor) (book known : LookUp) (i : ℕ) (bytes : List ℕ)
    → Contradicts book (met d known i bytes) ⊎ (Contradicts book (met d known i bytes) → ⊥)
contradicts_or_not d book known i bytes =
    contradicts_or_lies book (met d known i bytes) (chunks_of d + height_of d + 1) (met_lies d known i bytes)
