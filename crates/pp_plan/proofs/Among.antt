-- Whether one of a run of numbers passes a test.
use Rattle.std.proofs.Common.{◌≡◌, ⊎_elim, ℕ, zero, suc, ◌+◌, ◌*◌, ◌<◌, ◌≤◌, nat_le, nat_lt, Bool, true, false, ◌&&◌, ◌||◌, refl, sym, ◌∙◌, ap, arith}
use Rattle.std.proofs.lemmas.Bool.{cases_Bool, cases_eq, both_ways, or_left, or_right, or_from}
use Rattle.std.proofs.lemmas.Bool.Decides.{nat_tests}
use Rattle.pp_plan.specs.Told.{some_among}

or_assoc : (a b c : Bool) → (a || (b || c)) ≡ ((a || b) || c)
or_assoc true b c = refl
or_assoc false b c = refl

or_swap : (a b c d : Bool) → ((a || b) || (c || d)) ≡ ((a || c) || (b || d))
or_swap true b c d = refl
or_swap false true true d = refl
or_swap false true false d = refl
or_swap false false c d = refl

-- two runs in a row
pub among_append : (f : ℕ → Bool) (from a b : ℕ) → some_among f from (a + b) ≡ (some_among f from a || some_among f (from + a) b)
unfolding some_among
among_append f from zero b =
    let none : 0 + b ≡ b = omega arith in
    let here : from ≡ from + 0 = omega arith in
    ap (λ (k : ℕ). some_among f from k) none ∙ ap (λ (k : ℕ). some_among f k b) here
among_append f from (suc a) b =
    let more : suc a + b ≡ suc (a + b) = omega arith in
    let on : from + 1 + a ≡ from + suc a = omega arith in
    ap (λ (k : ℕ). some_among f from k) more
    ∙ ap (λ (v : Bool). f from || v) (among_append f (from + 1) a b)
    ∙ or_assoc (f from) (some_among f (from + 1) a) (some_among f (from + 1 + a) b)
    ∙ ap (λ (k : ℕ). (f from || some_among f (from + 1) a) || some_among f k b) on

-- one of two tests
pub among_either : (f g : ℕ → Bool) (from n : ℕ) → some_among (λ i. f i || g i) from n ≡ (some_among f from n || some_among g from n)
unfolding some_among
among_either f g from zero = refl
among_either f g from (suc n) =
    ap (λ (v : Bool). (f from || g from) || v) (among_either f g (from + 1) n)
    ∙ or_swap (f from) (g from) (some_among f (from + 1) n) (some_among g (from + 1) n)

pub among_same : (f g : ℕ → Bool) (from n : ℕ) → ((i : ℕ) → f i ≡ g i) → some_among f from n ≡ some_among g from n
unfolding some_among
among_same f g from zero same = refl
among_same f g from (suc n) same =
    ap (λ (v : Bool). v || some_among f (from + 1) n) (same from) ∙ ap (λ (v : Bool). g from || v) (among_same f g (from + 1) n same)

-- none of them passes
pub among_none : (f : ℕ → Bool) (from n : ℕ) → ((i : ℕ) → from ≤ i → i < from + n → f i ≡ false) → some_among f from n ≡ false
unfolding some_among
among_none f from zero none = refl
among_none f from (suc n) none =
    or_from (f from) (some_among f (from + 1) n) (none from (omega arith) (omega arith))
    (among_none f (from + 1) n (λ i low high. none i (omega (arith, low)) (omega (arith, high))))

-- one does
pub among_some : (f : ℕ → Bool) (from n i : ℕ) → from ≤ i → i < from + n → f i ≡ true → some_among f from n ≡ true
unfolding some_among
among_some f from zero i low high is = absurd (omega (arith, low, high))
among_some f from (suc n) i low high is = ⊎_elim
    (λ e. or_left (f from) (some_among f (from + 1) n) (ap f (sym e) ∙ is))
    (λ other. or_right (f from) (some_among f (from + 1) n) (among_some f (from + 1) n i (omega (arith, low, other)) (omega (arith, high)) is))
    (cases_eq i from)

pub not_among : (f : ℕ → Bool) (from n i : ℕ) → some_among f from n ≡ false → from ≤ i → i < from + n → f i ≡ false
not_among f from n i none low high = ⊎_elim
    (λ set. absurd (both_ways (some_among f from n) none (among_some f from n i low high set)))
    (λ unset. unset)
    (cases_Bool (f i))

-- of runs of one length, each tells whether one of it passes
pub among_runs : (f : ℕ → Bool) (length from n : ℕ) → some_among (λ j. some_among f (length * j) length) from n ≡ some_among f (length * from) (length * n)
unfolding some_among
among_runs f length from zero = let none : 0 ≡ length * 0 = omega arith in ap (λ (k : ℕ). some_among f (length * from) k) none
among_runs f length from (suc n) =
    let next : length * (from + 1) ≡ length * from + length = omega arith in
    let all : length + length * n ≡ length * suc n = omega arith in
    ap (λ (v : Bool). some_among f (length * from) length || v) (among_runs f length (from + 1) n)
    ∙ ap (λ (k : ℕ). some_among f (length * from) length || some_among f k (length * n)) next
    ∙ sym (among_append f (length * from) length (length * n))
    ∙ ap (λ (k : ℕ). some_among f (length * from) k) all

-- a number between two
pub among_between : (first last from n : ℕ) → first ≤ last → some_among (λ i. nat_le first i && nat_le i last) from n ≡ (nat_lt 0 n && (nat_le from last && nat_lt first (from + n)))
unfolding some_among
among_between first last from zero order = refl
among_between first last from (suc n) order =
    ap (λ (v : Bool). (nat_le first from && nat_le from last) || v) (among_between first last (from + 1) n order) ∙ one_more
  where
    one_more : ((nat_le first from && nat_le from last) || (nat_lt 0 n && (nat_le (from + 1) last && nat_lt first (from + 1 + n))))
        ≡ (nat_lt 0 (suc n) && (nat_le from last && nat_lt first (from + suc n)))
    one_more = grind (arith, nat_tests)
