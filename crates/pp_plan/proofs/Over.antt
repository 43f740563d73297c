-- Tiers of bits, each over the words of the one below.
use Rattle.std.proofs.Common.{◌≡◌, ⊎_elim, ℕ, ◌+◌, ◌*◌, ◌/◌, ◌^◌, ◌≤◌, nat_le, nat_lt, Bool, true, false, ◌&&◌, ◌||◌, List, replicate, refl, sym, ◌∙◌, ap, arith}
use Rattle.std.proofs.lemmas.Nat.{pow-add}
use Rattle.std.proofs.lemmas.Bool.{cases_eq}
use Rattle.std.proofs.lemmas.Bool.Decides.{nat_tests}
use Rattle.std.proofs.Math.Bool.{or-true, or-false}
use Rattle.pp_tree.specs.Bits.{bit_of}
use Rattle.pp_tree.proofs.Packing.{no_bit}
use Rattle.pp_plan.specs.Told.{some_among}
use Rattle.pp_plan.specs.Tiers.{IsOver}
use Rattle.pp_plan.proofs.Among.{among_same, among_either, among_none, among_between, among_runs}

-- where nothing is set
pub over_none : (above below : List ℕ) → ((w : ℕ) → bit_of above w ≡ false) → ((i : ℕ) → bit_of below i ≡ false) → IsOver above below
over_none above below none empty w = none w ∙ sym (among_none (bit_of below) (64 * w) 64 (λ i low high. empty i))

pub none_of : (words : List ℕ) (n : ℕ) → words ≡ replicate n 0 → (i : ℕ) → bit_of words i ≡ false
none_of words n is i = ap (λ (xs : List ℕ). bit_of xs i) is ∙ no_bit n i

-- the words in which some bits lie
in_words : (first last w : ℕ) → first ≤ last → (nat_le (first / 64) w && nat_le w (last / 64)) ≡ (nat_lt 0 64 && (nat_le (64 * w) last && nat_lt first (64 * w + 64)))
in_words first last w order = grind (arith, nat_tests)

-- with a range more
pub over_more : (above below higher lower : List ℕ) (first last low high : ℕ) → first ≤ last → low ≡ first / 64 → high ≡ last / 64 → IsOver above below
    → ((i : ℕ) → bit_of lower i ≡ (bit_of below i || (nat_le first i && nat_le i last)))
    → ((w : ℕ) → bit_of higher w ≡ (bit_of above w || (nat_le low w && nat_le w high)))
    → IsOver higher lower
over_more above below higher lower first last low high order low_is high_is is lower_is higher_is w =
    higher_is w
    ∙ ap (λ (k : ℕ). bit_of above w || (nat_le k w && nat_le w high)) low_is
    ∙ ap (λ (k : ℕ). bit_of above w || (nat_le (first / 64) w && nat_le w k)) high_is
    ∙ ap (λ (b : Bool). b || (nat_le (first / 64) w && nat_le w (last / 64))) (is w)
    ∙ ap (λ (b : Bool). some_among (bit_of below) (64 * w) 64 || b) (in_words first last w order ∙ sym (among_between first last (64 * w) 64 order))
    ∙ sym (among_same (bit_of lower) (λ i. bit_of below i || (nat_le first i && nat_le i last)) (64 * w) 64 lower_is
    ∙ among_either (bit_of below) (λ i. nat_le first i && nat_le i last) (64 * w) 64)

-- where the range lies in one word that had a bit before
pub over_kept : (above below lower : List ℕ) (first last : ℕ) → first ≤ last → IsOver above below
    → ((i : ℕ) → bit_of lower i ≡ (bit_of below i || (nat_le first i && nat_le i last)))
    → first / 64 ≡ last / 64 → some_among (bit_of below) (64 * (first / 64)) 64 ≡ true
    → IsOver above lower
over_kept above below lower first last order is lower_is one some =
    over_more above below above lower first last (first / 64) (last / 64) order refl refl is lower_is (λ w. ⊎_elim
    (λ here.
    let both : (nat_le (first / 64) w && nat_le w (last / 64)) ≡ true = grind (arith, nat_tests) in
    ap (λ (k : ℕ). bit_of above k) here ∙ is (first / 64) ∙ some ∙ sym (or-true (bit_of above w)) ∙ ap (λ (b : Bool). bit_of above w || b) (sym both))
    (λ other.
    let neither : (nat_le (first / 64) w && nat_le w (last / 64)) ≡ false = grind (arith, nat_tests) in
    sym (or-false (bit_of above w)) ∙ ap (λ (b : Bool). bit_of above w || b) (sym neither))
    (cases_eq w (first / 64)))

-- A run of bits of a tier is one of 64 times as many of the tier below.
pub run_below : (above below : List ℕ) (from n : ℕ) → IsOver above below → some_among (bit_of above) from n ≡ some_among (bit_of below) (64 * from) (64 * n)
run_below above below from n is =
    among_same (bit_of above) (λ w. some_among (bit_of below) (64 * w) 64) from n is ∙ among_runs (bit_of below) 64 from n

same_run : (f : ℕ → Bool) (from n start size : ℕ) → from ≡ start → n ≡ size → some_among f from n ≡ some_among f start size
same_run f from n start size e same = ap (λ (k : ℕ). some_among f k n) e ∙ ap (λ (k : ℕ). some_among f start k) same

pub run_second : (lowest second : List ℕ) (offset wide layer : ℕ) → layer ≡ wide + 6 → IsOver second lowest
    → some_among (bit_of second) (offset * 2 ^ wide) (2 ^ wide) ≡ some_among (bit_of lowest) (offset * 2 ^ layer) (2 ^ layer)
run_second lowest second offset wide layer is over =
    let width : 2 ^ layer ≡ 2 ^ wide * 64 = ap (λ (k : ℕ). 2 ^ k) is ∙ pow-add 2 wide 6 in
    run_below second lowest (offset * 2 ^ wide) (2 ^ wide) over
    ∙ same_run (bit_of lowest) (64 * (offset * 2 ^ wide)) (64 * 2 ^ wide) (offset * 2 ^ layer) (2 ^ layer)
    (let times : offset * (2 ^ wide * 64) ≡ offset * 2 ^ layer = ap (λ (k : ℕ). offset * k) (sym width) in omega (arith, times)) (omega (arith, width))

pub run_third : (lowest second third : List ℕ) (offset wide layer : ℕ) → layer ≡ wide + 12 → IsOver second lowest → IsOver third second
    → some_among (bit_of third) (offset * 2 ^ wide) (2 ^ wide) ≡ some_among (bit_of lowest) (offset * 2 ^ layer) (2 ^ layer)
run_third lowest second third offset wide layer is over more =
    let width : 2 ^ layer ≡ 2 ^ wide * 4096 = ap (λ (k : ℕ). 2 ^ k) is ∙ pow-add 2 wide 12 in
    run_below third second (offset * 2 ^ wide) (2 ^ wide) more
    ∙ run_below second lowest (64 * (offset * 2 ^ wide)) (64 * 2 ^ wide) over
    ∙ same_run (bit_of lowest) (64 * (64 * (offset * 2 ^ wide))) (64 * (64 * 2 ^ wide)) (offset * 2 ^ layer) (2 ^ layer)
    (let times : offset * (2 ^ wide * 4096) ≡ offset * 2 ^ layer = ap (λ (k : ℕ). offset * k) (sym width) in omega (arith, times)) (omega (arith, width))

pub run_highest : (lowest second third highest : List ℕ) (offset wide layer : ℕ) → layer ≡ wide + 18 → IsOver second lowest → IsOver third second → IsOver highest third
    → some_among (bit_of highest) (offset * 2 ^ wide) (2 ^ wide) ≡ some_among (bit_of lowest) (offset * 2 ^ layer) (2 ^ layer)
run_highest lowest second third highest offset wide layer is over more most =
    let width : 2 ^ layer ≡ 2 ^ wide * 262144 = ap (λ (k : ℕ). 2 ^ k) is ∙ pow-add 2 wide 18 in
    run_below highest third (offset * 2 ^ wide) (2 ^ wide) most
    ∙ run_below third second (64 * (offset * 2 ^ wide)) (64 * 2 ^ wide) more
    ∙ run_below second lowest (64 * (64 * (offset * 2 ^ wide))) (64 * (64 * 2 ^ wide)) over
    ∙ same_run (bit_of lowest) (64 * (64 * (64 * (offset * 2 ^ wide)))) (64 * (64 * (64 * 2 ^ wide))) (offset * 2 ^ layer) (2 ^ layer)
    (let times : offset * (2 ^ wide * 262144) ≡ offset * 2 ^ layer = ap (λ (k : ℕ). offset * k) (sym width) in omega (arith, times)) (omega (arith, width))
