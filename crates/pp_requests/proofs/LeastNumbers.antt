-- The least number of a list of ranges.
use Rattle.std.proofs.Common.{◌≡◌, ⊎_elim, ℕ, ◌<◌, Bool, true, false, List, [], ◌∷◌, ◌||◌, Option, Some, None, sym, ◌∙◌, ap, arith}
use Rattle.std.specs.Prelude.{MatchOption}
use Rattle.std.proofs.lemmas.Bool.{cases_lt, true≢false}
use Rattle.std.proofs.lemmas.Bool.Decides.{nat_tests}
use Rattle.pp_terms.specs.tree.Range.{Span, within, has, IsRunsFrom}
use Rattle.pp_ranges.proofs.Runs.{none_below}
use Rattle.pp_requests.specs.Lists.{IsLeast, without}

-- there is one at most
pub least_alone : (list : List Span) (i j : ℕ) → IsLeast list i → IsLeast list j → i ≡ j
least_alone list i j one other = ⊎_elim
    (λ lt. absurd (true≢false (sym one.listed ∙ other.lesser i lt)))
    (λ ge. ⊎_elim (λ lt. absurd (true≢false (sym other.listed ∙ one.lesser j lt))) (λ le. omega arith) (cases_lt j i))
    (cases_lt i j)

-- the first number of the first range is it
pub first_least : (x : Span) (xs : List Span) (from : ℕ) → IsRunsFrom from (x ∷ xs) → IsLeast (x ∷ xs) x.first
first_least x xs from runs =
    let order = runs.1 in
    let here : within x x.first ≡ true = grind (arith, nat_tests) in
    record {
      listed = ap (λ (b : Bool). b || has xs x.first) here;
      lesser = λ i lt. none_below (x ∷ xs) x.first i (omega arith, runs.1, runs.2) lt;
    }

-- as the list of ranges says it
pub as_least : (o : Option ℕ) (list : List Span)
    → MatchOption o (list ≡ []) (λ first. (has list first ≡ true) × ((i : ℕ) → i < first → has list i ≡ false))
    → MatchOption o (list ≡ []) (IsLeast list)
as_least None list is = is
as_least (Some first) list is = record { listed = is.0; lesser = is.1 }

-- what is taken is what was looked at
pub taken_peeked : (o : Option ℕ) (old new : List Span) (i : ℕ)
    → MatchOption o (old ≡ []) (IsLeast old) → MatchOption o (new ≡ old) (λ least. new ≡ without least old)
    → IsLeast old i → (o ≡ Some i) × (new ≡ without i old)
taken_peeked None old new i none same least = absurd (true≢false (sym least.listed ∙ ap (λ (xs : List Span). has xs i) none))
taken_peeked (Some j) old new i is rest least =
    let same = least_alone old j i is least in
    (ap Some same, rest ∙ ap (λ (n : ℕ). without n old) same)
