-- The steps of a climb.
use Rattle.std.proofs.Common.{◌≡◌, ℕ, zero, suc, ◌+◌, ◌-◌, ◌/◌, ◌<◌, Option, Some, None, List, refl, sym, ◌∙◌, ap, arith}
use Rattle.sha2.specs.Sha256.{sha256}
use Rattle.pp_terms.specs.tree.Book.{LookUp}
use Rattle.pp_terms.specs.tree.Proves.{joined}
use Rattle.pp_terms.specs.tree.Bins.{sibling}
use Rattle.pp_paths.specs.declared.climbing.Climb.TheVariants.{Reached, Lacks}
use Rattle.pp_paths.specs.Climb.{node_at, or_else, ends_or, lacks_or, climb}

-- the book has the node
pub climb_ends : (book others : LookUp) (n k j : ℕ) (digest kept : List ℕ) → book k j ≡ Some kept
    → climb book others n k j digest ≡ Reached (node_at k j) digest kept
climb_ends book others zero k j digest kept is = rw is refl
climb_ends book others (suc n) k j digest kept is = rw is refl

-- nothing is left to climb
pub climb_stops : (book others : LookUp) (n k j : ℕ) (digest : List ℕ) → n ≡ 0 → book k j ≡ None
    → climb book others n k j digest ≡ Lacks (node_at k j)
climb_stops book others zero k j digest e none = rw none refl
climb_stops book others (suc n) k j digest e none = absurd (omega arith)

-- the sibling isn't known
pub climb_lacks : (book others : LookUp) (n k j : ℕ) (digest : List ℕ) → 0 < n → book k j ≡ None
    → or_else book others k (sibling j) ≡ None → climb book others n k j digest ≡ Lacks (node_at k (sibling j))
climb_lacks book others zero k j digest some none lacks = absurd (omega arith)
climb_lacks book others (suc n) k j digest some none lacks =
    ap (λ (o : Option (List ℕ)). ends_or o (node_at k j) digest
    (lacks_or (or_else book others k (sibling j)) (node_at k (sibling j))
    (λ other. climb book others n (suc k) (j / 2) (sha256 (joined j digest other))))) none
    ∙ ap (λ (o : Option (List ℕ)). lacks_or o (node_at k (sibling j))
    (λ other. climb book others n (suc k) (j / 2) (sha256 (joined j digest other)))) lacks

-- one layer up
pub climb_on : (book others : LookUp) (n k j : ℕ) (digest other : List ℕ) → book k j ≡ None
    → or_else book others k (sibling j) ≡ Some other
    → climb book others (suc n) k j digest ≡ climb book others n (suc k) (j / 2) (sha256 (joined j digest other))
climb_on book others n k j digest other none is =
    ap (λ (o : Option (List ℕ)). ends_or o (node_at k j) digest
    (lacks_or (or_else book others k (sibling j)) (node_at k (sibling j))
    (λ other. climb book others n (suc k) (j / 2) (sha256 (joined j digest other))))) none
    ∙ ap (λ (o : Option (List ℕ)). lacks_or o (node_at k (sibling j))
    (λ other. climb book others n (suc k) (j / 2) (sha256 (joined j digest other)))) is

-- the same, as the code counts
pub climb_step : (book others : LookUp) (top k k' j j' : ℕ) (digest other next : List ℕ) → k < top → book k j ≡ None
    → or_else book others k (sibling j) ≡ Some other → k' ≡ k + 1 → j' ≡ j / 2 → next ≡ sha256 (joined j digest other)
    → climb book others (top - k') k' j' next ≡ climb book others (top - k) k j digest
climb_step book others top k k' j j' digest other next low none is up half next_is =
    let left : top - k ≡ suc (top - k') = omega arith in
    let higher : k' ≡ suc k = omega arith in
    ap (λ (x : List ℕ). climb book others (top - k') k' j' x) next_is
    ∙ ap (λ (i : ℕ). climb book others (top - k') k' i (sha256 (joined j digest other))) half
    ∙ ap (λ (l : ℕ). climb book others (top - k') l (j / 2) (sha256 (joined j digest other))) higher
    ∙ sym (climb_on book others (top - k') k j digest other none is)
    ∙ ap (λ (n : ℕ). climb book others n k j digest) (sym left)
