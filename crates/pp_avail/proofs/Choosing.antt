-- The best of several chunks.
use Rattle.std.proofs.Common.{◌≡◌, ◌≢◌, ◌==◌, ◌⊎◌, inl, inr, ⊎_elim, ℕ, ◌+◌, ◌<◌, ◌≤◌, Bool, true, false, ◌&&◌, List, [], length, Option, None, Some, sym, ◌∙◌, ap, subst, arith, slice_index_or}
use Rattle.std.specs.Prelude.{MatchOption}
use Rattle.std.proofs.lemmas.Bool.{cases_lt, cases_eq, eqb-true, eq-eqb, and_parts, false_from_ne_true, and_from}
use Rattle.pp_terms.proofs.Facts.{member_below}
use Rattle.pp_tree.specs.Sets.{is_in_all}
use Rattle.pp_avail.specs.declared.ranker.Rank.{Rank}
use Rattle.pp_avail.specs.declared.ranker.Rank.TheVariants.{Sequential, Rarest, Blocks}
use Rattle.pp_avail.specs.Ranks.{rank_of}
use Rattle.pp_avail.specs.declared.choice.Choice.{Choice}
use Rattle.pp_avail.specs.Offers.{Offers, has, copies}
use Rattle.pp_avail.specs.Picks.{is_candidate, rank_in, Precedes, IsLeast, IsPick}
use Rattle.pp_avail.specs.Choices.{IsBest, ComesFirst}

along : (r i s j t k : ℕ) → Precedes r i s j → Precedes s j t k → Precedes r i t k
along r i s j t k one two = (omega (arith, one.0, two.0), λ same. omega (arith, one.0, two.0, one.1, two.1, same))

-- a choice among those that are counted
pub record IsChoice (kind : Rank) (o : Offers) (seat : ℕ) (wanted : List Bool) (choice : Choice) : Type 0 where
  pub inside : choice.chunk < o.chunks
  pub candidate : is_candidate o seat wanted choice.chunk ≡ true
  pub ranked : choice.rank ≡ rank_in kind o choice.chunk

-- the lesser of the best so far and of a choice that comes before all that are counted now and weren't
pub better : (kind : Rank) (o : Offers) (seat : ℕ) (wanted : List Bool) (Before Now : ℕ → Type 0) (best : Option Choice) (choice result : Choice)
    → IsChoice kind o seat wanted choice → IsBest kind o seat wanted Before best
    → MatchOption best (result ≡ choice) (λ b. ((result ≡ choice) ⊎ (result ≡ b)) × ComesFirst result choice × ComesFirst result b)
    → ((j : ℕ) → is_candidate o seat wanted j ≡ true → Now j → Before j ⊎ Precedes choice.rank choice.chunk (rank_in kind o j) j)
    → IsLeast kind o seat wanted Now result.rank result.chunk
better kind o seat wanted Before Now None choice result is none first covers = record {
  inside = subst (λ (c : Choice). c.chunk < o.chunks) (sym first) is.inside;
  candidate = subst (λ (c : Choice). is_candidate o seat wanted c.chunk ≡ true) (sym first) is.candidate;
  ranked = subst (λ (c : Choice). c.rank ≡ rank_in kind o c.chunk) (sym first) is.ranked;
  least = λ j candidate now. subst (λ (c : Choice). Precedes c.rank c.chunk (rank_in kind o j) j) (sym first)
      (⊎_elim (λ before. absurd (none j candidate before)) (λ after. after) (covers j candidate now));
}
better kind o seat wanted Before Now (Some b) choice result is best first covers = record {
  inside = ⊎_elim (λ e. subst (λ (c : Choice). c.chunk < o.chunks) (sym e) is.inside) (λ e. subst (λ (c : Choice). c.chunk < o.chunks) (sym e) best.inside) first.0;
  candidate = ⊎_elim (λ e. subst (λ (c : Choice). is_candidate o seat wanted c.chunk ≡ true) (sym e) is.candidate)
      (λ e. subst (λ (c : Choice). is_candidate o seat wanted c.chunk ≡ true) (sym e) best.candidate) first.0;
  ranked = ⊎_elim (λ e. subst (λ (c : Choice). c.rank ≡ rank_in kind o c.chunk) (sym e) is.ranked)
      (λ e. subst (λ (c : Choice). c.rank ≡ rank_in kind o c.chunk) (sym e) best.ranked) first.0;
  least = λ j candidate now. ⊎_elim
      (λ before. along result.rank result.chunk b.rank b.chunk (rank_in kind o j) j first.2 (best.least j candidate before))
      (λ after. along result.rank result.chunk choice.rank choice.chunk (rank_in kind o j) j first.1 after)
      (covers j candidate now);
}

-- among chunks of as many copies the rank never falls with the number
pub rising : (kind : Rank) (copies i j : ℕ) → i ≤ j → Precedes (rank_of kind i copies) i (rank_of kind j copies) j
rising Sequential copies i j le = (omega arith, λ _. le)
rising Rarest copies i j le = (omega arith, λ _. le)
rising Blocks copies i j le = (omega (arith, le), λ _. le)

-- The first chunk of so many copies comes before all of as many, and those of fewer are counted already.
pub covered : (kind : Rank) (o : Offers) (fewer i j : ℕ) → (copies o j ≡ fewer + 1 → i ≤ j) → (0 < copies o j) × (copies o j ≤ fewer + 1)
    → ((0 < copies o j) × (copies o j ≤ fewer)) ⊎ Precedes (rank_of kind i (fewer + 1)) i (rank_in kind o j) j
covered kind o fewer i j first counted = ⊎_elim
    (λ here. inr (subst (λ (n : ℕ). Precedes (rank_of kind i (fewer + 1)) i (rank_of kind j n) j) (sym here) (rising kind (fewer + 1) i j (first here))))
    (λ other. inl (counted.0, omega (arith, counted.1, other)))
    (cases_eq (copies o j) (fewer + 1))

-- what is picked once all candidates are counted
pub picked : (kind : Rank) (o : Offers) (seat : ℕ) (wanted : List Bool) (Counts : ℕ → Type 0) (rank i : ℕ)
    → IsLeast kind o seat wanted Counts rank i → ((j : ℕ) → is_candidate o seat wanted j ≡ true → Counts j)
    → IsPick kind o seat wanted (Some i)
picked kind o seat wanted Counts rank i is all = (
  is.inside,
  is.candidate,
  λ j candidate. subst (λ (r : ℕ). Precedes r i (rank_in kind o j) j) is.ranked (is.least j candidate (all j candidate)),
)

pub none_picked : (kind : Rank) (o : Offers) (seat : ℕ) (wanted : List Bool) (Counts : ℕ → Type 0)
    → IsBest kind o seat wanted Counts None → ((j : ℕ) → is_candidate o seat wanted j ≡ true → Counts j)
    → IsPick kind o seat wanted None
none_picked kind o seat wanted Counts none all j = false_from_ne_true (is_candidate o seat wanted j) (λ candidate. none j candidate (all j candidate))

-- a candidate lies in the content
pub candidates_inside : (o : Offers) (seat : ℕ) (wanted : List Bool) → ((s i : ℕ) → o.chunks ≤ i → has o s i ≡ false)
    → (j : ℕ) → is_candidate o seat wanted j ≡ true → j < o.chunks
candidates_inside o seat wanted past j candidate = ⊎_elim (λ lt. lt) (λ ge. absurd (apart (slice_index_or wanted j false) (has o seat j) candidate (past seat j ge))) (cases_lt j o.chunks)
  where
    apart : (a b : Bool) → (a && b) ≡ true → b ≡ false → ⊥
    apart true b both none = cc
    apart false b both none = cc

-- a candidate of so many copies is in all three sets
in_all : (o : Offers) (seat : ℕ) (wanted set level : List Bool) (count j : ℕ)
    → length wanted ≡ o.chunks → set ≡ slice_index_or o.seats seat []
    → ((k : ℕ) → k < o.chunks → slice_index_or level k false ≡ (copies o k == count))
    → is_candidate o seat wanted j ≡ true → copies o j ≡ count → is_in_all wanted set level j ≡ true
in_all o seat wanted set level count j size is counted candidate equal =
    let parts = and_parts (slice_index_or wanted j false) (has o seat j) candidate in
    let inside : j < o.chunks = omega (arith, member_below wanted j parts.0, size) in
    and_from (slice_index_or wanted j false) (slice_index_or set j false && slice_index_or level j false) parts.0
    (and_from (slice_index_or set j false) (slice_index_or level j false)
    (ap (λ (xs : List Bool). slice_index_or xs j false) is ∙ parts.1) (counted j inside ∙ eq-eqb (copies o j) count equal))

-- The first of the wanted chunks that the seat has, among those of so many copies.
pub first_of_level : (o : Offers) (seat : ℕ) (wanted set level : List Bool) (count : ℕ) (result : Option ℕ)
    → length wanted ≡ o.chunks → set ≡ slice_index_or o.seats seat []
    → ((j : ℕ) → j < o.chunks → slice_index_or level j false ≡ (copies o j == count))
    → MatchOption result ((k : ℕ) → is_in_all wanted set level k ≡ false)
    (λ i. (i < length wanted) × (is_in_all wanted set level i ≡ true) × ((k : ℕ) → k < i → is_in_all wanted set level k ≡ false))
    → MatchOption result ((j : ℕ) → is_candidate o seat wanted j ≡ true → copies o j ≢ count)
    (λ i. (i < o.chunks) × (is_candidate o seat wanted i ≡ true) × (copies o i ≡ count)
    × ((j : ℕ) → is_candidate o seat wanted j ≡ true → copies o j ≡ count → i ≤ j))
first_of_level o seat wanted set level count None size is counted none = λ j candidate equal.
    let all = in_all o seat wanted set level count j size is counted candidate equal in
    let out = none j in cc (all, out)
first_of_level o seat wanted set level count (Some i) size is counted found =
    let parts = and_parts (slice_index_or wanted i false) (slice_index_or set i false && slice_index_or level i false) found.1 in
    let rest = and_parts (slice_index_or set i false) (slice_index_or level i false) parts.1 in
    let inside : i < o.chunks = omega (arith, found.0, size) in (
      inside,
      and_from (slice_index_or wanted i false) (has o seat i) parts.0 (ap (λ (xs : List Bool). slice_index_or xs i false) (sym is) ∙ rest.0),
      eqb-true (copies o i) count (sym (counted i inside) ∙ rest.1),
      λ j candidate equal. ⊎_elim
          (λ below. let all = in_all o seat wanted set level count j size is counted candidate equal in let out = found.2 j below in absurd (cc (all, out)))
          (λ from. from) (cases_lt j i),
    )

-- a candidate has from 1 to 64 copies
pub candidates_counted : (o : Offers) (seat : ℕ) (wanted : List Bool) (end : ℕ)
    → ((s i : ℕ) → has o s i ≡ true → (0 < copies o i) × (copies o i ≤ 64)) → 64 ≤ end
    → (j : ℕ) → is_candidate o seat wanted j ≡ true → (0 < copies o j) × (copies o j ≤ end)
candidates_counted o seat wanted end counted all j candidate =
    let is = counted seat j ((and_parts (slice_index_or wanted j false) (has o seat j) candidate).1) in (is.0, omega (arith, is.1, all))
