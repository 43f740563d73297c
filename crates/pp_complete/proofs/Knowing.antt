-- A rooted book that has a chunk's leaf and all peaks has each node that an announcement of the chunk tells; and what was announced.
use Rattle.std.proofs.Common.{◌≡◌, ⊎_elim, ℕ, zero, suc, ◌+◌, ◌-◌, ◌*◌, ◌/◌, ◌^◌, ◌<◌, ◌≤◌, eqb, leb, true, ◌&&◌, ◌||◌, List, [], ◌∷◌, sym, ◌∙◌, ap, arith}
use Rattle.std.specs.Prelude.{is_some, nat_lt}
use Rattle.std.specs.List.{list_all, list_any}
use Rattle.std.proofs.lemmas.Bool.{and_parts, or_cases, eqb-true, leb-true, ltb-true}
use Rattle.std.proofs.lemmas.Nat.{pow_pos}
use Rattle.pp_terms.specs.format.Traffic.{Record, Received, Quiet, Sent}
use Rattle.pp_terms.specs.format.Descriptor.{Descriptor, chunks_of, height_of}
use Rattle.pp_terms.specs.tree.Bins.{first_leaf, last_leaf, parent_of}
use Rattle.pp_terms.specs.tree.Book.{LookUp, IsJoined, IsRooted, has_peaks}
use Rattle.pp_terms.specs.tree.Tree.{Node, height, above, peaks, is_peak, same_node}
use Rattle.pp_terms.proofs.Facts.{value_of, has_value, which_half}
use Rattle.pp_terms.proofs.Peaks.{above_is}
use Rattle.pp_terms.proofs.PeakBooks.{peaks_all}
use Rattle.pp_traffic.specs.Hashes.{meets}
use Rattle.pp_traffic.specs.Keeping.{EachAnnounced, announces}
use Rattle.pp_traffic.specs.Past.{read}
use Rattle.pp_world.specs.Knowing.{KnowsTold}
use Rattle.pp_world.specs.Outcome.{is_announced_in}

-- ---- peaks

among : (book : LookUp) (n : Node) (xs : List Node) → list_all (λ at. is_some (book at.layer at.offset)) xs ≡ true
    → list_any (same_node n) xs ≡ true → is_some (book n.layer n.offset) ≡ true
among book n [] all e = absurd cc
among book n (x ∷ xs) all e =
    let parts = and_parts (is_some (book x.layer x.offset)) (list_all (λ at. is_some (book at.layer at.offset)) xs) all in
    ⊎_elim
    (λ same.
    let both = and_parts (eqb n.layer x.layer) (eqb n.offset x.offset) same in
    ap (λ k. is_some (book k n.offset)) (eqb-true n.layer x.layer both.0)
    ∙ ap (λ j. is_some (book x.layer j)) (eqb-true n.offset x.offset both.1) ∙ parts.0)
    (λ later. among book n xs parts.1 later)
    (or_cases (same_node n x) (list_any (same_node n) xs) e)

-- ---- the way up

-- the nodes above a leaf are in the book
module _ (d : Descriptor) (book : LookUp) (i : ℕ) (rooted : IsRooted d book) (leaf : is_some (book 0 i) ≡ true) where
  -- one below the root hangs there
  pair_above : (k : ℕ) → k < height_of d → is_some (book k (above k i)) ≡ true
      → (a : List ℕ) × (b : List ℕ) × IsJoined book k (above k i / 2) a b
  pair_above k low there =
      let entry = value_of (book k (above k i)) there in
      ⊎_elim (λ root. absurd (omega (arith, low, root.0))) (λ pair. pair) (rooted.hangs k (above k i) entry.0 entry.1)

  way_up : (k : ℕ) → k ≤ height_of d → is_some (book k (above k i)) ≡ true
  way_up zero low = leaf
  way_up (suc k) low =
      let pair = pair_above k (omega arith) (way_up k (omega arith)) in
      has_value (book (suc k) (above k i / 2)) _ pair.2.joined

  -- and so are both children of each
  child_there : (k j : ℕ) → k < height_of d → above k i / 2 ≡ j / 2 → is_some (book k j) ≡ true
  child_there k j low half =
      let pair = pair_above k low (way_up k (omega arith)) in
      ⊎_elim
      (λ e. has_value (book k j) pair.0 (ap (λ m. book k m) e ∙ pair.2.left_is))
      (λ e. has_value (book k j) pair.1 (ap (λ m. book k m) e ∙ pair.2.right_is))
      (which_half j (above k i / 2) (sym half))

-- a number between the first and the last leaf of a node lies under it
under : (p q i : ℕ) → 0 < p → q * p ≤ i → i ≤ (q + 1) * p - 1 → i / p ≡ q
under p q i some low high = grind arith

meets_above : (chunks i : ℕ) (n : Node) → meets chunks (record { first = i; last = i }) (parent_of n) ≡ true → above n.layer i / 2 ≡ n.offset / 2
meets_above chunks i n e =
    let at : Node = parent_of n in
    let one = and_parts (nat_lt (first_leaf at) chunks && leb (first_leaf at) i) (leb i (last_leaf at)) e in
    let two = and_parts (nat_lt (first_leaf at) chunks) (leb (first_leaf at) i) one.0 in
    let low : n.offset / 2 * 2 ^ (n.layer + 1) ≤ i = leb-true (first_leaf at) i two.1 in
    let high : i ≤ (n.offset / 2 + 1) * 2 ^ (n.layer + 1) - 1 = leb-true i (last_leaf at) one.1 in
    above_next n.layer i ∙ above_is (n.layer + 1) i ∙ under (2 ^ (n.layer + 1)) (n.offset / 2) i (pow_pos (n.layer + 1)) low high
  where
    above_next : (k c : ℕ) → above k c / 2 ≡ above (k + 1) c
    above_next k c = ap (λ m. above m c) (let e : suc k ≡ k + 1 = omega arith in e)

-- ---- the whole

pub rooted_knows : (d : Descriptor) (book : LookUp) (i : ℕ) → IsRooted d book → is_some (book 0 i) ≡ true
    → has_peaks book (chunks_of d) ≡ true → KnowsTold d book i
rooted_knows d book i rooted leaf all n told =
    let parts = and_parts (nat_lt i (chunks_of d) && leb i i) (is_peak (chunks_of d) n || (nat_lt n.layer (height (chunks_of d)) && meets (chunks_of d) (record { first = i; last = i }) (parent_of n))) told in
    ⊎_elim
    (λ peak. among book n (peaks (chunks_of d)) (sym (peaks_all book (chunks_of d)) ∙ all) peak)
    (λ below.
    let both = and_parts (nat_lt n.layer (height (chunks_of d))) (meets (chunks_of d) (record { first = i; last = i }) (parent_of n)) below in
    child_there d book i rooted leaf n.layer n.offset (ltb-true n.layer (height (chunks_of d)) both.0) (meets_above (chunks_of d) i n both.1))
    (or_cases (is_peak (chunks_of d) n) (nat_lt n.layer (height (chunks_of d)) && meets (chunks_of d) (record { first = i; last = i }) (parent_of n)) parts.1)

-- ---- what was announced

-- a property of all that was announced is one of a chunk that was
pub announced_has : (d : Descriptor) (P : ℕ → ℕ → Type 0) (i : ℕ) (past : List Record) → EachAnnounced d P past → is_announced_in d i past ≡ true
    → (moment : ℕ) × P moment i
announced_has d P i [] all is = absurd cc
announced_has d P i (Received at sender bytes ∷ past) all is = announced_has d P i past all is
announced_has d P i (Quiet at ∷ past) all is = announced_has d P i past all is
announced_has d P i (Sent moment receiver bytes ∷ past) all is = ⊎_elim
    (λ here. (moment, all.0 i here))
    (λ before. announced_has d P i past all.1 before)
    (or_cases (announces i (read d (Sent moment receiver bytes)).messages.read) (is_announced_in d i past) is)
