-- The spans by which a method names a range have the chunks of the range.
use Rattle.std.proofs.Common.{◌≡◌, ℕ, ◌+◌, ◌*◌, ◌^◌, ◌<◌, ◌≤◌, nat_le, nat_lt, Bool, false, ◌&&◌, ◌||◌, List, [], ◌∷◌, map, ◌∙◌, ap, arith}
use Rattle.std.proofs.Math.Bool.{or-false}
use Rattle.std.proofs.lemmas.Bool.Decides.{nat_tests}
use Rattle.std.proofs.lemmas.Nat.{pow_pos}
use Rattle.pp_terms.specs.tree.Tree.{Node}
use Rattle.pp_terms.specs.tree.Range.{Span, within, has, leaves_of, IsTiling}
use Rattle.pp_terms.specs.format.Descriptor.{Method, Bin32, Range32, Bin64, Range64}
use Rattle.pp_draft.specs.Notes.{AreBins, AreNames}
use Rattle.pp_seat.specs.Own.{IsSplit}

tiling_order : (from end : ℕ) (nodes : List Node) → IsTiling from end nodes → from ≤ end
tiling_order from end [] h = omega (arith, h)
tiling_order from end (n ∷ nodes) h = let more = tiling_order (from + 2 ^ n.layer) end nodes h.1 in omega arith

join : (first last from mid end i : ℕ) → first ≡ from → last + 1 ≡ mid → from < mid → mid ≤ end
    → (nat_le first i && nat_le i last || (nat_le mid i && nat_lt i end)) ≡ (nat_le from i && nat_lt i end)
join first last from mid end i a b lt le = grind (arith, nat_tests)

tiling_has : (from end : ℕ) (nodes : List Node) (i : ℕ) → IsTiling from end nodes → has (map leaves_of nodes) i ≡ (nat_le from i && nat_lt i end)
tiling_has from end [] i h = none h
  where
    none : from ≡ end → false ≡ (nat_le from i && nat_lt i end)
    none e = grind (arith, nat_tests)
tiling_has from end (n ∷ nodes) i h =
    let power = pow_pos n.layer in
    let more : (n.offset + 1) * 2 ^ n.layer ≡ n.offset * 2 ^ n.layer + 2 ^ n.layer = omega arith in
    let order = tiling_order (from + 2 ^ n.layer) end nodes h.1 in
    ap (λ (b : Bool). within (leaves_of n) i || b) (tiling_has (from + 2 ^ n.layer) end nodes i h.1)
    ∙ join (leaves_of n).first (leaves_of n).last from (from + 2 ^ n.layer) end i h.0 (omega (arith, h.0)) (omega arith) order

bins_split : (range : Span) (spans : List Span) → AreBins range spans → IsSplit range spans
bins_split range spans bins i =
    ap (λ (xs : List Span). has xs i) bins.leaves ∙ tiling_has range.first (range.last + 1) bins.nodes i bins.cover.tiles ∙ ends
  where
    ends : (nat_le range.first i && nat_lt i (range.last + 1)) ≡ within range i
    ends = grind (arith, nat_tests)

one_split : (range : Span) (spans : List Span) → spans ≡ range ∷ [] → IsSplit range spans
one_split range spans is i = ap (λ (xs : List Span). has xs i) is ∙ or-false (within range i)

pub names_split : (method : Method) (range : Span) (spans : List Span) → AreNames method range spans → IsSplit range spans
names_split Bin32 range spans names = bins_split range spans names
names_split Range32 range spans names = one_split range spans names
names_split Bin64 range spans names = bins_split range spans names
names_split Range64 range spans names = one_split range spans names
