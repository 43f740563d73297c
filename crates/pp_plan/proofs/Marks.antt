-- Chunks that were told of, as facts of nodes.
use Rattle.std.proofs.Common.{◌≡◌, ◌*◌, ◌^◌, ◌≤◌, nat_le, Bool, true, false, ◌&&◌, ◌||◌, refl, sym, ◌∙◌, ap, arith}
use Rattle.std.proofs.lemmas.Bool.Decides.{nat_tests}
use Rattle.pp_terms.specs.tree.Tree.{Node, height, is_peak}
use Rattle.pp_terms.specs.tree.Bins.{parent_of}
use Rattle.pp_tree.specs.Bits.{bit_of}
use Rattle.pp_plan.specs.Told.{ToldNodes, knows, is_marked, some_among}

known_peak : (s p m : Bool) → s ≡ true → p ≡ true → true ≡ (s && (p || m))
known_peak true true m is e = refl
known_peak true false m is e = absurd cc
known_peak false p m is e = absurd cc

known_child : (s p m : Bool) → s ≡ true → p ≡ false → m ≡ (s && (p || m))
known_child true false m is e = refl
known_child true true m is e = absurd cc
known_child false p m is e = absurd cc

pub knows_peak : (t : ToldNodes) (n : Node) (p : Bool) → t.some ≡ true → p ≡ is_peak t.chunks n → p ≡ true → p ≡ knows t n
knows_peak t n p some is e = e ∙ known_peak t.some (is_peak t.chunks n) (is_marked t (parent_of n)) some (sym is ∙ e)

pub knows_child : (t : ToldNodes) (n : Node) (p m : Bool) → t.some ≡ true → p ≡ is_peak t.chunks n → p ≡ false → m ≡ is_marked t (parent_of n) → m ≡ knows t n
knows_child t n p m some is e marked = marked ∙ known_child t.some (is_peak t.chunks n) (is_marked t (parent_of n)) some (sym is ∙ e)

pub marked_under : (t : ToldNodes) (n : Node) (found : Bool) → n.layer ≤ height t.chunks → found ≡ some_among (bit_of t.told) (n.offset * 2 ^ n.layer) (2 ^ n.layer)
    → found ≡ is_marked t n
marked_under t n found low under =
    let in_tree : nat_le n.layer (height t.chunks) ≡ true = grind (arith, nat_tests) in
    under ∙ ap (λ (b : Bool). b && some_among (bit_of t.told) (n.offset * 2 ^ n.layer) (2 ^ n.layer)) (sym in_tree)

pub or_when : (k p : Bool) → k ≡ false → p ≡ (k || p)
or_when true p e = absurd cc
or_when false p e = refl
