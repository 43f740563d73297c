use Rattle.std.proofs.Common.{◌≡◌, ◌∙◌, ap, sym, subst, ◌+◌, ◌<◌, ℕ, List, length, drop, arith}
use Rattle.pp_adapt.specs.declared.extents.Extent.{Extent}
use Rattle.pp_adapt.specs.Extents.{AreApart, is_covered, ended_before, rest_of, joined_at, joined}
use Rattle.pp_adapt.proofs.extents.add.Goals as goal
use Rattle.pp_adapt.proofs.extents.add.Goals.{else-len-eq-MOST-via-then-len-eq-MOST+else-not-is_met, else-len-eq-MOST-via-else-len-eq-MOST}
use Rattle.pp_adapt.proofs.Joins.{joined_apart, joined_covers, rest_within}

pub merge_at-requires-clause-few : goal.merge_at-requires-clause-few
merge_at-requires-clause-few c = elim c.else-len-eq-MOST.branch [
  | else-len-eq-MOST-via-then-len-eq-MOST+else-not-is_met w ↦
      let met = subst (λ (l : List Extent). c.ended_before-at.result + length (rest_of (drop c.ended_before-at.result l) c.args.new) < length l) w.deref-then-len-eq-MOST.ensures.value w.if-not-is_met.ensures in
      omega arith
  | else-len-eq-MOST-via-else-len-eq-MOST w ↦ omega (arith, rest_within c.args.extents.now.items c.ended_before-at.result c.args.new (omega arith))
]

joined_is : (c : goal.After-merge_at) → c.merge_at.new.extents.items ≡ joined c.args.extents.now.items c.args.new
joined_is c =
    c.merge_at.ensures.items
    ∙ ap (λ (at : ℕ). joined_at at c.args.extents.now.items c.args.new) c.ended_before-at.ensures.value
    ∙ ap (λ (l : List Extent). joined_at (ended_before c.args.new.start l) c.args.extents.now.items c.args.new) c.deref.ensures.value

pub returns-clause-apart : goal.returns-clause-apart
returns-clause-apart c =
    subst (AreApart 0) (sym (joined_is c)) (joined_apart 0 c.args.extents.now.items c.args.new c.requires.apart (omega arith) c.requires.some c.requires.within)

pub returns-clause-covered : goal.returns-clause-covered
returns-clause-covered c = λ k.
    ap (λ (l : List Extent). is_covered l k) (joined_is c) ∙ joined_covers 0 c.args.extents.now.items c.args.new k c.requires.apart
