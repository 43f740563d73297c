use Rattle.std.proofs.Common.{arith, sym, ◌∙◌, ap, subst, ◌-◌}
use Rattle.std.specs.Prelude.{is_some}
use Rattle.pp_tree.specs.Book.{entry}
use Rattle.pp_tree.specs.declared.node.Node.{Node}
use Rattle.pp_paths.specs.declared.climbing.Climb.{Climb}
use Rattle.pp_paths.specs.declared.climbing.Climb.TheVariants.{Lacks}
use Rattle.pp_paths.specs.Climb.{or_else, IsFit}
use Rattle.pp_paths.proofs.Climbs.{climb_ends, climb_lacks}
use Rattle.pp_paths.proofs.Adoptions.{climb_from_parent, goes_on_by, parent_fits, child_absent, path_adopted, nothing_added}
use Rattle.pp_paths.proofs.climbing.+adopt_from.Goals as goal

pub returns-in-Some-clause-climbed : goal.returns-in-Some-clause-climbed
returns-in-Some-clause-climbed g t c =
    sym (climb_ends (entry c.args.book.now) (g.O.Others.look_up c.args.others.now) (c.args.top - c.args.node.layer) c.args.node.layer
    c.args.node.offset c.args.digest c.in-Some.kept (sym c.get.ensures.get ∙ c.in-Some.is))

pub returns-in-Some-clause-added : goal.returns-in-Some-clause-added
returns-in-Some-clause-added g t c fit =
    nothing_added (entry c.args.book.now) (g.O.Others.look_up c.args.others.now) c.args.top c.args.node.layer c.args.node.offset
    c.args.digest c.get.result c.requires.rooted c.requires.below c.get.ensures.get (ap (λ o. is_some o) c.in-Some.is)

pub returns-in_default-known-clause-climbed : goal.returns-in_default-known-clause-climbed
returns-in_default-known-clause-climbed g t c =
    ap (λ (at : Node). Lacks at) c.sibling-beside.ensures.is
    ∙ sym (climb_lacks (entry c.args.book.now) (g.O.Others.look_up c.args.others.now) (c.args.top - c.args.node.layer) c.args.node.layer
    c.args.node.offset c.args.digest (omega (arith, c.requires.below, c.if-node-top.false)) (sym c.get.ensures.get ∙ c.in_default.is)
    (sym (ap (λ (at : Node). or_else (entry c.args.book.now) (g.O.Others.look_up c.args.others.now) at.layer at.offset) c.sibling-beside.ensures.is)
    ∙ sym c.known.ensures ∙ c.in_default-known.is))

pub adopt_pair-requires-clause-fits : goal.adopt_pair-requires-clause-fits
adopt_pair-requires-clause-fits g t c =
    let up_is = c.parent-parent.ensures.is in
    let same = climb_from_parent (entry c.args.book.now) (g.O.Others.look_up c.args.others.now) c.args.top c.args.node.layer c.args.node.offset c.args.digest c.in-Some-known.other c.join.result
    c.get.result c.known.result c.sibling-beside.result c.parent-parent.result (omega (arith, c.requires.below, c.if-node-top.false))
    c.get.ensures.get c.in_default.is c.sibling-beside.ensures.is c.known.ensures c.in-Some-known.is up_is c.join.ensures in
    let fit = subst (λ (end : Climb). IsFit end) (c.adopt_from-climb.ensures.climbed ∙ same) (c.is_fit.ensures.0 c.if-is_fit.true) in
    let going = goes_on_by (entry c.args.book.now) (g.O.Others.look_up c.args.others.now) c.args.top c.args.node.layer c.args.node.offset c.args.digest c.in-Some-known.other c.get.result c.known.result
    c.sibling-beside.result c.requires.rooted c.requires.below fit c.get.ensures.get c.in_default.is c.sibling-beside.ensures.is
    c.known.ensures c.in-Some-known.is in
    let added = c.adopt_from-climb.ensures.added (c.is_fit.ensures.0 c.if-is_fit.true) in
    parent_fits (entry c.args.book.now) (entry c.adopt_from-climb.new.book) (g.O.Others.look_up c.args.others.now) c.args.top
    c.args.node.layer c.args.node.offset c.args.digest c.in-Some-known.other c.join.result c.in_order-left.result.0
    c.in_order-left.result.1 c.parent-parent.result c.requires.rooted going up_is c.join.ensures added
    c.in_order-left.ensures.left c.in_order-left.ensures.right

pub adopt_pair-requires-clause-left_absent : goal.adopt_pair-requires-clause-left_absent
adopt_pair-requires-clause-left_absent g t c =
    let up_is = c.parent-parent.ensures.is in
    let same = climb_from_parent (entry c.args.book.now) (g.O.Others.look_up c.args.others.now) c.args.top c.args.node.layer c.args.node.offset c.args.digest c.in-Some-known.other c.join.result
    c.get.result c.known.result c.sibling-beside.result c.parent-parent.result (omega (arith, c.requires.below, c.if-node-top.false))
    c.get.ensures.get c.in_default.is c.sibling-beside.ensures.is c.known.ensures c.in-Some-known.is up_is c.join.ensures in
    let fit = subst (λ (end : Climb). IsFit end) (c.adopt_from-climb.ensures.climbed ∙ same) (c.is_fit.ensures.0 c.if-is_fit.true) in
    let going = goes_on_by (entry c.args.book.now) (g.O.Others.look_up c.args.others.now) c.args.top c.args.node.layer c.args.node.offset c.args.digest c.in-Some-known.other c.get.result c.known.result
    c.sibling-beside.result c.requires.rooted c.requires.below fit c.get.ensures.get c.in_default.is c.sibling-beside.ensures.is
    c.known.ensures c.in-Some-known.is in
    let added = c.adopt_from-climb.ensures.added (c.is_fit.ensures.0 c.if-is_fit.true) in
    child_absent (entry c.args.book.now) (entry c.adopt_from-climb.new.book) (g.O.Others.look_up c.args.others.now) c.args.top
    c.args.node.layer c.args.node.offset _ _ c.args.digest c.in-Some-known.other c.join.result c.parent-parent.result going up_is added
    (omega arith) (omega arith)

pub adopt_pair-requires-clause-right_absent : goal.adopt_pair-requires-clause-right_absent
adopt_pair-requires-clause-right_absent g t c =
    let up_is = c.parent-parent.ensures.is in
    let same = climb_from_parent (entry c.args.book.now) (g.O.Others.look_up c.args.others.now) c.args.top c.args.node.layer c.args.node.offset c.args.digest c.in-Some-known.other c.join.result
    c.get.result c.known.result c.sibling-beside.result c.parent-parent.result (omega (arith, c.requires.below, c.if-node-top.false))
    c.get.ensures.get c.in_default.is c.sibling-beside.ensures.is c.known.ensures c.in-Some-known.is up_is c.join.ensures in
    let fit = subst (λ (end : Climb). IsFit end) (c.adopt_from-climb.ensures.climbed ∙ same) (c.is_fit.ensures.0 c.if-is_fit.true) in
    let going = goes_on_by (entry c.args.book.now) (g.O.Others.look_up c.args.others.now) c.args.top c.args.node.layer c.args.node.offset c.args.digest c.in-Some-known.other c.get.result c.known.result
    c.sibling-beside.result c.requires.rooted c.requires.below fit c.get.ensures.get c.in_default.is c.sibling-beside.ensures.is
    c.known.ensures c.in-Some-known.is in
    let added = c.adopt_from-climb.ensures.added (c.is_fit.ensures.0 c.if-is_fit.true) in
    child_absent (entry c.args.book.now) (entry c.adopt_from-climb.new.book) (g.O.Others.look_up c.args.others.now) c.args.top
    c.args.node.layer c.args.node.offset _ _ c.args.digest c.in-Some-known.other c.join.result c.parent-parent.result going up_is added
    (omega arith) (omega arith)

pub returns-then-is_fit-clause-climbed : goal.returns-then-is_fit-clause-climbed
returns-then-is_fit-clause-climbed g t c =
    let up_is = c.parent-parent.ensures.is in
    let same = climb_from_parent (entry c.args.book.now) (g.O.Others.look_up c.args.others.now) c.args.top c.args.node.layer c.args.node.offset c.args.digest c.in-Some-known.other c.join.result
    c.get.result c.known.result c.sibling-beside.result c.parent-parent.result (omega (arith, c.requires.below, c.if-node-top.false))
    c.get.ensures.get c.in_default.is c.sibling-beside.ensures.is c.known.ensures c.in-Some-known.is up_is c.join.ensures in
    c.adopt_from-climb.ensures.climbed ∙ same

pub returns-then-is_fit-clause-added : goal.returns-then-is_fit-clause-added
returns-then-is_fit-clause-added g t c fits =
    let up_is = c.parent-parent.ensures.is in
    let same = climb_from_parent (entry c.args.book.now) (g.O.Others.look_up c.args.others.now) c.args.top c.args.node.layer c.args.node.offset c.args.digest c.in-Some-known.other c.join.result
    c.get.result c.known.result c.sibling-beside.result c.parent-parent.result (omega (arith, c.requires.below, c.if-node-top.false))
    c.get.ensures.get c.in_default.is c.sibling-beside.ensures.is c.known.ensures c.in-Some-known.is up_is c.join.ensures in
    let fit = subst (λ (end : Climb). IsFit end) (c.adopt_from-climb.ensures.climbed ∙ same) (c.is_fit.ensures.0 c.if-is_fit.true) in
    let going = goes_on_by (entry c.args.book.now) (g.O.Others.look_up c.args.others.now) c.args.top c.args.node.layer c.args.node.offset c.args.digest c.in-Some-known.other c.get.result c.known.result
    c.sibling-beside.result c.requires.rooted c.requires.below fit c.get.ensures.get c.in_default.is c.sibling-beside.ensures.is
    c.known.ensures c.in-Some-known.is in
    let added = c.adopt_from-climb.ensures.added (c.is_fit.ensures.0 c.if-is_fit.true) in
    path_adopted (entry c.args.book.now) (entry c.adopt_from-climb.new.book) (entry c.adopt_pair.new.self) (g.O.Others.look_up c.args.others.now)
    c.args.top c.args.node.layer c.args.node.offset c.args.digest c.in-Some-known.other c.join.result c.in_order-left.result.0
    c.in_order-left.result.1 c.parent-parent.result going up_is c.join.ensures added c.adopt_pair.ensures.adopted
    c.in_order-left.ensures.left c.in_order-left.ensures.right

pub returns-then-is_fit-clause-rooted : goal.returns-then-is_fit-clause-rooted
returns-then-is_fit-clause-rooted g t c d rooted = c.adopt_pair.ensures.rooted d (c.adopt_from-climb.ensures.rooted d rooted)

pub returns-else-is_fit-clause-climbed : goal.returns-else-is_fit-clause-climbed
returns-else-is_fit-clause-climbed g t c =
    let up_is = c.parent-parent.ensures.is in
    let same = climb_from_parent (entry c.args.book.now) (g.O.Others.look_up c.args.others.now) c.args.top c.args.node.layer c.args.node.offset c.args.digest c.in-Some-known.other c.join.result
    c.get.result c.known.result c.sibling-beside.result c.parent-parent.result (omega (arith, c.requires.below, c.if-node-top.false))
    c.get.ensures.get c.in_default.is c.sibling-beside.ensures.is c.known.ensures c.in-Some-known.is up_is c.join.ensures in
    c.adopt_from-climb.ensures.climbed ∙ same
