use Rattle.pp_avail.proofs.Numbers.{none_levelled, none_numbers}
use Rattle.pp_avail.proofs.copies.Copies.none.Goals as goal

pub invariant_of-result : goal.invariant_of-result
invariant_of-result c = none_levelled c.args.words c.in_ok-planes.planes.items c.in_ok-levels.levels.items c.requires (c.in_ok-planes.ensures.items_if_clones_equal (λ y e. e)) c.in_ok-levels.ensures

pub returns : goal.returns
returns c = none_numbers c.args.words c.in_ok-planes.planes.items (c.in_ok-planes.ensures.items_if_clones_equal (λ y e. e))
