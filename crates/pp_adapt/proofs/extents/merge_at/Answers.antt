use Rattle.std.proofs.Common.{◌≡◌, ◌∙◌, ap, length, arith}
use Rattle.std.proofs.lemmas.Bool.{cond-true}
use Rattle.pp_adapt.specs.Extents.{joined_at}
use Rattle.pp_adapt.proofs.extents.merge_at.Goals as goal
use Rattle.pp_adapt.proofs.Joins.{inserted_is, length-taken, length-joined_at}

items_are : (c : goal.After-insert) → c.insert.new.self.items ≡ joined_at c.args.at c.args.extents.now.items c.args.new
items_are c =
    let long = length-taken c.args.extents.now.items c.take_met-whole.new.extents.items c.args.new c.args.at (omega arith) c.take_met-whole.ensures.rest in
    c.insert.ensures.items
    ∙ cond-true _ _ _ (c.insert.ensures.succeeds (omega arith))
    ∙ inserted_is c.args.extents.now.items c.take_met-whole.new.extents.items c.args.new c.take_met-whole.result c.args.at (omega arith) c.take_met-whole.ensures.rest c.take_met-whole.ensures.whole

pub returns-clause-items : goal.returns-clause-items
returns-clause-items c = items_are c

pub returns-clause-few : goal.returns-clause-few
returns-clause-few c =
    omega (arith, ap length (items_are c), length-joined_at c.args.at c.args.extents.now.items c.args.new (omega arith))
