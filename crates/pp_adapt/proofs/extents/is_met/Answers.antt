use Rattle.std.proofs.Common.{arith}
use Rattle.std.proofs.lemmas.Bool.{OnTrue_from, leb-true}
use Rattle.pp_adapt.proofs.extents.is_met.Goals as goal
use Rattle.pp_adapt.proofs.Joins.{nothing, rest_shorter}

pub returns-then-at-extents : goal.returns-then-at-extents
returns-then-at-extents c =
    OnTrue_from _ _ (λ met. rest_shorter c.args.extents.now c.args.at c.args.new nothing (omega arith) (leb-true _ _ met))
