use Rattle.std.proofs.Common.{subst, arith}
use Rattle.std.proofs.lemmas.Bool.{OnTrue_from, leb-true}
use Rattle.pp_adapt.specs.Gathered.{Gathered, IsFree}
use Rattle.pp_adapt.proofs.Pieces.{free_before}
use Rattle.pp_adapt.proofs.gathering.Gathering.has_passed.Goals as goal

pub returns-clause-free : goal.returns-clause-free
returns-clause-free c = OnTrue_from _ _ (λ passed.
    subst (λ (g : Gathered). IsFree g.pieces c.args.place c.args.len) c.self.view_is
    (free_before c.self.inside.base c.self.inside.bytes.items c.self.inside.extents.items c.args.place c.args.len c.self.invariant.apart (omega arith) (leb-true _ _ passed)))
