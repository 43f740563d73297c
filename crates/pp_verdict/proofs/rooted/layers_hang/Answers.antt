use Rattle.std.proofs.Common.{ℕ, below_more}
use Rattle.pp_tree.specs.Book.{entry}
use Rattle.pp_verdict.specs.Rooted.{HangsAll}
use Rattle.pp_verdict.proofs.rooted.layers_hang.Goals as goal

pub loop-layer-preserved : goal.loop-layer-preserved
loop-layer-preserved c =
    below_more (λ (k : ℕ). HangsAll c.args.descriptor.now (entry c.args.book.now) k) c.loop-layer.layer c.loop-layer.invariant (c.layer_hangs.ensures.0 c.if-not-layer_hangs.false)
