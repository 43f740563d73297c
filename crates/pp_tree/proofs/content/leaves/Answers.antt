use Rattle.std.proofs.Common.{ℕ, ◌*◌, ap, arith}
use Rattle.pp_tree.proofs.Layers.{leaves_more}
use Rattle.pp_tree.proofs.content.leaves.Goals as goal

pub loop-start-preserved : goal.loop-start-preserved
loop-start-preserved c =
    let more = leaves_more c.args.content.now c.loop-start.start c.min-end.result c.args.chunk c.loop-start.digests.items
    c.push.new.self.items c.leaf.result c.loop-start.invariant.0 c.min-end.ensures c.leaf.ensures c.in_ok-push.ensures.items
    c.loop-start.invariant.2 in
    let times = ap (λ (n : ℕ). n * c.args.chunk) more.0 in
    (omega (arith, times, c.loop-start.invariant.0), omega (arith, c.loop-start-test.true), more.1)
