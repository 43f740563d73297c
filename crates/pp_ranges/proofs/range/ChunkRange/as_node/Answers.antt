use Rattle.std.proofs.Common.{◌∙◌, sym, arith}
use Rattle.pp_ranges.proofs.NodeSpans.{no_node}
use Rattle.pp_ranges.proofs.range.ChunkRange.as_node.Goals as goal

pub returns : goal.returns
returns c = λ node e.
    no_node (record { first = c.self.inside.first; last = c.self.inside.last }) node c.self.invariant.1 (e ∙ sym c.self.view_is)
    (λ k lt p q. c.loop-layer.invariant k (omega arith) (rw (c.from.ensures, c.from-first.ensures) p) (rw (c.from.ensures, c.from-first.ensures) q))
