use Rattle.std.proofs.Common.{arith}
use Rattle.pp_recorded.proofs.FaultSteps.{passes_to, cut_at}
use Rattle.pp_audit.proofs.datagrams.next_place.Goals as goal

pub returns-in-Message : goal.returns-in-Message
returns-in-Message c =
    passes_to c.args.descriptor.now c.args.bytes.now c.args.at _ c.in-Message.next
    (omega (arith, c.chunk.ensures.range)) (λ i. omega (arith, c.type_inv.bytes i)) (omega arith)
    (rw (c.method.ensures.method, c.chunk.ensures.chunk) at c.in-Message.ensures.exact)

pub returns-in-Cut : goal.returns-in-Cut
returns-in-Cut c =
    cut_at c.args.descriptor.now c.args.bytes.now c.args.at _ _
    (omega (arith, c.chunk.ensures.range)) (λ i. omega (arith, c.type_inv.bytes i))
    (rw (c.method.ensures.method, c.chunk.ensures.chunk) at c.in-Cut.ensures.exact)
