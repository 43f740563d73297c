use Rattle.std.proofs.Common.{arith}
use Rattle.pp_recorded.proofs.Messages.{stands, none_at_end, none_at_fault}
use Rattle.pp_recorded.proofs.reading.message_at.Goals as goal

pub returns-in-Message : goal.returns-in-Message
returns-in-Message c =
    stands c.args.descriptor.now c.args.bytes.now c.args.at _ c.in-Message.next
    (omega (arith, c.chunk.ensures.range)) (λ i. omega (arith, c.type_inv.bytes i)) c.requires
    (rw (c.method.ensures.method, c.chunk.ensures.chunk) at c.in-Message.ensures.exact)

pub returns-in-End : goal.returns-in-End
returns-in-End c =
    none_at_end c.args.descriptor.now c.args.bytes.now c.args.at
    (omega (arith, c.chunk.ensures.range)) (λ i. omega (arith, c.type_inv.bytes i))
    (rw (c.method.ensures.method, c.chunk.ensures.chunk, c.in-End.is) at c.next.ensures.exact)

pub returns-in-Cut : goal.returns-in-Cut
returns-in-Cut c =
    none_at_fault c.args.descriptor.now c.args.bytes.now c.args.at _ _
    (omega (arith, c.chunk.ensures.range)) (λ i. omega (arith, c.type_inv.bytes i))
    (rw (c.method.ensures.method, c.chunk.ensures.chunk) at c.in-Cut.ensures.exact)
