use Rattle.std.proofs.Common.{arith, sym, ◌∙◌}
use Rattle.pp_peer.proofs.FirstMessages.{supported_short, supported_first, supported_other, supported_else}
use Rattle.pp_peer.proofs.supporting.supported.Goals as goal

pub returns-then-bytes-lt4 : goal.returns-then-bytes-lt4
returns-then-bytes-lt4 c = sym (supported_short c.args.descriptor.now c.args.bytes.now c.if-bytes-lt4.true)

pub returns-in-Handshake : goal.returns-in-Handshake
returns-in-Handshake c = c.by_options.ensures
    ∙ sym (supported_first c.args.descriptor.now c.args.bytes.now (omega (arith, c.chunk.ensures.range))
    (λ i. omega (arith, c.type_inv.bytes i)) c.in-Message.next _
    c.if-bytes-lt4.false (rw c.in-Handshake.is at (rw (c.method.ensures.method, c.chunk.ensures.chunk) at c.in-Message.ensures.exact)))

pub returns-in_default-message : goal.returns-in_default-message
returns-in_default-message c =
    sym (supported_other c.args.descriptor.now c.args.bytes.now (omega (arith, c.chunk.ensures.range))
    (λ i. omega (arith, c.type_inv.bytes i)) c.in-Message.next c.in-Message.message c.if-bytes-lt4.false
    (rw (c.method.ensures.method, c.chunk.ensures.chunk) at c.in-Message.ensures.exact) c.in_default-message.not-Handshake)

pub returns-in_default : goal.returns-in_default
returns-in_default c =
    sym (supported_else c.args.descriptor.now c.args.bytes.now (omega (arith, c.chunk.ensures.range))
    (λ i. omega (arith, c.type_inv.bytes i)) c.next.result
    (rw (c.method.ensures.method, c.chunk.ensures.chunk) at c.next.ensures.exact) c.in_default.not-Message)
