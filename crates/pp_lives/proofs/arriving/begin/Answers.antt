use Rattle.std.proofs.Common.{arith, true, false, sym, ◌∙◌}
use Rattle.pp_wire.specs.Views.{kind_of}
use Rattle.pp_lives.proofs.Beginning.{begins_read, begins_other, begins_cut, begins_end}
use Rattle.pp_lives.proofs.arriving.begin.Goals as goal

pub returns-in-Handshake : goal.returns-in-Handshake
returns-in-Handshake c =
    let r = begins_read c.args.descriptor.now c.args.bytes.now c.in-Message.next _ (omega (arith, c.chunk.ensures.range)) (λ i. omega (arith, c.type_inv.bytes i)) c.requires
    (rw c.in-Handshake.is at (rw (c.method.ensures.method, c.chunk.ensures.chunk) at c.in-Message.ensures.exact)) in
    (r.within, r.rest)

pub returns-in_default : goal.returns-in_default
returns-in_default c =
    begins_other c.args.descriptor.now c.args.bytes.now c.in-Message.next c.in-Message.message (omega (arith, c.chunk.ensures.range)) (λ i. omega (arith, c.type_inv.bytes i)) c.requires
    (rw (c.method.ensures.method, c.chunk.ensures.chunk) at c.in-Message.ensures.exact) c.in_default.not-Handshake

pub returns-in-End : goal.returns-in-End
returns-in-End c =
    begins_end c.args.descriptor.now c.args.bytes.now (omega (arith, c.chunk.ensures.range)) (λ i. omega (arith, c.type_inv.bytes i))
    (rw (c.method.ensures.method, c.chunk.ensures.chunk) at c.in-End.ensures.exact)

pub returns-then-is_in_options : goal.returns-then-is_in_options
returns-then-is_in_options c =
    (begins_cut c.args.descriptor.now c.args.bytes.now _ (kind_of c.in-Cut.fault.kind) true (omega (arith, c.chunk.ensures.range)) (λ i. omega (arith, c.type_inv.bytes i))
    (rw (c.method.ensures.method, c.chunk.ensures.chunk) at c.in-Cut.ensures.exact) (sym c.is_in_options.ensures ∙ c.if-is_in_options.true)).0

pub returns-else-is_in_options : goal.returns-else-is_in_options
returns-else-is_in_options c =
    begins_cut c.args.descriptor.now c.args.bytes.now _ (kind_of c.in-Cut.fault.kind) false (omega (arith, c.chunk.ensures.range)) (λ i. omega (arith, c.type_inv.bytes i))
    (rw (c.method.ensures.method, c.chunk.ensures.chunk) at c.in-Cut.ensures.exact) (sym c.is_in_options.ensures ∙ c.if-is_in_options.false)
