use Rattle.std.proofs.Common.{ap, refl, sym, ◌∙◌, arith}
use Rattle.pp_terms.specs.format.Descriptor.{chunks_of}
use Rattle.pp_holding.specs.Holding.{HoldingState}
use Rattle.pp_peer.proofs.Rounds.{only_twice, seats_none, seats_more, seats_all}
use Rattle.pp_peer.proofs.parts.Parts.serve_all.Goals as goal

pub loop-seat-init : goal.loop-seat-init
loop-seat-init g c = (omega arith, (seats_none _, refl))

pub serve_seat-given_up-requires-clause-swarm : goal.serve_seat-given_up-requires-clause-swarm
serve_seat-given_up-requires-clause-swarm g c =
    let f = c.loop-seat.invariant.1.0.flushes in f.swarm ∙ c.requires ∙ sym (ap (λ (h : HoldingState). h.store.descriptor) f.holding)

pub overflow_add-given_up : goal.overflow_add-given_up
overflow_add-given_up g c =
    let f = c.loop-seat.invariant.1.0.flushes in
    let content = ap (λ (h : HoldingState). chunks_of h.store.descriptor) f.holding ∙ ap chunks_of (sym c.requires) ∙ ap chunks_of (sym c.descriptor.ensures) in
    omega (arith, content, c.chunks.ensures.chunks, c.chunks.ensures.range.1, c.serve_seat-given_up.ensures.few, c.loop-seat.invariant.0, c.loop-seat-test.true)

pub loop-seat-preserved : goal.loop-seat-preserved
loop-seat-preserved g c =
    let f = c.loop-seat.invariant.1.0.flushes in
    let content = ap (λ (h : HoldingState). chunks_of h.store.descriptor) f.holding ∙ ap chunks_of (sym c.requires) ∙ ap chunks_of (sym c.descriptor.ensures) in (
      omega (arith, content, c.chunks.ensures.chunks, c.chunks.ensures.range.1, c.serve_seat-given_up.ensures.few, c.loop-seat.invariant.0),
      (
        seats_more c.loop-seat.seat c.loop-seat.given_up c.serve_seat-given_up.result _ _ _ c.loop-seat.invariant.1.0 c.serve_seat-given_up.ensures.serves,
        only_twice c.args.self.now c.loop-seat.self c.serve_seat-given_up.new.self c.loop-seat.invariant.1.1 c.serve_seat-given_up.ensures.rest,
      ),
    )

pub returns-clause-serves : goal.returns-clause-serves
returns-clause-serves g c =
    seats_all c.loop-seat.seat 64 c.loop-seat.given_up _ _ (omega (arith, c.loop-seat.auto.seat-end, c.loop-seat-test.false)) c.loop-seat.invariant.1.0
