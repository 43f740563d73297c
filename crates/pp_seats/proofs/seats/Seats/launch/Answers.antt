use Rattle.std.proofs.Common.{ℕ, Some, List, length, refl, sym, ap, ◌∙◌, subst, arith}
use Rattle.pp_terms.specs.format.Descriptor.{chunks_of}
use Rattle.pp_tree.specs.Book.{entry}
use Rattle.pp_channels.specs.Seats.{Seats}
use Rattle.std.proofs.Math.ListN.{set}
use Rattle.pp_seat.specs.Seats.{SeatState}
use Rattle.pp_seats.specs.Standing.{SeatsState}
use Rattle.pp_seats.specs.Serving.{IsReadied, CanServe}
use Rattle.pp_seats.proofs.Lists.{got}
use Rattle.pp_seats.proofs.Launching.{launch_of, readied_at, sent_so, refused_so, unread_so, used_of, readable, chunk_room}
use Rattle.pp_seats.proofs.Speaking.{kept_whole}
use Rattle.pp_seats.proofs.seats.Seats.launch.Goals as goal

pub plan-nodes-requires : goal.plan-nodes-requires
plan-nodes-requires g c =
    let has = got c.self.inside.seats.items c.args.seat c.index.result.now (omega (arith, c.self.invariant.0, c.requires.seat)) ∙ ap (λ (s : SeatState). Some s) (sym c.index.ensures) in
    let room = c.self.invariant.1 c.args.seat c.index.result.now has in
    let content = subst (λ (q : SeatsState). IsReadied q c.args.seat c.args.next.now) (sym c.self.view_is) c.requires.readied in
    omega (arith, content.content, room)

pub deliver_chunk-requires-clause-can : goal.deliver_chunk-requires-clause-can
deliver_chunk-requires-clause-can g c =
    let l = (launch_of (record { descriptor = c.self.inside.descriptor; table = c.self.inside.lives; seats = c.self.inside.seats.items; moment = c.self.inside.moment }) c.args.seat c.args.chunks.now.store.now
    (record { to = c.args.next.now.to; chunk = c.args.next.now.chunk; sent_at = c.self.inside.moment; nodes = c.as_slice.result; book = c.args.chunks.now.book })
    c.plan-nodes.result.items c.index.result.now c.index_mut.result.now c.chunks.result
    (subst (λ (q : SeatsState). IsReadied q c.args.seat c.args.next.now) (sym c.self.view_is) c.requires.readied)
    (got c.self.inside.seats.items c.args.seat c.index.result.now (omega (arith, c.self.invariant.0, c.requires.seat)) ∙ ap (λ (s : SeatState). Some s) (sym c.index.ensures))
    (got c.self.inside.seats.items c.args.seat c.index_mut.result.now (omega (arith, c.self.invariant.0, c.requires.seat)) ∙ ap (λ (s : SeatState). Some s) (sym c.index_mut.ensures.value))
    (c.self.invariant.1 c.args.seat c.index.result.now (got c.self.inside.seats.items c.args.seat c.index.result.now (omega (arith, c.self.invariant.0, c.requires.seat)) ∙ ap (λ (s : SeatState). Some s) (sym c.index.ensures)))
    (subst (λ (q : SeatsState). CanServe q.descriptor c.args.chunks.now.store.now (entry c.args.chunks.now.book.now)) (sym c.self.view_is) c.requires.can)
    c.requires.committed refl c.as_slice.ensures.value c.plan-nodes.ensures.nodes c.plan-nodes.ensures.whole c.chunks.ensures.chunks c.chunks.ensures.range.0 c.chunks.ensures.range.1) in
    record { inside = l.readied.content; few = c.as_slice.ensures.fits; given = l.given }

pub deliver_chunk-requires-clause-next : goal.deliver_chunk-requires-clause-next
deliver_chunk-requires-clause-next g c =
    (readied_at (record { descriptor = c.self.inside.descriptor; table = c.self.inside.lives; seats = c.self.inside.seats.items; moment = c.self.inside.moment }) c.args.seat c.args.next.now c.index_mut.result.now
    (subst (λ (q : SeatsState). IsReadied q c.args.seat c.args.next.now) (sym c.self.view_is) c.requires.readied)
    (got c.self.inside.seats.items c.args.seat c.index_mut.result.now (omega (arith, c.self.invariant.0, c.requires.seat)) ∙ ap (λ (s : SeatState). Some s) (sym c.index_mut.ensures.value))).may.next

pub deliver_chunk-requires-clause-readable : goal.deliver_chunk-requires-clause-readable
deliver_chunk-requires-clause-readable g c =
    let r = subst (λ (q : SeatsState). IsReadied q c.args.seat c.args.next.now) (sym c.self.view_is) c.requires.readied in
    readable c.self.inside.descriptor c.args.chunks.now.store.now (entry c.args.chunks.now.book.now) c.args.next.now.chunk _
    (subst (λ (q : SeatsState). CanServe q.descriptor c.args.chunks.now.store.now (entry c.args.chunks.now.book.now)) (sym c.self.view_is) c.requires.can)
    c.requires.committed r.content refl

pub sent-requires : goal.sent-requires
sent-requires g c =
    let r = subst (λ (q : SeatsState). IsReadied q c.args.seat c.args.next.now) (sym c.self.view_is) c.requires.readied in
    used_of _ r.far r.may.is_far

pub invariant_of-self : goal.invariant_of-self
invariant_of-self g c =
    kept_whole (chunks_of c.self.inside.descriptor) c.self.inside.out.len c.self.inside.seats.items c.args.seat c.index_mut.result.now c.deliver_chunk.new.seat
    c.deliver_chunk.new.out c.self.inside.out.items c.self.invariant.0 c.self.invariant.1
    (got c.self.inside.seats.items c.args.seat c.index_mut.result.now (omega (arith, c.self.invariant.0, c.requires.seat)) ∙ ap (λ (s : SeatState). Some s) (sym c.index_mut.ensures.value))
    (chunk_room (record { to = c.args.next.now.to; chunk = c.args.next.now.chunk; sent_at = c.self.inside.moment; nodes = c.as_slice.result; book = c.args.chunks.now.book }) c.in-Ok-true.field-0 c.index_mut.result.now c.deliver_chunk.new.seat c.in-Ok-true.ensures.goes.1)
    (omega (arith, c.deliver_chunk.auto.out, ap (λ (xs : List ℕ). length xs) c.deref_mut.ensures.value, c.self.inside.out.ok.0))
    (omega (arith, c.deliver_chunk.auto.out, ap (λ (xs : List ℕ). length xs) c.deref_mut.ensures.value, c.self.invariant.2))

pub invariant_of-self-in-Ok-false : goal.invariant_of-self-in-Ok-false
invariant_of-self-in-Ok-false g c =
    kept_whole (chunks_of c.self.inside.descriptor) c.self.inside.out.len c.self.inside.seats.items c.args.seat c.index_mut.result.now c.deliver_chunk.new.seat
    c.deliver_chunk.new.out c.self.inside.out.items c.self.invariant.0 c.self.invariant.1
    (got c.self.inside.seats.items c.args.seat c.index_mut.result.now (omega (arith, c.self.invariant.0, c.requires.seat)) ∙ ap (λ (s : SeatState). Some s) (sym c.index_mut.ensures.value))
    (chunk_room (record { to = c.args.next.now.to; chunk = c.args.next.now.chunk; sent_at = c.self.inside.moment; nodes = c.as_slice.result; book = c.args.chunks.now.book }) c.in-Ok-false.field-0 c.index_mut.result.now c.deliver_chunk.new.seat c.in-Ok-false.ensures.goes.1)
    (omega (arith, c.deliver_chunk.auto.out, ap (λ (xs : List ℕ). length xs) c.deref_mut.ensures.value, c.self.inside.out.ok.0))
    (omega (arith, c.deliver_chunk.auto.out, ap (λ (xs : List ℕ). length xs) c.deref_mut.ensures.value, c.self.invariant.2))

pub invariant_of-self-in-Err : goal.invariant_of-self-in-Err
invariant_of-self-in-Err g c =
    kept_whole (chunks_of c.self.inside.descriptor) c.self.inside.out.len c.self.inside.seats.items c.args.seat c.index_mut.result.now c.deliver_chunk.new.seat
    c.deliver_chunk.new.out c.self.inside.out.items c.self.invariant.0 c.self.invariant.1
    (got c.self.inside.seats.items c.args.seat c.index_mut.result.now (omega (arith, c.self.invariant.0, c.requires.seat)) ∙ ap (λ (s : SeatState). Some s) (sym c.index_mut.ensures.value))
    (ap (λ (s : SeatState). s.told.chunks) c.in-Err.ensures.1.1.exact)
    (omega (arith, c.deliver_chunk.auto.out, ap (λ (xs : List ℕ). length xs) c.deref_mut.ensures.value, c.self.inside.out.ok.0))
    (omega (arith, c.deliver_chunk.auto.out, ap (λ (xs : List ℕ). length xs) c.deref_mut.ensures.value, c.self.invariant.2))

pub returns-in-Ok-true : goal.returns-in-Ok-true
returns-in-Ok-true g c =
    let l = (launch_of (record { descriptor = c.self.inside.descriptor; table = c.self.inside.lives; seats = c.self.inside.seats.items; moment = c.self.inside.moment }) c.args.seat c.args.chunks.now.store.now
    (record { to = c.args.next.now.to; chunk = c.args.next.now.chunk; sent_at = c.self.inside.moment; nodes = c.as_slice.result; book = c.args.chunks.now.book })
    c.plan-nodes.result.items c.index.result.now c.index_mut.result.now c.chunks.result
    (subst (λ (q : SeatsState). IsReadied q c.args.seat c.args.next.now) (sym c.self.view_is) c.requires.readied)
    (got c.self.inside.seats.items c.args.seat c.index.result.now (omega (arith, c.self.invariant.0, c.requires.seat)) ∙ ap (λ (s : SeatState). Some s) (sym c.index.ensures))
    (got c.self.inside.seats.items c.args.seat c.index_mut.result.now (omega (arith, c.self.invariant.0, c.requires.seat)) ∙ ap (λ (s : SeatState). Some s) (sym c.index_mut.ensures.value))
    (c.self.invariant.1 c.args.seat c.index.result.now (got c.self.inside.seats.items c.args.seat c.index.result.now (omega (arith, c.self.invariant.0, c.requires.seat)) ∙ ap (λ (s : SeatState). Some s) (sym c.index.ensures)))
    (subst (λ (q : SeatsState). CanServe q.descriptor c.args.chunks.now.store.now (entry c.args.chunks.now.book.now)) (sym c.self.view_is) c.requires.can)
    c.requires.committed refl c.as_slice.ensures.value c.plan-nodes.ensures.nodes c.plan-nodes.ensures.whole c.chunks.ensures.chunks c.chunks.ensures.range.0 c.chunks.ensures.range.1) in
    rw (← c.self.view_is) (sent_so (record { descriptor = c.self.inside.descriptor; table = c.self.inside.lives; seats = c.self.inside.seats.items; moment = c.self.inside.moment }) _ c.args.seat c.args.chunks.now.store.now
    (record { to = c.args.next.now.to; chunk = c.args.next.now.chunk; sent_at = c.self.inside.moment; nodes = c.as_slice.result; book = c.args.chunks.now.book })
    c.index_mut.result.now c.deliver_chunk.new.seat _ _ _ _ c.in-Ok-true.field-0 c.in-Ok-true.field-0-test l c.in-Ok-true.ensures
    (ap (λ (t : Seats). record (record { descriptor = c.self.inside.descriptor; table = c.self.inside.lives; seats = c.self.inside.seats.items; moment = c.self.inside.moment }) { table = t; seats = set c.self.inside.seats.items c.args.seat c.deliver_chunk.new.seat }) c.sent.ensures))

pub returns-in-Ok-false : goal.returns-in-Ok-false
returns-in-Ok-false g c =
    let l = (launch_of (record { descriptor = c.self.inside.descriptor; table = c.self.inside.lives; seats = c.self.inside.seats.items; moment = c.self.inside.moment }) c.args.seat c.args.chunks.now.store.now
    (record { to = c.args.next.now.to; chunk = c.args.next.now.chunk; sent_at = c.self.inside.moment; nodes = c.as_slice.result; book = c.args.chunks.now.book })
    c.plan-nodes.result.items c.index.result.now c.index_mut.result.now c.chunks.result
    (subst (λ (q : SeatsState). IsReadied q c.args.seat c.args.next.now) (sym c.self.view_is) c.requires.readied)
    (got c.self.inside.seats.items c.args.seat c.index.result.now (omega (arith, c.self.invariant.0, c.requires.seat)) ∙ ap (λ (s : SeatState). Some s) (sym c.index.ensures))
    (got c.self.inside.seats.items c.args.seat c.index_mut.result.now (omega (arith, c.self.invariant.0, c.requires.seat)) ∙ ap (λ (s : SeatState). Some s) (sym c.index_mut.ensures.value))
    (c.self.invariant.1 c.args.seat c.index.result.now (got c.self.inside.seats.items c.args.seat c.index.result.now (omega (arith, c.self.invariant.0, c.requires.seat)) ∙ ap (λ (s : SeatState). Some s) (sym c.index.ensures)))
    (subst (λ (q : SeatsState). CanServe q.descriptor c.args.chunks.now.store.now (entry c.args.chunks.now.book.now)) (sym c.self.view_is) c.requires.can)
    c.requires.committed refl c.as_slice.ensures.value c.plan-nodes.ensures.nodes c.plan-nodes.ensures.whole c.chunks.ensures.chunks c.chunks.ensures.range.0 c.chunks.ensures.range.1) in
    rw (← c.self.view_is) (refused_so (record { descriptor = c.self.inside.descriptor; table = c.self.inside.lives; seats = c.self.inside.seats.items; moment = c.self.inside.moment }) _ c.args.seat c.args.chunks.now.store.now
    (record { to = c.args.next.now.to; chunk = c.args.next.now.chunk; sent_at = c.self.inside.moment; nodes = c.as_slice.result; book = c.args.chunks.now.book })
    c.index_mut.result.now c.deliver_chunk.new.seat _ _ _ _ c.in-Ok-false.field-0 c.in-Ok-false.field-0-test l c.in-Ok-false.ensures refl)

pub returns-in-Err : goal.returns-in-Err
returns-in-Err g c =
    let l = (launch_of (record { descriptor = c.self.inside.descriptor; table = c.self.inside.lives; seats = c.self.inside.seats.items; moment = c.self.inside.moment }) c.args.seat c.args.chunks.now.store.now
    (record { to = c.args.next.now.to; chunk = c.args.next.now.chunk; sent_at = c.self.inside.moment; nodes = c.as_slice.result; book = c.args.chunks.now.book })
    c.plan-nodes.result.items c.index.result.now c.index_mut.result.now c.chunks.result
    (subst (λ (q : SeatsState). IsReadied q c.args.seat c.args.next.now) (sym c.self.view_is) c.requires.readied)
    (got c.self.inside.seats.items c.args.seat c.index.result.now (omega (arith, c.self.invariant.0, c.requires.seat)) ∙ ap (λ (s : SeatState). Some s) (sym c.index.ensures))
    (got c.self.inside.seats.items c.args.seat c.index_mut.result.now (omega (arith, c.self.invariant.0, c.requires.seat)) ∙ ap (λ (s : SeatState). Some s) (sym c.index_mut.ensures.value))
    (c.self.invariant.1 c.args.seat c.index.result.now (got c.self.inside.seats.items c.args.seat c.index.result.now (omega (arith, c.self.invariant.0, c.requires.seat)) ∙ ap (λ (s : SeatState). Some s) (sym c.index.ensures)))
    (subst (λ (q : SeatsState). CanServe q.descriptor c.args.chunks.now.store.now (entry c.args.chunks.now.book.now)) (sym c.self.view_is) c.requires.can)
    c.requires.committed refl c.as_slice.ensures.value c.plan-nodes.ensures.nodes c.plan-nodes.ensures.whole c.chunks.ensures.chunks c.chunks.ensures.range.0 c.chunks.ensures.range.1) in
    rw (← c.self.view_is) (unread_so (record { descriptor = c.self.inside.descriptor; table = c.self.inside.lives; seats = c.self.inside.seats.items; moment = c.self.inside.moment }) _ c.args.seat c.args.chunks.now.store.now
    (record { to = c.args.next.now.to; chunk = c.args.next.now.chunk; sent_at = c.self.inside.moment; nodes = c.as_slice.result; book = c.args.chunks.now.book })
    c.index_mut.result.now c.deliver_chunk.new.seat _ _ _ _ c.in-Err.unread l c.in-Err.ensures refl)
