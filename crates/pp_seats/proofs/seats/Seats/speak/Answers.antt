use Rattle.std.proofs.Common.{Bool, not, sym, ap, ◌∙◌, arith, Some, List, ℕ, length}
use Rattle.std.specs.Prelude.{is_some}
use Rattle.std.proofs.Math.ListN.{set}
use Rattle.pp_terms.specs.format.Descriptor.{chunks_of}
use Rattle.pp_channels.specs.Seats.{Seats}
use Rattle.pp_seat.specs.Seats.{SeatState}
use Rattle.pp_seats.specs.Standing.{SeatsState}
use Rattle.pp_seats.proofs.Lists.{got}
use Rattle.std.proofs.lemmas.Bool.{both_ways, not-false}
use Rattle.pp_lives.specs.Sending.{with_datagram}
use Rattle.pp_seats.specs.Sending.{opening_at}
use Rattle.pp_seats.proofs.Speaking.{speaks_so, kept_whole, with_some, with_none}
use Rattle.pp_seats.proofs.seats.Seats.speak.Goals as goal
use Rattle.pp_seats.proofs.seats.Seats.speak.Goals.{else-is_none-via-then-is_none+else-not-far, else-is_none-via-else-is_none}

pub invariant_of-self : goal.invariant_of-self
invariant_of-self g c =
    kept_whole (chunks_of c.self.inside.descriptor) c.self.inside.out.len c.self.inside.seats.items c.args.seat c.index_mut.result.now c.deliver-delivered.new.seat
    c.deliver-delivered.new.out c.self.inside.out.items c.self.invariant.0 c.self.invariant.1
    (got c.self.inside.seats.items c.args.seat c.index_mut.result.now (omega (arith, c.self.invariant.0, c.requires.seat)) ∙ ap (λ (s : SeatState). Some s) (sym c.index_mut.ensures.value))
    c.deliver-delivered.ensures.content
    (omega (arith, c.deliver-delivered.auto.out, ap (λ (xs : List ℕ). length xs) c.deref_mut.ensures.value, c.self.inside.out.ok.0))
    (omega (arith, c.deliver-delivered.auto.out, ap (λ (xs : List ℕ). length xs) c.deref_mut.ensures.value, c.self.invariant.2))

pub invariant_of-self-else-delivered-gt0 : goal.invariant_of-self-else-delivered-gt0
invariant_of-self-else-delivered-gt0 g c =
    kept_whole (chunks_of c.self.inside.descriptor) c.self.inside.out.len c.self.inside.seats.items c.args.seat c.index_mut.result.now c.deliver-delivered.new.seat
    c.deliver-delivered.new.out c.self.inside.out.items c.self.invariant.0 c.self.invariant.1
    (got c.self.inside.seats.items c.args.seat c.index_mut.result.now (omega (arith, c.self.invariant.0, c.requires.seat)) ∙ ap (λ (s : SeatState). Some s) (sym c.index_mut.ensures.value))
    c.deliver-delivered.ensures.content
    (omega (arith, c.deliver-delivered.auto.out, ap (λ (xs : List ℕ). length xs) c.deref_mut.ensures.value, c.self.inside.out.ok.0))
    (omega (arith, c.deliver-delivered.auto.out, ap (λ (xs : List ℕ). length xs) c.deref_mut.ensures.value, c.self.invariant.2))

pub returns-then-delivered-gt0 : goal.returns-then-delivered-gt0
returns-then-delivered-gt0 g c =
    let p : SeatsState = record { descriptor = c.self.inside.descriptor; table = c.self.inside.lives; seats = c.self.inside.seats.items; moment = c.self.inside.moment } in
    let o = c.opening-opening.result in
    rw (← c.self.view_is) (speaks_so p _ c.args.seat c.args.notes.now _ c.deliver-delivered.result _ _ c.in_ok-far.far c.index_mut.result.now c.deliver-delivered.new.seat
    (sym c.far.ensures.exact ∙ c.in_ok-far.was)
    (got c.self.inside.seats.items c.args.seat c.index_mut.result.now (omega (arith, c.self.invariant.0, c.requires.seat)) ∙ ap (λ (s : SeatState). Some s) (sym c.index_mut.ensures.value))
    c.requires.plain o
    (ap (λ (s : SeatsState). opening_at s c.args.seat) c.self.view_is ∙ sym c.opening-opening.ensures)
    (λ none. elim c.else-is_none.branch [
      | else-is_none-via-then-is_none+else-not-far w ↦ not-false c.in_ok-far.far.begun w.if-not-far.false
      | else-is_none-via-else-is_none w ↦ absurd (both_ways (not c.is_none.result) (sym c.is_none.ensures ∙ ap is_some none) (ap not w.if-is_none.false))
    ])
    c.deliver-delivered.ensures.goes
    (ap (λ (t : Seats). record p { table = t; seats = set c.self.inside.seats.items c.args.seat c.deliver-delivered.new.seat })
    (c.sent.ensures ∙ ap (λ (b : Bool). with_datagram c.self.inside.lives c.args.seat b c.self.inside.moment) c.is_some.ensures
    ∙ with_some c.self.inside.lives c.args.seat (is_some o) c.deliver-delivered.result.sent c.self.inside.moment c.if-delivered-gt0.true)))

pub returns-else-delivered-gt0 : goal.returns-else-delivered-gt0
returns-else-delivered-gt0 g c =
    let p : SeatsState = record { descriptor = c.self.inside.descriptor; table = c.self.inside.lives; seats = c.self.inside.seats.items; moment = c.self.inside.moment } in
    let o = c.opening-opening.result in
    rw (← c.self.view_is) (speaks_so p _ c.args.seat c.args.notes.now _ c.deliver-delivered.result _ _ c.in_ok-far.far c.index_mut.result.now c.deliver-delivered.new.seat
    (sym c.far.ensures.exact ∙ c.in_ok-far.was)
    (got c.self.inside.seats.items c.args.seat c.index_mut.result.now (omega (arith, c.self.invariant.0, c.requires.seat)) ∙ ap (λ (s : SeatState). Some s) (sym c.index_mut.ensures.value))
    c.requires.plain o
    (ap (λ (s : SeatsState). opening_at s c.args.seat) c.self.view_is ∙ sym c.opening-opening.ensures)
    (λ none. elim c.else-is_none.branch [
      | else-is_none-via-then-is_none+else-not-far w ↦ not-false c.in_ok-far.far.begun w.if-not-far.false
      | else-is_none-via-else-is_none w ↦ absurd (both_ways (not c.is_none.result) (sym c.is_none.ensures ∙ ap is_some none) (ap not w.if-is_none.false))
    ])
    c.deliver-delivered.ensures.goes
    (ap (λ (t : Seats). record p { table = t; seats = set c.self.inside.seats.items c.args.seat c.deliver-delivered.new.seat })
    (with_none c.self.inside.lives c.args.seat (is_some o) c.deliver-delivered.result.sent c.self.inside.moment c.if-delivered-gt0.false)))
