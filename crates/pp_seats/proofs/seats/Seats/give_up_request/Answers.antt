use Rattle.std.proofs.Common.{refl, sym, ap, ◌∙◌, arith, Some}
use Rattle.pp_terms.specs.format.Descriptor.{chunks_of}
use Rattle.pp_seat.specs.Seats.{SeatState}
use Rattle.pp_seats.proofs.Lists.{got, set_length, set_holds}
use Rattle.pp_seats.proofs.Turnings.{given_so, given_room}
use Rattle.pp_seats.proofs.seats.Seats.give_up_request.Goals as goal

pub invariant_of-self : goal.invariant_of-self
invariant_of-self c =
    let items = c.self.inside.seats.items in
    let there = got items c.args.seat c.index_mut.result.now (omega (arith, c.self.invariant.0, c.requires)) ∙ ap (λ (s : SeatState). Some s) (sym c.index_mut.ensures.value) in (
      set_length items c.args.seat c.expired.new.self ∙ c.self.invariant.0,
      set_holds (chunks_of c.self.inside.descriptor) items c.args.seat c.index_mut.result.now c.expired.new.self c.self.invariant.1 there
          (given_room c.expired.result c.index_mut.result.now c.expired.new.self c.expired.ensures.taken),
      c.self.invariant.2,
    )

pub returns : goal.returns
returns c = rw (← c.self.view_is) (given_so _ _ c.args.seat c.expired.result c.index_mut.result.now c.expired.new.self
    (got c.self.inside.seats.items c.args.seat c.index_mut.result.now (omega (arith, c.self.invariant, c.requires)) ∙ ap (λ (s : SeatState). Some s) (sym c.index_mut.ensures.value))
    c.expired.ensures.least c.expired.ensures.taken c.expired.ensures.stays c.expired.ensures.awaits refl)
