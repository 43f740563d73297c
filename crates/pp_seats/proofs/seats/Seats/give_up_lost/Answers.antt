use Rattle.std.proofs.Common.{refl, sym, ap, ◌∙◌, arith, Some}
use Rattle.pp_terms.specs.format.Descriptor.{chunks_of}
use Rattle.pp_seat.specs.Seats.{SeatState}
use Rattle.pp_seats.proofs.Lists.{got, set_length, set_holds}
use Rattle.pp_seats.proofs.Turnings.{lost_so, lost_room}
use Rattle.pp_seats.proofs.seats.Seats.give_up_lost.Goals as goal

pub invariant_of-self : goal.invariant_of-self
invariant_of-self c =
    let items = c.self.inside.seats.items in
    let there = got items c.args.seat c.index_mut.result.now (omega (arith, c.self.invariant.0, c.requires)) ∙ ap (λ (s : SeatState). Some s) (sym c.index_mut.ensures.value) in (
      set_length items c.args.seat c.lost.new.self ∙ c.self.invariant.0,
      set_holds (chunks_of c.self.inside.descriptor) items c.args.seat c.index_mut.result.now c.lost.new.self c.self.invariant.1 there
          (lost_room c.lost.result c.index_mut.result.now c.lost.new.self c.lost.ensures.taken),
      c.self.invariant.2,
    )

pub returns : goal.returns
returns c = rw (← c.self.view_is) (lost_so _ _ c.args.seat c.lost.result c.index_mut.result.now c.lost.new.self
    (got c.self.inside.seats.items c.args.seat c.index_mut.result.now (omega (arith, c.self.invariant, c.requires)) ∙ ap (λ (s : SeatState). Some s) (sym c.index_mut.ensures.value))
    c.lost.ensures.least c.lost.ensures.taken c.lost.ensures.stays c.lost.ensures.awaits refl)
