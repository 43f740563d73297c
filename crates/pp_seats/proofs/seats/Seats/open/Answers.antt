use Rattle.std.proofs.Common.{refl, sym, ap, ◌∙◌, arith, Some}
use Rattle.pp_seat.specs.Seats.{SeatState}
use Rattle.pp_seats.proofs.Lists.{got}
use Rattle.pp_seats.proofs.seats.Seats.open.Goals as goal

pub returns : goal.returns
returns c = rw (← c.self.view_is) (record {
  before = c.index_mut.result.now;
  after = c.begin.new.self;
  there = got c.self.inside.seats.items c.args.seat c.index_mut.result.now (omega (arith, c.self.invariant, c.requires)) ∙ ap (λ (s : SeatState). Some s) (sym c.index_mut.ensures.value);
  is = refl;
  changes = record {
    fresh = c.begin.ensures.fresh;
    room = c.begin.ensures.chunks;
    follows = λ f t few size can. c.begin.ensures.follows f t few (size ∙ sym c.chunk.ensures.chunk) can;
  };
})
