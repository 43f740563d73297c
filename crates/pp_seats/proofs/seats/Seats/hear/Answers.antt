use Rattle.std.proofs.Common.{refl, sym, ap, ◌∙◌, arith, Some}
use Rattle.pp_seat.specs.Seats.{SeatState}
use Rattle.pp_seats.proofs.Lists.{got}
use Rattle.pp_seats.proofs.Composing.{hears_one}
use Rattle.pp_seats.proofs.seats.Seats.hear.Goals as goal

pub returns : goal.returns
returns c = rw (← c.self.view_is) (record {
  before = c.index_mut.result.now;
  after = c.hear.new.seat;
  there = got c.self.inside.seats.items c.args.seat c.index_mut.result.now (omega (arith, c.self.invariant, c.requires)) ∙ ap (λ (s : SeatState). Some s) (sym c.index_mut.ensures.value);
  is = refl;
  changes = (c.hear.ensures.hears, hears_one _ _ c.index_mut.result.now c.hear.new.seat c.hear.ensures.goes c.hear.ensures.awaits);
})
