use Rattle.std.proofs.Common.{refl, sym, ap, ◌∙◌, arith, Some}
use Rattle.pp_seat.specs.Seats.{SeatState}
use Rattle.pp_seats.proofs.Lists.{got}
use Rattle.pp_seats.proofs.Composing.{hears_one}
use Rattle.pp_seats.proofs.seats.Seats.heard_data.Goals as goal

pub returns : goal.returns
returns c = rw (← c.self.view_is) (record {
  before = c.index_mut.result.now;
  after = c.heard_data.new.self;
  there = got c.self.inside.seats.items c.args.seat c.index_mut.result.now (omega (arith, c.self.invariant, c.requires)) ∙ ap (λ (s : SeatState). Some s) (sym c.index_mut.ensures.value);
  is = refl;
  changes = (
    record { waited = c.heard_data.ensures.was; rest = c.heard_data.ensures.rest; taken = c.heard_data.ensures.taken },
    λ sent_at bytes. hears_one _ _ c.index_mut.result.now c.heard_data.new.self (c.heard_data.ensures.goes _ sent_at bytes) (c.heard_data.ensures.awaits sent_at bytes),
  );
})
