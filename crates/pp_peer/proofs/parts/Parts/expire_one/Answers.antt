use Rattle.pp_peer.proofs.Ending.{over_free, over_fewer, one_fewer, drops_one, drops_outside}
use Rattle.pp_peer.proofs.parts.Parts.expire_one.Goals as goal

pub clear_seat-requires-clause-free : goal.clear_seat-requires-clause-free
clear_seat-requires-clause-free c = over_free c.args.self.now.seats c.expire.new.self c.in-Some.seat c.in-Some.ensures

pub returns-then-seat-lt-SEATS : goal.returns-then-seat-lt-SEATS
returns-then-seat-lt-SEATS c = (
  one_fewer c.args.self.now c.clear_seat.new.self c.expire.new.self c.in-Some.seat c.in-Some.ensures c.clear_seat.ensures,
  drops_one c.args.self.now c.clear_seat.new.self c.expire.new.self c.in-Some.seat c.in-Some.ensures c.clear_seat.ensures,
)

pub returns-else-seat-lt-SEATS : goal.returns-else-seat-lt-SEATS
returns-else-seat-lt-SEATS c = (
  over_fewer c.args.self.now.seats c.expire.new.self c.in-Some.seat c.in-Some.ensures,
  drops_outside c.args.self.now c.expire.new.self c.in-Some.seat c.in-Some.ensures c.if-seat-lt-SEATS.false,
)
