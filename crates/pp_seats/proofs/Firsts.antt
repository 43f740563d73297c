-- Seats of which none is in use.
use Rattle.std.proofs.Common.{None, refl}
use Rattle.pp_channels.proofs.Seating.{none_there}
use Rattle.pp_lives.proofs.Wholes.{stands_at_first}
use Rattle.pp_seats.specs.Laws.{NothingYet}

pub nothing_yet : NothingYet
nothing_yet x seats numbers = record {
  swarm = refl;
  now_is = refl;
  lives = λ n. None;
  standing = stands_at_first x.d numbers;
  begun = λ n c there waits. absurd (let none = none_there 64 n in cc);
  follow = λ n c life s there known living has. absurd (let none = none_there 64 n in cc);
}
