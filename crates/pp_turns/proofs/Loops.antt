-- Turns in a loop.
use Rattle.std.proofs.Common.{◌≡◌, ℕ, ◌+◌, ◌<◌, ◌≤◌, Bool, true, Ok, Err, refl, ◌∙◌, arith}
use Rattle.pp_outside.specs.declared.disk.DiskFault.{DiskFault}
use Rattle.pp_peer.specs.Standing.{Beginning}
use Rattle.pp_turns.specs.Taking.{TakesTurn, HasAll, LacksSome, TakesSome, TakesAll, StopsIn}
use Rattle.pp_turns.specs.Turning.{Post, IsBegun}
use Rattle.pp_turns.proofs.Turned.{turned_none}

-- So many turns have been taken.
pub record HasTaken (taken most : ℕ) (fetches : Bool) (old new : Post) (room : ℕ) : Type 0 where
  pub within : taken ≤ most
  pub some : (b : Beginning) → IsBegun b old → TakesSome b taken fetches old new
  pub buffer : room ≡ 65536

pub taken_none : (most : ℕ) (fetches : Bool) (p : Post) (room : ℕ) → room ≡ 65536 → HasTaken 0 most fetches p p room
taken_none most fetches p room buffer = record {
  within = omega arith;
  some = λ b begun. record { turns = turned_none b p begun; needed = λ some. absurd (omega (arith, some)) };
  buffer = buffer;
}

module _ (taken most : ℕ) (fetches : Bool) (old mid : Post) (room : ℕ) (h : HasTaken taken most fetches old mid room) where
  pub taken_more : (new : Post) (room' : ℕ) → taken < most → (fetches ≡ true → LacksSome mid.peer) → TakesTurn mid new (Ok tt) → room' ≡ room
      → HasTaken (taken + 1) most fetches old new room'
  taken_more new room' lt lacks turn same = record {
    within = omega (arith, lt);
    some = λ b begun. record {
      turns = turn b taken old (h.some b begun).turns;
      needed = λ some yes. record { before = taken; last = refl; mid = mid; turns = (h.some b begun).turns; lacks = lacks yes };
    };
    buffer = same ∙ h.buffer;
  }

  pub taken_stops : (new : Post) (fault : DiskFault) → taken < most → TakesTurn mid new (Err fault) → (b : Beginning) → IsBegun b old → StopsIn b most old new
  taken_stops new fault lt turn b begun = record { taken = taken + 1; within = omega (arith, lt); stops = turn b taken old (h.some b begun).turns }

  pub taken_early : (fetches ≡ true) × HasAll mid.peer → (b : Beginning) → IsBegun b old → TakesAll b most fetches old mid
  taken_early all b begun = record { taken = taken; within = h.within; some = h.some b begun; early = λ lt. all }

  pub taken_all : most ≤ taken → (b : Beginning) → IsBegun b old → TakesAll b most fetches old mid
  taken_all le b begun = record { taken = taken; within = h.within; some = h.some b begun; early = λ lt. absurd (omega (arith, lt, le)) }
