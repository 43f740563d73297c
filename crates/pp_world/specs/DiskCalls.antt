-- The calls of its disk that a peer makes in a turn or an opening: none fails that wasn't ordered to.
use Rattle.std.specs.Prelude.{◌≡◌, ℕ, ◌+◌, true, List, [], ◌∷◌, ◌++◌}
use Rattle.std.specs.List.{AllByRecursion}
use Rattle.pp_terms.specs.disk.Calls.{Did, Wrote, Refused, Synced, Crashed}
use Rattle.pp_world.specs.Orders.{has_order, times_used}
use Rattle.pp_world.specs.Schedule.{Device, Read, Write, Sync}
use Rattle.pp_world.specs.World.{PeerState}

-- how many writes among the calls were refused
abbrev pub refused_writes : List Did → ℕ
refused_writes [] = 0
refused_writes (Wrote place bytes ∷ calls) = refused_writes calls
refused_writes (Refused place bytes ∷ calls) = refused_writes calls + 1
refused_writes (Synced ∷ calls) = refused_writes calls
refused_writes (Crashed image ∷ calls) = refused_writes calls

-- A peer makes calls; a crash is none.
abbrev pub IsCall : Did → Type 0
IsCall (Wrote place bytes) = Unit {0}
IsCall (Refused place bytes) = Unit {0}
IsCall Synced = Unit {0}
IsCall (Crashed image) = ⊥

-- The disk gained these calls. As many were refused as orders were used up, and no order is new. A reading, and a
-- sync that was refused, change nothing and are none of these calls.
pub record MakesCalls (old new : PeerState) : Type 0 where
  pub calls : List Did
  pub made : new.disk ≡ record old.disk { done = old.disk.done ++ calls }
  pub are_calls : AllByRecursion IsCall calls
  pub ordered : (call : Device) → has_order new.orders call ≡ true → has_order old.orders call ≡ true
  pub writes : refused_writes calls ≡ times_used Write old.orders new.orders
  pub faults : new.faults ≡ old.faults + times_used Read old.orders new.orders
      + times_used Write old.orders new.orders + times_used Sync old.orders new.orders
  pub hard : new.hard ≡ old.hard + times_used Write old.orders new.orders + times_used Sync old.orders new.orders
