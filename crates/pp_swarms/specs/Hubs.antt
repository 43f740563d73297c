-- Several swarms on one socket, as contracts see them.
use Rattle.std.specs.Prelude.{◌≡◌, ℕ, ◌<◌, Bool, true, false, if◌then◌else◌, List, [], ◌∷◌, ◌++◌, length, Result, Ok, Err, is_none, ◌&&◌}
use Rattle.pp_terms.specs.Count.{one_more}
use Rattle.pp_outside.specs.declared.link.Event.{Event}
use Rattle.pp_outside.specs.declared.link.Event.TheVariants.{Datagram, Quiet}
use Rattle.pp_core.specs.Peers.{PeerState}
use Rattle.pp_swarms.specs.Routing.{routed}

-- The peers, each of a swarm, in the order in which they joined; and how many datagrams came that were for none of them.
pub record HubState : Type 0 where
  pub peers : List PeerState
  pub unrouted : ℕ

abbrev pub empty_hub : HubState
empty_hub = record { peers = []; unrouted = 0 }

-- A peer joined as the last one, with the number of those before it; or it was given back, where 16 are there.
abbrev pub Joins : PeerState → HubState → HubState → Result ℕ PeerState → Type 0
Joins p old new (Ok s) = (length old.peers < 16) × (s ≡ length old.peers) × (new ≡ record old { peers = old.peers ++ p ∷ [] })
Joins p old new (Err q) = (length old.peers ≡ 16) × (q ≡ p) × (new ≡ old)

-- a datagram
abbrev pub is_datagram : Event → Bool
is_datagram (Datagram sender len at) = true
is_datagram (Quiet at) = false

-- the count of datagrams for none of the swarms, after a wait
abbrev pub count_unrouted : List PeerState → Event → List ℕ → ℕ → ℕ
count_unrouted peers event buffer count = if is_datagram event && is_none (routed peers event buffer) then one_more count else count
