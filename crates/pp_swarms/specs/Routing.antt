-- Which of several swarms on one socket a datagram is for (RFC 7574, sections 3.1.1, 7.5 and 8.2).
use Rattle.std.specs.Prelude.{ℕ, ◌==◌, nat_eq, nat_lt, Bool, if◌then◌else◌, Option, Some, None, is_some, position, List, [], ◌∷◌, length, take, drop, Result, Ok, Err}
use Rattle.std.specs.Cmp.Lexicographic.{pointwise}
use Rattle.std.specs.Int.{w32, from_be_bytes}
use Rattle.pp_terms.specs.format.Messages.{Message, Handshake, WireKind, handshake_at}
use Rattle.pp_outside.specs.declared.link.Address.{Address}
use Rattle.pp_outside.specs.declared.link.Event.{Event}
use Rattle.pp_outside.specs.declared.link.Event.TheVariants.{Datagram, Quiet}
use Rattle.pp_channels.specs.Seats.{is_found}
use Rattle.pp_core.specs.Peers.{PeerState}

-- ---- by the swarm identifier

-- the swarm identifier of a handshake, its option 2
abbrev pub identifier_in : Message → Option (List ℕ)
identifier_in (Handshake source options) = options.swarm
identifier_in _ = None

abbrev pub identifier_of : Result (Message × List ℕ) WireKind → Option (List ℕ)
identifier_of (Ok x) = identifier_in x.0
identifier_of (Err kind) = None

-- the identifier that messages name whose first is a handshake; its type is 0
abbrev pub named_first : List ℕ → Option (List ℕ)
named_first [] = None
named_first (type ∷ rest) = if type == 0 then identifier_of (handshake_at rest) else None

-- the root of the peer's swarm is that identifier
abbrev pub has_root : List ℕ → PeerState → Bool
has_root root p = pointwise nat_eq root p.parts.holding.store.descriptor.root

-- the first swarm that an identifier names
abbrev pub place_of_root : Option (List ℕ) → List PeerState → Option ℕ
place_of_root None peers = None
place_of_root (Some root) peers = position (has_root root) peers

-- ---- by the channel

-- a channel of the peer has that number, of this peer's, and that address
abbrev pub owns : ℕ → Address → PeerState → Bool
owns number sender p = is_some (position (is_found number sender) p.parts.seats.table.channels)

-- ---- any datagram

abbrev pub route_by : ℕ → Address → List ℕ → List PeerState → Option ℕ
route_by number sender messages peers =
    if number == 0 then place_of_root (named_first messages) peers else position (owns number sender) peers

-- The swarm of a datagram, by its number in the list: for channel 0 the one that its handshake names, for another channel the first that
-- has it with the sender's address. None where it has no number, or there is no such swarm.
unfoldable pub route_of : List PeerState → Address → List ℕ → Option ℕ
route_of peers sender bytes =
    if nat_lt (length bytes) 4 then None else route_by (from_be_bytes w32 (take 4 bytes)) sender (drop 4 bytes) peers

-- the swarm of what a wait came to, in the buffer
abbrev pub routed : List PeerState → Event → List ℕ → Option ℕ
routed peers (Datagram sender len at) buffer = route_of peers sender (take len buffer)
routed peers (Quiet at) buffer = None
