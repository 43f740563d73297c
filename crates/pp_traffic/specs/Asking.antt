-- What a peer may be sent: chunks that it asks for while it isn't choked (RFC 7574, sections 3.7, 3.8 and 3.9).
use Rattle.std.specs.Prelude.{ℕ, ◌+◌, ◌==◌, Bool, true, false, not, ◌&&◌, ◌||◌, if◌then◌else◌, List, [], ◌∷◌}
use Rattle.pp_terms.specs.format.Traffic.{Record}
use Rattle.pp_terms.specs.format.Descriptor.{Descriptor}
use Rattle.pp_terms.specs.format.Messages.{Message, Data, Request, Cancel, Choke, Unchoke}
use Rattle.pp_terms.specs.tree.Range.{within}
use Rattle.pp_traffic.specs.Past.{some_since}
use Rattle.pp_traffic.specs.Life.{Life, comes_on}
use Rattle.pp_traffic.specs.Story.{Line, Heard, Said, Taken}

-- the message chokes the peer: true; or lifts a choke: false
abbrev pub choked_by : Message → Bool → Bool
choked_by Choke before = true
choked_by Unchoke before = false
choked_by _ before = before

-- a CHOKE was sent, and no UNCHOKE since
abbrev pub choked : List Line → Bool
choked [] = false
choked (Heard now m ∷ before) = choked before
choked (Said now m ∷ before) = choked_by m (choked before)
choked (Taken now ∷ before) = choked before

-- a message that came asks for the chunk, or withdraws the request
abbrev pub asked_by : ℕ → Bool → Message → Bool → Bool
asked_by i is_choked (Request span) before = (within span i && not is_choked) || before
asked_by i is_choked (Cancel span) before = not (within span i) && before
asked_by i is_choked _ before = before

-- one that was sent ends a request: the chunk itself, or a CHOKE
abbrev pub asked_after : ℕ → Message → Bool → Bool
asked_after i (Data chunk sent_at bytes) before = not (chunk == i) && before
asked_after i Choke before = false
asked_after i _ before = before

-- A REQUEST for the chunk came while the peer wasn't choked, and since then no CANCEL of it came and neither a CHOKE nor
-- the chunk was sent.
abbrev pub asked : ℕ → List Line → Bool
asked i [] = false
asked i (Heard now m ∷ before) = asked_by i (choked before) m (asked i before)
asked i (Said now m ∷ before) = asked_after i m (asked i before)
asked i (Taken now ∷ before) = asked i before

-- the message asks for chunks, or withdraws a request
abbrev pub asks : Message → Bool
asks (Request span) = true
asks (Cancel span) = true
asks _ = false

-- how many such messages came
abbrev pub asks_in : List Line → ℕ
asks_in [] = 0
asks_in (Heard now m ∷ before) = if asks m then asks_in before + 1 else asks_in before
asks_in (Said now m ∷ before) = asks_in before
asks_in (Taken now ∷ before) = asks_in before

-- how many of them a peer has room for, whatever they name
abbrev pub most_asks : ℕ
most_asks = 64

-- a datagram came from the peer to this peer's number, so its address is no forged one
abbrev pub is_heard : Descriptor → Life → List Record → Bool
is_heard d life past = some_since (comes_on d life) life.opening past
