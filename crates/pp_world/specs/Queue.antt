-- What waits for the peers: each datagram that is sent to a peer's address joins that peer's queue, whether the peer
-- runs or not, and the oldest is taken first.
use Rattle.std.specs.Prelude.{ℕ, ◌+◌, nat_lt, ◌&&◌, if◌then◌else◌, List, [], ◌∷◌, ◌++◌, length}
use Rattle.pp_terms.specs.format.Traffic.{Address, same_address, Record, Received, Quiet, Sent}
use Rattle.pp_world.specs.World.{Queued, PeerState, address_of}

-- how many may wait for a peer; one that is sent past that is lost
abbrev pub most_queued : ℕ
most_queued = 1024

-- the queue of a peer at an address, after one record of a sender's link
abbrev pub queue_with : (sender own : Address) → Record → List Queued → List Queued
queue_with sender own (Received at from bytes) queue = queue
queue_with sender own (Quiet at) queue = queue
queue_with sender own (Sent moment receiver bytes) queue =
    if same_address receiver own && nat_lt (length queue) most_queued
    then queue ++ record { sender = sender; bytes = bytes } ∷ [] else queue

-- after some records, the newest of which stands first
abbrev pub queue_after : (sender own : Address) → List Record → List Queued → List Queued
queue_after sender own [] queue = queue
queue_after sender own (r ∷ before) queue = queue_with sender own r (queue_after sender own before queue)

-- all peers after that, the first of which has this number
abbrev pub peers_after_from : ℕ → (sender : Address) → List Record → List PeerState → List PeerState
peers_after_from n sender added [] = []
peers_after_from n sender added (x ∷ xs) =
    record x { queue = queue_after sender (address_of n) added x.queue } ∷ peers_after_from (n + 1) sender added xs

-- the peers after the link of one of them gained records
abbrev pub peers_after : (sender : ℕ) → List Record → List PeerState → List PeerState
peers_after sender added peers = peers_after_from 0 (address_of sender) added peers
