-- Mail, which is the queues of all peers by their numbers: what changes one of them, and what is sent.
use Rattle.std.specs.Prelude.{ℕ, ◌+◌, List, [], ◌∷◌, slice_index_or, slice_set}
use Rattle.pp_terms.specs.format.Traffic.{Address, Sent}
use Rattle.pp_world.specs.World.{Queued, address_of}
use Rattle.pp_world.specs.Queue.{queue_with}

-- what waits for a peer, the oldest first
abbrev pub queue_of : (peer : ℕ) → List (List Queued) → List Queued
queue_of peer mail = slice_index_or mail peer []

-- the mail with one peer's queue changed
abbrev pub with_queue : (peer : ℕ) → (List Queued → List Queued) → List (List Queued) → List (List Queued)
with_queue peer change mail = slice_set mail peer (change (queue_of peer mail))

-- the queues of the peers from this number on, after a datagram was sent
abbrev pub delivered_from : (first : ℕ) → (sender receiver : Address) → List ℕ → List (List Queued) → List (List Queued)
delivered_from first sender receiver bytes [] = []
delivered_from first sender receiver bytes (queue ∷ queues) =
    queue_with sender (address_of first) (Sent 0 receiver bytes) queue ∷ delivered_from (first + 1) sender receiver bytes queues

-- the mail after a datagram that a peer sent to an address
abbrev pub delivered : (sender : ℕ) → (receiver : Address) → List ℕ → List (List Queued) → List (List Queued)
delivered sender receiver bytes mail = delivered_from 0 (address_of sender) receiver bytes mail
