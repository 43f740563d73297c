-- What a seat makes of a chunk that was delivered, and what a greeting is.
use Rattle.std.specs.Prelude.{◌≡◌, ℕ, ◌+◌, Bool, true, false, List, [], ◌∷◌}
use Rattle.pp_terms.specs.format.Descriptor.{Descriptor}
use Rattle.pp_terms.specs.format.Messages.{Message}
use Rattle.pp_traffic.specs.Meter as meters
use Rattle.pp_requests.specs.Lists.{without, chunk_count}
use Rattle.pp_draft.specs.declared.chunk.Delivery.{Delivery}
use Rattle.pp_draft.specs.Datagrams.{IsDatagram}
use Rattle.pp_draft.specs.Deliveries.{delivers}
use Rattle.pp_seat.specs.Seats.{SeatState}
use Rattle.pp_seat.specs.Follows.{Says, GivesUp, Always}

-- The chunk leaves the list and flies, and the seat follows its hashes and its DATA, whatever bytes it has.
pub record IsServed (x : Delivery) (old new : SeatState) : Type 0 where
  pub exact : new ≡ record old { list = without x.chunk old.list; window = meters.sent x.chunk x.sent_at old.window }
  pub fewer : chunk_count new.list + 1 ≡ chunk_count old.list
  pub says : (bytes : List ℕ) → Says Always x.sent_at (delivers x bytes) old new

-- The chunk leaves the list, and is given up.
pub record IsLetGo (x : Delivery) (old new : SeatState) : Type 0 where
  pub exact : new ≡ record old { list = without x.chunk old.list }
  pub fewer : chunk_count new.list + 1 ≡ chunk_count old.list
  pub given : GivesUp old new

-- whether it was sent
abbrev pub FollowsChunk : Delivery → Bool → SeatState → SeatState → Type 0
FollowsChunk x true old new = IsServed x old new
FollowsChunk x false old new = IsLetGo x old new

-- A datagram of one message, of which it holds that it was sent, or refused.
pub record PostsOne (d : Descriptor) (channel : ℕ) (m : Message) (does : List ℕ → Type 0) : Type 0 where
  pub bytes : List ℕ
  pub written : IsDatagram d channel (m ∷ []) bytes
  pub goes : does bytes
