-- What is asked for when all was said.
use Rattle.std.specs.Prelude.{◌≡◌, ◌⊎◌, ℕ, ◌<◌, true, false, Some, length, slice_get}
use Rattle.pp_terms.specs.Count.{HasRisen}
use Rattle.pp_terms.specs.disk.Disk.{DiskState}
use Rattle.pp_terms.specs.format.Traffic.{LinkState}
use Rattle.pp_store.specs.Store.{is_committed}
use Rattle.pp_channels.specs.Seats.{channel_at}
use Rattle.pp_lives.specs.Fars.{far_of}
use Rattle.pp_lives.specs.declared.lives.Far.{Far}
use Rattle.pp_avail.specs.declared.ranker.Rank.{Rank}
use Rattle.pp_avail.specs.Offers.{Offers}
use Rattle.pp_avail.specs.Picks.{rank_in, Precedes}
use Rattle.pp_wanting.specs.Wants.{is_for}
use Rattle.pp_fetching.specs.Fetching.{FetchState}
use Rattle.pp_fetching.specs.Owners.{awaits}
use Rattle.pp_seat.specs.Seats.{SeatState}
use Rattle.pp_peer.specs.declared.parts.Parts.{Parts}
use Rattle.pp_peer.specs.Standing.{own_in}
use Rattle.pp_peer.specs.Speaking.{most_of}
use Rattle.pp_core.specs.Peers.{PeerState}
use Rattle.pp_core.specs.Turning.{Sends}

-- More may be asked for on the channel of a seat: this peer's handshake was sent there, it is proven, its peer doesn't choke, and
-- fewer than 32 chunks are awaited; or none, where a request expired and no datagram came since.
pub record HasRoom (seat : ℕ) (p : Parts) : Type 0 where
  pub far : Far
  pub is_far : far_of (channel_at p.seats.table seat) ≡ Some far
  pub begun : far.begun ≡ true
  pub known : SeatState
  pub there : slice_get p.seats.seats seat ≡ Some known
  pub few : length known.own < most_of known

-- No chunk that is awaited on the channel of a seat is committed; one that is would be cancelled, and leave room for the next flush.
abbrev pub AwaitsUncommitted : ℕ → Parts → Type 0
AwaitsUncommitted seat p = (i : ℕ) → awaits (own_in p.seats.seats seat) i ≡ true → is_committed p.holding.store i ≡ false

-- The seat offers no chunk below the limit that is neither had nor asked for.
abbrev pub OffersNone : ℕ → Parts → Type 0
OffersNone seat p = (f : FetchState) → p.fetching ≡ Some f → (i : ℕ) → is_for f.want f.offers seat i ≡ false

-- A chunk goes before another by the order of a ranker, for so many seats offer them.
abbrev pub GoesBefore : Rank → Offers → ℕ → ℕ → Type 0
GoesBefore order o i j = Precedes (rank_in order o i) i (rank_in order o j) j

-- Each chunk that is awaited on the channel of a seat, and wasn't before, goes before each that the seat offers and that is neither had
-- nor asked for; so it is unless the link refused a datagram.
abbrev pub AsksInOrder : Rank → (seat : ℕ) → (old said : Parts) → (link later : LinkState) → Type 0
AsksInOrder order seat old said link later = (f : FetchState) → said.fetching ≡ Some f → (i j : ℕ)
    → awaits (own_in said.seats.seats seat) i ≡ true → awaits (own_in old.seats.seats seat) i ≡ false
    → is_for f.want f.offers seat j ≡ true → GoesBefore order f.offers i j ⊎ HasRisen link.faults later.faults

-- In the course of the flush, once all is said, each channel on which more may be asked for offers nothing more to ask for, unless the
-- link refused a datagram; and on each the chunks were asked for that are first by the order of the peer's ranker. What is asked for
-- then stays while chunks go.
pub record Asks (old new : PeerState) (link later : LinkState) (disk left : DiskState) : Type 0 where
  pub refused : ℕ
  pub course : Sends refused old new link later disk left
  pub asks : (seat : ℕ) → seat < 64 → AwaitsUncommitted seat old.parts → HasRoom seat course.sends.said.parts
      → OffersNone seat new.parts ⊎ HasRisen link.faults later.faults
  pub orders : (seat : ℕ) → seat < 64 → AsksInOrder old.speaker.order seat old.parts course.sends.said.parts link later
  pub fetching : new.parts.fetching ≡ course.sends.said.parts.fetching
