-- What a peer keeps stands for what its link carried.
use Rattle.std.specs.Prelude.{◌≡◌, ℕ, ◌≤◌, Bool, true, Option, Some, None, List, [], length, slice_get}
use Rattle.pp_terms.specs.Count.{capped}
use Rattle.pp_terms.specs.format.Traffic.{Record}
use Rattle.pp_terms.specs.format.Descriptor.{Descriptor, chunks_of}
use Rattle.pp_tree.specs.Book.{entry}
use Rattle.pp_traffic.specs.Meter.{lets_send}
use Rattle.pp_traffic.specs.Serving.{ServesAll}
use Rattle.pp_traffic.specs.Keeping.{EachAnnounced}
use Rattle.pp_traffic.specs.Tallied.{came, came_short, went}
use Rattle.pp_promises.specs.Datagrams.{PlansAll}
use Rattle.pp_requests.specs.declared.asking.Asking.{Asking}
use Rattle.pp_counts.specs.declared.counts.Counts.{Counts}
use Rattle.pp_store.specs.Store.{is_committed}
use Rattle.pp_channels.specs.Seats.{channel_at}
use Rattle.pp_lives.specs.Fars.{far_of}
use Rattle.pp_fetching.specs.Fetching.{FetchState}
use Rattle.pp_fetching.specs.Owners.{AreOwned}
use Rattle.pp_seat.specs.Seats.{SeatState}
use Rattle.pp_seats.specs.Standing.{Setting}
use Rattle.pp_seats.specs.Standing as seats
use Rattle.pp_seats.specs.Sending.{HoldsAnnounced}
use Rattle.pp_peer.specs.declared.parts.Parts.{Parts}

-- What is settled when a peer begins: the swarm, which chunks it found, and the disk's moment then.
pub record Beginning : Type 0 where
  pub d : Descriptor
  pub is_found : ℕ → Bool
  pub since : ℕ

-- what is settled around its seats, with of which chunks the other peers are to know
abbrev pub setting : Beginning → (known_of : ℕ → ℕ → Bool) → Setting
setting b known_of = record { d = b.d; is_found = b.is_found; known_of = known_of }

-- ---- of what content it is

-- All parts are of one content.
pub record IsWhole (p : Parts) : Type 0 where
  pub swarm : p.seats.descriptor ≡ p.holding.store.descriptor
  pub content : (f : FetchState) → p.fetching ≡ Some f → length f.want.had ≡ chunks_of p.holding.store.descriptor

-- how many chunks the content has of a peer that fetches
abbrev pub size_of : Option FetchState → Option ℕ
size_of None = None
size_of (Some f) = Some (length f.want.had)

-- The swarm of the channels and the size of what is fetched stay.
pub record KeepsContent (old new : Parts) : Type 0 where
  pub swarm : new.seats.descriptor ≡ old.seats.descriptor
  pub size : size_of new.fetching ≡ size_of old.fetching

-- Where the content stays, also that of the store, all parts stay of one content.
abbrev pub WholeStays : Type 0
WholeStays = (old new : Parts) → KeepsContent old new → new.holding.store.descriptor ≡ old.holding.store.descriptor
    → IsWhole old → IsWhole new

-- ---- own requests

-- what this peer waits for on each seat
abbrev pub own_at : Option SeatState → List Asking
own_at None = []
own_at (Some s) = s.own

abbrev pub own_in : List SeatState → ℕ → List Asking
own_in list seat = own_at (slice_get list seat)

-- of each chunk whether it was asked for on some channel; a peer that doesn't fetch asks for none
abbrev pub asked_of : Option FetchState → List Bool
asked_of None = []
asked_of (Some f) = f.want.asked

-- What is asked for is what the seats wait for, each chunk on one seat; and on a seat whose peer's number isn't known nothing is
-- waited for.
pub record Fetches (p : Parts) : Type 0 where
  pub owned : AreOwned (asked_of p.fetching) (own_in p.seats.seats)
  pub idle : (seat : ℕ) → far_of (channel_at p.seats.table seat) ≡ None → own_in p.seats.seats seat ≡ []

-- ---- what went

-- The counts are those of the records.
pub record IsTied (k : Counts) (past : List Record) : Type 0 where
  pub datagrams : k.datagrams ≡ capped (came past)
  pub short : k.short ≡ capped (came_short past)
  pub sent : k.sent ≡ capped (went past)

-- Each chunk that was sent answered its peer and brought just the hashes that it lacked; and each that was announced is
-- committed, and was announced since the peer began.
pub record Ledger (b : Beginning) (p : Parts) (past : List Record) : Type 0 where
  pub swarm : p.holding.store.descriptor ≡ b.d
  pub served : ServesAll b.d (entry p.holding.book) (lets_send b.d.chunk) past
  pub plans : PlansAll b.d (lets_send b.d.chunk) past
  pub announced : EachAnnounced b.d (λ moment i. (is_committed p.holding.store i ≡ true) × (b.since ≤ moment)) past
  pub tied : IsTied p.counts past

-- ---- the whole

-- A peer stands for what the link carried: its ledger does, its seats do but for so much that was refused, it holds what was
-- announced, and what it fetches is whole.
pub record StandsFor (b : Beginning) (most : ℕ) (p : Parts) (past : List Record) : Type 0 where
  pub ledger : Ledger b p past
  pub known_of : ℕ → ℕ → Bool
  pub seats : seats.StandsFor (setting b known_of) most p.seats past
  pub holds : HoldsAnnounced (setting b known_of) (is_committed p.holding.store) past
  pub fetches : Fetches p
