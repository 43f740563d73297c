-- What a peer announced is on its disk for good.
use Rattle.std.specs.Prelude.{◌≡◌, ℕ, ◌≤◌, true, List}
use Rattle.pp_terms.specs.disk.Disk.{DiskState, moment_of}
use Rattle.pp_terms.specs.format.Traffic.{Record}
use Rattle.pp_traffic.specs.Keeping.{EachAnnounced, StandsSince}
use Rattle.pp_store.specs.Store.{is_committed}
use Rattle.pp_holding.specs.Holding.{stock_of}
use Rattle.pp_holding.specs.Stock.{IsKept}
use Rattle.pp_core.specs.Peers.{PeerState}

-- A chunk is committed, and stands in every image since a moment.
pub record IsThere (p : PeerState) (disk : DiskState) (moment i : ℕ) : Type 0 where
  pub committed : is_committed p.parts.holding.store i ≡ true
  pub past : moment ≤ moment_of disk.history
  pub stands : StandsSince p.parts.holding.store.descriptor disk.history moment i

-- What holds of the store and the disk between calls, of every image since a moment; and each chunk that was announced stands in every
-- image since it was.
pub record IsKeeping (since : ℕ) (p : PeerState) (disk : DiskState) (past : List Record) : Type 0 where
  pub kept : IsKept since (stock_of p.parts.holding disk)
  pub announced : EachAnnounced p.parts.holding.store.descriptor (IsThere p disk) past
