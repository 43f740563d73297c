-- What a peer that fetches has is what it holds.
use Rattle.std.specs.Prelude.{◌≡◌, ℕ, ◌<◌, Bool, false, Some, List, length, slice_index_or}
use Rattle.pp_promises.specs.Batches.{Batch, is_in}
use Rattle.pp_fetching.specs.Fetching.{FetchState}
use Rattle.pp_holding.specs.Holding.{batch_of}
use Rattle.pp_peer.specs.declared.parts.Parts.{Parts}

-- A set of chunks has just those that are committed or pending.
pub record HasJust (set : List Bool) (b : Batch) : Type 0 where
  pub size : length set ≡ length b.committed
  pub each : (i : ℕ) → i < length set → slice_index_or set i false ≡ is_in b i

-- What a peer that fetches has, and so asks for no more, is what it holds: each chunk that is committed or pending, and no other.
abbrev pub HasHeld : Parts → Type 0
HasHeld p = (f : FetchState) → p.fetching ≡ Some f → HasJust f.want.had (batch_of p.holding)
