-- Of which seat each chunk is asked: what is noted over all channels, and the own requests of each.
use Rattle.std.specs.Prelude.{◌≡◌, ◌≢◌, ℕ, ◌==◌, Bool, false, Option, Some, None, is_some, List, slice_index_or}
use Rattle.pp_requests.specs.declared.asking.Asking.{Asking}
use Rattle.pp_requests.specs.Moments.{asked_at}

-- whether that seat is asked
abbrev pub is_at : ℕ → Option ℕ → Bool
is_at seat None = false
is_at seat (Some k) = k == seat

-- whether a chunk is among own requests
abbrev pub awaits : List Asking → ℕ → Bool
awaits own i = is_some (asked_at own i)

-- Exactly the chunks that are noted as asked for are among the own requests of some seat, and each of them of one seat alone.
pub record AreOwned (asked : List Bool) (own_of : ℕ → List Asking) : Type 0 where
  -- of whom each chunk is asked
  pub owner : ℕ → Option ℕ
  pub noted : (i : ℕ) → slice_index_or asked i false ≡ is_some (owner i)
  pub each : (seat i : ℕ) → awaits (own_of seat) i ≡ is_at seat (owner i)

-- No seat's own requests differ but those of one.
abbrev pub SameElsewhere : (seat : ℕ) → (old new : ℕ → List Asking) → Type 0
SameElsewhere seat old new = (other : ℕ) → other ≢ seat → new other ≡ old other
