-- What becomes of one seat, or of the setting, with no message.
use Rattle.std.specs.Prelude.{◌≡◌, ℕ, ◌+◌, min, true, false, Some, None, List, slice_get, slice_set, []}
use Rattle.pp_terms.specs.format.Traffic.{Record}
use Rattle.pp_requests.specs.Moments.{ChangesEntry, IsLeastExpired, NoneExpired, IsLeastLost, NoneLost}
use Rattle.pp_seat.specs.Seats.{SeatState}
use Rattle.pp_seats.specs.Standing.{SeatsState, Setting, StandsFor}

-- The cursor of a seat was set back. On a channel that isn't proven nothing is lost by it.
pub record Rewinds (seat to : ℕ) (old new : SeatsState) : Type 0 where
  pub before : SeatState
  pub after : SeatState
  pub there : slice_get old.seats seat ≡ Some before
  pub exact : after ≡ record before { cursor = min before.cursor to }
  pub is : new ≡ record old { seats = slice_set old.seats seat after }
  pub stands : (x : Setting) (most : ℕ) (past : List Record) → StandsFor x most old past → StandsFor x (most + 1) new past
  pub unproven : before.proven ≡ false → (x : Setting) (most : ℕ) (past : List Record) → StandsFor x most old past
      → StandsFor x most new past

-- The least chunk that this peer asked for on the seat's channel ten seconds ago or longer was taken out, and the channel is only
-- probed from then on.
pub record GivesUpRequest (seat i : ℕ) (old new : SeatsState) : Type 0 where
  pub before : SeatState
  pub after : SeatState
  pub there : slice_get old.seats seat ≡ Some before
  pub least : IsLeastExpired before.own old.moment i
  pub taken : ChangesEntry i None before.own after.own
  pub exact : after ≡ record before { own = after.own; stopped = true }
  pub is : new ≡ record old { seats = slice_set old.seats seat after }
  pub stands : (x : Setting) (most : ℕ) (past : List Record) → StandsFor x most old past → StandsFor x most new past

-- There is none.
pub record HasNoneExpired (seat : ℕ) (old new : SeatsState) : Type 0 where
  pub known : SeatState
  pub there : slice_get old.seats seat ≡ Some known
  pub none : NoneExpired known.own old.moment
  pub same : new ≡ old

-- The least chunk whose request was lost was taken out.
pub record GivesUpLost (seat i : ℕ) (old new : SeatsState) : Type 0 where
  pub before : SeatState
  pub after : SeatState
  pub there : slice_get old.seats seat ≡ Some before
  pub least : IsLeastLost before.own i
  pub taken : ChangesEntry i None before.own after.own
  pub exact : after ≡ record before { own = after.own }
  pub is : new ≡ record old { seats = slice_set old.seats seat after }
  pub stands : (x : Setting) (most : ℕ) (past : List Record) → StandsFor x most old past → StandsFor x most new past

-- There is none.
pub record HasNoneLost (seat : ℕ) (old new : SeatsState) : Type 0 where
  pub known : SeatState
  pub there : slice_get old.seats seat ≡ Some known
  pub none : NoneLost known.own
  pub same : new ≡ old

-- What this peer waits for on a seat without a channel was given up.
pub record ForgetsRequests (seat : ℕ) (old new : SeatsState) : Type 0 where
  pub before : SeatState
  pub there : slice_get old.seats seat ≡ Some before
  pub is : new ≡ record old { seats = slice_set old.seats seat (record before { own = [] }) }
  pub stands : (x : Setting) (most : ℕ) (past : List Record) → StandsFor x most old past → StandsFor x most new past

-- On a seat's channel a CHOKE is due if it has a slot, else an UNCHOKE.
pub record Turns (seat : ℕ) (old new : SeatsState) : Type 0 where
  pub before : SeatState
  pub after : SeatState
  pub there : slice_get old.seats seat ≡ Some before
  pub exact : after ≡ record before { owes = true }
  pub is : new ≡ record old { seats = slice_set old.seats seat after }
  pub stands : (x : Setting) (most : ℕ) (past : List Record) → StandsFor x most old past → StandsFor x most new past
