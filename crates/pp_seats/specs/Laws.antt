-- What is heard message by message, and where seats begin.
use Rattle.std.specs.Prelude.{◌≡◌, ℕ, ◌<◌, Bool, true, Some, None, List, [], ◌++◌, replicate, slice_get}
use Rattle.rand_chacha.specs.ChaCha.{ChaCha}
use Rattle.pp_terms.specs.format.Messages.{Message}
use Rattle.pp_terms.specs.format.Traffic.{Record}
use Rattle.pp_seat.specs.Seats.{SeatState}
use Rattle.pp_seats.specs.Standing.{SeatsState, Setting, StandsFor}
use Rattle.pp_seats.specs.Hearing.{HearsAll}

-- No message does nothing, and messages one after the other do what they do together.
pub record HearingComposes : Type 0 where
  pub none : (now : ℕ) (s : SeatState) → HearsAll now [] s s
  pub twice : (now : ℕ) (ms more : List Message) (old mid new : SeatState) → HearsAll now ms old mid → HearsAll now more mid new
      → HearsAll now (ms ++ more) old new

-- Seats of which none is in use stand for a link that carried nothing.
abbrev pub NothingYet : Type 0
NothingYet = (x : Setting) (seats : List SeatState) (numbers : ChaCha)
    → StandsFor x 0 (record {
      descriptor = x.d;
      table = record { channels = replicate 64 None; numbers = numbers };
      seats =
          seats;
      moment = 0;
    }) []

-- The other peers may be to know of other chunks, if each that is new lies from the seat's cursor on.
abbrev pub KnownChanges : Type 0
KnownChanges = (x : Setting) (known_of : ℕ → ℕ → Bool) (most : ℕ) (p : SeatsState) (past : List Record)
    → ((seat i : ℕ) (s : SeatState) → slice_get p.seats seat ≡ Some s → i < s.cursor → known_of seat i ≡ true → x.known_of seat i ≡ true)
    → StandsFor x most p past → StandsFor (record x { known_of = known_of }) most p past
