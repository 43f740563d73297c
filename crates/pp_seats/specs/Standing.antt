-- What the seats of a peer keep is what the link carried says.
use Rattle.std.specs.Prelude.{◌≡◌, ℕ, ◌≤◌, Bool, true, false, Option, Some, List, slice_get}
use Rattle.pp_terms.specs.format.Traffic.{Record}
use Rattle.pp_terms.specs.format.Descriptor.{Descriptor}
use Rattle.pp_traffic.specs.Past.{now, some_since, is_event}
use Rattle.pp_traffic.specs.Life.{Life}
use Rattle.pp_promises.specs.ReadStory.{read_story}
use Rattle.pp_channels.specs.Seats.{Seats, channel_at}
use Rattle.pp_channels.specs.declared.channel.Channel.{Channel}
use Rattle.pp_lives.specs.Reading.{is_waiting}
use Rattle.pp_lives.specs.Standing.{Standing, AllBegun}
use Rattle.pp_seat.specs.Seats.{SeatState, IsFresh}
use Rattle.pp_seat.specs.Follows.{Frame, Lost, Follows}
use Rattle.pp_seat.specs.Frames.{frame_of, tale_of}
use Rattle.pp_seat.specs.Awaited.{AreAwaited}

-- What contracts see of the seats: the swarm, the channels, what is kept of the messages of each, and the moment now.
pub record SeatsState : Type 0 where
  pub descriptor : Descriptor
  pub table : Seats
  pub seats : List SeatState
  pub moment : ℕ

-- What is settled around the seats: the swarm, which chunks the peer found when it began, and of which chunks the other peer of each
-- seat's channel is to know.
pub record Setting : Type 0 where
  pub d : Descriptor
  pub is_found : ℕ → Bool
  pub known_of : (seat : ℕ) → ℕ → Bool

-- what is settled around one of them
pub record SeatSetting : Type 0 where
  pub d : Descriptor
  pub is_found : ℕ → Bool
  pub known_of : ℕ → Bool

abbrev pub at_seat : Setting → ℕ → SeatSetting
at_seat x seat = record { d = x.d; is_found = x.is_found; known_of = x.known_of seat }

-- the frame of a channel's seat
abbrev pub frame_in : SeatSetting → Life → List Record → Frame
frame_in x life past = frame_of x.d life x.is_found x.known_of past

-- A seat follows the tale of its channel's life, but for so many chunks that were given up and so many times that its cursor was
-- set back at most; and the link has handed in something since the life began.
pub record IsFollowed (x : SeatSetting) (most : ℕ) (s : SeatState) (life : Life) (past : List Record) : Type 0 where
  pub lost : Lost
  pub chunks : lost.chunks ≤ most
  pub haves : lost.haves ≤ most
  pub follows : Follows (frame_in x life past) lost s (tale_of x.d life past)
  pub awaited : AreAwaited s.own (read_story x.d life past)
  pub handed : some_since is_event life.opening past ≡ true

-- Each seat is one of a content of so many chunks.
abbrev pub AllHold : ℕ → List SeatState → Type 0
AllHold chunks seats = (n : ℕ) (s : SeatState) → slice_get seats n ≡ Some s → s.told.chunks ≡ chunks

-- On no seat's channel anything was said yet.
abbrev pub AllFresh : List SeatState → Type 0
AllFresh seats = (n : ℕ) (s : SeatState) → slice_get seats n ≡ Some s → IsFresh false s

-- The same with each seat on whose channel the other peer's number is known, and with the channel's life.
abbrev pub EachKnown : Seats → (ℕ → Option Life) → List SeatState → (ℕ → SeatState → Life → Type 0) → Type 0
EachKnown t lives seats P = (n : ℕ) (c : Channel) (life : Life) (s : SeatState) → channel_at t n ≡ Some c → is_waiting c ≡ false
    → lives n ≡ Some life
    → slice_get seats n ≡ Some s → P n s life

-- The seats stand for what the link carried: each channel has its life there, and its seat follows that.
pub record StandsFor (x : Setting) (most : ℕ) (p : SeatsState) (past : List Record) : Type 0 where
  pub swarm : p.descriptor ≡ x.d
  pub now_is : p.moment ≡ now past
  pub lives : ℕ → Option Life
  pub standing : Standing x.d p.table lives past
  pub begun : AllBegun p.table
  pub follow : EachKnown p.table lives p.seats (λ n s life. IsFollowed (at_seat x n) most s life past)
