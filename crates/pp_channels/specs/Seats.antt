-- The channels of a peer, by their seats (RFC 7574, sections 3.1.1 and 8). Moments are in microseconds.
use Rattle.std.specs.Prelude.{◌≡◌, ℕ, ◌+◌, ◌<◌, ◌==◌, min, nat_lt, Bool, true, false, not, ◌&&◌, ◌||◌, if◌then◌else◌, Option, Some, None, IsSome, IfSome, is_none, is_some, option_map, unwrap_or, List, length, map, find, position, slice_index_or, slice_set}
use Rattle.std.specs.List.{count_by, list_any, range_with_len}
use Rattle.rand_chacha.specs.ChaCha.{ChaCha, next_word}
use Rattle.pp_outside.specs.Outside.{is_same}
use Rattle.pp_outside.specs.declared.link.Address.{Address}
use Rattle.pp_channels.specs.declared.channel.State.TheVariants.{Greeted}
use Rattle.pp_channels.specs.declared.channel.Reply.{Reply}
use Rattle.pp_channels.specs.declared.channel.Reply.TheVariants.{Due, Sent, DueAgain}
use Rattle.pp_channels.specs.declared.channel.Opening.{Opening}
use Rattle.pp_channels.specs.declared.channel.Opening.TheVariants.{Dialled, Answered}
use Rattle.pp_channels.specs.declared.channel.Channel.{Channel}

-- The channel of each seat, if it is in use, and the generator of channel numbers, with the place of its next word.
pub record Seats : Type 0 where
  pub channels : List (Option Channel)
  pub numbers : ChaCha

-- the channel at a seat
abbrev pub at_seat : List (Option Channel) → ℕ → Option Channel
at_seat channels seat = slice_index_or channels seat None

abbrev pub channel_at : Seats → ℕ → Option Channel
channel_at s seat = at_seat s.channels seat

-- a seat is in use
abbrev pub IsUsed : Seats → ℕ → Type 0
IsUsed s seat = IsSome (channel_at s seat)

-- how many are in use
abbrev pub used_of : Seats → ℕ
used_of s = count_by is_some s.channels

-- the seat is one of the 64, and in use
abbrev pub IsUsedSeat : Seats → ℕ → Type 0
IsUsedSeat s seat = (seat < 64) × IsUsed s seat

-- all are in use
abbrev pub IsFull : Seats → Type 0
IsFull s = (seat : ℕ) → seat < 64 → IsUsed s seat

-- ---- what one seat has

-- a channel with that number
abbrev pub has_local : ℕ → Option Channel → Bool
has_local number None = false
has_local number (Some c) = c.local == number

-- the peer's number is known, and is that one
abbrev pub has_remote : ℕ → Option ℕ → Bool
has_remote number None = false
has_remote number (Some remote) = remote == number

-- a channel to that address
abbrev pub has_address : Address → Option Channel → Bool
has_address a None = false
has_address a (Some c) = is_same c.address a

-- a channel of that number and that address
abbrev pub is_found : ℕ → Address → Option Channel → Bool
is_found number a channel = has_local number channel && has_address a channel

-- a channel of that address whose peer has that number
abbrev pub is_source : Address → ℕ → Option Channel → Bool
is_source a number None = false
is_source a number (Some c) = has_remote number c.remote && is_same c.address a

-- ---- numbers

-- some channel has that number
abbrev pub is_used : List (Option Channel) → ℕ → Bool
is_used channels number = list_any (has_local number) channels

-- the least number from 1 on that no channel has; where a seat is free it is at most the number of seats
abbrev pub least_unused : List (Option Channel) → Option ℕ
least_unused channels = find (λ number. not (is_used channels number)) (range_with_len 1 (length channels))

-- the number that a word gives: itself, but where it is 0 or in use
abbrev pub number_from : List (Option Channel) → ℕ → ℕ
number_from channels word = if word == 0 || is_used channels word then unwrap_or (least_unused channels) 0 else word

-- There are 64 seats. Each channel has a number other than 0, and no two have one.
pub record AreSeats (channels : List (Option Channel)) : Type 0 where
  pub seats : length channels ≡ 64
  pub some : (seat : ℕ) (c : Channel) → at_seat channels seat ≡ Some c → 0 < c.local
  pub differ : (seat other : ℕ) (c d : Channel) → at_seat channels seat ≡ Some c → at_seat channels other ≡ Some d
      → c.local ≡ d.local → seat ≡ other

-- ---- new channels

-- one that a handshake opened, and one that this peer opens, with their number
abbrev pub answered : Address → ℕ → ℕ → ℕ → Channel
answered sender source moment number = record {
  address = sender;
  local = number;
  remote = Some source;
  state = Greeted;
  opening = Answered Due;
  made = moment;
  heard = moment;
  wrote = moment;
  shadowed = false;
}

abbrev pub dialled : Address → ℕ → ℕ → Channel
dialled receiver moment number = record {
  address = receiver;
  local = number;
  remote = None;
  state = Greeted;
  opening = Dialled 0;
  made = moment;
  heard = moment;
  wrote = moment;
  shadowed = false;
}

-- the least free seat
abbrev pub free_seat : Seats → Option ℕ
free_seat s = position is_none s.channels

-- with a channel at a seat, of the number that the next word gives; with no seat nothing changes
abbrev pub with_channel_at : Option ℕ → (ℕ → Channel) → Seats → Seats
with_channel_at None make s = s
with_channel_at (Some seat) make s =
    let word = next_word 10 s.numbers in
    record { channels = slice_set s.channels seat (Some (make (number_from s.channels word.0))); numbers = word.1 }

-- with a new channel at the least free seat
abbrev pub with_channel : (ℕ → Channel) → Seats → Seats
with_channel make s = with_channel_at (free_seat s) make s

-- The channel at a seat has a number other than 0, which no channel had before.
abbrev pub HasNewNumber : Seats → Seats → ℕ → Type 0
HasNewNumber old new seat =
    IfSome (channel_at new seat) (λ c. (0 < c.local) × ((other : ℕ) → has_local c.local (channel_at old other) ≡ false))

-- ---- changes

-- with the channel at a seat changed
abbrev pub changed : Seats → ℕ → (Channel → Channel) → Seats
changed s seat change = record s { channels = slice_set s.channels seat (option_map change (channel_at s seat)) }

-- one more handshake was sent; this peer's own are counted up to 255
abbrev pub with_handshake : Opening → Opening
with_handshake (Dialled handshakes) = Dialled (min (handshakes + 1) 255)
with_handshake (Answered at) = Answered Sent

-- the reply is due, once more where it was sent; a dialled channel has none
abbrev pub due_again : Reply → Reply
due_again Due = Due
due_again Sent = DueAgain
due_again DueAgain = DueAgain

abbrev pub unreplied : Opening → Opening
unreplied (Dialled handshakes) = Dialled handshakes
unreplied (Answered at) = Answered (due_again at)

-- This peer sent a handshake on the channel. It did so too where its reply is due again.
abbrev pub is_sent : Reply → Bool
is_sent Due = false
is_sent Sent = true
is_sent DueAgain = true

abbrev pub is_begun : Opening → Bool
is_begun (Dialled handshakes) = nat_lt 0 handshakes
is_begun (Answered at) = is_sent at

-- this peer opened the channel
abbrev pub is_dialled : Opening → Bool
is_dialled (Dialled handshakes) = true
is_dialled (Answered at) = false

-- the channel of one seat when that of another is dropped
abbrev pub after_drop : Option Channel → Option Channel → Option Channel
after_drop dropped None = None
after_drop dropped (Some c) = Some (record c { shadowed = c.shadowed || has_address c.address dropped })

-- without the channel at a seat
abbrev pub closed : Seats → ℕ → Seats
closed s seat = record s { channels = map (after_drop (channel_at s seat)) (slice_set s.channels seat None) }
