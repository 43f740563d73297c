-- What the other calls leave of the seats.
use Rattle.std.specs.Prelude.{◌≡◌, ◌≢◌, ℕ, ◌<◌, ◌≤◌, max, Bool, true, false, ◌&&◌, ◌||◌, Option, Some, None, List, [], ◌∷◌, length, replicate}
use Rattle.std.specs.List.{list_any, count_by}
use Rattle.rand_chacha.specs.ChaCha.{ChaCha}
use Rattle.pp_terms.specs.format.Traffic.{Record, Quiet, Sent}
use Rattle.pp_terms.specs.format.Descriptor.{Descriptor}
use Rattle.pp_traffic.specs.Past.{now, read, is_number}
use Rattle.pp_traffic.specs.Life.{Life, IsLife, answers, begins, begins_as}
use Rattle.pp_traffic.specs.Story.{Line, story}
use Rattle.pp_traffic.specs.Asking.{choked, asked}
use Rattle.pp_traffic.specs.Hashes.{is_told}
use Rattle.pp_traffic.specs.Meter.{meter}
use Rattle.pp_terms.specs.tree.Tree.{Node}
use Rattle.pp_outside.specs.Outside.{address_of}
use Rattle.pp_outside.specs.declared.link.Address.{Address}
use Rattle.pp_channels.specs.Seats.{Seats, AreSeats, channel_at, closed, dialled, free_seat, has_address, is_begun, used_of, with_channel}
use Rattle.pp_channels.specs.Timing.{is_over}
use Rattle.pp_channels.specs.declared.channel.Channel.{Channel}
use Rattle.pp_lives.specs.Reading.{is_waiting}
use Rattle.pp_lives.specs.Standing.{read_at, Standing, AllBegun}
use Rattle.pp_lives.specs.Calls.{Changes, Steady, TellsNone, Says, Ends, with_life, dialled_life, IsDialOf}
use Rattle.pp_lives.specs.Sending.{with_datagram}

-- a datagram that is sent to a channel's address, and the life that its first handshake opens
abbrev pub sent_on : Channel → ℕ → List ℕ → Record
sent_on c moment bytes = Sent moment (address_of c.address) bytes

abbrev pub life_of : Channel → List Record → Life
life_of c past = dialled_life (address_of c.address) c.local (length past)

-- with no channel and no traffic
abbrev pub StandsAtFirst : Type 0
StandsAtFirst = (d : Descriptor) (numbers : ChaCha)
    → Standing d (record { channels = replicate 64 None; numbers = numbers }) (λ seat. None) []

-- a wait in which nothing came
abbrev pub QuietStays : Type 0
QuietStays = (d : Descriptor) (t : Seats) (lives : ℕ → Option Life) (moment : ℕ) (past : List Record) → Standing d t lives past
    → Standing d t lives (Quiet moment ∷ past)
    × TellsNone (max moment (now past)) (read_at d t lives past) (read_at d t lives (Quiet moment ∷ past))

-- a channel whose time is over is dropped
abbrev pub ExpiredStays : Type 0
ExpiredStays = (d : Descriptor) (t : Seats) (lives : ℕ → Option Life) (seat : ℕ) (c : Channel) (past : List Record)
    → Standing d t lives past
    → channel_at t seat ≡ Some c → is_over (now past) (Some c) ≡ true
    → Standing d (closed t seat) lives past × Ends seat (read_at d t lives past) (read_at d (closed t seat) lives past)

-- a datagram was sent on a channel whose peer's number is known; a handshake with which it begins is this channel's
abbrev pub SaidStays : Type 0
SaidStays = (d : Descriptor) (t new : Seats) (lives : ℕ → Option Life) (seat : ℕ) (c c' : Channel)
    (life : Life) (moment : ℕ) (bytes : List ℕ) (past : List Record)
    → Standing d t lives past → channel_at t seat ≡ Some c → lives seat ≡ Some life → is_waiting c ≡ false
    → (read d (sent_on c moment bytes)).channel ≡ Some life.remote
    → ((number : ℕ) → 0 < number → begins_as number (read d (sent_on c moment bytes)).messages.read ≡ true → number ≡ c.local)
    → Steady c c' → is_begun c'.opening ≡ (answers d life (sent_on c moment bytes) || is_begun c.opening)
    → AreSeats new.channels → Changes t new seat (Some c')
    → Standing d new lives (sent_on c moment bytes ∷ past)
    × Says (now past) seat (read d (sent_on c moment bytes)).messages.read
    (read_at d t lives past) (read_at d new lives (sent_on c moment bytes ∷ past))

-- a channel whose handshakes were both seen is a life of the traffic
abbrev pub SeatsLive : Type 0
SeatsLive = (d : Descriptor) (t : Seats) (lives : ℕ → Option Life) (seat : ℕ) (c : Channel) (life : Life) (past : List Record)
    → Standing d t lives past
    → channel_at t seat ≡ Some c → lives seat ≡ Some life → is_waiting c ≡ false → is_begun c.opening ≡ true → IsLife d life past

-- What is read of a channel gives the window and the chokes of its whole story, and tells and asks for no more.
pub record IsReadOf (d : Descriptor) (life : Life) (past : List Record) (lines : List Line) : Type 0 where
  pub window : (chunk : ℕ) → meter chunk lines ≡ meter chunk (story d life past)
  pub chokes : choked lines ≡ choked (story d life past)
  pub tells : (chunks : ℕ) (n : Node) → is_told chunks lines n ≡ true → is_told chunks (story d life past) n ≡ true
  pub asks : (i : ℕ) → asked i lines ≡ true → asked i (story d life past) ≡ true

-- what is read of a seat is so of the life of its channel
abbrev pub SeatsRead : Type 0
SeatsRead = (d : Descriptor) (t : Seats) (lives : ℕ → Option Life) (seat : ℕ) (lines : List Line) (past : List Record)
    → Standing d t lives past
    → read_at d t lives past seat ≡ Some lines → (life : Life) × (lives seat ≡ Some life) × IsReadOf d life past lines

-- a channel is to be dialled, where none has the address: it has no life yet
abbrev pub DialsStay : Type 0
DialsStay = (d : Descriptor) (t new : Seats) (lives : ℕ → Option Life) (seat : ℕ) (receiver : Address)
    (moment local : ℕ) (past : List Record) → Standing d t lives past
    → channel_at t seat ≡ None → AreSeats new.channels → Changes t new seat (Some (dialled receiver moment local))
    → ((other : ℕ) (e : Channel) → channel_at t other ≡ Some e → address_of e.address ≡ address_of receiver → ⊥)
    → Standing d new (with_life seat None lives) past

-- the first handshake of a dial was sent, and nothing behind it: a life begins
abbrev pub DialledStays : Type 0
DialledStays = (d : Descriptor) (t new : Seats) (lives : ℕ → Option Life) (seat : ℕ) (c c' : Channel) (moment : ℕ) (bytes : List ℕ)
    (past : List Record)
    → Standing d t lives past → channel_at t seat ≡ Some c → lives seat ≡ None → is_waiting c ≡ true → c.made ≡ now past
    → IsDialOf d c (sent_on c moment bytes) → Steady c c' → is_begun c'.opening ≡ true
    → AreSeats new.channels → Changes t new seat (Some c')
    → Standing d new (with_life seat (Some (life_of c past)) lives) (sent_on c moment bytes ∷ past)
    × ((other : ℕ) → read_at d new (with_life seat (Some (life_of c past)) lives) (sent_on c moment bytes ∷ past) other
    ≡ read_at d t lives past other)

-- a dial's handshake was sent again
abbrev pub RedialledStays : Type 0
RedialledStays = (d : Descriptor) (t new : Seats) (lives : ℕ → Option Life) (seat : ℕ) (c c' : Channel) (life : Life) (moment : ℕ)
    (bytes : List ℕ) (past : List Record)
    → Standing d t lives past → channel_at t seat ≡ Some c → lives seat ≡ Some life → is_waiting c ≡ true
    → IsDialOf d c (sent_on c moment bytes) → Steady c c'
    → is_begun c'.opening ≡ (answers d life (sent_on c moment bytes) || is_begun c.opening)
    → AreSeats new.channels → Changes t new seat (Some c')
    → Standing d new lives (sent_on c moment bytes ∷ past)
    × ((other : ℕ) → read_at d new lives (sent_on c moment bytes ∷ past) other ≡ read_at d t lives past other)

-- a channel was changed in what doesn't count for the traffic
abbrev pub SteadyStays : Type 0
SteadyStays = (d : Descriptor) (t new : Seats) (lives : ℕ → Option Life) (seat : ℕ) (c c' : Channel) (past : List Record)
    → Standing d t lives past
    → channel_at t seat ≡ Some c → Steady c c' → is_begun c'.opening ≡ is_begun c.opening
    → AreSeats new.channels → Changes t new seat (Some c')
    → Standing d new lives past × ((other : ℕ) → read_at d new lives past other ≡ read_at d t lives past other)

-- ---- the seats as the calls leave them

-- a channel is dialled where none has the address; it has no life yet
abbrev pub DialKeeps : Type 0
DialKeeps = (d : Descriptor) (t : Seats) (lives : ℕ → Option Life) (receiver : Address) (moment seat : ℕ) (past : List Record)
    → Standing d t lives past
    → free_seat t ≡ Some seat → list_any (has_address receiver) t.channels ≡ false
    → Standing d (with_channel (dialled receiver moment) t) (with_life seat None lives) past

-- a datagram was sent on a channel whose peer's number is known, and it is noted whether it began with this channel's handshake
abbrev pub SentKeeps : Type 0
SentKeeps = (d : Descriptor) (t : Seats) (lives : ℕ → Option Life) (seat : ℕ) (c : Channel) (life : Life) (handshake : Bool)
    (at moment : ℕ) (bytes : List ℕ) (past : List Record)
    → Standing d t lives past → channel_at t seat ≡ Some c → lives seat ≡ Some life → is_waiting c ≡ false
    → (read d (sent_on c moment bytes)).channel ≡ Some life.remote
    → ((number : ℕ) → 0 < number → begins_as number (read d (sent_on c moment bytes)).messages.read ≡ true → number ≡ c.local)
    → handshake ≡ begins_as c.local (read d (sent_on c moment bytes)).messages.read
    → Standing d (with_datagram t seat handshake at) lives (sent_on c moment bytes ∷ past)
    × Says (now past) seat (read d (sent_on c moment bytes)).messages.read (read_at d t lives past)
    (read_at d (with_datagram t seat handshake at) lives (sent_on c moment bytes ∷ past))

-- the first handshake of a dial was sent
abbrev pub FirstKeeps : Type 0
FirstKeeps = (d : Descriptor) (t : Seats) (lives : ℕ → Option Life) (seat : ℕ) (c : Channel) (at moment : ℕ) (bytes : List ℕ)
    (past : List Record)
    → Standing d t lives past → channel_at t seat ≡ Some c → lives seat ≡ None → is_waiting c ≡ true → c.made ≡ now past
    → IsDialOf d c (sent_on c moment bytes)
    → Standing d (with_datagram t seat true at) (with_life seat (Some (life_of c past)) lives) (sent_on c moment bytes ∷ past)
    × ((other : ℕ) → read_at d (with_datagram t seat true at) (with_life seat (Some (life_of c past)) lives)
    (sent_on c moment bytes ∷ past) other ≡ read_at d t lives past other)

-- a later handshake of a dial was sent
abbrev pub AgainKeeps : Type 0
AgainKeeps = (d : Descriptor) (t : Seats) (lives : ℕ → Option Life) (seat : ℕ) (c : Channel) (life : Life) (at moment : ℕ)
    (bytes : List ℕ) (past : List Record)
    → Standing d t lives past → channel_at t seat ≡ Some c → lives seat ≡ Some life → is_waiting c ≡ true
    → IsDialOf d c (sent_on c moment bytes)
    → Standing d (with_datagram t seat true at) lives (sent_on c moment bytes ∷ past)
    × ((other : ℕ) → read_at d (with_datagram t seat true at) lives (sent_on c moment bytes ∷ past) other ≡ read_at d t lives past other)

-- a dial is dropped whose first handshake couldn't be sent
abbrev pub RefusedKeeps : Type 0
RefusedKeeps = (d : Descriptor) (t : Seats) (lives : ℕ → Option Life) (seat : ℕ) (c : Channel) (past : List Record)
    → Standing d t lives past
    → channel_at t seat ≡ Some c → lives seat ≡ None
    → Standing d (closed t seat) lives past × Ends seat (read_at d t lives past) (read_at d (closed t seat) lives past)

-- ---- dials have begun

-- each dial has begun, but for that at one seat
abbrev pub BegunBut : Seats → ℕ → Type 0
BegunBut t seat = (other : ℕ) (c : Channel) → other ≢ seat → channel_at t other ≡ Some c → is_waiting c ≡ true → is_begun c.opening ≡ true

-- After a dial all others have begun. Once its first handshake was sent, or the channel is dropped, all have.
pub record BegunKept : Type 0 where
  pub dial : (t : Seats) (receiver : Address) (moment seat : ℕ) → AreSeats t.channels → free_seat t ≡ Some seat → AllBegun t
      → BegunBut (with_channel (dialled receiver moment) t) seat
  pub first : (t : Seats) (seat : ℕ) (c : Channel) (at : ℕ) → channel_at t seat ≡ Some c → BegunBut t seat
      → AllBegun (with_datagram t seat true at)
  pub sent : (t : Seats) (seat : ℕ) (c : Channel) (handshake : Bool) (at : ℕ) → channel_at t seat ≡ Some c → AllBegun t
      → AllBegun (with_datagram t seat handshake at)
  pub close : (t : Seats) (seat : ℕ) (c : Channel) → channel_at t seat ≡ Some c → BegunBut t seat → AllBegun (closed t seat)

-- ---- how many seats are in use

-- a datagram for channel 0 that begins with a handshake
abbrev pub is_opening : Descriptor → Record → Bool
is_opening d r = is_number 0 (read d r).channel && begins (read d r).messages.read

-- Each seat in use was opened by one of its own.
abbrev pub SeatsOpened : Type 0
SeatsOpened = (d : Descriptor) (t : Seats) (lives : ℕ → Option Life) (past : List Record) → Standing d t lives past → AllBegun t
    → used_of t ≤ count_by (is_opening d) past
