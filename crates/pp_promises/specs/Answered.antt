-- What a peer answers (RFC 7574, sections 3.1.1, 3.9, 8.2 and 8.4; the times and the slots are this profile's): the handshakes
-- of newcomers; it chokes nobody while it has slots; and it never leaves a channel silent for long.
use Rattle.std.specs.Prelude.{◌≡◌, ℕ, ◌+◌, ◌≤◌, ◌==◌, nat_lt, Bool, true, false, not, ◌&&◌, ◌||◌, Option, Some, None, List, [], ◌∷◌, count_by}
use Rattle.std.specs.List.{list_any}
use Rattle.pp_terms.specs.format.Traffic.{Record, Received, Quiet, Sent}
use Rattle.pp_terms.specs.format.Descriptor.{Descriptor}
use Rattle.pp_terms.specs.format.Messages.{Message, Handshake, Choke}
use Rattle.pp_traffic.specs.Past.{now, read, goes_to, is_number}
use Rattle.pp_traffic.specs.Life.{Life}
use Rattle.pp_traffic.specs.Plain.{is_handshake, concerns, IsPlainNow}
use Rattle.pp_traffic.specs.Prompt.{knocks_in, knocks_once, lets_in}
use Rattle.pp_traffic.specs.Turns.{AtEndsBut}
use Rattle.pp_promises.specs.LastTurn.{last_event, sent_since, earlier}

-- ---- newcomers

-- a datagram for channel 0 has a handshake, whether it came or was sent
abbrev pub opens : Descriptor → Record → Bool
opens d r = is_number 0 (read d r).channel && list_any is_handshake (read d r).messages.read

-- how many do
abbrev pub openings : Descriptor → List Record → ℕ
openings d past = count_by (opens d) past

-- how many channels there are at most
abbrev pub most_channels : ℕ
most_channels = 64

-- A datagram for channel 0 begins with a handshake that fits and has no other. It comes from an address that never wrote and
-- was never written to, and there is room for one channel more.
abbrev pub is_newcomer : Descriptor → Record → List Record → Bool
is_newcomer d (Received at sender bytes) before =
    knocks_in d (Received at sender bytes) && knocks_once d (Received at sender bytes)
    && not (list_any (concerns sender) before) && nat_lt (openings d before) most_channels
is_newcomer d (Quiet at) before = false
is_newcomer d (Sent moment receiver bytes) before = false

-- where one came, these have the reply
abbrev pub is_let_in : Descriptor → Option Record → List Record → List Record → Bool
is_let_in d None sends before = true
is_let_in d (Some r) sends before = not (is_newcomer d r before) || list_any (lets_in d r) sends

-- The newcomer of the last turn got a reply in it.
abbrev pub LetsIn : Descriptor → List Record → Type 0
LetsIn d past = is_let_in d (last_event past) (sent_since past) (earlier past) ≡ true

-- Each did, but for so many.
abbrev pub LetsInBut : ℕ → Descriptor → List Record → Type 0
LetsInBut r d past = AtEndsBut r d (LetsIn d) past

-- ---- chokes

abbrev pub is_choke : Message → Bool
is_choke Choke = true
is_choke _ = false

-- a CHOKE was sent
abbrev pub chokes : Descriptor → Record → Bool
chokes d (Received at sender bytes) = false
chokes d (Quiet at) = false
chokes d (Sent moment receiver bytes) = list_any is_choke (read d (Sent moment receiver bytes)).messages.read

-- how many peers may be served at once
abbrev pub slots : ℕ
slots = 8

-- While every channel that was opened can have a slot, none is choked.
abbrev pub ChokesNone : ℕ → Descriptor → List Record → Type 0
ChokesNone r d past = openings d past + r ≤ slots → list_any (chokes d) past ≡ false

-- ---- silence

-- the message is a handshake of that source channel
abbrev pub is_of : ℕ → Message → Bool
is_of number (Handshake source options) = source == number
is_of number _ = false

-- a datagram to the other peer: to its number, or with this peer's handshake
abbrev pub writes_on : Descriptor → Life → Record → Bool
writes_on d life r = goes_to life.address r
    && (is_number life.remote (read d r).channel || list_any (is_of life.local) (read d r).messages.read)

-- 120 seconds, in microseconds
abbrev pub quiet_time : ℕ
quiet_time = 120000000

-- one was sent less than 120 seconds before a moment
abbrev pub wrote_lately : Descriptor → Life → ℕ → List Record → Bool
wrote_lately d life latest [] = false
wrote_lately d life latest (r ∷ before) =
    (writes_on d life r && nat_lt latest (now (r ∷ before) + quiet_time)) || wrote_lately d life latest before

-- On every plain channel one was.
abbrev pub KeepsUp : Descriptor → List Record → Type 0
KeepsUp d past = (life : Life) → IsPlainNow d life past → wrote_lately d life (now past) past ≡ true

-- At the end of every turn but so many.
abbrev pub KeepsUpBut : ℕ → Descriptor → List Record → Type 0
KeepsUpBut r d past = AtEndsBut r d (KeepsUp d) past
