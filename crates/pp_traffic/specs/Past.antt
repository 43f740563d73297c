-- What a link carried (RFC 7574, section 8): a list of records, the newest first. The place of a record is the number of
-- the records before it, so it stays when records are added.
use Rattle.std.specs.Prelude.{ℕ, max, ◌==◌, nat_lt, nat_le, Bool, true, false, ◌&&◌, ◌||◌, if◌then◌else◌, Option, Some, None, List, [], ◌∷◌, length}
use Rattle.pp_terms.specs.format.Traffic.{Address, same_address, Record, Received, Quiet, Sent}
use Rattle.pp_terms.specs.format.Descriptor.{Descriptor}
use Rattle.pp_terms.specs.format.Messages.{Datagram, datagram}

-- the moment now: the greatest that the link handed in, in microseconds; 0 before the first
abbrev pub now : List Record → ℕ
now [] = 0
now (Received at sender bytes ∷ before) = max at (now before)
now (Quiet at ∷ before) = max at (now before)
now (Sent moment receiver bytes ∷ before) = now before

-- a record of a datagram that came from an address, and of one that went to it
abbrev pub comes_from : Address → Record → Bool
comes_from a (Received at sender bytes) = same_address sender a
comes_from a (Quiet at) = false
comes_from a (Sent moment receiver bytes) = false

abbrev pub goes_to : Address → Record → Bool
goes_to a (Received at sender bytes) = false
goes_to a (Quiet at) = false
goes_to a (Sent moment receiver bytes) = same_address receiver a

-- a turn of the peer begins with it: a datagram came, or none in the time of a wait
abbrev pub is_event : Record → Bool
is_event (Received at sender bytes) = true
is_event (Quiet at) = true
is_event (Sent moment receiver bytes) = false

-- the datagram of a record; a wait in which none came has none
abbrev pub bytes_of : Record → List ℕ
bytes_of (Received at sender bytes) = bytes
bytes_of (Quiet at) = []
bytes_of (Sent moment receiver bytes) = bytes

-- the datagram as the swarm reads it
abbrev pub read : Descriptor → Record → Datagram
read d r = datagram d.method d.chunk (bytes_of r)

-- a datagram for that channel number
abbrev pub is_number : ℕ → Option ℕ → Bool
is_number number None = false
is_number number (Some channel) = channel == number

-- some record from a place on passes a test
abbrev pub some_since : (Record → Bool) → ℕ → List Record → Bool
some_since test place [] = false
some_since test place (r ∷ before) = (nat_le place (length before) && test r) || some_since test place before

-- some record before a place passes it
abbrev pub some_until : (Record → Bool) → ℕ → List Record → Bool
some_until test place [] = false
some_until test place (r ∷ before) = (nat_lt (length before) place && test r) || some_until test place before

-- the record at a place passes it
abbrev pub is_at : (Record → Bool) → ℕ → List Record → Bool
is_at test place [] = false
is_at test place (r ∷ before) = (place == length before && test r) || is_at test place before

-- now, as it was right after the record at a place
abbrev pub now_at : ℕ → List Record → ℕ
now_at place [] = 0
now_at place (r ∷ before) = if place == length before then now (r ∷ before) else now_at place before

-- Each record has P with those before it.
abbrev pub EachRecord : (List Record → Record → Type 0) → List Record → Type 0
EachRecord P [] = Unit {0}
EachRecord P (r ∷ before) = P before r × EachRecord P before
