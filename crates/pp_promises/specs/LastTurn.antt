-- The last turn of a traffic, the turns before it, and the first one (RFC 7574, section 8).
use Rattle.std.specs.Prelude.{nat_lt, Bool, true, false, if◌then◌else◌, Option, Some, None, List, [], ◌∷◌}
use Rattle.pp_terms.specs.format.Traffic.{Record, Received, Quiet, Sent}
use Rattle.pp_traffic.specs.Turns.{events}

-- the event with which the last turn began, none before the first
abbrev pub last_event : List Record → Option Record
last_event [] = None
last_event (Received at sender bytes ∷ before) = Some (Received at sender bytes)
last_event (Quiet at ∷ before) = Some (Quiet at)
last_event (Sent moment receiver bytes ∷ before) = last_event before

-- what was sent in the last turn
abbrev pub sent_since : List Record → List Record
sent_since [] = []
sent_since (Received at sender bytes ∷ before) = []
sent_since (Quiet at ∷ before) = []
sent_since (Sent moment receiver bytes ∷ before) = Sent moment receiver bytes ∷ sent_since before

-- the records of the turns before the last one
abbrev pub earlier : List Record → List Record
earlier [] = []
earlier (Received at sender bytes ∷ before) = before
earlier (Quiet at ∷ before) = before
earlier (Sent moment receiver bytes ∷ before) = earlier before

-- the turn began with a wait in which no datagram came
abbrev pub is_quiet : Option Record → Bool
is_quiet None = false
is_quiet (Some (Received at sender bytes)) = false
is_quiet (Some (Quiet at)) = true
is_quiet (Some (Sent moment receiver bytes)) = false

-- the records up to the end of the first turn
abbrev pub first_turn : List Record → List Record
first_turn [] = []
first_turn (r ∷ before) = if nat_lt 1 (events (r ∷ before)) then first_turn before else r ∷ before
