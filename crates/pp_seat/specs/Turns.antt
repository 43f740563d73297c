-- Which of CHOKE and UNCHOKE is to be sent on a channel (RFC 7574, section 3.9).
use Rattle.std.specs.Prelude.{not, ◌||◌, if◌then◌else◌, Option, Some, None}
use Rattle.pp_seat.specs.Seats.{SeatState}
use Rattle.pp_seat.specs.declared.service.Turn.{Turn}
use Rattle.pp_seat.specs.declared.service.Turn.TheVariants.{Choke, Unchoke}

-- CHOKE on a channel that has a slot or was never choked, else UNCHOKE
abbrev pub due_turn : SeatState → Option Turn
due_turn s = if s.owes then (if s.slot || not s.choked then Some Choke else Some Unchoke) else None
