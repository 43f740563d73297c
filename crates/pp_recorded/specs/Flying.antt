-- What flies of a row of acts: each chunk that no later act of the row acknowledges, while fewer than three chunks behind it have been
-- acknowledged (RFC 6817, section 3.2). One behind it that was lost before its ACK came counts too, since three behind that one were
-- acknowledged by then.
use Rattle.std.specs.Prelude.{ℕ, ◌+◌, nat_le, nat_lt, Bool, false, ◌&&◌, ◌||◌, if◌then◌else◌, Option, Some, None, List, [], ◌∷◌, take, length}
use Rattle.pp_terms.specs.format.Descriptor.{Descriptor}
use Rattle.pp_traffic.specs.Life.{Life}
use Rattle.pp_traffic.specs.declared.entries.Entry as flown
use Rattle.pp_recorded.specs.declared.entry.Entry.{Entry}
use Rattle.pp_recorded.specs.declared.acts.Act.{Act}
use Rattle.pp_recorded.specs.declared.acts.Act.TheVariants.{Sends, Acks}
use Rattle.pp_recorded.specs.declared.flying.Row.{Row}
use Rattle.pp_recorded.specs.declared.flying.Flown.{Flown}
use Rattle.pp_recorded.specs.Acts.{ahead}

-- the acts of a row
abbrev pub acts_in : Descriptor → Life → List Entry → Row → List Act
acts_in d life xs row = take row.count (ahead d life xs row.from)

-- an act acknowledges the chunk, and one of some does
abbrev pub lands : ℕ → Act → Bool
lands i (Acks first last delay now) = nat_le first i && nat_le i last
lands i _ = false

abbrev pub is_acked : ℕ → List Act → Bool
is_acked i [] = false
is_acked i (act ∷ later) = lands i act || is_acked i later

-- how many chunks are sent by an act and acknowledged behind it; and by all of some
abbrev pub passes : Act → List Act → ℕ
passes (Sends chunk now) later = if is_acked chunk later then 1 else 0
passes _ later = 0

abbrev pub passed : List Act → ℕ
passed [] = 0
passed (act ∷ later) = passes act later + passed later

-- a chunk that was sent at a moment and flies, with some acts behind it
abbrev pub flying_of : (chunk now : ℕ) → List Act → flown.Entry
flying_of chunk now later = record { chunk = chunk; overtaken = passed later; sent_at = now }

-- an act with some behind it, of which this flies, and what flies of all then
abbrev pub with_act : Act → List Act → List flown.Entry → List flown.Entry
with_act (Sends chunk now) later entries =
    if is_acked chunk later || nat_le 3 (passed later) then entries else flying_of chunk now later ∷ entries
with_act _ later entries = entries

-- what flies of some acts, and of a row, the oldest first
abbrev pub flight_of : List Act → List flown.Entry
flight_of [] = []
flight_of (act ∷ later) = with_act act later (flight_of later)

abbrev pub flight_in : Descriptor → Life → List Entry → Row → List flown.Entry
flight_in d life xs row = flight_of (acts_in d life xs row)

abbrev pub is_flying : List flown.Entry → Bool
is_flying entries = nat_lt 0 (length entries)

-- when the oldest was sent, once one more is read
abbrev pub oldest_of : Option ℕ → ℕ → Option ℕ
oldest_of None now = Some now
oldest_of (Some sent_at) now = Some sent_at

-- what is counted, with a chunk that flies
abbrev pub counted : (first last chunk now : ℕ) → Flown → Flown
counted first last chunk now f = record {
  total = f.total + 1;
  hits = if nat_le first chunk && nat_le chunk last then f.hits + 1 else f.hits;
  sent_at = if nat_le first chunk && nat_le chunk last then oldest_of f.sent_at now else f.sent_at;
}
