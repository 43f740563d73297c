-- Whether each chunk that came first is acknowledged by a quiet turn, as a test.
use Rattle.std.specs.Prelude.{ℕ, Bool, true, false, not, ◌&&◌, ◌||◌, List, [], ◌∷◌}
use Rattle.std.specs.List.{list_any}
use Rattle.pp_terms.specs.format.Descriptor.{Descriptor}
use Rattle.pp_terms.specs.format.Messages.{Message, Data}
use Rattle.pp_terms.specs.format.Traffic.{Record, Received, Quiet, Sent}
use Rattle.pp_terms.specs.tree.Book.{LookUp}
use Rattle.pp_traffic.specs.Life.{Life, comes_on}
use Rattle.pp_traffic.specs.Past.{read}
use Rattle.pp_traffic.specs.Story.{story}
use Rattle.pp_promises.specs.Announced.{is_data, came_in, is_acknowledged}
use Rattle.pp_promises.specs.LastTurn.{last_event, earlier, is_quiet}
use Rattle.pp_recorded.specs.Contradictions.{contradicts}
use Rattle.pp_recorded.specs.PlainTests.{is_plain_newest}
use Rattle.pp_recorded.specs.Provings.{proves}
use Rattle.pp_audit.specs.Storings.{known_behind, each_stored}

-- a chunk isn't proved, contradicts the book, or came before
abbrev pub is_excused : Descriptor → LookUp → List Record → LookUp → List Message → ℕ → List ℕ → Bool
is_excused d book before known front i bytes =
    not (proves d known i bytes) || (contradicts d book known i bytes || (list_any (came_in d i) before || list_any (is_data i) front))

-- A message is no chunk, or an excused one, or is acknowledged.
abbrev pub is_acked : Descriptor → LookUp → (ℕ → Bool) → List Record → LookUp → List Message → Message → Bool
is_acked d book acked before known front (Data i sent_at bytes) = is_excused d book before known front i bytes || acked i
is_acked d book acked before known front _ = true

-- each message of a record that comes on a channel, in front of a closing handshake, is no chunk, or excused, or acknowledged
abbrev pub acks_on : Descriptor → LookUp → (ℕ → Bool) → Life → List Record → Record → Bool
acks_on d book acked life before r =
    not (comes_on d life r)
    || each_stored (λ front m. is_acked d book acked before (known_behind d life before front) front m) [] (read d r).messages.read

-- of the newest record, where the channel is plain up to it; and of all
abbrev pub acks_newest : Descriptor → LookUp → (ℕ → Bool) → Life → List Record → Bool
acks_newest d book acked life [] = true
acks_newest d book acked life (r ∷ before) = not (is_plain_newest d life (r ∷ before)) || acks_on d book acked life before r

abbrev pub acks_each : Descriptor → LookUp → (ℕ → Bool) → Life → List Record → Bool
acks_each d book acked life [] = true
acks_each d book acked life (r ∷ before) = acks_newest d book acked life (r ∷ before) && acks_each d book acked life before

-- the last turn is quiet, by its event
abbrev pub quiet_by : Record → Bool → Bool
quiet_by (Received at sender bytes) quiet = false
quiet_by (Quiet at) quiet = true
quiet_by (Sent moment receiver bytes) quiet = quiet

-- at the end of a quiet turn, those of earlier ones are acknowledged
abbrev pub acknowledges : Descriptor → LookUp → List Record → Life → Bool
acknowledges d book past life =
    not (is_quiet (last_event past)) || acks_each d book (λ i. is_acknowledged i (story d life past)) life (earlier past)
