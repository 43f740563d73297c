-- The story of a life: its messages, and the moments at which this peer looked up, the newest first.
use Rattle.std.specs.Prelude.{ℕ, ◌==◌, nat_le, Bool, not, ◌&&◌, if◌then◌else◌, List, [], ◌∷◌, length, drop}
use Rattle.pp_terms.specs.format.Traffic.{Record, Received, Quiet, Sent}
use Rattle.pp_terms.specs.format.Descriptor.{Descriptor}
use Rattle.pp_terms.specs.format.Messages.{Message, Handshake}
use Rattle.pp_traffic.specs.Past.{now, read, goes_to, is_number}
use Rattle.pp_traffic.specs.Life.{Life, greets, comes_on}

-- A message that came or was sent, with the moment now; or the end of what one wait brought, where timeouts are looked for.
pub data Line : Type 0 where
  Heard : (now : ℕ) (message : Message) → Line
  Said : (now : ℕ) (message : Message) → Line
  Taken : (now : ℕ) → Line

-- the story with these messages more, the last of them the newest
abbrev pub hear : ℕ → List Message → List Line → List Line
hear now [] story = story
hear now (m ∷ ms) story = hear now ms (Heard now m ∷ story)

abbrev pub say : ℕ → List Message → List Line → List Line
say now [] story = story
say now (m ∷ ms) story = say now ms (Said now m ∷ story)

-- the messages behind the first handshake of that source channel
abbrev pub behind : ℕ → List Message → List Message
behind number [] = []
behind number (Handshake source options ∷ ms) = if source == number then ms else behind number ms
behind number (_ ∷ ms) = behind number ms

-- the messages of a record that came on the life: all for this peer's number; in the opening those behind the handshake
abbrev pub heard_in : Descriptor → Life → Bool → Record → List Message
heard_in d life is_opening r =
    if is_opening && not life.is_dialled && greets d life r then drop 1 (read d r).messages.read else
    (if comes_on d life r then (read d r).messages.read else [])

-- the messages that were sent on a life: to the peer's number, and to number 0 behind this peer's handshake
abbrev pub said_in : Descriptor → Life → Record → List Message
said_in d life r =
    if not (goes_to life.address r) then [] else
    (if is_number life.remote (read d r).channel then (read d r).messages.read else
    (if is_number 0 (read d r).channel then behind life.local (read d r).messages.read else []))

-- what a record adds to the story
abbrev pub told : Descriptor → Life → Bool → ℕ → Record → List Line → List Line
told d life is_opening now (Received at sender bytes) story =
    Taken now ∷ hear now (heard_in d life is_opening (Received at sender bytes)) story
told d life is_opening now (Quiet at) story = Taken now ∷ story
told d life is_opening now (Sent moment receiver bytes) story = say now (said_in d life (Sent moment receiver bytes)) story

-- the story from the opening on
abbrev pub story : Descriptor → Life → List Record → List Line
story d life [] = []
story d life (r ∷ before) =
    if nat_le life.opening (length before)
    then told d life (life.opening == length before) (now (r ∷ before)) r (story d life before)
    else []
