-- What a peer reads of a channel (RFC 7574, sections 3.1.1 and 8.4). Where it dialled, it leaves unread what comes before the
-- other peer's reply; and chunks, hashes and addresses count only once the other peer's address is proven to be no forged one.
use Rattle.std.specs.Prelude.{ℕ, ◌==◌, nat_le, Bool, false, not, ◌&&◌, ◌||◌, if◌then◌else◌, List, [], ◌∷◌, length}
use Rattle.pp_terms.specs.format.Traffic.{Record, Received, Quiet, Sent}
use Rattle.pp_terms.specs.format.Descriptor.{Descriptor}
use Rattle.pp_traffic.specs.Past.{now, some_since}
use Rattle.pp_traffic.specs.Life.{Life, greets, comes_on}
use Rattle.pp_traffic.specs.Story.{Line, Taken, told}

-- a record that is left unread: a wait ended, or something was sent
abbrev pub with_unread : Descriptor → Life → Bool → ℕ → Record → List Line → List Line
with_unread d life is_opening now (Received at sender bytes) story = Taken now ∷ story
with_unread d life is_opening now (Quiet at) story = Taken now ∷ story
with_unread d life is_opening now (Sent moment receiver bytes) story = told d life is_opening now (Sent moment receiver bytes) story

-- the other peer replied, by the last of these records or before
abbrev pub is_replied : Descriptor → Life → List Record → Bool
is_replied d life past = some_since (greets d life) life.opening past

-- what stands there is read: the channel is one that the other peer opened, or the reply was there
abbrev pub is_read : Descriptor → Life → List Record → Bool
is_read d life past = not life.is_dialled || is_replied d life past

-- the story of what was read
abbrev pub read_story : Descriptor → Life → List Record → List Line
read_story d life [] = []
read_story d life (r ∷ before) =
    if nat_le life.opening (length before)
    then (if is_read d life (r ∷ before)
    then told d life (life.opening == length before) (now (r ∷ before)) r (read_story d life before)
    else with_unread d life (life.opening == length before) (now (r ∷ before)) r (read_story d life before))
    else []

-- the story of what was read once the other peer had written to this peer's number: without the datagram for channel 0 in
-- which it opened the channel
abbrev pub proven_story : Descriptor → Life → List Record → List Line
proven_story d life [] = []
proven_story d life (r ∷ before) =
    if nat_le life.opening (length before)
    then (if comes_on d life r && is_read d life (r ∷ before)
    then told d life false (now (r ∷ before)) r (proven_story d life before)
    else with_unread d life false (now (r ∷ before)) r (proven_story d life before))
    else []
