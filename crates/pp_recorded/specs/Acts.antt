-- The acts of a channel: what each line of its story is to its window, the oldest first.
use Rattle.std.specs.Prelude.{ℕ, ◌+◌, ◌*◌, ◌^◌, ◌==◌, min, max, Bool, List, [], ◌∷◌, ◌++◌, length, map, take, drop}
use Rattle.pp_terms.specs.format.Traffic.{Record, Received, Quiet, Sent}
use Rattle.pp_terms.specs.format.Descriptor.{Descriptor}
use Rattle.pp_terms.specs.format.Messages.{Message, Data, Ack}
use Rattle.pp_traffic.specs.Past.{now, bytes_of}
use Rattle.pp_traffic.specs.Life.{Life}
use Rattle.pp_traffic.specs.Story.{heard_in, said_in}
use Rattle.pp_traffic.specs.Meter.{Meter, sent, acked, ended}
use Rattle.pp_recorded.specs.declared.entry.Entry.{Entry}
use Rattle.pp_recorded.specs.declared.acts.Act.{Act}
use Rattle.pp_recorded.specs.declared.acts.Act.TheVariants.{Sends, Acks, Waits, Other}
use Rattle.pp_recorded.specs.declared.acts.Spot.{Spot}
use Rattle.pp_recorded.specs.Entries.{record_of, past}
use Rattle.pp_recorded.specs.Parts.{rest}

-- a message that came, and one that was sent
abbrev pub heard_act : ℕ → Message → Act
heard_act now (Ack span delay) = Acks span.first span.last delay now
heard_act now _ = Other

abbrev pub said_act : ℕ → Message → Act
said_act now (Data chunk sent_at bytes) = Sends chunk now
said_act now _ = Other

-- a message of a record, and the end of a record
abbrev pub act_of : Record → ℕ → Message → Act
act_of (Received at sender bytes) now m = heard_act now m
act_of (Quiet at) now m = Other
act_of (Sent moment receiver bytes) now m = said_act now m

abbrev pub end_of : Record → ℕ → Act
end_of (Received at sender bytes) now = Waits now
end_of (Quiet at) now = Waits now
end_of (Sent moment receiver bytes) now = Other

-- some messages of a record, and its end
abbrev pub acts_of : Record → ℕ → List Message → List Act
acts_of r now ms = map (act_of r now) ms ++ end_of r now ∷ []

-- the messages of a record that lie on the channel
abbrev pub messages_in : Descriptor → Life → Bool → Record → List Message
messages_in d life is_opening (Received at sender bytes) = heard_in d life is_opening (Received at sender bytes)
messages_in d life is_opening (Quiet at) = []
messages_in d life is_opening (Sent moment receiver bytes) = said_in d life (Sent moment receiver bytes)

-- the moment now behind a record, by the one before it
abbrev pub now_after : ℕ → Record → ℕ
now_after before (Received at sender bytes) = max at before
now_after before (Quiet at) = max at before
now_after before (Sent moment receiver bytes) = before

-- all acts of the entries from a place on, before which it was so late
abbrev pub acts_since : Descriptor → Life → (place before : ℕ) → List Entry → List Act
acts_since d life place before [] = []
acts_since d life place before (x ∷ xs) =
    acts_of (record_of x) (now_after before (record_of x)) (messages_in d life (life.opening == place) (record_of x))
    ++ acts_since d life (place + 1) (now_after before (record_of x)) xs

-- all of the channel
abbrev pub acts_of_life : Descriptor → Life → List Entry → List Act
acts_of_life d life xs = acts_since d life life.opening (now (past (take life.opening xs))) (drop life.opening xs)

-- a life's acts from a spot on
abbrev pub ahead_in : Descriptor → Life → Spot → List Entry → List Act
ahead_in d life c [] = []
ahead_in d life c (x ∷ xs) =
    acts_of (record_of x) c.now (rest d (bytes_of (record_of x)) (min c.at (length (bytes_of (record_of x)))))
    ++ acts_since d life (c.place + 1) c.now xs

abbrev pub ahead : Descriptor → Life → List Entry → Spot → List Act
ahead d life xs c = ahead_in d life c (drop c.place xs)

-- a spot as a number, which rises from act to act
abbrev pub number : Spot → ℕ
number c = c.place * 2 ^ 64 + c.at

-- what an act does to the window, and some, one after the other
abbrev pub taken : Act → Meter → Meter
taken (Sends chunk now) m = sent chunk now m
taken (Acks first last delay now) m = acked first last delay now m
taken (Waits now) m = ended now m
taken Other m = m

abbrev pub run : Meter → List Act → Meter
run m [] = m
run m (act ∷ later) = run (taken act m) later
