-- Messages that are put behind the first bytes of a buffer.
use Rattle.std.specs.Prelude.{◌≡◌, ℕ, ◌+◌, ◌^◌, ◌<◌, ◌≤◌, Option, List, ◌++◌, length, take, MatchOption}
use Rattle.std.specs.List.{AllByRecursion}
use Rattle.pp_terms.specs.tree.Range.{Span, leaves_of}
use Rattle.pp_terms.specs.format.Descriptor.{Descriptor}
use Rattle.pp_terms.specs.format.Messages as plain
use Rattle.pp_terms.specs.format.Messages.{Message, IsSpelt, MayPrecede, spell}
use Rattle.pp_tree.specs.declared.node.Node.{Node}
use Rattle.pp_tree.specs.Node.{node_of}
use Rattle.pp_draft.specs.declared.ranges.Kind.{Kind}
use Rattle.pp_draft.specs.declared.ranges.Kind.TheVariants.{Ack, Have, Request, Cancel}
use Rattle.pp_draft.specs.Datagrams.{spelled, datagram_text}

-- The message was put.
pub record AddsOne (d : Descriptor) (m : Message) (old : List ℕ) (at end : ℕ) (new : List ℕ) : Type 0 where
  pub within : end ≤ length new
  pub ends : end ≡ at + length (spell d.method m)
  pub text : take end new ≡ take at old ++ spell d.method m
  pub spelt : IsSpelt d.method m (spell d.method m)

-- The message has no room.
pub record LacksOne (d : Descriptor) (m : Message) (old : List ℕ) (at : ℕ) (new : List ℕ) : Type 0 where
  pub long : length old < at + length (spell d.method m)
  pub same : new ≡ old

abbrev pub PutsOne : Descriptor → Message → List ℕ → ℕ → Option ℕ → List ℕ → Type 0
PutsOne d m old at r new = MatchOption r (LacksOne d m old at new) (λ end. AddsOne d m old at end new)

-- The message is read wherever it stands in a datagram.
pub record Stands (d : Descriptor) (m : Message) : Type 0 where
  pub spelt : IsSpelt d.method m (spell d.method m)
  pub may : (rest : List ℕ) → MayPrecede d.chunk m rest

-- The messages were put.
pub record Adds (d : Descriptor) (ms : List Message) (old : List ℕ) (at end : ℕ) (new : List ℕ) : Type 0 where
  pub within : end ≤ length new
  pub ends : end ≡ at + length (spelled d.method ms)
  pub text : take end new ≡ take at old ++ spelled d.method ms
  pub stand : AllByRecursion (Stands d) ms

-- The messages have no room together, and the bytes before them are as they were.
pub record Lacks (d : Descriptor) (ms : List Message) (old : List ℕ) (at : ℕ) (new : List ℕ) : Type 0 where
  pub long : length old < at + length (spelled d.method ms)
  pub front : take at new ≡ take at old
  pub short : length (spelled d.method ms) ≤ 4096

-- Messages of which it holds were put, or have no room.
pub record Puts (d : Descriptor) (holds : List Message → Type 0) (old : List ℕ) (at : ℕ) (r : Option ℕ) (new : List ℕ) : Type 0 where
  pub messages : List Message
  pub hold : holds messages
  pub outcome : MatchOption r (Lacks d messages old at new) (λ end. Adds d messages old at end new)

-- The first bytes of a buffer, so many, are a datagram, behind which more messages can be put.
pub record IsFront (d : Descriptor) (channel : ℕ) (ms : List Message) (end : ℕ) (out : List ℕ) : Type 0 where
  pub within : end ≤ length out
  pub text : take end out ≡ datagram_text d.method channel ms
  pub stand : AllByRecursion (Stands d) ms

-- what a message of that kind says of chunks
abbrev pub message_for : Kind → Span → Message
message_for (Ack delay) span = plain.Ack span delay
message_for Have span = plain.Have span
message_for Request span = plain.Request span
message_for Cancel span = plain.Cancel span

abbrev pub message_at : Kind → Node → Message
message_at kind n = message_for kind (leaves_of (node_of n))

-- The leaves under the node are numbers of chunks.
abbrev pub IsLow : Node → Type 0
IsLow n = (leaves_of (node_of n)).last < 2 ^ 20
