-- Chunk numbers that the messages of a traffic don't tell apart, and the greatest of those that they name.
use Rattle.std.specs.Prelude.{◌≡◌, ℕ, max, ◌==◌, List, [], ◌∷◌}
use Rattle.std.specs.List.{AllByRecursion}
use Rattle.pp_terms.specs.format.Traffic.{Record}
use Rattle.pp_terms.specs.format.Descriptor.{Descriptor}
use Rattle.pp_terms.specs.format.Messages.{Message, Data, Ack, Have, Request, Cancel}
use Rattle.pp_terms.specs.tree.Range.{within}
use Rattle.pp_traffic.specs.Past.{read}

-- A message names both or neither.
abbrev pub IsAlike : (i j : ℕ) → Message → Type 0
IsAlike i j (Data chunk sent_at bytes) = (chunk == i) ≡ (chunk == j)
IsAlike i j (Ack span delay) = within span i ≡ within span j
IsAlike i j (Have span) = within span i ≡ within span j
IsAlike i j (Request span) = within span i ≡ within span j
IsAlike i j (Cancel span) = within span i ≡ within span j
IsAlike i j _ = Unit {0}

-- Each message of a datagram names both or neither, and each of a traffic.
abbrev pub AreAlikeIn : Descriptor → (i j : ℕ) → Record → Type 0
AreAlikeIn d i j r = AllByRecursion (IsAlike i j) (read d r).messages.read

abbrev pub AreAlike : Descriptor → (i j : ℕ) → List Record → Type 0
AreAlike d i j past = AllByRecursion (AreAlikeIn d i j) past

-- the greatest number that a message names
abbrev pub top_in : Message → ℕ
top_in (Data chunk sent_at bytes) = chunk
top_in (Ack span delay) = span.last
top_in (Have span) = span.last
top_in (Request span) = span.last
top_in (Cancel span) = span.last
top_in _ = 0

abbrev pub top_of : List Message → ℕ
top_of [] = 0
top_of (m ∷ ms) = max (top_in m) (top_of ms)

abbrev pub top : Descriptor → List Record → ℕ
top d [] = 0
top d (r ∷ before) = max (top_of (read d r).messages.read) (top d before)
