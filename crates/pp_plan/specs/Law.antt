-- What a plan is for.
use Rattle.std.specs.Prelude.{◌≡◌, ◌⊎◌, ℕ, ◌-◌, ◌^◌, ◌<◌, ◌≤◌, min, Bool, true, false, List, [], ◌∷◌, ◌++◌}
use Rattle.std.specs.List.{list_all}
use Rattle.pp_terms.specs.tree.Tree.{Node, peaks}
use Rattle.pp_terms.specs.tree.Range.{Span}
use Rattle.pp_terms.specs.format.Messages.{Message, Ack, Have}
use Rattle.pp_traffic.specs.Story.{Line, Heard, Said, Taken}
use Rattle.pp_traffic.specs.Hashes.{tells, is_told, completes}
use Rattle.pp_traffic.specs.Laws.{plan}
use Rattle.pp_plan.specs.Told.{tells_any}

-- A peer that told of no chunk knows nothing, and any other knows all peaks.
abbrev pub IsTold : ℕ → (Node → Bool) → Type 0
IsTold chunks told = (list_all told (peaks chunks) ≡ true) ⊎ ((n : Node) → told n ≡ false)

-- Hashes that are brought complete a chunk's path exactly where all of its plan is among them. So the plan does, and no
-- proper part of it.
abbrev pub PlansAreLeast : Type 0
PlansAreLeast = (chunks : ℕ) (told : Node → Bool) (i : ℕ) (brought : Node → Bool) → IsTold chunks told → chunks ≤ 2 ^ 20 → i < chunks
    → completes chunks brought told i ≡ list_all brought (plan chunks told i)

-- What is told by the messages of a story is such a set.
abbrev pub StoriesTell : Type 0
StoriesTell = (chunks : ℕ) (story : List Line) → IsTold chunks (is_told chunks story)

-- the range of a HAVE or an ACK, and those that came in a story, the newest first
abbrev pub told_in_message : Message → List Span
told_in_message (Ack span delay) = span ∷ []
told_in_message (Have span) = span ∷ []
told_in_message _ = []

abbrev pub told_in : List Line → List Span
told_in [] = []
told_in (Heard now m ∷ before) = told_in_message m ++ told_in before
told_in (Said now m ∷ before) = told_in before
told_in (Taken now ∷ before) = told_in before

-- What a story tells is told by the ranges of its messages.
abbrev pub StoriesAreRanges : Type 0
StoriesAreRanges = (chunks : ℕ) (story : List Line) (n : Node) → is_told chunks story n ≡ tells_any chunks (told_in story) n

-- A range that is cut at the content's last chunk tells what the whole range tells.
abbrev pub CutsTellAlike : Type 0
CutsTellAlike = (chunks : ℕ) (span : Span) (n : Node)
    → tells chunks (record { first = span.first; last = min span.last (chunks - 1) }) n ≡ tells chunks span n
