-- What a story says of one channel's seat.
use Rattle.std.specs.Prelude.{ℕ, ◌==◌, nat_le, nat_lt, Bool, false, ◌&&◌, ◌||◌, if◌then◌else◌, Option, Some, None, List, [], ◌∷◌, length}
use Rattle.pp_terms.specs.format.Messages.{Message, Request, Pex4, PexReq, Pex6}
use Rattle.pp_terms.specs.tree.Range.{Span, within}
use Rattle.pp_traffic.specs.Story.{Line, Heard, Said, Taken}
use Rattle.pp_traffic.specs.Asking.{choked, asked_by, asked_after}
use Rattle.pp_traffic.specs.Claims.{cut_to}
use Rattle.pp_promises.specs.OwnSide.{has_in}

-- what of a span lies in a content of so many chunks
abbrev pub inside : ℕ → Span → Option Span
inside chunks span = if nat_lt span.first chunks && nat_le span.first span.last then Some (cut_to chunks span) else None

-- The chunk is asked for by a REQUEST that came when the story had so many lines, or later.
abbrev pub asked_since : (place i : ℕ) → List Line → Bool
asked_since place i [] = false
asked_since place i (Heard now m ∷ before) = asked_by i (choked before || nat_lt (length before) place) m (asked_since place i before)
asked_since place i (Said now m ∷ before) = asked_after i m (asked_since place i before)
asked_since place i (Taken now ∷ before) = asked_since place i before

-- a REQUEST of the chunk was sent at that moment
abbrev pub names_at : (i moment now : ℕ) → Message → Bool
names_at i moment now (Request span) = within span i && now == moment
names_at i moment now _ = false

abbrev pub is_named_at : (i moment : ℕ) → List Line → Bool
is_named_at i moment [] = false
is_named_at i moment (Heard now m ∷ before) = is_named_at i moment before
is_named_at i moment (Said now m ∷ before) = names_at i moment now m || is_named_at i moment before
is_named_at i moment (Taken now ∷ before) = is_named_at i moment before

-- the same of a chunk of the content
abbrev pub is_asked_at : (chunks i moment : ℕ) → List Line → Bool
is_asked_at chunks i moment story = nat_lt i chunks && is_named_at i moment story

-- when addresses of other peers were last sent, and last asked for
abbrev pub answer_of : (now : ℕ) → Message → Option ℕ → Option ℕ
answer_of now (Pex4 address port) before = Some now
answer_of now (Pex6 address port) before = Some now
answer_of now _ before = before

abbrev pub last_answer : List Line → Option ℕ
last_answer [] = None
last_answer (Heard now m ∷ before) = last_answer before
last_answer (Said now m ∷ before) = answer_of now m (last_answer before)
last_answer (Taken now ∷ before) = last_answer before

abbrev pub question_of : (now : ℕ) → Message → Option ℕ → Option ℕ
question_of now PexReq before = Some now
question_of now _ before = before

abbrev pub last_question : List Line → Option ℕ
last_question [] = None
last_question (Heard now m ∷ before) = last_question before
last_question (Said now m ∷ before) = question_of now m (last_question before)
last_question (Taken now ∷ before) = last_question before

-- ---- tales

-- What is read of a channel; what of that was heard once the other peer's address was proven; and of which chunks a HAVE was
-- sent since then.
pub record Tale : Type 0 where
  pub story : List Line
  pub proven : List Line
  pub told : ℕ → Bool

-- one that was heard counts in the second only while the channel is proven
abbrev pub with_proven : Line → Bool → List Line → List Line
with_proven (Heard now m) is_proven before = if is_proven then Heard now m ∷ before else before
with_proven (Said now m) is_proven before = Said now m ∷ before
with_proven (Taken now) is_proven before = Taken now ∷ before

-- a HAVE of the chunk was sent
abbrev pub tells_in : ℕ → Line → Bool
tells_in i (Heard now m) = false
tells_in i (Said now m) = has_in i m
tells_in i (Taken now) = false

-- a line more
abbrev pub with_line : Line → Bool → Tale → Tale
with_line line is_proven t = record {
  story = line ∷ t.story;
  proven = with_proven line is_proven t.proven;
  told = λ i. (tells_in i line && is_proven) || t.told i;
}

-- messages more that were sent at a moment, the last of them the newest
abbrev pub with_said : ℕ → List Message → Bool → Tale → Tale
with_said now [] is_proven t = t
with_said now (m ∷ ms) is_proven t = with_said now ms is_proven (with_line (Said now m) is_proven t)
