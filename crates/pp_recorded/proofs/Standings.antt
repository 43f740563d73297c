-- A question on a story, line by line.
use Rattle.std.proofs.Common.{◌≡◌, ℕ, ◌+◌, ◌<◌, leb, eqb, Bool, true, false, cond, List, [], ◌∷◌, length, get_or, refl, sym, ◌∙◌, ap, arith}
use Rattle.pp_terms.specs.format.Traffic.{Record, Received, Quiet, Sent}
use Rattle.pp_terms.specs.format.Descriptor.{Descriptor, chunks_of}
use Rattle.pp_terms.specs.format.Messages.{Message}
use Rattle.pp_traffic.specs.Past.{now}
use Rattle.pp_traffic.specs.Life.{Life}
use Rattle.pp_traffic.specs.Story.{Line, Heard, Said, Taken, hear, say, heard_in, said_in, told, story}
use Rattle.pp_recorded.specs.declared.entry.Entry.{Entry}
use Rattle.pp_recorded.specs.declared.standing.Question.{Question}
use Rattle.pp_recorded.specs.declared.standing.Question.TheVariants as q
use Rattle.pp_recorded.specs.declared.standing.Standing.{Standing}
use Rattle.pp_recorded.specs.Entries.{record_of}
use Rattle.pp_recorded.specs.Standing.{standing_of, heard_by, said_by, hear_all, say_all, after_told, after_record, none, story_since}
use Rattle.pp_recorded.proofs.Pasts.{first, one_more, length_first}

heard_line : (chunks : ℕ) (question : Question) (now : ℕ) (m : Message) (story : List Line)
    → standing_of chunks question (Heard now m ∷ story) ≡ heard_by chunks question m (standing_of chunks question story)
heard_line chunks (q.Asked i) now m story = refl
heard_line chunks (q.Told node) now m story = refl

said_line : (chunks : ℕ) (question : Question) (now : ℕ) (m : Message) (story : List Line)
    → standing_of chunks question (Said now m ∷ story) ≡ said_by question m (standing_of chunks question story)
said_line chunks (q.Asked i) now m story = refl
said_line chunks (q.Told node) now m story = refl

pub taken_line : (chunks : ℕ) (question : Question) (now : ℕ) (story : List Line) → standing_of chunks question (Taken now ∷ story) ≡ standing_of chunks question story
taken_line chunks (q.Asked i) now story = refl
taken_line chunks (q.Told node) now story = refl

heard_lines : (chunks : ℕ) (question : Question) (now : ℕ) (ms : List Message) (story : List Line)
    → standing_of chunks question (hear now ms story) ≡ hear_all chunks question ms (standing_of chunks question story)
heard_lines chunks question now [] story = refl
heard_lines chunks question now (m ∷ ms) story =
    heard_lines chunks question now ms (Heard now m ∷ story)
    ∙ ap (λ (s : Standing). hear_all chunks question ms s) (heard_line chunks question now m story)

said_lines : (chunks : ℕ) (question : Question) (now : ℕ) (ms : List Message) (story : List Line)
    → standing_of chunks question (say now ms story) ≡ say_all question ms (standing_of chunks question story)
said_lines chunks question now [] story = refl
said_lines chunks question now (m ∷ ms) story =
    said_lines chunks question now ms (Said now m ∷ story)
    ∙ ap (λ (s : Standing). say_all question ms s) (said_line chunks question now m story)

pub told_lines : (d : Descriptor) (question : Question) (life : Life) (is_opening : Bool) (at : ℕ) (r : Record) (story : List Line)
    → standing_of (chunks_of d) question (told d life is_opening at r story) ≡ after_told d question life is_opening r (standing_of (chunks_of d) question story)
told_lines d question life is_opening at (Received moment sender bytes) story =
    taken_line (chunks_of d) question at (hear at (heard_in d life is_opening (Received moment sender bytes)) story)
    ∙ heard_lines (chunks_of d) question at (heard_in d life is_opening (Received moment sender bytes)) story
told_lines d question life is_opening at (Quiet moment) story = taken_line (chunks_of d) question at story
told_lines d question life is_opening at (Sent moment receiver bytes) story =
    said_lines (chunks_of d) question at (said_in d life (Sent moment receiver bytes)) story

pub no_lines : (chunks : ℕ) (question : Question) → standing_of chunks question [] ≡ none
no_lines chunks (q.Asked i) = refl
no_lines chunks (q.Told node) = refl

pub at_first : (d : Descriptor) (question : Question) (life : Life) (from : ℕ) → none ≡ standing_of (chunks_of d) question (story_since from d life [])
at_first d question life from = sym (no_lines (chunks_of d) question)

-- one record more
record_more : (d : Descriptor) (question : Question) (life : Life) (from : ℕ) (r : Record) (before : List Record)
    → standing_of (chunks_of d) question (story_since from d life (r ∷ before))
    ≡ after_record d question life from (length before) r (standing_of (chunks_of d) question (story_since from d life before))
record_more d question life from r before = by (leb from (length before))
  where
    by : (b : Bool)
        → standing_of (chunks_of d) question (cond b (told d life (eqb life.opening (length before)) (now (r ∷ before)) r (story_since from d life before)) [])
        ≡ cond b (after_told d question life (eqb life.opening (length before)) r (standing_of (chunks_of d) question (story_since from d life before))) none
    by true = told_lines d question life (eqb life.opening (length before)) (now (r ∷ before)) r (story_since from d life before)
    by false = no_lines (chunks_of d) question

pub standing_more : (d : Descriptor) (question : Question) (life : Life) (from : ℕ) (xs : List Entry) (i : ℕ) (x : Entry) (s s' : Standing)
    → i < length xs → x ≡ get_or xs i x → s ≡ standing_of (chunks_of d) question (story_since from d life (first i xs))
    → s' ≡ after_record d question life from i (record_of x) s
    → s' ≡ standing_of (chunks_of d) question (story_since from d life (first (i + 1) xs))
standing_more d question life from xs i x s s' lt is so_far step =
    step
    ∙ ap (λ (t : Standing). after_record d question life from i (record_of x) t) so_far
    ∙ ap (λ (n : ℕ). after_record d question life from n (record_of x) (standing_of (chunks_of d) question (story_since from d life (first i xs)))) (sym (length_first xs i (omega arith)))
    ∙ sym (record_more d question life from (record_of x) (first i xs))
    ∙ sym (ap (λ (rs : List Record). standing_of (chunks_of d) question (story_since from d life rs)) (one_more xs i x lt is))

pub since_opening : (d : Descriptor) (life : Life) (past : List Record) → story_since life.opening d life past ≡ story d life past
since_opening d life [] = refl
since_opening d life (r ∷ before) =
    ap (λ (lines : List Line). cond (leb life.opening (length before)) (told d life (eqb life.opening (length before)) (now (r ∷ before)) r lines) []) (since_opening d life before)
