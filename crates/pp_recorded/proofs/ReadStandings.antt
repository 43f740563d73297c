-- A question on what was read of a channel, record by record.
use Rattle.std.proofs.Common.{◌≡◌, ℕ, ◌+◌, ◌<◌, leb, eqb, Bool, true, false, cond, not, ◌&&◌, ◌||◌, List, [], ◌∷◌, length, get_or, refl, sym, ◌∙◌, ap, arith}
use Rattle.pp_terms.specs.format.Traffic.{Record, Received, Quiet, Sent}
use Rattle.pp_terms.specs.format.Descriptor.{Descriptor, chunks_of}
use Rattle.pp_traffic.specs.Past.{now, is_event, some_since}
use Rattle.pp_traffic.specs.Life.{Life, greets}
use Rattle.pp_traffic.specs.Story.{Line, told}
use Rattle.pp_promises.specs.ReadStory.{with_unread, is_read, read_story}
use Rattle.pp_ranges.proofs.Runs.{or_swap}
use Rattle.pp_recorded.specs.declared.entry.Entry.{Entry}
use Rattle.pp_recorded.specs.declared.standing.Question.{Question}
use Rattle.pp_recorded.specs.declared.standing.Standing.{Standing}
use Rattle.pp_recorded.specs.Entries.{record_of}
use Rattle.pp_recorded.specs.Standing.{standing_of, after_told, none}
use Rattle.pp_recorded.specs.ReadStandings.{after_read}
use Rattle.pp_recorded.proofs.Pasts.{first, one_more, length_first}
use Rattle.pp_recorded.proofs.Standings.{taken_line, told_lines, no_lines}

pub none_read : (d : Descriptor) (question : Question) (life : Life) → none ≡ standing_of (chunks_of d) question (read_story d life [])
none_read d question life = sym (no_lines (chunks_of d) question)

-- before the first record it is read where the peer opened
pub read_at_first : (d : Descriptor) (life : Life) (b : Bool) → b ≡ not life.is_dialled → b ≡ is_read d life []
read_at_first d life b e = e ∙ by life.is_dialled
  where
    by : (x : Bool) → not x ≡ (not x || false)
    by true = refl
    by false = refl

read_one_more : (d : Descriptor) (life : Life) (xs : List Entry) (i : ℕ) (x : Entry) (found : Bool) → i < length xs → x ≡ get_or xs i x
    → found ≡ is_read d life (first i xs) → ((leb life.opening i && greets d life (record_of x)) || found) ≡ is_read d life (first (i + 1) xs)
read_one_more d life xs i x found lt is so_far =
    rw (one_more xs i x lt is, length_first xs i (omega arith), so_far)
    (or_swap (leb life.opening i && greets d life (record_of x)) (not life.is_dialled) (some_since (greets d life) life.opening (first i xs)))

pub read_by : (d : Descriptor) (life : Life) (xs : List Entry) (i : ℕ) (x : Entry) (found greeted : Bool) → i < length xs → x ≡ get_or xs i x
    → found ≡ is_read d life (first i xs) → greeted ≡ (leb life.opening i && greets d life (record_of x))
    → (greeted || found) ≡ is_read d life (first (i + 1) xs)
read_by d life xs i x found greeted lt is so_far e = ap (λ (b : Bool). b || found) e ∙ read_one_more d life xs i x found lt is so_far

-- one record more, by whether it is read
by_record : (d : Descriptor) (question : Question) (life : Life) (is_opening : Bool) (at : ℕ) (r : Record) (lines : List Line) (inside read : Bool)
    → standing_of (chunks_of d) question (cond inside (cond read (told d life is_opening at r lines) (with_unread d life is_opening at r lines)) [])
    ≡ cond (not read && is_event r && inside) (standing_of (chunks_of d) question lines)
    (cond inside (after_told d question life is_opening r (standing_of (chunks_of d) question lines)) none)
by_record d question life is_opening at (Received moment sender bytes) lines true true = told_lines d question life is_opening at (Received moment sender bytes) lines
by_record d question life is_opening at (Received moment sender bytes) lines true false = taken_line (chunks_of d) question at lines
by_record d question life is_opening at (Received moment sender bytes) lines false true = no_lines (chunks_of d) question
by_record d question life is_opening at (Received moment sender bytes) lines false false = no_lines (chunks_of d) question
by_record d question life is_opening at (Quiet moment) lines true true = told_lines d question life is_opening at (Quiet moment) lines
by_record d question life is_opening at (Quiet moment) lines true false = taken_line (chunks_of d) question at lines
by_record d question life is_opening at (Quiet moment) lines false true = no_lines (chunks_of d) question
by_record d question life is_opening at (Quiet moment) lines false false = no_lines (chunks_of d) question
by_record d question life is_opening at (Sent moment receiver bytes) lines true true = told_lines d question life is_opening at (Sent moment receiver bytes) lines
by_record d question life is_opening at (Sent moment receiver bytes) lines true false = told_lines d question life is_opening at (Sent moment receiver bytes) lines
by_record d question life is_opening at (Sent moment receiver bytes) lines false true = no_lines (chunks_of d) question
by_record d question life is_opening at (Sent moment receiver bytes) lines false false = no_lines (chunks_of d) question

read_more : (d : Descriptor) (question : Question) (life : Life) (r : Record) (before : List Record)
    → standing_of (chunks_of d) question (read_story d life (r ∷ before))
    ≡ after_read d question life (is_read d life (r ∷ before)) (length before) r (standing_of (chunks_of d) question (read_story d life before))
read_more d question life r before =
    by_record d question life (eqb life.opening (length before)) (now (r ∷ before)) r (read_story d life before) (leb life.opening (length before)) (is_read d life (r ∷ before))

pub standing_one_more : (d : Descriptor) (question : Question) (life : Life) (xs : List Entry) (i : ℕ) (x : Entry) (read : Bool) (s s' : Standing)
    → i < length xs → x ≡ get_or xs i x → s ≡ standing_of (chunks_of d) question (read_story d life (first i xs))
    → read ≡ is_read d life (first (i + 1) xs) → s' ≡ after_read d question life read i (record_of x) s
    → s' ≡ standing_of (chunks_of d) question (read_story d life (first (i + 1) xs))
standing_one_more d question life xs i x read s s' lt is so_far read_is step =
    step
    ∙ ap (λ (t : Standing). after_read d question life read i (record_of x) t) so_far
    ∙ ap (λ (b : Bool). after_read d question life b i (record_of x) (standing_of (chunks_of d) question (read_story d life (first i xs))))
    (read_is ∙ ap (λ (rs : List Record). is_read d life rs) (one_more xs i x lt is))
    ∙ ap (λ (n : ℕ). after_read d question life (is_read d life (record_of x ∷ first i xs)) n (record_of x) (standing_of (chunks_of d) question (read_story d life (first i xs))))
    (sym (length_first xs i (omega arith)))
    ∙ sym (read_more d question life (record_of x) (first i xs))
    ∙ sym (ap (λ (rs : List Record). standing_of (chunks_of d) question (read_story d life rs)) (one_more xs i x lt is))
