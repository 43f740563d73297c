-- A message that was heard, of which a part of its span lies in the content.
use Rattle.std.proofs.Common.{◌≡◌, ℕ, Option, Some, None, sym, ◌∙◌, ap, subst}
use Rattle.std.proofs.lemmas.Option.{same_Some}
use Rattle.pp_terms.specs.format.Messages.{Message}
use Rattle.pp_terms.specs.tree.Range.{Span}
use Rattle.pp_traffic.specs.Story.{Line, Heard}
use Rattle.pp_counts.specs.declared.note.Note.{Note}
use Rattle.pp_seat.specs.Lines.{inside}
use Rattle.pp_seat.specs.Seats.{SeatState}
use Rattle.pp_seat.specs.Follows.{Goes, Always, IsCut}
use Rattle.pp_seat.specs.Laws.{IsIdleHeard}
use Rattle.pp_seat.proofs.Passing.{idle_stays}
use Rattle.pp_desk.specs.Hearing.{HearsPart}

-- A range of the content is a cut of its span in each frame that the seat follows.
pub part_goes : (line : Line) (span range : Span) (chunks : ℕ) (old new : SeatState) → chunks ≡ old.told.chunks → Some range ≡ inside chunks span
    → Goes (IsCut range span) line old new → Goes Always line old new
part_goes line span range chunks old new few is g = record {
  follows = λ f lost t always h. g.follows f lost t (ap (λ (n : ℕ). inside n span) (sym (few ∙ h.told.content)) ∙ sym is) h;
}

-- That range is what is heard of the span.
pub part_hears : (span range : Span) (chunks : ℕ) (hears : Span → Type 0) (noted : Option Note) (old new : SeatState) → chunks ≡ old.told.chunks
    → Some range ≡ inside chunks span → hears range → HearsPart span hears noted old new
part_hears span range chunks hears noted old new few is h = record {
  outside = λ none. absurd (some_or_none (here ∙ none));
  part = λ other e. subst hears (same_Some range other (here ∙ e)) h;
}
  where
    here : Some range ≡ inside old.told.chunks span
    here = is ∙ ap (λ (n : ℕ). inside n span) few

    some_or_none : Some range ≡ None → ⊥
    some_or_none e = cc

-- A message of which nothing lies in the content changes nothing.
pub outside_goes : (now : ℕ) (m : Message) (span : Span) (chunks : ℕ) (s : SeatState) → chunks ≡ s.told.chunks → None ≡ inside chunks span
    → ((n : ℕ) → inside n span ≡ None → IsIdleHeard n m) → Goes Always (Heard now m) s s
outside_goes now m span chunks s few is idle = record {
  follows = λ f lost t always h.
      (idle_stays (Heard now m) s).follows f lost t (idle f.chunks (ap (λ (n : ℕ). inside n span) (sym (few ∙ h.told.content)) ∙ sym is)) h;
}

-- Nor does one that a seat passes over.
pub idle_goes : (now : ℕ) (m : Message) (s : SeatState) → ((n : ℕ) → IsIdleHeard n m) → Goes Always (Heard now m) s s
idle_goes now m s idle = record { follows = λ f lost t always h. (idle_stays (Heard now m) s).follows f lost t (idle f.chunks) h }
