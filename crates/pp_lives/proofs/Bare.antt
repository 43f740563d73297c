-- No chunk is sent on a channel before it is known.
use Rattle.std.proofs.Common.{◌≡◌, ℕ, ◌≤◌, leb, eqb, Bool, true, false, cond, not, ◌&&◌, ◌||◌, List, [], ◌∷◌, length, refl, ◌∙◌, ap, arith}
use Rattle.std.proofs.lemmas.Bool.{and_from, or_left, cond-true, cond-false, le-leb, lt-leb}
use Rattle.std.specs.List.{list_any}
use Rattle.pp_terms.specs.format.Traffic.{Record, Received, Quiet, Sent}
use Rattle.pp_terms.specs.format.Descriptor.{Descriptor}
use Rattle.pp_terms.specs.format.Messages.{Message}
use Rattle.pp_traffic.specs.Past.{now}
use Rattle.pp_traffic.specs.Life.{Life}
use Rattle.pp_traffic.specs.Story.{Line, Heard, Said, hear, say, heard_in, said_in, told}
use Rattle.pp_promises.specs.ReadStory.{with_unread, is_read, read_story}
use Rattle.pp_promises.specs.Laws.{is_any_data, is_bare}
use Rattle.pp_lives.specs.Reading.{is_blank}

-- one record more that is read
pub bare_more : (d : Descriptor) (life : Life) (r : Record) (past : List Record) → life.opening ≤ length past → is_read d life (r ∷ past) ≡ true
    → is_bare d life past ≡ true → is_bare d life (r ∷ past) ≡ true
bare_more d life r past le read bare =
    cond-true (leb life.opening (length past)) ((is_read d life (r ∷ past) || not (list_any is_any_data (said_in d life r))) && is_bare d life past) true (le-leb life.opening (length past) le)
    ∙ and_from (is_read d life (r ∷ past) || not (list_any is_any_data (said_in d life r))) (is_bare d life past)
    (or_left (is_read d life (r ∷ past)) (not (list_any is_any_data (said_in d life r))) read) bare

-- before the opening
pub bare_before : (d : Descriptor) (life : Life) (past : List Record) → length past ≤ life.opening → is_bare d life past ≡ true
bare_before d life [] le = refl
bare_before d life (r ∷ past) le =
    cond-false (leb life.opening (length past)) ((is_read d life (r ∷ past) || not (list_any is_any_data (said_in d life r))) && is_bare d life past) true
    (lt-leb life.opening (length past) (omega arith))

-- ---- while nothing was said

hear_blank : (moment : ℕ) (ms : List Message) (s : List Line) → is_blank (hear moment ms s) ≡ true → is_blank s ≡ true
hear_blank moment [] s e = e
hear_blank moment (m ∷ ms) s e = absurd (let none : false ≡ true = hear_blank moment ms (Heard moment m ∷ s) e in cc)

say_blank : (moment : ℕ) (ms : List Message) (s : List Line) → is_blank (say moment ms s) ≡ true → (is_blank s ≡ true) × (ms ≡ [])
say_blank moment [] s e = (e, refl)
say_blank moment (m ∷ ms) s e = absurd (let none : false ≡ true = (say_blank moment ms (Said moment m ∷ s) e).0 in cc)

told_blank : (d : Descriptor) (life : Life) (o : Bool) (moment : ℕ) (r : Record) (s : List Line) → is_blank (told d life o moment r s) ≡ true → is_blank s ≡ true
told_blank d life o moment (Received at sender bytes) s e = hear_blank moment (heard_in d life o (Received at sender bytes)) s e
told_blank d life o moment (Quiet at) s e = e
told_blank d life o moment (Sent at receiver bytes) s e = (say_blank moment (said_in d life (Sent at receiver bytes)) s e).0

unread_blank : (d : Descriptor) (life : Life) (o : Bool) (moment : ℕ) (r : Record) (s : List Line) → is_blank (with_unread d life o moment r s) ≡ true
    → (is_blank s ≡ true) × (list_any is_any_data (said_in d life r) ≡ false)
unread_blank d life o moment (Received at sender bytes) s e = (e, refl)
unread_blank d life o moment (Quiet at) s e = (e, refl)
unread_blank d life o moment (Sent at receiver bytes) s e =
    let parts = say_blank moment (said_in d life (Sent at receiver bytes)) s e in (parts.0, ap (list_any is_any_data) parts.1)

pub blank_bare : (d : Descriptor) (life : Life) (past : List Record) → is_blank (read_story d life past) ≡ true → is_bare d life past ≡ true
blank_bare d life [] e = refl
blank_bare d life (r ∷ b) e = pick (leb life.opening (length b)) (is_read d life (r ∷ b)) e (blank_bare d life b)
  where
    pick : (x y : Bool)
        → is_blank (cond x (cond y (told d life (eqb life.opening (length b)) (now (r ∷ b)) r (read_story d life b)) (with_unread d life (eqb life.opening (length b)) (now (r ∷ b)) r (read_story d life b))) []) ≡ true
        → (is_blank (read_story d life b) ≡ true → is_bare d life b ≡ true)
        → cond x ((y || not (list_any is_any_data (said_in d life r))) && is_bare d life b) true ≡ true
    pick false y e' ih = refl
    pick true true e' ih = ih (told_blank d life (eqb life.opening (length b)) (now (r ∷ b)) r (read_story d life b) e')
    pick true false e' ih =
        let parts = unread_blank d life (eqb life.opening (length b)) (now (r ∷ b)) r (read_story d life b) e' in
        and_from (not (list_any is_any_data (said_in d life r))) (is_bare d life b) (ap not parts.1) (ih parts.0)
