-- What was sent on a channel, by its story and by the records.
use Rattle.std.proofs.Common.{◌≡◌, ⊎_elim, ℕ, leb, eqb, Bool, true, false, cond, ◌&&◌, ◌||◌, List, [], ◌∷◌, length, refl, ◌∙◌, ap, arith}
use Rattle.std.specs.List.{list_any}
use Rattle.std.proofs.lemmas.Bool.{cases_lt, le-leb, lt-leb}
use Rattle.pp_terms.specs.format.Traffic.{Record, Received, Quiet, Sent}
use Rattle.pp_terms.specs.format.Descriptor.{Descriptor}
use Rattle.pp_terms.specs.format.Messages.{Message}
use Rattle.pp_traffic.specs.Past.{now, some_since}
use Rattle.pp_traffic.specs.Life.{Life}
use Rattle.pp_traffic.specs.Story.{Line, Heard, Said, Taken, hear, say, heard_in, said_in, told, story}
use Rattle.pp_traffic.proofs.Plains.{none_from_end}
use Rattle.pp_promises.specs.OwnSide.{has_in, names_in, is_named}
use Rattle.pp_promises.specs.Announced.{acknowledges, is_acknowledged, is_told_of}
use Rattle.pp_recorded.specs.declared.sorts.Sort.TheVariants as sorts
use Rattle.pp_recorded.specs.Said.{has_said}

-- a line says a message that passes the test
abbrev pub says_any : (Message → Bool) → List Line → Bool
says_any test [] = false
says_any test (Heard now m ∷ before) = says_any test before
says_any test (Said now m ∷ before) = test m || says_any test before
says_any test (Taken now ∷ before) = says_any test before

hears_none : (test : Message → Bool) (now : ℕ) (ms : List Message) (lines : List Line) → says_any test (hear now ms lines) ≡ says_any test lines
hears_none test now [] lines = refl
hears_none test now (m ∷ ms) lines = hears_none test now ms (Heard now m ∷ lines)

pub swap : (x y z : Bool) → (x || (y || z)) ≡ ((y || x) || z)
swap true true z = refl
swap true false z = refl
swap false true z = refl
swap false false z = refl

says_each : (test : Message → Bool) (now : ℕ) (ms : List Message) (lines : List Line) → says_any test (say now ms lines) ≡ (list_any test ms || says_any test lines)
says_each test now [] lines = refl
says_each test now (m ∷ ms) lines = says_each test now ms (Said now m ∷ lines) ∙ swap (list_any test ms) (test m) (says_any test lines)

says_told : (test : Message → Bool) (d : Descriptor) (life : Life) (is_opening : Bool) (now : ℕ) (r : Record) (lines : List Line)
    → says_any test (told d life is_opening now r lines) ≡ (list_any test (said_in d life r) || says_any test lines)
says_told test d life is_opening now (Received at sender bytes) lines = hears_none test now (heard_in d life is_opening (Received at sender bytes)) lines
says_told test d life is_opening now (Quiet at) lines = refl
says_told test d life is_opening now (Sent moment receiver bytes) lines = says_each test now (said_in d life (Sent moment receiver bytes)) lines

says_story : (test : Message → Bool) (d : Descriptor) (life : Life) (past : List Record)
    → says_any test (story d life past) ≡ some_since (λ r. list_any test (said_in d life r)) life.opening past
says_story test d life [] = refl
says_story test d life (r ∷ before) = ⊎_elim
    (λ lt. outside (lt-leb life.opening (length before) lt) (none_from_end (λ x. list_any test (said_in d life x)) life.opening before (omega (arith, lt))))
    (λ le. inside (le-leb life.opening (length before) le) (says_story test d life before))
    (cases_lt (length before) life.opening)
  where
    outside : leb life.opening (length before) ≡ false → some_since (λ x. list_any test (said_in d life x)) life.opening before ≡ false
        → says_any test (cond (leb life.opening (length before)) (told d life (eqb life.opening (length before)) (now (r ∷ before)) r (story d life before)) [])
        ≡ ((leb life.opening (length before) && list_any test (said_in d life r)) || some_since (λ x. list_any test (said_in d life x)) life.opening before)
    outside e none = rw (e, none) refl

    inside : leb life.opening (length before) ≡ true → says_any test (story d life before) ≡ some_since (λ x. list_any test (said_in d life x)) life.opening before
        → says_any test (cond (leb life.opening (length before)) (told d life (eqb life.opening (length before)) (now (r ∷ before)) r (story d life before)) [])
        ≡ ((leb life.opening (length before) && list_any test (said_in d life r)) || some_since (λ x. list_any test (said_in d life x)) life.opening before)
    inside e more =
        rw e (says_told test d life (eqb life.opening (length before)) (now (r ∷ before)) r (story d life before)
        ∙ ap (λ (b : Bool). list_any test (said_in d life r) || b) more)

-- ---- the three kinds that are asked for

told_any : (i : ℕ) (lines : List Line) → is_told_of i lines ≡ says_any (has_in i) lines
told_any i [] = refl
told_any i (Heard now m ∷ before) = told_any i before
told_any i (Said now m ∷ before) = ap (λ (b : Bool). has_in i m || b) (told_any i before)
told_any i (Taken now ∷ before) = told_any i before

pub told_of_said : (d : Descriptor) (life : Life) (i : ℕ) (past : List Record) → is_told_of i (story d life past) ≡ has_said (sorts.HaveOf i) d past life
told_of_said d life i past = told_any i (story d life past) ∙ says_story (has_in i) d life past

acknowledged_any : (i : ℕ) (lines : List Line) → is_acknowledged i lines ≡ says_any (acknowledges i) lines
acknowledged_any i [] = refl
acknowledged_any i (Heard now m ∷ before) = acknowledged_any i before
acknowledged_any i (Said now m ∷ before) = ap (λ (b : Bool). acknowledges i m || b) (acknowledged_any i before)
acknowledged_any i (Taken now ∷ before) = acknowledged_any i before

pub acknowledged_said : (d : Descriptor) (life : Life) (i : ℕ) (past : List Record) → is_acknowledged i (story d life past) ≡ has_said (sorts.AckOf i) d past life
acknowledged_said d life i past = acknowledged_any i (story d life past) ∙ says_story (acknowledges i) d life past

named_any : (i : ℕ) (lines : List Line) → is_named i lines ≡ says_any (names_in i) lines
named_any i [] = refl
named_any i (Heard now m ∷ before) = named_any i before
named_any i (Said now m ∷ before) = ap (λ (b : Bool). names_in i m || b) (named_any i before)
named_any i (Taken now ∷ before) = named_any i before

pub named_said : (d : Descriptor) (life : Life) (i : ℕ) (past : List Record) → is_named i (story d life past) ≡ has_said (sorts.RequestOf i) d past life
named_said d life i past = named_any i (story d life past) ∙ says_story (names_in i) d life past
