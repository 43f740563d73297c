-- A dial on whose channel nothing was read or said can begin a seat.
use Rattle.std.proofs.Common.{◌≡◌, ⊎_elim, inr, ℕ, ◌≤◌, leb, eqb, Bool, true, false, cond, not, ◌&&◌, List, [], ◌∷◌, length, refl, sym, ◌∙◌, ap, subst, arith}
use Rattle.std.specs.List.{list_any}
use Rattle.std.proofs.lemmas.Bool.{cases_Bool, or_from, and_left, and_right, leb-false}
use Rattle.pp_terms.specs.format.Traffic.{Record, Received, Quiet, Sent}
use Rattle.pp_terms.specs.format.Descriptor.{Descriptor}
use Rattle.pp_terms.specs.format.Messages.{Message}
use Rattle.pp_traffic.specs.Past.{now, read}
use Rattle.pp_traffic.specs.Life.{Life, greets, comes_on}
use Rattle.pp_traffic.specs.Story.{Line, Heard, Said, Taken, hear, say, heard_in, said_in, told}
use Rattle.pp_traffic.specs.Asking.{is_heard}
use Rattle.pp_traffic.specs.Claims.{claims_in}
use Rattle.pp_traffic.specs.Hashes.{is_told}
use Rattle.pp_terms.specs.tree.Tree.{Node}
use Rattle.pp_traffic.proofs.Plains.{none_from_end}
use Rattle.pp_promises.specs.ReadStory.{is_read, with_unread, read_story, proven_story}
use Rattle.pp_promises.specs.OwnSide.{has_in}
use Rattle.pp_promises.specs.Announced.{tells_of, was_told_of}
use Rattle.pp_promises.proofs.ReadStories.{unread_before}
use Rattle.pp_lives.specs.Reading.{is_blank}
use Rattle.pp_seat.specs.Lines.{asked_since}
use Rattle.pp_seat.specs.Follows.{Frame, Begins, IsUnsaid}
use Rattle.pp_seat.specs.Frames.{tale_of}

-- ---- stories without a message

unsaid_blank : (story : List Line) → is_blank story ≡ true → IsUnsaid story
unsaid_blank [] e = tt
unsaid_blank (Heard now m ∷ story) e = absurd cc
unsaid_blank (Said now m ∷ story) e = absurd cc
unsaid_blank (Taken now ∷ story) e = unsaid_blank story e

asked_blank : (place i : ℕ) (story : List Line) → is_blank story ≡ true → asked_since place i story ≡ false
asked_blank place i [] e = refl
asked_blank place i (Heard now m ∷ story) e = absurd cc
asked_blank place i (Said now m ∷ story) e = absurd cc
asked_blank place i (Taken now ∷ story) e = asked_blank place i story e

claims_blank : (chunks : ℕ) (story : List Line) → is_blank story ≡ true → claims_in chunks story ≡ []
claims_blank chunks [] e = refl
claims_blank chunks (Heard now m ∷ story) e = absurd cc
claims_blank chunks (Said now m ∷ story) e = absurd cc
claims_blank chunks (Taken now ∷ story) e = claims_blank chunks story e

told_blank : (chunks : ℕ) (story : List Line) (n : Node) → is_blank story ≡ true → is_told chunks story n ≡ false
told_blank chunks [] n e = refl
told_blank chunks (Heard now m ∷ story) n e = absurd cc
told_blank chunks (Said now m ∷ story) n e = absurd cc
told_blank chunks (Taken now ∷ story) n e = told_blank chunks story n e

-- no message made it so
hear_blank : (now : ℕ) (ms : List Message) (story : List Line) → is_blank (hear now ms story) ≡ true → (ms ≡ []) × (is_blank story ≡ true)
hear_blank now [] story e = (refl, e)
hear_blank now (m ∷ ms) story e = absurd (let x = (hear_blank now ms (Heard now m ∷ story) e).1 in cc)

say_blank : (now : ℕ) (ms : List Message) (story : List Line) → is_blank (say now ms story) ≡ true → (ms ≡ []) × (is_blank story ≡ true)
say_blank now [] story e = (refl, e)
say_blank now (m ∷ ms) story e = absurd (let x = (say_blank now ms (Said now m ∷ story) e).1 in cc)

-- ---- what is read of a dial

-- what came on it, whatever its opening was
dialled_hears : (d : Descriptor) (life : Life) (is_opening : Bool) (r : Record) → life.is_dialled ≡ true
    → heard_in d life is_opening r ≡ cond (comes_on d life r) (read d r).messages.read []
dialled_hears d life is_opening r dialled = by is_opening life.is_dialled dialled
  where
    by : (x b : Bool) → b ≡ true → cond (x && not b && greets d life r) (Rattle.std.specs.Prelude.drop 1 (read d r).messages.read) (cond (comes_on d life r) (read d r).messages.read [])
        ≡ cond (comes_on d life r) (read d r).messages.read []
    by true true e = refl
    by false true e = refl
    by x false e = absurd cc

proven_blank : (d : Descriptor) (life : Life) (past : List Record) → life.is_dialled ≡ true → is_blank (read_story d life past) ≡ true
    → is_blank (proven_story d life past) ≡ true
proven_blank d life [] dialled e = refl
proven_blank d life (Quiet at ∷ b) dialled e =
    by (leb life.opening (length b)) (is_read d life (Quiet at ∷ b)) (comes_on d life (Quiet at)) e (proven_blank d life b dialled)
  where
    by : (x y z : Bool) → is_blank (cond x (cond y (Taken (now (Quiet at ∷ b)) ∷ read_story d life b) (Taken (now (Quiet at ∷ b)) ∷ read_story d life b)) []) ≡ true
        → (is_blank (read_story d life b) ≡ true → is_blank (proven_story d life b) ≡ true)
        → is_blank (cond x (cond (z && y) (Taken (now (Quiet at ∷ b)) ∷ proven_story d life b) (Taken (now (Quiet at ∷ b)) ∷ proven_story d life b)) []) ≡ true
    by true true true e before = before e
    by true true false e before = before e
    by true false true e before = before e
    by true false false e before = before e
    by false y z e before = refl
proven_blank d life (Sent moment receiver bytes ∷ b) dialled e =
    by (leb life.opening (length b)) (is_read d life (Sent moment receiver bytes ∷ b)) (comes_on d life (Sent moment receiver bytes)) e (proven_blank d life b dialled)
  where
    ms : List Message
    ms = said_in d life (Sent moment receiver bytes)

    both : is_blank (say (now b) ms (read_story d life b)) ≡ true → (is_blank (read_story d life b) ≡ true → is_blank (proven_story d life b) ≡ true)
        → is_blank (say (now b) ms (proven_story d life b)) ≡ true
    both e before = let s = say_blank (now b) ms (read_story d life b) e in
        ap (λ (x : List Message). is_blank (say (now b) x (proven_story d life b))) s.0 ∙ before s.1

    by : (x y z : Bool) → is_blank (cond x (cond y (say (now b) ms (read_story d life b)) (say (now b) ms (read_story d life b))) []) ≡ true
        → (is_blank (read_story d life b) ≡ true → is_blank (proven_story d life b) ≡ true)
        → is_blank (cond x (cond (z && y) (say (now b) ms (proven_story d life b)) (say (now b) ms (proven_story d life b))) []) ≡ true
    by true true true e before = both e before
    by true true false e before = both e before
    by true false true e before = both e before
    by true false false e before = both e before
    by false y z e before = refl
proven_blank d life (Received at sender bytes ∷ b) dialled e =
    by (leb life.opening (length b)) (is_read d life (Received at sender bytes ∷ b)) (comes_on d life (Received at sender bytes)) refl
    (heard_in d life (eqb life.opening (length b)) (Received at sender bytes)) (heard_in d life false (Received at sender bytes))
    (dialled_hears d life (eqb life.opening (length b)) (Received at sender bytes) dialled) (dialled_hears d life false (Received at sender bytes) dialled)
    e (proven_blank d life b dialled)
  where
    n : ℕ
    n = now (Received at sender bytes ∷ b)

    ms : List Message
    ms = (read d (Received at sender bytes)).messages.read

    by : (x y z : Bool) → comes_on d life (Received at sender bytes) ≡ z → (first later : List Message)
        → first ≡ cond (comes_on d life (Received at sender bytes)) ms [] → later ≡ cond (comes_on d life (Received at sender bytes)) ms []
        → is_blank (cond x (cond y (Taken n ∷ hear n first (read_story d life b)) (Taken n ∷ read_story d life b)) []) ≡ true
        → (is_blank (read_story d life b) ≡ true → is_blank (proven_story d life b) ≡ true)
        → is_blank (cond x (cond (z && y) (Taken n ∷ hear n later (proven_story d life b)) (Taken n ∷ proven_story d life b)) []) ≡ true
    by true true true on first later f l e before =
        let h = hear_blank n first (read_story d life b) e in
        ap (λ (xs : List Message). is_blank (hear n xs (proven_story d life b))) (l ∙ sym f ∙ h.0) ∙ before h.1
    by true true false on first later f l e before = before (hear_blank n first (read_story d life b) e).1
    by true false true on first later f l e before = before e
    by true false false on first later f l e before = before e
    by false y z on first later f l e before = refl

-- no HAVE was sent on it
untold_blank : (d : Descriptor) (life : Life) (i : ℕ) (past : List Record) → is_blank (read_story d life past) ≡ true → was_told_of d life i past ≡ false
untold_blank d life i [] e = refl
untold_blank d life i (r ∷ b) e = ⊎_elim
    (λ later. or_from (tells_of d life i r && is_heard d life b) (was_told_of d life i b)
    (and_left (tells_of d life i r) (is_heard d life b) (tells_none r (begun_blank r later e).0))
    (untold_blank d life i b (begun_blank r later e).1))
    (λ early.
    let le : length b ≤ life.opening = (let x = leb-false life.opening (length b) early in omega arith) in
    or_from (tells_of d life i r && is_heard d life b) (was_told_of d life i b)
    (and_right (tells_of d life i r) (is_heard d life b) (none_from_end (comes_on d life) life.opening b le))
    (untold_blank d life i b (ap is_blank (unread_before d life b le))))
    (cases_Bool (leb life.opening (length b)))
  where
    tells_none : (r : Record) → ((moment : ℕ) (receiver : _) (bytes : List ℕ) → r ≡ Sent moment receiver bytes → said_in d life r ≡ []) → tells_of d life i r ≡ false
    tells_none (Received at sender bytes) none = refl
    tells_none (Quiet at) none = refl
    tells_none (Sent moment receiver bytes) none = ap (list_any (has_in i)) (none moment receiver bytes refl)

    begun_blank : (r : Record) → leb life.opening (length b) ≡ true → is_blank (read_story d life (r ∷ b)) ≡ true
        → ((moment : ℕ) (receiver : _) (bytes : List ℕ) → r ≡ Sent moment receiver bytes → said_in d life r ≡ []) × (is_blank (read_story d life b) ≡ true)
    begun_blank r le e = by (is_read d life (r ∷ b)) r (subst (λ (x : Bool). is_blank (cond x (cond (is_read d life (r ∷ b))
        (told d life (eqb life.opening (length b)) (now (r ∷ b)) r (read_story d life b))
        (with_unread d life (eqb life.opening (length b)) (now (r ∷ b)) r (read_story d life b))) []) ≡ true) le e)
      where
        by : (y : Bool) (r : Record) → is_blank (cond y (told d life (eqb life.opening (length b)) (now (r ∷ b)) r (read_story d life b))
            (with_unread d life (eqb life.opening (length b)) (now (r ∷ b)) r (read_story d life b))) ≡ true
            → ((moment : ℕ) (receiver : _) (bytes : List ℕ) → r ≡ Sent moment receiver bytes → said_in d life r ≡ []) × (is_blank (read_story d life b) ≡ true)
        by true (Received at sender bytes) e =
            (λ m q bs is. absurd cc, (hear_blank _ (heard_in d life (eqb life.opening (length b)) (Received at sender bytes)) (read_story d life b) e).1)
        by false (Received at sender bytes) e = (λ m q bs is. absurd cc, e)
        by true (Quiet at) e = (λ m q bs is. absurd cc, e)
        by false (Quiet at) e = (λ m q bs is. absurd cc, e)
        by true (Sent moment receiver bytes) e =
            let s = say_blank (now b) (said_in d life (Sent moment receiver bytes)) (read_story d life b) e in (λ m q bs is. s.0, s.1)
        by false (Sent moment receiver bytes) e =
            let s = say_blank (now b) (said_in d life (Sent moment receiver bytes)) (read_story d life b) e in (λ m q bs is. s.0, s.1)

-- So a seat whose channel isn't shown yet can begin with it.
pub dial_begins : (d : Descriptor) (life : Life) (f : Frame) (past : List Record) → life.is_dialled ≡ true → is_blank (read_story d life past) ≡ true
    → f.proven ≡ false → Begins f (tale_of d life past)
dial_begins d life f past dialled blank unproven = record {
  unsaid = unsaid_blank (read_story d life past) blank;
  unproven = unproven;
  unclaimed = claims_blank f.chunks (proven_story d life past) (proven_blank d life past dialled blank);
  unheard = λ n. told_blank f.chunks (read_story d life past) n blank;
  untold = λ i. untold_blank d life i past blank;
  unasked = λ i place is. inr (asked_blank place i (read_story d life past) blank);
}
