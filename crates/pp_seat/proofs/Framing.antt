-- The frame and the tale of a channel's seat, record by record.
use Rattle.pp_promises.proofs.ReadStories.{unread_before}
use Rattle.pp_seat.proofs.Answering.{none_left}
use Rattle.pp_traffic.proofs.Plains.{none_from_end}
use Rattle.pp_traffic.proofs.OneMore.{story_opening}
use Rattle.std.proofs.Common.{◌≡◌, ◌⊎◌, inl, inr, ℕ, ◌+◌, ◌<◌, ◌≤◌, nat_le, nat_lt, eqb, Bool, true, false, cond, not, ◌&&◌, ◌||◌, Some, None, List, [], ◌∷◌, length, refl, sym, ◌∙◌, ap, subst, arith}
use Rattle.std.specs.List.{list_any}
use Rattle.std.proofs.lemmas.Bool.{le-leb, or_from, both_ways, false≢true, leb-true, and_right, or_parts}
use Rattle.std.proofs.lemmas.Bool.Decides.{nat_tests}
use Rattle.pp_terms.specs.format.Traffic.{Address, Record, Received, Quiet, Sent}
use Rattle.pp_terms.specs.format.Descriptor.{Descriptor}
use Rattle.pp_terms.specs.format.Messages.{Message}
use Rattle.pp_traffic.specs.Past.{now, some_since, is_event, read}
use Rattle.pp_traffic.specs.Life.{Life, comes_on}
use Rattle.pp_traffic.specs.Story.{Line, Heard, Said, Taken, hear, say, heard_in, said_in, told, story}
use Rattle.pp_traffic.specs.Asking.{choked, asked_by, asked_after, asked, is_heard, asks_in, most_asks}
use Rattle.pp_traffic.specs.Fates.{clock}
use Rattle.pp_traffic.proofs.Chokes.{heard_choked, said_none}
use Rattle.pp_promises.specs.OwnSide.{has_in}
use Rattle.pp_promises.specs.ReadStory.{with_unread, is_read, read_story, proven_story}
use Rattle.pp_promises.specs.Served.{is_announced, asked_after_heard, asked_after_said, owed_after, is_owed, IsOwed}
use Rattle.pp_promises.specs.Announced.{was_told_of}
use Rattle.pp_promises.proofs.ReadStories.{by_asks, after_asks, answers_are_read, plains_are_read}
use Rattle.pp_promises.proofs.Growth.{reads_grow}
use Rattle.pp_seat.proofs.Moments.{say_clock}
use Rattle.pp_seat.specs.Lines.{asked_since, Tale, with_line, with_said}
use Rattle.pp_seat.specs.Laws.{IsLater}
use Rattle.pp_seat.specs.Frames.{since_of, tale_of, IsSameTale, SameTales, with_heard, TalesGrow, OwedIsKept, FramesGrow, ReadsComeToNow, no_tale, NoneBegins, OwedIsGiven, frame_of}
use Rattle.pp_seat.specs.Follows.{Follows}

-- ---- lengths

hear_length : (at : ℕ) (ms : List Message) (s : List Line) → length s ≤ length (hear at ms s)
hear_length at [] s = omega arith
hear_length at (m ∷ ms) s = let more = hear_length at ms (Heard at m ∷ s) in omega arith

say_length : (at : ℕ) (ms : List Message) (s : List Line) → length s ≤ length (say at ms s)
say_length at [] s = omega arith
say_length at (m ∷ ms) s = let more = say_length at ms (Said at m ∷ s) in omega arith

told_length : (d : Descriptor) (life : Life) (o : Bool) (at : ℕ) (r : Record) (s : List Line) → length s ≤ length (told d life o at r s)
told_length d life o at (Received a sender bytes) s = let more = hear_length at (heard_in d life o (Received a sender bytes)) s in omega arith
told_length d life o at (Quiet a) s = omega arith
told_length d life o at (Sent moment receiver bytes) s = say_length at (said_in d life (Sent moment receiver bytes)) s

unread_length : (d : Descriptor) (life : Life) (o : Bool) (at : ℕ) (r : Record) (s : List Line) → length s ≤ length (with_unread d life o at r s)
unread_length d life o at (Received a sender bytes) s = omega arith
unread_length d life o at (Quiet a) s = omega arith
unread_length d life o at (Sent moment receiver bytes) s = say_length at (said_in d life (Sent moment receiver bytes)) s

-- no more lines are read than there are
hear_more : (at : ℕ) (ms : List Message) (s l : List Line) → length s ≤ length l → length (hear at ms s) ≤ length (hear at ms l)
hear_more at [] s l le = le
hear_more at (m ∷ ms) s l le = hear_more at ms (Heard at m ∷ s) (Heard at m ∷ l) (omega arith)

say_more : (at : ℕ) (ms : List Message) (s l : List Line) → length s ≤ length l → length (say at ms s) ≤ length (say at ms l)
say_more at [] s l le = le
say_more at (m ∷ ms) s l le = say_more at ms (Said at m ∷ s) (Said at m ∷ l) (omega arith)

told_more : (d : Descriptor) (life : Life) (o : Bool) (at : ℕ) (r : Record) (s l : List Line) → length s ≤ length l
    → length (told d life o at r s) ≤ length (told d life o at r l)
told_more d life o at (Received a sender bytes) s l le = let more = hear_more at (heard_in d life o (Received a sender bytes)) s l le in omega arith
told_more d life o at (Quiet a) s l le = omega arith
told_more d life o at (Sent moment receiver bytes) s l le = say_more at (said_in d life (Sent moment receiver bytes)) s l le

unread_more : (d : Descriptor) (life : Life) (o : Bool) (at : ℕ) (r : Record) (s l : List Line) → length s ≤ length l
    → length (with_unread d life o at r s) ≤ length (told d life o at r l)
unread_more d life o at (Received a sender bytes) s l le = let more = hear_length at (heard_in d life o (Received a sender bytes)) l in omega arith
unread_more d life o at (Quiet a) s l le = omega arith
unread_more d life o at (Sent moment receiver bytes) s l le = say_more at (said_in d life (Sent moment receiver bytes)) s l le

read_shorter : (d : Descriptor) (life : Life) (past : List Record) → length (read_story d life past) ≤ length (story d life past)
read_shorter d life [] = omega arith
read_shorter d life (r ∷ b) = pick (nat_le life.opening (length b)) (is_read d life (r ∷ b)) (read_shorter d life b)
  where
    pick : (x y : Bool) → length (read_story d life b) ≤ length (story d life b)
        → length (cond x (cond y (told d life (eqb life.opening (length b)) (now (r ∷ b)) r (read_story d life b))
        (with_unread d life (eqb life.opening (length b)) (now (r ∷ b)) r (read_story d life b))) [])
        ≤ length (cond x (told d life (eqb life.opening (length b)) (now (r ∷ b)) r (story d life b)) [])
    pick true true le = told_more d life (eqb life.opening (length b)) (now (r ∷ b)) r (read_story d life b) (story d life b) le
    pick true false le = unread_more d life (eqb life.opening (length b)) (now (r ∷ b)) r (read_story d life b) (story d life b) le
    pick false y le = omega arith

-- before the opening there is no line
none_before : (d : Descriptor) (life : Life) (past : List Record) → nat_le life.opening (length past) ≡ false → story d life past ≡ []
none_before d life [] early = refl
none_before d life (r ∷ b) early = by (nat_le life.opening (length b)) refl
  where
    late : (n more : ℕ) → n ≤ more → nat_le life.opening n ≡ true → nat_le life.opening more ≡ false → ⊥
    late n more le p q = grind (arith, nat_tests)

    by : (x : Bool) → nat_le life.opening (length b) ≡ x → cond x (told d life (eqb life.opening (length b)) (now (r ∷ b)) r (story d life b)) [] ≡ []
    by true le = absurd (late (length b) (length (r ∷ b)) (omega arith) le early)
    by false le = refl

none_read : (d : Descriptor) (life : Life) (past : List Record) → nat_le life.opening (length past) ≡ false → length (read_story d life past) ≡ 0
none_read d life past early =
    let shorter = read_shorter d life past in
    let none = ap (λ (xs : List Line). length xs) (none_before d life past early) in
    omega arith

-- a record more makes no fewer lines
pub read_longer : (d : Descriptor) (life : Life) (r : Record) (b : List Record) → length (read_story d life b) ≤ length (read_story d life (r ∷ b))
read_longer d life r b = by (nat_le life.opening (length b)) (is_read d life (r ∷ b)) refl
  where
    by : (x y : Bool) → nat_le life.opening (length b) ≡ x
        → length (read_story d life b) ≤ length (cond x (cond y (told d life (eqb life.opening (length b)) (now (r ∷ b)) r (read_story d life b))
        (with_unread d life (eqb life.opening (length b)) (now (r ∷ b)) r (read_story d life b))) [])
    by true true le = told_length d life (eqb life.opening (length b)) (now (r ∷ b)) r (read_story d life b)
    by true false le = unread_length d life (eqb life.opening (length b)) (now (r ∷ b)) r (read_story d life b)
    by false y early = let none = none_read d life b early in omega arith

-- ---- when a chunk was announced

since_found : (d : Descriptor) (life : Life) (is_found : ℕ → Bool) (i : ℕ) (past : List Record) → is_found i ≡ true → since_of d life is_found i past ≡ Some 0
since_found d life is_found i [] found = ap (λ (x : Bool). cond x (Some 0) None) found
since_found d life is_found i (r ∷ b) found =
    ap (λ (x : Bool). cond (x || is_announced d i b) (since_of d life is_found i b) (cond (is_announced d i (r ∷ b)) (Some (length (read_story d life (r ∷ b)))) None)) found
    ∙ since_found d life is_found i b found

-- what was announced stays so
announced_before : (d : Descriptor) (i : ℕ) (r : Record) (b : List Record) → is_announced d i (r ∷ b) ≡ false → is_announced d i b ≡ false
announced_before d i (Received at sender bytes) b e = e
announced_before d i (Quiet at) b e = e
announced_before d i (Sent moment receiver bytes) b e = (or_parts _ (is_announced d i b) e).1

pub since_none : (d : Descriptor) (life : Life) (is_found : ℕ → Bool) (i : ℕ) (past : List Record) → is_found i ≡ false → is_announced d i past ≡ false
    → since_of d life is_found i past ≡ None
since_none d life is_found i [] unfound none = ap (λ (x : Bool). cond x (Some 0) None) unfound
since_none d life is_found i (r ∷ b) unfound none =
    by (is_found i || is_announced d i b) (is_announced d i (r ∷ b)) none
    (since_none d life is_found i b unfound (announced_before d i r b none))
  where
    by : (x y : Bool) → y ≡ false → since_of d life is_found i b ≡ None
        → cond x (since_of d life is_found i b) (cond y (Some (length (read_story d life (r ∷ b)))) None) ≡ None
    by true y last before = before
    by false true last before = absurd (false≢true (sym last))
    by false false last before = refl

-- the place is one of the story
since_low : (d : Descriptor) (life : Life) (is_found : ℕ → Bool) (i : ℕ) (past : List Record) (place : ℕ) → since_of d life is_found i past ≡ Some place
    → place ≤ length (read_story d life past)
since_low d life is_found i [] place is = first (is_found i) is
  where
    first : (x : Bool) → cond x (Some 0) None ≡ Some place → place ≤ 0
    first true e = let same : 0 ≡ place = cc in omega arith
    first false e = absurd cc
since_low d life is_found i (r ∷ b) place is =
    by (is_found i || is_announced d i b) (is_announced d i (r ∷ b)) is (since_low d life is_found i b place) (read_longer d life r b)
  where
    by : (x y : Bool) → cond x (since_of d life is_found i b) (cond y (Some (length (read_story d life (r ∷ b)))) None) ≡ Some place
        → (since_of d life is_found i b ≡ Some place → place ≤ length (read_story d life b)) → length (read_story d life b) ≤ length (read_story d life (r ∷ b))
        → place ≤ length (read_story d life (r ∷ b))
    by true y e before longer = let low = before e in omega arith
    by false true e before longer = let same : length (read_story d life (r ∷ b)) ≡ place = cc in omega arith
    by false false e before longer = absurd cc

-- what was announced has a place
since_some : (d : Descriptor) (life : Life) (is_found : ℕ → Bool) (i : ℕ) (past : List Record) → is_announced d i past ≡ true
    → (place : ℕ) × (since_of d life is_found i past ≡ Some place)
since_some d life is_found i [] e = absurd (false≢true e)
since_some d life is_found i (r ∷ b) e =
    by (is_found i) (is_announced d i b) (is_announced d i (r ∷ b)) e refl refl (since_some d life is_found i b)
  where
    by : (f x y : Bool) → y ≡ true → is_found i ≡ f → is_announced d i b ≡ x
        → (is_announced d i b ≡ true → (place : ℕ) × (since_of d life is_found i b ≡ Some place))
        → (place : ℕ) × (cond (f || x) (since_of d life is_found i b) (cond y (Some (length (read_story d life (r ∷ b)))) None) ≡ Some place)
    by true x y last found is before = (0, since_found d life is_found i b found)
    by false true y last found is before = before is
    by false false true last found is before = (length (read_story d life (r ∷ b)), refl)
    by false false false last found is before = absurd (false≢true last)

since_later : (d : Descriptor) (life : Life) (is_found : ℕ → Bool) (r : Record) (past : List Record)
    → IsLater (length (read_story d life (r ∷ past))) (λ i. since_of d life is_found i past) (λ i. since_of d life is_found i (r ∷ past))
since_later d life is_found r past i =
    by (is_found i) (is_announced d i past) (is_announced d i (r ∷ past)) refl refl
  where
    by : (f x y : Bool) → is_found i ≡ f → is_announced d i past ≡ x
        → (cond (f || x) (since_of d life is_found i past) (cond y (Some (length (read_story d life (r ∷ past)))) None) ≡ since_of d life is_found i past)
        ⊎ ((since_of d life is_found i past ≡ None) × (at : ℕ)
        × (cond (f || x) (since_of d life is_found i past) (cond y (Some (length (read_story d life (r ∷ past)))) None) ≡ Some at)
        × (length (read_story d life (r ∷ past)) ≤ at))
    by true x y found is = inl refl
    by false true y found is = inl refl
    by false false true found is =
        inr (since_none d life is_found i past found is, length (read_story d life (r ∷ past)), refl, omega arith)
    by false false false found is = inl (sym (since_none d life is_found i past found is))

-- ---- what is owed

-- from the start on
since_start : (i : ℕ) (s : List Line) → asked_since 0 i s ≡ asked i s
since_start i [] = refl
since_start i (Heard now m ∷ s) = both (choked s) (nat_lt (length s) 0) (never (length s)) (since_start i s)
  where
    never : (n : ℕ) → nat_lt n 0 ≡ false
    never n = grind (arith, nat_tests)

    both : (c l : Bool) → l ≡ false → asked_since 0 i s ≡ asked i s → asked_by i (c || l) m (asked_since 0 i s) ≡ asked_by i c m (asked i s)
    both true l e same = ap (asked_by i true m) same
    both false l e same = ap (λ (x : Bool). asked_by i x m (asked_since 0 i s)) e ∙ ap (asked_by i false m) same
since_start i (Said now m ∷ s) = ap (asked_after i m) (since_start i s)
since_start i (Taken now ∷ s) = since_start i s

in_keeps : (place i at : ℕ) (barred : Bool) (ms : List Message) (o : Bool) (s : List Line) → place ≤ length s → (barred ≡ false → choked s ≡ false)
    → (o ≡ true → asked_since place i s ≡ true) → asked_after_heard i barred ms o ≡ true → asked_since place i (hear at ms s) ≡ true
in_keeps place i at barred [] o s le free f e = f e
in_keeps place i at barred (m ∷ ms) o s le free f e =
    in_keeps place i at barred ms (asked_by i barred m o) (Heard at m ∷ s) (omega arith) free
    (by_asks i m barred (choked s || nat_lt (length s) place) o (asked_since place i s) (λ b. or_from (choked s) (nat_lt (length s) place) (free b) (late (length s) le)) f) e
  where
    late : (n : ℕ) → place ≤ n → nat_lt n place ≡ false
    late n le = grind (arith, nat_tests)

after_keeps : (place i at : ℕ) (ms : List Message) (o : Bool) (s : List Line) → (o ≡ true → asked_since place i s ≡ true) → asked_after_said i ms o ≡ true
    → asked_since place i (say at ms s) ≡ true
after_keeps place i at [] o s f e = f e
after_keeps place i at (m ∷ ms) o s f e = after_keeps place i at ms (asked_after i m o) (Said at m ∷ s) (after_asks i m o (asked_since place i s) f) e

owed_keeps : (d : Descriptor) (life : Life) (place i : ℕ) (o barred : Bool) (at : ℕ) (r : Record) (owed : Bool) (s : List Line) → place ≤ length s
    → (barred ≡ false → choked s ≡ false) → (owed ≡ true → asked_since place i s ≡ true) → owed_after d life i o barred r owed ≡ true
    → asked_since place i (told d life o at r s) ≡ true
owed_keeps d life place i o barred at (Received a sender bytes) owed s le free f e =
    in_keeps place i at barred (heard_in d life o (Received a sender bytes)) owed s le free f e
owed_keeps d life place i o barred at (Quiet a) owed s le free f e = f e
owed_keeps d life place i o barred at (Sent moment receiver bytes) owed s le free f e =
    after_keeps place i at (said_in d life (Sent moment receiver bytes)) owed s f e

-- what isn't announced isn't owed
barred_all : (i : ℕ) (ms : List Message) (o : Bool) → o ≡ false → asked_after_heard i true ms o ≡ false
barred_all i [] o none = none
barred_all i (m ∷ ms) o none = barred_all i ms (asked_by i true m o) (heard_choked i m o none)

after_none : (i : ℕ) (ms : List Message) (o : Bool) → o ≡ false → asked_after_said i ms o ≡ false
after_none i [] o none = none
after_none i (m ∷ ms) o none = after_none i ms (asked_after i m o) (said_none i m o none)

owed_none : (d : Descriptor) (life : Life) (i : ℕ) (o : Bool) (r : Record) (owed : Bool) → owed ≡ false → owed_after d life i o true r owed ≡ false
owed_none d life i o (Received a sender bytes) owed none = barred_all i (heard_in d life o (Received a sender bytes)) owed none
owed_none d life i o (Quiet a) owed none = none
owed_none d life i o (Sent moment receiver bytes) owed none = after_none i (said_in d life (Sent moment receiver bytes)) owed none

unannounced : (d : Descriptor) (life : Life) (i : ℕ) (past : List Record) → is_announced d i past ≡ false → is_owed d life i past ≡ false
unannounced d life i [] none = refl
unannounced d life i (r ∷ b) none =
    let is = announced_before d i r b none in by (nat_le life.opening (length b)) is (unannounced d life i b is)
  where
    last : (c a : Bool) (o : Bool) → a ≡ false → is_owed d life i b ≡ false → owed_after d life i o (c || not a) r (is_owed d life i b) ≡ false
    last true a o e before = owed_none d life i o r (is_owed d life i b) before
    last false a o e before =
        ap (λ (x : Bool). owed_after d life i o (not x) r (is_owed d life i b)) e ∙ owed_none d life i o r (is_owed d life i b) before

    by : (x : Bool) → is_announced d i b ≡ false → is_owed d life i b ≡ false
        → cond x (owed_after d life i (eqb life.opening (length b)) (choked (story d life b) || not (is_announced d i b)) r (is_owed d life i b)) false ≡ false
    by true is before = last (choked (story d life b)) (is_announced d i b) (eqb life.opening (length b)) is before
    by false is before = refl

owed_since : (d : Descriptor) (life : Life) (is_found : ℕ → Bool) (i : ℕ) (past : List Record) (place : ℕ) → since_of d life is_found i past ≡ Some place
    → is_owed d life i past ≡ true → asked_since place i (story d life past) ≡ true
owed_since d life is_found i [] place is e = absurd (false≢true e)
owed_since d life is_found i (r ∷ b) place is e =
    by (nat_le life.opening (length b)) (is_found i) (is_announced d i b) (is_announced d i (r ∷ b)) refl refl is e (owed_since d life is_found i b place)
  where
    o : Bool
    o = eqb life.opening (length b)

    on : since_of d life is_found i b ≡ Some place → (is_owed d life i b ≡ true → asked_since place i (story d life b) ≡ true)
        → ((choked (story d life b) || not (is_announced d i b)) ≡ false → choked (story d life b) ≡ false)
        → owed_after d life i o (choked (story d life b) || not (is_announced d i b)) r (is_owed d life i b) ≡ true
        → asked_since place i (told d life o (now (r ∷ b)) r (story d life b)) ≡ true
    on at before free w = owed_keeps d life place i o (choked (story d life b) || not (is_announced d i b)) (now (r ∷ b)) r (is_owed d life i b) (story d life b)
        (let low = since_low d life is_found i b place at in let shorter = read_shorter d life b in omega arith) free before w

    by : (w f x y : Bool) → is_found i ≡ f → is_announced d i b ≡ x
        → cond (f || x) (since_of d life is_found i b) (cond y (Some (length (read_story d life (r ∷ b)))) None) ≡ Some place
        → cond w (owed_after d life i o (choked (story d life b) || not (is_announced d i b)) r (is_owed d life i b)) false ≡ true
        → (since_of d life is_found i b ≡ Some place → is_owed d life i b ≡ true → asked_since place i (story d life b) ≡ true)
        → asked_since place i (cond w (told d life o (now (r ∷ b)) r (story d life b)) []) ≡ true
    by false f x y found is at e before = absurd (false≢true e)
    by true true x y found is at e before = on at (before at) (λ f. (or_parts (choked (story d life b)) (not (is_announced d i b)) f).0) e
    by true false true y found is at e before = on at (before at) (λ f. (or_parts (choked (story d life b)) (not (is_announced d i b)) f).0) e
    by true false false y found is at e before = absurd (both_ways _ (never (choked (story d life b)) is) e)
      where
        never : (c : Bool) → is_announced d i b ≡ false → owed_after d life i o (c || not (is_announced d i b)) r (is_owed d life i b) ≡ false
        never true none = owed_none d life i o r (is_owed d life i b) (unannounced d life i b none)
        never false none =
            ap (λ (x : Bool). owed_after d life i o (not x) r (is_owed d life i b)) none ∙ owed_none d life i o r (is_owed d life i b) (unannounced d life i b none)

pub owed_is_kept : OwedIsKept
owed_is_kept = record {
  announced = λ d life is_found i past e. by d life is_found i past e (is_announced d i past) refl;
  found = λ d life is_found i past found e. (0, since_found d life is_found i past found, since_start i (story d life past) ∙ e);
}
  where
    by : (d : Descriptor) (life : Life) (is_found : ℕ → Bool) (i : ℕ) (past : List Record) → is_owed d life i past ≡ true → (x : Bool) → is_announced d i past ≡ x
        → (place : ℕ) × (since_of d life is_found i past ≡ Some place) × (asked_since place i (story d life past) ≡ true)
    by d life is_found i past e true is =
        let some = since_some d life is_found i past is in (some.0, some.1, owed_since d life is_found i past some.0 some.1 e)
    by d life is_found i past e false is = absurd (both_ways (is_owed d life i past) (unannounced d life i past is) e)

-- ---- tales

pub same_tales : SameTales
same_tales f lost s t other e h =
    subst (λ (x : List Line). Follows f lost s (record { story = x; proven = other.proven; told = other.told })) (sym e.story)
    (subst (λ (x : List Line). Follows f lost s (record { story = t.story; proven = x; told = other.told })) (sym e.proven) (record {
      lists = h.lists;
      lacks = h.lacks;
      slot = h.slot;
      window = h.window;
      told = h.told;
      claims = h.claims;
      proven = h.proven;
      own = h.own;
      haves = h.haves;
      fresh = record {
        early = λ unproven i. e.told i ∙ h.fresh.early unproven i;
        above = λ none i high. e.told i ∙ h.fresh.above none i high;
      };
      exchange = h.exchange;
    }))

pub said_story : (now : ℕ) (ms : List Message) (p : Bool) (t : Tale) → (with_said now ms p t).story ≡ say now ms t.story
said_story now [] p t = refl
said_story now (m ∷ ms) p t = said_story now ms p (with_line (Said now m) p t)

said_proven : (now : ℕ) (ms : List Message) (p : Bool) (t : Tale) → (with_said now ms p t).proven ≡ say now ms t.proven
said_proven now [] p t = refl
said_proven now (m ∷ ms) p t = said_proven now ms p (with_line (Said now m) p t)

said_told : (now : ℕ) (ms : List Message) (p : Bool) (t : Tale) (i : ℕ) → (with_said now ms p t).told i ≡ ((list_any (has_in i) ms && p) || t.told i)
said_told now [] p t i = refl
said_told now (m ∷ ms) p t i = said_told now ms p (with_line (Said now m) p t) i ∙ turned (has_in i m) (list_any (has_in i) ms) p (t.told i)
  where
    turned : (a b c o : Bool) → ((b && c) || ((a && c) || o)) ≡ (((a || b) && c) || o)
    turned true true true o = refl
    turned true true false o = refl
    turned true false true o = refl
    turned true false false o = refl
    turned false true true o = refl
    turned false true false o = refl
    turned false false c o = refl

pub heard_story : (now : ℕ) (ms : List Message) (p : Bool) (t : Tale) → (with_heard now ms p t).story ≡ hear now ms t.story
heard_story now [] p t = refl
heard_story now (m ∷ ms) p t = heard_story now ms p (with_line (Heard now m) p t)

heard_proven : (now : ℕ) (ms : List Message) (t : Tale) → (with_heard now ms true t).proven ≡ hear now ms t.proven
heard_proven now [] t = refl
heard_proven now (m ∷ ms) t = heard_proven now ms (with_line (Heard now m) true t)

heard_told : (now : ℕ) (ms : List Message) (p : Bool) (t : Tale) (i : ℕ) → (with_heard now ms p t).told i ≡ t.told i
heard_told now [] p t i = refl
heard_told now (m ∷ ms) p t i = heard_told now ms p (with_line (Heard now m) p t) i

in_story : (life : Life) (past : List Record) → life.opening < length past → nat_le life.opening (length past) ≡ true
in_story life past lt = le-leb life.opening (length past) (omega arith)

-- what is read of a record of the channel, and of another one
step_read : (d : Descriptor) (life : Life) (r : Record) (past : List Record) (lines : List Line) → life.opening < length past
    → told d life false (now (r ∷ past)) r (read_story d life past) ≡ lines → with_unread d life false (now (r ∷ past)) r (read_story d life past) ≡ lines
    → read_story d life (r ∷ past) ≡ lines
step_read d life r past lines lt reads unread = by (is_read d life (r ∷ past)) refl
  where
    by : (x : Bool) → is_read d life (r ∷ past) ≡ x → read_story d life (r ∷ past) ≡ lines
    by true is = reads_grow.read d life r past lt is ∙ reads
    by false is = reads_grow.unread d life r past lt is ∙ unread

step_proven : (d : Descriptor) (life : Life) (r : Record) (past : List Record) → life.opening < length past
    → proven_story d life (r ∷ past) ≡ cond (comes_on d life r && is_read d life (r ∷ past))
    (told d life false (now (r ∷ past)) r (proven_story d life past)) (with_unread d life false (now (r ∷ past)) r (proven_story d life past))
step_proven d life r past lt = ap (λ (x : Bool). cond x (cond (comes_on d life r && is_read d life (r ∷ past))
    (told d life false (now (r ∷ past)) r (proven_story d life past)) (with_unread d life false (now (r ∷ past)) r (proven_story d life past))) [])
    (in_story life past lt)

tale_sent : (d : Descriptor) (life : Life) (moment : ℕ) (receiver : Address) (bytes : List ℕ) (past : List Record) → life.opening < length past
    → IsSameTale (with_said (now past) (said_in d life (Sent moment receiver bytes)) (is_heard d life past) (tale_of d life past))
    (tale_of d life (Sent moment receiver bytes ∷ past))
tale_sent d life moment receiver bytes past lt =
    let ms = said_in d life (Sent moment receiver bytes) in
    record {
      story = step_read d life (Sent moment receiver bytes) past (say (now past) ms (read_story d life past)) lt refl refl
          ∙ sym (said_story (now past) ms (is_heard d life past) (tale_of d life past));
      proven = step_proven d life (Sent moment receiver bytes) past lt ∙ sym (said_proven (now past) ms (is_heard d life past) (tale_of d life past));
      told = λ i. sym (said_told (now past) ms (is_heard d life past) (tale_of d life past) i);
    }

tale_quiet : (d : Descriptor) (life : Life) (at : ℕ) (p : Bool) (past : List Record) → life.opening < length past
    → IsSameTale (with_line (Taken (now (Quiet at ∷ past))) p (tale_of d life past)) (tale_of d life (Quiet at ∷ past))
tale_quiet d life at p past lt = record {
  story = step_read d life (Quiet at) past (Taken (now (Quiet at ∷ past)) ∷ read_story d life past) lt refl refl;
  proven = step_proven d life (Quiet at) past lt;
  told = λ i. refl;
}

tale_heard : (d : Descriptor) (life : Life) (at : ℕ) (sender : Address) (bytes : List ℕ) (past : List Record) → life.opening < length past
    → comes_on d life (Received at sender bytes) ≡ true → is_read d life (Received at sender bytes ∷ past) ≡ true
    → IsSameTale (with_line (Taken (now (Received at sender bytes ∷ past))) true
    (with_heard (now (Received at sender bytes ∷ past)) (heard_in d life false (Received at sender bytes)) true (tale_of d life past)))
    (tale_of d life (Received at sender bytes ∷ past))
tale_heard d life at sender bytes past lt comes reads =
    let n = now (Received at sender bytes ∷ past) in
    let ms = heard_in d life false (Received at sender bytes) in
    record {
      story = reads_grow.read d life (Received at sender bytes) past lt reads
          ∙ ap (λ (xs : List Line). Taken n ∷ xs) (sym (heard_story n ms true (tale_of d life past)));
      proven = step_proven d life (Received at sender bytes) past lt
          ∙ both (comes_on d life (Received at sender bytes)) (is_read d life (Received at sender bytes ∷ past)) comes reads
          ∙ ap (λ (xs : List Line). Taken n ∷ xs) (sym (heard_proven n ms (tale_of d life past)));
      told = λ i. sym (heard_told n ms true (tale_of d life past) i);
    }
  where
    both : (x y : Bool) → x ≡ true → y ≡ true
        → cond (x && y) (told d life false (now (Received at sender bytes ∷ past)) (Received at sender bytes) (proven_story d life past))
        (with_unread d life false (now (Received at sender bytes ∷ past)) (Received at sender bytes) (proven_story d life past))
        ≡ Taken (now (Received at sender bytes ∷ past)) ∷ hear (now (Received at sender bytes ∷ past)) (heard_in d life false (Received at sender bytes)) (proven_story d life past)
    both true true p q = refl
    both true false p q = absurd (false≢true q)
    both false y p q = absurd (false≢true p)

none_on : (d : Descriptor) (life : Life) (r : Record) → comes_on d life r ≡ false → heard_in d life false r ≡ []
none_on d life r none = ap (λ (x : Bool). cond x (read d r).messages.read []) none

tale_unread : (d : Descriptor) (life : Life) (at : ℕ) (sender : Address) (bytes : List ℕ) (p : Bool) (past : List Record) → life.opening < length past
    → (comes_on d life (Received at sender bytes) ≡ false) ⊎ (is_read d life (Received at sender bytes ∷ past) ≡ false)
    → IsSameTale (with_line (Taken (now (Received at sender bytes ∷ past))) p (tale_of d life past)) (tale_of d life (Received at sender bytes ∷ past))
tale_unread d life at sender bytes p past lt (inl none) = record {
  story = step_read d life (Received at sender bytes) past (Taken (now (Received at sender bytes ∷ past)) ∷ read_story d life past) lt
      (ap (λ (ms : List Message). Taken (now (Received at sender bytes ∷ past)) ∷ hear (now (Received at sender bytes ∷ past)) ms (read_story d life past))
      (none_on d life (Received at sender bytes) none)) refl;
  proven = step_proven d life (Received at sender bytes) past lt
      ∙ ap (λ (x : Bool). cond (x && is_read d life (Received at sender bytes ∷ past))
      (told d life false (now (Received at sender bytes ∷ past)) (Received at sender bytes) (proven_story d life past))
      (with_unread d life false (now (Received at sender bytes ∷ past)) (Received at sender bytes) (proven_story d life past))) none;
  told = λ i. refl;
}
tale_unread d life at sender bytes p past lt (inr unread) = record {
  story = reads_grow.unread d life (Received at sender bytes) past lt unread;
  proven = step_proven d life (Received at sender bytes) past lt ∙ late (comes_on d life (Received at sender bytes)) (is_read d life (Received at sender bytes ∷ past)) unread;
  told = λ i. refl;
}
  where
    late : (x y : Bool) → y ≡ false
        → cond (x && y) (told d life false (now (Received at sender bytes ∷ past)) (Received at sender bytes) (proven_story d life past))
        (with_unread d life false (now (Received at sender bytes ∷ past)) (Received at sender bytes) (proven_story d life past))
        ≡ Taken (now (Received at sender bytes ∷ past)) ∷ proven_story d life past
    late true true q = absurd (false≢true (sym q))
    late true false q = refl
    late false y q = refl

-- ---- clocks

since_within : (test : Record → Bool) (place : ℕ) (past : List Record) → some_since test place past ≡ true → place < length past
since_within test place [] e = absurd (false≢true e)
since_within test place (r ∷ b) e = by (nat_le place (length b)) (test r) refl (since_within test place b) e
  where
    by : (x y : Bool) → nat_le place (length b) ≡ x → (some_since test place b ≡ true → place < length b)
        → ((x && y) || some_since test place b) ≡ true → place < length (r ∷ b)
    by true y is rest here = let le : place ≤ length b = leb-true place (length b) is in omega arith
    by false y is rest there = let less = rest there in omega arith

in_past : (d : Descriptor) (life : Life) (r : Record) (b : List Record) → some_since is_event life.opening (r ∷ b) ≡ true → nat_le life.opening (length b) ≡ true
in_past d life r b e = let lt = since_within is_event life.opening (r ∷ b) e in le-leb life.opening (length b) (omega arith)

pub reads_come : ReadsComeToNow
reads_come d life [] e = absurd (false≢true e)
reads_come d life (Received at sender bytes ∷ b) e =
    by (nat_le life.opening (length b)) (is_read d life (Received at sender bytes ∷ b)) (in_past d life (Received at sender bytes) b e)
  where
    by : (x y : Bool) → x ≡ true
        → now (Received at sender bytes ∷ b)
        ≤ clock (cond x (cond y (told d life (eqb life.opening (length b)) (now (Received at sender bytes ∷ b)) (Received at sender bytes) (read_story d life b))
        (with_unread d life (eqb life.opening (length b)) (now (Received at sender bytes ∷ b)) (Received at sender bytes) (read_story d life b))) [])
    by true true is = omega arith
    by true false is = omega arith
    by false y is = absurd (false≢true is)
reads_come d life (Quiet at ∷ b) e = by (nat_le life.opening (length b)) (is_read d life (Quiet at ∷ b)) (in_past d life (Quiet at) b e)
  where
    by : (x y : Bool) → x ≡ true
        → now (Quiet at ∷ b)
        ≤ clock (cond x (cond y (told d life (eqb life.opening (length b)) (now (Quiet at ∷ b)) (Quiet at) (read_story d life b))
        (with_unread d life (eqb life.opening (length b)) (now (Quiet at ∷ b)) (Quiet at) (read_story d life b))) [])
    by true true is = omega arith
    by true false is = omega arith
    by false y is = absurd (false≢true is)
reads_come d life (Sent moment receiver bytes ∷ b) e =
    by (nat_le life.opening (length b)) (is_read d life (Sent moment receiver bytes ∷ b)) (in_past d life (Sent moment receiver bytes) b e)
    (reads_come d life b (later (nat_le life.opening (length b)) e))
  where
    later : (x : Bool) → ((x && false) || some_since is_event life.opening b) ≡ true → some_since is_event life.opening b ≡ true
    later true e = e
    later false e = e

    by : (x y : Bool) → x ≡ true → now b ≤ clock (read_story d life b)
        → now b ≤ clock (cond x (cond y (told d life (eqb life.opening (length b)) (now b) (Sent moment receiver bytes) (read_story d life b))
        (with_unread d life (eqb life.opening (length b)) (now b) (Sent moment receiver bytes) (read_story d life b))) [])
    by true true is before = let more = say_clock (now b) (said_in d life (Sent moment receiver bytes)) (read_story d life b) in omega arith
    by true false is before = let more = say_clock (now b) (said_in d life (Sent moment receiver bytes)) (read_story d life b) in omega arith
    by false y is before = absurd (false≢true is)

-- ---- where a life begins

none_proven : (d : Descriptor) (life : Life) (past : List Record) → length past ≤ life.opening → proven_story d life past ≡ []
none_proven d life [] le = refl
none_proven d life (r ∷ b) le = by (nat_le life.opening (length b)) refl
  where
    by : (x : Bool) → nat_le life.opening (length b) ≡ x
        → cond x (cond (comes_on d life r && is_read d life (r ∷ b)) (told d life false (now (r ∷ b)) r (proven_story d life b))
        (with_unread d life false (now (r ∷ b)) r (proven_story d life b))) [] ≡ []
    by true is = absurd (let low : life.opening ≤ length b = leb-true life.opening (length b) is in omega arith)
    by false is = refl

heard_unproven : (now : ℕ) (ms : List Message) (t : Tale) → (with_heard now ms false t).proven ≡ t.proven
heard_unproven now [] t = refl
heard_unproven now (m ∷ ms) t = heard_unproven now ms (with_line (Heard now m) false t)

untold_before : (d : Descriptor) (life : Life) (i : ℕ) (past : List Record) → length past ≤ life.opening + 1 → was_told_of d life i past ≡ false
untold_before d life i [] le = refl
untold_before d life i (r ∷ b) le =
    or_from (list_any (has_in i) (said_in d life r) && is_heard d life b) (was_told_of d life i b)
    (and_right (list_any (has_in i) (said_in d life r)) (is_heard d life b) (none_from_end (comes_on d life) life.opening b (omega arith)))
    (untold_before d life i b (omega arith))

tale_opened : (d : Descriptor) (life : Life) (at : ℕ) (sender : Address) (bytes : List ℕ) (past : List Record) → life.opening ≡ length past
    → life.is_dialled ≡ false → comes_on d life (Received at sender bytes) ≡ false
    → IsSameTale (with_line (Taken (now (Received at sender bytes ∷ past))) false
    (with_heard (now (Received at sender bytes ∷ past)) (heard_in d life true (Received at sender bytes)) false no_tale))
    (tale_of d life (Received at sender bytes ∷ past))
tale_opened d life at sender bytes past opens answered elsewhere =
    let n = now (Received at sender bytes ∷ past) in
    let ms = heard_in d life true (Received at sender bytes) in
    record {
      story = answers_are_read d life (Received at sender bytes ∷ past) answered ∙ story_opening d life (Received at sender bytes) past opens
          ∙ ap (λ (xs : List Line). Taken n ∷ xs) (sym (heard_story n ms false no_tale));
      proven = first (nat_le life.opening (length past)) (comes_on d life (Received at sender bytes)) (le-leb life.opening (length past) (omega arith)) elsewhere
          ∙ ap (λ (xs : List Line). Taken n ∷ xs) (none_proven d life past (omega arith) ∙ sym (heard_unproven n ms no_tale));
      told = λ i. untold_before d life i (Received at sender bytes ∷ past) (omega arith) ∙ sym (heard_told n ms false no_tale i);
    }
  where
    first : (x y : Bool) → x ≡ true → y ≡ false
        → cond x (cond (y && is_read d life (Received at sender bytes ∷ past))
        (told d life false (now (Received at sender bytes ∷ past)) (Received at sender bytes) (proven_story d life past))
        (with_unread d life false (now (Received at sender bytes ∷ past)) (Received at sender bytes) (proven_story d life past))) []
        ≡ Taken (now (Received at sender bytes ∷ past)) ∷ proven_story d life past
    first true true p q = absurd (false≢true (sym q))
    first true false p q = refl
    first false y p q = absurd (false≢true p)

tale_dialled : (d : Descriptor) (life : Life) (moment : ℕ) (receiver : Address) (bytes : List ℕ) (past : List Record) → life.opening ≡ length past
    → IsSameTale (with_said (now past) (said_in d life (Sent moment receiver bytes)) false no_tale) (tale_of d life (Sent moment receiver bytes ∷ past))
tale_dialled d life moment receiver bytes past opens =
    let ms = said_in d life (Sent moment receiver bytes) in
    let begun : nat_le life.opening (length past) ≡ true = le-leb life.opening (length past) (omega arith) in
    record {
      story = first (nat_le life.opening (length past)) (is_read d life (Sent moment receiver bytes ∷ past)) begun
          ∙ ap (λ (xs : List Line). say (now past) ms xs) (unread_before d life past (omega arith)) ∙ sym (said_story (now past) ms false no_tale);
      proven = ap (λ (x : Bool). cond x (say (now past) ms (proven_story d life past)) []) begun
          ∙ ap (λ (xs : List Line). say (now past) ms xs) (none_proven d life past (omega arith)) ∙ sym (said_proven (now past) ms false no_tale);
      told = λ i. untold_before d life i (Sent moment receiver bytes ∷ past) (omega arith) ∙ sym (said_told (now past) ms false no_tale i ∙ none (list_any (has_in i) ms));
    }
  where
    first : (x y : Bool) → x ≡ true
        → cond x (cond y (told d life (eqb life.opening (length past)) (now past) (Sent moment receiver bytes) (read_story d life past))
        (with_unread d life (eqb life.opening (length past)) (now past) (Sent moment receiver bytes) (read_story d life past))) []
        ≡ say (now past) (said_in d life (Sent moment receiver bytes)) (read_story d life past)
    first true true is = refl
    first true false is = refl
    first false y is = absurd (false≢true is)

    none : (b : Bool) → ((b && false) || false) ≡ false
    none true = refl
    none false = refl

pub tales_grow : TalesGrow
tales_grow = record { opened = tale_opened; dialled = tale_dialled; sent = tale_sent; quiet = tale_quiet; heard = tale_heard; unread = tale_unread }

pub none_begins : NoneBegins
none_begins f unproven = record { unsaid = tt; unproven = unproven; unclaimed = refl; unheard = λ n. refl; untold = λ i. refl; unasked = λ i place is. inl (omega arith) }

-- ---- what is left

pub owed_is_given : OwedIsGiven
owed_is_given d h life is_found known_of past lost s plain follows slot none few found content =
    let left = none_left (frame_of d life is_found known_of past) lost s (tale_of d life past) follows slot none in (
      left.0,
      left.1,
      λ i owed.
          let kept = by i owed in
          left.2 i kept.0 (subst (λ (x : List Line). asks_in x ≤ most_asks) (sym (plains_are_read d life past plain)) few) (content i owed) kept.1
          (subst (λ (x : List Line). asked_since kept.0 i x ≡ true) (sym (plains_are_read d life past plain)) kept.2),
    )
  where
    by : (i : ℕ) → IsOwed d h life past i
        → (place : ℕ) × (since_of d life is_found i past ≡ Some place) × (asked_since place i (story d life past) ≡ true)
    by i (inl owed) = owed_is_kept.announced d life is_found i past owed
    by i (inr (asks, stood)) = owed_is_kept.found d life is_found i past (found i stood) asks

pub frames_grow : FramesGrow
frames_grow = since_later
