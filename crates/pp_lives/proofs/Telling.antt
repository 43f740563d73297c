-- What one record more does to tests on the past, and to what is read of a life.
use Rattle.std.proofs.Common.{◌≡◌, ℕ, ◌<◌, ◌≤◌, max, ltb, leb, eqb, Bool, true, false, cond, not, ◌&&◌, ◌||◌, Some, List, [], ◌∷◌, length, refl, ◌∙◌, ap, subst, arith}
use Rattle.std.proofs.lemmas.Bool.{and_from, and_left, and_parts, and_right, or_from, or_right, cond-true, cond-false, false_from_ne_true, both_ways, le-leb, lt-ltb, ne_eqb}
use Rattle.pp_terms.specs.format.Traffic.{Address, Record, Received, Sent}
use Rattle.pp_terms.specs.format.Traffic as traffic
use Rattle.pp_terms.specs.format.Descriptor.{Descriptor}
use Rattle.pp_terms.specs.format.Messages.{Message, Handshake}
use Rattle.pp_traffic.specs.Past.{now, now_at, read, is_number, comes_from, some_since}
use Rattle.pp_traffic.specs.Life.{Life, greets, begins, begins_fitting, comes_on, shakes_on}
use Rattle.pp_traffic.specs.Story.{Line, Taken, hear, say, said_in, told}
use Rattle.pp_traffic.specs.Plain.{heard_at}
use Rattle.pp_promises.specs.ReadStory.{is_replied, is_read, read_story}
use Rattle.pp_promises.proofs.Growth.{begun}
use Rattle.pp_lives.specs.Reading.{shows}

-- from a place of the past on, one record more
pub since_more : (test : Record → Bool) (place : ℕ) (r : Record) (past : List Record) → place ≤ length past
    → some_since test place (r ∷ past) ≡ (test r || some_since test place past)
since_more test place r past le = ap (λ (b : Bool). b && test r || some_since test place past) (le-leb place (length past) le)

-- one that doesn't pass
pub since_same : (test : Record → Bool) (place : ℕ) (r : Record) (past : List Record) → test r ≡ false → some_since test place (r ∷ past) ≡ some_since test place past
since_same test place r past isnt = ap (λ (b : Bool). b || some_since test place past) (and_right (leb place (length past)) (test r) isnt)

-- the moment of a place that has begun stays
pub now_later : (place : ℕ) (r : Record) (past : List Record) → place < length past → now_at place (r ∷ past) ≡ now_at place past
now_later place r past lt = cond-false (eqb place (length past)) (now (r ∷ past)) (now_at place past) (ne_eqb place (length past) (λ e. omega arith))

-- when something was heard, without one record more, and with it
pub heard_same : (d : Descriptor) (life : Life) (r : Record) (past : List Record) → comes_on d life r ≡ false → heard_at d life (r ∷ past) ≡ heard_at d life past
heard_same d life r past isnt =
    cond-false (ltb life.opening (length past) && comes_on d life r) (Some (now (r ∷ past))) (heard_at d life past) (and_right (ltb life.opening (length past)) (comes_on d life r) isnt)

pub heard_now : (d : Descriptor) (life : Life) (r : Record) (past : List Record) → life.opening < length past → comes_on d life r ≡ true → heard_at d life (r ∷ past) ≡ Some (now (r ∷ past))
heard_now d life r past lt on =
    cond-true (ltb life.opening (length past) && comes_on d life r) (Some (now (r ∷ past))) (heard_at d life past)
    (and_from (ltb life.opening (length past)) (comes_on d life r) (lt-ltb life.opening (length past) lt) on)

-- ---- whose record it is

pub no_shake : (d : Descriptor) (life : Life) (r : Record) → comes_on d life r ≡ false → shakes_on d life r ≡ false
no_shake d life r isnt = and_left (comes_on d life r) (begins (read d r).messages.read) isnt

pub shows_none : (d : Descriptor) (life : Life) (r : Record) → comes_on d life r ≡ false → shows d life r ≡ false
shows_none d life r isnt = elim life.is_dialled as (λ b. cond b (shakes_on d life r) (comes_on d life r) ≡ false) [ true ↦ no_shake d life r isnt | false ↦ isnt ]

-- a fitting handshake is one
pub fitting_begins : (d : Descriptor) (is_reply : Bool) (number : ℕ) (ms : List Message) → begins_fitting d is_reply number ms ≡ true → begins ms ≡ true
fitting_begins d is_reply number (Handshake source options ∷ ms) e = refl
fitting_begins d is_reply number [] e = absurd cc
fitting_begins d is_reply number (m ∷ ms) e = no_other m ms e
  where
    no_other : (m : Message) (ms : List Message) → begins_fitting d is_reply number (m ∷ ms) ≡ true → begins (m ∷ ms) ≡ true
    no_other (Handshake source options) ms e = refl
    no_other m ms e = absurd cc

-- the reply to a dial begins with a handshake for its number
pub greets_shakes : (d : Descriptor) (life : Life) (r : Record) → life.is_dialled ≡ true → greets d life r ≡ true → shakes_on d life r ≡ true
greets_shakes d life r dialled e =
    let outer = and_parts (comes_from life.address r && is_number (cond life.is_dialled life.local 0) (read d r).channel) (begins_fitting d life.is_dialled life.remote (read d r).messages.read) e in
    and_from (comes_on d life r) (begins (read d r).messages.read)
    (subst (λ (b : Bool). (comes_from life.address r && is_number (cond b life.local 0) (read d r).channel) ≡ true) dialled outer.0)
    (fitting_begins d life.is_dialled life.remote (read d r).messages.read outer.1)

-- while no handshake came to a dial's number, no reply did
none_replied : (d : Descriptor) (life : Life) (past : List Record) → life.is_dialled ≡ true → some_since (shakes_on d life) life.opening past ≡ false → is_replied d life past ≡ false
none_replied d life past dialled none = by past none
  where
    by : (xs : List Record) → some_since (shakes_on d life) life.opening xs ≡ false → some_since (greets d life) life.opening xs ≡ false
    by [] e = refl
    by (r ∷ xs) e =
        let parts = two (leb life.opening (length xs)) (shakes_on d life r) (some_since (shakes_on d life) life.opening xs) e in
        or_from (leb life.opening (length xs) && greets d life r) (some_since (greets d life) life.opening xs)
        (false_from_ne_true (leb life.opening (length xs) && greets d life r) (λ both.
        let b = and_parts (leb life.opening (length xs)) (greets d life r) both in
        both_ways (leb life.opening (length xs) && shakes_on d life r) parts.0 (and_from (leb life.opening (length xs)) (shakes_on d life r) b.0 (greets_shakes d life r dialled b.1))))
        (by xs parts.1)
      where
        two : (a b c : Bool) → (a && b || c) ≡ false → ((a && b) ≡ false) × (c ≡ false)
        two true true c e = absurd cc
        two true false c e = (refl, e)
        two false b c e = (refl, e)

-- ---- what is read

pub same_both : (b : Bool) (x y : List Line) → x ≡ y → cond b x y ≡ y
same_both true x y e = e
same_both false x y e = refl

-- a wait in which nothing came
pub read_quiet : (d : Descriptor) (life : Life) (moment : ℕ) (past : List Record) → life.opening < length past
    → read_story d life (traffic.Quiet moment ∷ past) ≡ Taken (max moment (now past)) ∷ read_story d life past
read_quiet d life moment past lt = begun d life (traffic.Quiet moment) past lt
    ∙ same_both (is_read d life (traffic.Quiet moment ∷ past)) (Taken (max moment (now past)) ∷ read_story d life past) (Taken (max moment (now past)) ∷ read_story d life past) refl

-- a datagram that isn't for the life
pub read_apart : (d : Descriptor) (life : Life) (at : ℕ) (sender : Address) (bytes : List ℕ) (past : List Record) → life.opening < length past
    → comes_on d life (Received at sender bytes) ≡ false
    → read_story d life (Received at sender bytes ∷ past) ≡ Taken (max at (now past)) ∷ read_story d life past
read_apart d life at sender bytes past lt isnt = begun d life (Received at sender bytes) past lt
    ∙ same_both (is_read d life (Received at sender bytes ∷ past)) (told d life false (max at (now past)) (Received at sender bytes) (read_story d life past)) (Taken (max at (now past)) ∷ read_story d life past)
    (ap (λ (ms : List Message). Taken (max at (now past)) ∷ hear (max at (now past)) ms (read_story d life past))
    (cond-false (comes_on d life (Received at sender bytes)) (read d (Received at sender bytes)).messages.read [] isnt))

-- one that is left unread
pub read_unread : (d : Descriptor) (life : Life) (at : ℕ) (sender : Address) (bytes : List ℕ) (past : List Record) → life.opening < length past
    → is_read d life (Received at sender bytes ∷ past) ≡ false
    → read_story d life (Received at sender bytes ∷ past) ≡ Taken (max at (now past)) ∷ read_story d life past
read_unread d life at sender bytes past lt un = begun d life (Received at sender bytes) past lt
    ∙ cond-false (is_read d life (Received at sender bytes ∷ past)) (told d life false (max at (now past)) (Received at sender bytes) (read_story d life past)) (Taken (max at (now past)) ∷ read_story d life past) un

-- one that is read
pub read_more : (d : Descriptor) (life : Life) (at : ℕ) (sender : Address) (bytes : List ℕ) (past : List Record) → life.opening < length past
    → is_read d life (Received at sender bytes ∷ past) ≡ true → comes_on d life (Received at sender bytes) ≡ true
    → read_story d life (Received at sender bytes ∷ past) ≡ Taken (max at (now past)) ∷ hear (max at (now past)) (read d (Received at sender bytes)).messages.read (read_story d life past)
read_more d life at sender bytes past lt is on = begun d life (Received at sender bytes) past lt
    ∙ cond-true (is_read d life (Received at sender bytes ∷ past)) (told d life false (max at (now past)) (Received at sender bytes) (read_story d life past)) (Taken (max at (now past)) ∷ read_story d life past) is
    ∙ ap (λ (ms : List Message). Taken (max at (now past)) ∷ hear (max at (now past)) ms (read_story d life past))
    (cond-true (comes_on d life (Received at sender bytes)) (read d (Received at sender bytes)).messages.read [] on)

-- one that was sent
pub read_sent : (d : Descriptor) (life : Life) (moment : ℕ) (receiver : Address) (bytes : List ℕ) (past : List Record) → life.opening < length past
    → read_story d life (Sent moment receiver bytes ∷ past) ≡ say (now past) (said_in d life (Sent moment receiver bytes)) (read_story d life past)
read_sent d life moment receiver bytes past lt = begun d life (Sent moment receiver bytes) past lt
    ∙ same_both (is_read d life (Sent moment receiver bytes ∷ past)) (say (now past) (said_in d life (Sent moment receiver bytes)) (read_story d life past)) (say (now past) (said_in d life (Sent moment receiver bytes)) (read_story d life past)) refl

-- ---- which datagrams are read

pub dialled_unread : (d : Descriptor) (life : Life) (r : Record) (past : List Record) → life.is_dialled ≡ true → shakes_on d life r ≡ false
    → some_since (shakes_on d life) life.opening past ≡ false → is_read d life (r ∷ past) ≡ false
dialled_unread d life r past dialled isnt none =
    let unreplied = none_replied d life (r ∷ past) dialled (since_same (shakes_on d life) life.opening r past isnt ∙ none) in
    or_from (not life.is_dialled) (is_replied d life (r ∷ past)) (ap not dialled) unreplied

pub replied_read : (d : Descriptor) (life : Life) (past : List Record) → is_replied d life past ≡ true → is_read d life past ≡ true
replied_read d life past replied = or_right (not life.is_dialled) (is_replied d life past) replied

pub replied_stays : (d : Descriptor) (life : Life) (r : Record) (past : List Record) → is_replied d life past ≡ true → is_read d life (r ∷ past) ≡ true
replied_stays d life r past replied = replied_read d life (r ∷ past) (or_right (leb life.opening (length past) && greets d life r) (is_replied d life past) replied)
