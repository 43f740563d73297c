-- How what is read of a channel stands to its whole story.
use Rattle.std.proofs.Common.{◌≡◌, ⊎_elim, ℕ, ◌<◌, ◌≤◌, leb, ltb, eqb, Bool, true, false, cond, not, ◌&&◌, ◌||◌, List, [], ◌∷◌, length, drop, refl, sym, ◌∙◌, ap, subst, MatchBool, arith}
use Rattle.std.proofs.lemmas.Bool.{and_parts, and_from, and_right, or_parts, or_cases, or_left, or_right, leb-false, le-leb, lt-ltb, lt-leb}
use Rattle.pp_terms.specs.format.Traffic.{Record, Received, Quiet, Sent}
use Rattle.pp_terms.specs.tree.Tree.{Node}
use Rattle.pp_terms.specs.format.Descriptor.{Descriptor}
use Rattle.pp_terms.specs.format.Messages.{Message, Handshake, Data, Ack, Have, Integrity, Pex4, PexReq, Request, Cancel, Choke, Unchoke, Pex6}
use Rattle.pp_terms.specs.tree.Range.{within}
use Rattle.pp_traffic.specs.Past.{now, read, comes_from, goes_to, is_number, some_since, some_until}
use Rattle.pp_traffic.specs.Life.{Life, greets}
use Rattle.pp_traffic.specs.Story.{Line, Heard, Said, Taken, hear, say, heard_in, said_in, told, story}
use Rattle.pp_traffic.specs.Asking.{choked_by, choked, asked_by, asked_after, asked}
use Rattle.pp_traffic.specs.Hashes.{told_by, is_told}
use Rattle.pp_traffic.specs.Plain.{concerns, first_since, IsPlainAnswer, IsPlainDial, IsPlainNow}
use Rattle.pp_promises.specs.ReadStory.{with_unread, is_replied, is_read, read_story}
use Rattle.pp_promises.specs.Served.{asked_after_heard, asked_after_said, is_announced, owed_after, is_owed}

-- ---- all is read where the other peer opened

pub answers_are_read : (d : Descriptor) (life : Life) (past : List Record) → life.is_dialled ≡ false → read_story d life past ≡ story d life past
answers_are_read d life [] e = refl
answers_are_read d life (r ∷ b) e = pick (leb life.opening (length b)) life.is_dialled e (answers_are_read d life b e)
  where
    pick : (x y : Bool) → y ≡ false → read_story d life b ≡ story d life b
        → cond x (cond (not y || is_replied d life (r ∷ b)) (told d life (eqb life.opening (length b)) (now (r ∷ b)) r (read_story d life b))
        (with_unread d life (eqb life.opening (length b)) (now (r ∷ b)) r (read_story d life b))) []
        ≡ cond x (told d life (eqb life.opening (length b)) (now (r ∷ b)) r (story d life b)) []
    pick true false e ih = ap (λ (s : List Line). told d life (eqb life.opening (length b)) (now (r ∷ b)) r s) ih
    pick true true e ih = absurd cc
    pick false y e ih = refl

-- ---- chokes

hear_chokes : (at : ℕ) (ms : List Message) (s : List Line) → choked (hear at ms s) ≡ choked s
hear_chokes at [] s = refl
hear_chokes at (m ∷ ms) s = hear_chokes at ms (Heard at m ∷ s)

say_chokes : (at : ℕ) (ms : List Message) (s s' : List Line) → choked s ≡ choked s' → choked (say at ms s) ≡ choked (say at ms s')
say_chokes at [] s s' e = e
say_chokes at (m ∷ ms) s s' e = say_chokes at ms (Said at m ∷ s) (Said at m ∷ s') (ap (λ x. choked_by m x) e)

told_chokes : (d : Descriptor) (life : Life) (o : Bool) (at : ℕ) (r : Record) (s s' : List Line) → choked s ≡ choked s' → choked (told d life o at r s) ≡ choked (told d life o at r s')
told_chokes d life o at (Received a sender bytes) s s' e = let h = hear_chokes at (heard_in d life o (Received a sender bytes)) s in let h' = hear_chokes at (heard_in d life o (Received a sender bytes)) s' in cc
told_chokes d life o at (Quiet a) s s' e = e
told_chokes d life o at (Sent moment receiver bytes) s s' e = say_chokes at (said_in d life (Sent moment receiver bytes)) s s' e

unread_chokes : (d : Descriptor) (life : Life) (o : Bool) (at : ℕ) (r : Record) (s s' : List Line) → choked s ≡ choked s' → choked (with_unread d life o at r s) ≡ choked (told d life o at r s')
unread_chokes d life o at (Received a sender bytes) s s' e = let h' = hear_chokes at (heard_in d life o (Received a sender bytes)) s' in cc
unread_chokes d life o at (Quiet a) s s' e = e
unread_chokes d life o at (Sent moment receiver bytes) s s' e = say_chokes at (said_in d life (Sent moment receiver bytes)) s s' e

pub chokes_are_read : (d : Descriptor) (life : Life) (past : List Record) → choked (read_story d life past) ≡ choked (story d life past)
chokes_are_read d life [] = refl
chokes_are_read d life (r ∷ b) = pick (leb life.opening (length b)) (is_read d life (r ∷ b)) (chokes_are_read d life b)
  where
    pick : (x y : Bool) → choked (read_story d life b) ≡ choked (story d life b)
        → choked (cond x (cond y (told d life (eqb life.opening (length b)) (now (r ∷ b)) r (read_story d life b))
        (with_unread d life (eqb life.opening (length b)) (now (r ∷ b)) r (read_story d life b))) [])
        ≡ choked (cond x (told d life (eqb life.opening (length b)) (now (r ∷ b)) r (story d life b)) [])
    pick true true ih = told_chokes d life (eqb life.opening (length b)) (now (r ∷ b)) r (read_story d life b) (story d life b) ih
    pick true false ih = unread_chokes d life (eqb life.opening (length b)) (now (r ∷ b)) r (read_story d life b) (story d life b) ih
    pick false y ih = refl

-- ---- what is told

hear_tells : (chunks at : ℕ) (ms : List Message) (s s' : List Line) (n : Node) → (is_told chunks s n ≡ true → is_told chunks s' n ≡ true)
    → is_told chunks (hear at ms s) n ≡ true → is_told chunks (hear at ms s') n ≡ true
hear_tells chunks at [] s s' n f e = f e
hear_tells chunks at (m ∷ ms) s s' n f e =
    hear_tells chunks at ms (Heard at m ∷ s) (Heard at m ∷ s') n
    (λ either. ⊎_elim (λ here. or_left (told_by chunks n m) (is_told chunks s' n) here) (λ before. or_right (told_by chunks n m) (is_told chunks s' n) (f before))
    (or_cases (told_by chunks n m) (is_told chunks s n) either)) e

hear_stays : (chunks at : ℕ) (ms : List Message) (s : List Line) (n : Node) → is_told chunks s n ≡ true → is_told chunks (hear at ms s) n ≡ true
hear_stays chunks at [] s n e = e
hear_stays chunks at (m ∷ ms) s n e = hear_stays chunks at ms (Heard at m ∷ s) n (or_right (told_by chunks n m) (is_told chunks s n) e)

say_tells : (chunks at : ℕ) (ms : List Message) (s s' : List Line) (n : Node) → (is_told chunks s n ≡ true → is_told chunks s' n ≡ true)
    → is_told chunks (say at ms s) n ≡ true → is_told chunks (say at ms s') n ≡ true
say_tells chunks at [] s s' n f e = f e
say_tells chunks at (m ∷ ms) s s' n f e = say_tells chunks at ms (Said at m ∷ s) (Said at m ∷ s') n f e

told_tells : (d : Descriptor) (life : Life) (chunks : ℕ) (o : Bool) (at : ℕ) (r : Record) (s s' : List Line) (n : Node) → (is_told chunks s n ≡ true → is_told chunks s' n ≡ true)
    → is_told chunks (told d life o at r s) n ≡ true → is_told chunks (told d life o at r s') n ≡ true
told_tells d life chunks o at (Received a sender bytes) s s' n f e = hear_tells chunks at (heard_in d life o (Received a sender bytes)) s s' n f e
told_tells d life chunks o at (Quiet a) s s' n f e = f e
told_tells d life chunks o at (Sent moment receiver bytes) s s' n f e = say_tells chunks at (said_in d life (Sent moment receiver bytes)) s s' n f e

unread_tells : (d : Descriptor) (life : Life) (chunks : ℕ) (o : Bool) (at : ℕ) (r : Record) (s s' : List Line) (n : Node) → (is_told chunks s n ≡ true → is_told chunks s' n ≡ true)
    → is_told chunks (with_unread d life o at r s) n ≡ true → is_told chunks (told d life o at r s') n ≡ true
unread_tells d life chunks o at (Received a sender bytes) s s' n f e = hear_stays chunks at (heard_in d life o (Received a sender bytes)) s' n (f e)
unread_tells d life chunks o at (Quiet a) s s' n f e = f e
unread_tells d life chunks o at (Sent moment receiver bytes) s s' n f e = say_tells chunks at (said_in d life (Sent moment receiver bytes)) s s' n f e

pub read_tells : (d : Descriptor) (life : Life) (chunks : ℕ) (past : List Record) (n : Node) → is_told chunks (read_story d life past) n ≡ true → is_told chunks (story d life past) n ≡ true
read_tells d life chunks [] n = λ e. e
read_tells d life chunks (r ∷ b) n = pick (leb life.opening (length b)) (is_read d life (r ∷ b)) (read_tells d life chunks b n)
  where
    pick : (x y : Bool) → (is_told chunks (read_story d life b) n ≡ true → is_told chunks (story d life b) n ≡ true)
        → is_told chunks (cond x (cond y (told d life (eqb life.opening (length b)) (now (r ∷ b)) r (read_story d life b))
        (with_unread d life (eqb life.opening (length b)) (now (r ∷ b)) r (read_story d life b))) []) n ≡ true
        → is_told chunks (cond x (told d life (eqb life.opening (length b)) (now (r ∷ b)) r (story d life b)) []) n ≡ true
    pick true true ih = told_tells d life chunks (eqb life.opening (length b)) (now (r ∷ b)) r (read_story d life b) (story d life b) n ih
    pick true false ih = unread_tells d life chunks (eqb life.opening (length b)) (now (r ∷ b)) r (read_story d life b) (story d life b) n ih
    pick false y ih = λ e. e

-- ---- what is asked for

-- a message that came asks no less, where more was asked for before and no choke stood that didn't
pub by_asks : (i : ℕ) (m : Message) (k k' a a' : Bool) → (k ≡ false → k' ≡ false) → (a ≡ true → a' ≡ true) → asked_by i k m a ≡ true → asked_by i k' m a' ≡ true
by_asks i (Request span) k k' a a' free f e = ⊎_elim
    (λ l. or_left (within span i && not k') a' (let p = and_parts (within span i) (not k) l in and_from (within span i) (not k') p.0 (unbarred k k' free p.1)))
    (λ r. or_right (within span i && not k') a' (f r))
    (or_cases (within span i && not k) a e)
  where
    unbarred : (k k' : Bool) → (k ≡ false → k' ≡ false) → not k ≡ true → not k' ≡ true
    unbarred true k' free e = absurd cc
    unbarred false true free e = let never = free refl in absurd cc
    unbarred false false free e = refl
by_asks i (Cancel span) k k' a a' free f e = let p = and_parts (not (within span i)) a e in and_from (not (within span i)) a' p.0 (f p.1)
by_asks i (Handshake source options) k k' a a' free f e = f e
by_asks i (Data chunk sent_at bytes) k k' a a' free f e = f e
by_asks i (Ack span delay) k k' a a' free f e = f e
by_asks i (Have span) k k' a a' free f e = f e
by_asks i (Integrity span digest) k k' a a' free f e = f e
by_asks i (Pex4 address port) k k' a a' free f e = f e
by_asks i PexReq k k' a a' free f e = f e
by_asks i Choke k k' a a' free f e = f e
by_asks i Unchoke k k' a a' free f e = f e
by_asks i (Pex6 address port) k k' a a' free f e = f e

-- one that was sent
pub after_asks : (i : ℕ) (m : Message) (a a' : Bool) → (a ≡ true → a' ≡ true) → asked_after i m a ≡ true → asked_after i m a' ≡ true
after_asks i (Data chunk sent_at bytes) a a' f e = let p = and_parts (not (eqb chunk i)) a e in and_from (not (eqb chunk i)) a' p.0 (f p.1)
after_asks i Choke a a' f e = e
after_asks i (Handshake source options) a a' f e = f e
after_asks i (Ack span delay) a a' f e = f e
after_asks i (Have span) a a' f e = f e
after_asks i (Integrity span digest) a a' f e = f e
after_asks i (Pex4 address port) a a' f e = f e
after_asks i PexReq a a' f e = f e
after_asks i (Request span) a a' f e = f e
after_asks i (Cancel span) a a' f e = f e
after_asks i Unchoke a a' f e = f e
after_asks i (Pex6 address port) a a' f e = f e

hear_asks : (i at : ℕ) (ms : List Message) (s s' : List Line) → (choked s ≡ false → choked s' ≡ false) → (asked i s ≡ true → asked i s' ≡ true) → asked i (hear at ms s) ≡ true → asked i (hear at ms s') ≡ true
hear_asks i at [] s s' free f e = f e
hear_asks i at (m ∷ ms) s s' free f e = hear_asks i at ms (Heard at m ∷ s) (Heard at m ∷ s') free (by_asks i m (choked s) (choked s') (asked i s) (asked i s') free f) e

say_asks : (i at : ℕ) (ms : List Message) (s s' : List Line) → (asked i s ≡ true → asked i s' ≡ true) → asked i (say at ms s) ≡ true → asked i (say at ms s') ≡ true
say_asks i at [] s s' f e = f e
say_asks i at (m ∷ ms) s s' f e = say_asks i at ms (Said at m ∷ s) (Said at m ∷ s') (after_asks i m (asked i s) (asked i s') f) e

told_asks : (d : Descriptor) (life : Life) (i : ℕ) (o : Bool) (at : ℕ) (r : Record) (s s' : List Line) → choked s ≡ choked s' → (asked i s ≡ true → asked i s' ≡ true)
    → asked i (told d life o at r s) ≡ true → asked i (told d life o at r s') ≡ true
told_asks d life i o at (Received a sender bytes) s s' same f e = hear_asks i at (heard_in d life o (Received a sender bytes)) s s' (λ free. let o' = same in cc) f e
told_asks d life i o at (Quiet a) s s' same f e = f e
told_asks d life i o at (Sent moment receiver bytes) s s' same f e = say_asks i at (said_in d life (Sent moment receiver bytes)) s s' f e

-- nothing is asked for by a story that was not read
say_none : (i at : ℕ) (ms : List Message) (s : List Line) → asked i s ≡ false → asked i (say at ms s) ≡ false
say_none i at [] s e = e
say_none i at (m ∷ ms) s e = say_none i at ms (Said at m ∷ s) (none_after m (asked i s) e)
  where
    none_after : (m : Message) (a : Bool) → a ≡ false → asked_after i m a ≡ false
    none_after (Data chunk sent_at bytes) a e = let w : asked_after i (Data chunk sent_at bytes) a ≡ (not (eqb chunk i) && a) = refl in and_right (not (eqb chunk i)) a e
    none_after Choke a e = refl
    none_after (Handshake source options) a e = e
    none_after (Ack span delay) a e = e
    none_after (Have span) a e = e
    none_after (Integrity span digest) a e = e
    none_after (Pex4 address port) a e = e
    none_after PexReq a e = e
    none_after (Request span) a e = e
    none_after (Cancel span) a e = e
    none_after Unchoke a e = e
    none_after (Pex6 address port) a e = e

unread_none : (d : Descriptor) (life : Life) (i : ℕ) (o : Bool) (at : ℕ) (r : Record) (s : List Line) → asked i s ≡ false → asked i (with_unread d life o at r s) ≡ false
unread_none d life i o at (Received a sender bytes) s e = e
unread_none d life i o at (Quiet a) s e = e
unread_none d life i o at (Sent moment receiver bytes) s e = say_none i at (said_in d life (Sent moment receiver bytes)) s e

earlier_unread : (x y z : Bool) → (x || (y || z)) ≡ false → (x || z) ≡ false
earlier_unread true y z e = e
earlier_unread false true z e = absurd cc
earlier_unread false false z e = e

pub unread_asks_none : (d : Descriptor) (life : Life) (i : ℕ) (past : List Record) → is_read d life past ≡ false → asked i (read_story d life past) ≡ false
unread_asks_none d life i [] e = refl
unread_asks_none d life i (r ∷ b) e = pick (leb life.opening (length b)) (is_read d life (r ∷ b)) e
    (unread_asks_none d life i b (earlier_unread (not life.is_dialled) (leb life.opening (length b) && greets d life r) (is_replied d life b) e))
  where
    pick : (x y : Bool) → y ≡ false → asked i (read_story d life b) ≡ false
        → asked i (cond x (cond y (told d life (eqb life.opening (length b)) (now (r ∷ b)) r (read_story d life b))
        (with_unread d life (eqb life.opening (length b)) (now (r ∷ b)) r (read_story d life b))) []) ≡ false
    pick true true e before = absurd cc
    pick true false e before = unread_none d life i (eqb life.opening (length b)) (now (r ∷ b)) r (read_story d life b) before
    pick false y e before = refl

pub read_asks : (d : Descriptor) (life : Life) (i : ℕ) (past : List Record) → asked i (read_story d life past) ≡ true → asked i (story d life past) ≡ true
read_asks d life i [] e = e
read_asks d life i (r ∷ b) e = pick (is_read d life (r ∷ b)) refl (read_asks d life i b)
  where
    ask : (x : Bool) → is_read d life (r ∷ b) ≡ true → (asked i (read_story d life b) ≡ true → asked i (story d life b) ≡ true)
        → asked i (cond x (cond (is_read d life (r ∷ b)) (told d life (eqb life.opening (length b)) (now (r ∷ b)) r (read_story d life b))
        (with_unread d life (eqb life.opening (length b)) (now (r ∷ b)) r (read_story d life b))) []) ≡ true
        → asked i (cond x (told d life (eqb life.opening (length b)) (now (r ∷ b)) r (story d life b)) []) ≡ true
    ask true y ih = λ w. told_asks d life i (eqb life.opening (length b)) (now (r ∷ b)) r (read_story d life b) (story d life b) (chokes_are_read d life b) ih
        (subst (λ (z : Bool). asked i (cond z (told d life (eqb life.opening (length b)) (now (r ∷ b)) r (read_story d life b))
        (with_unread d life (eqb life.opening (length b)) (now (r ∷ b)) r (read_story d life b))) ≡ true) y w)
    ask false y ih = λ w. w

    pick : (y : Bool) → is_read d life (r ∷ b) ≡ y → (asked i (read_story d life b) ≡ true → asked i (story d life b) ≡ true) → asked i (story d life (r ∷ b)) ≡ true
    pick true y ih = ask (leb life.opening (length b)) y ih e
    pick false y ih = let none = unread_asks_none d life i (r ∷ b) y in absurd cc

-- ---- what is owed

in_asks : (i at : ℕ) (barred : Bool) (ms : List Message) (o : Bool) (s : List Line) → (barred ≡ false → choked s ≡ false) → (o ≡ true → asked i s ≡ true)
    → asked_after_heard i barred ms o ≡ true → asked i (hear at ms s) ≡ true
in_asks i at barred [] o s free f e = f e
in_asks i at barred (m ∷ ms) o s free f e = in_asks i at barred ms (asked_by i barred m o) (Heard at m ∷ s) free (by_asks i m barred (choked s) o (asked i s) free f) e

after_all : (i at : ℕ) (ms : List Message) (o : Bool) (s : List Line) → (o ≡ true → asked i s ≡ true) → asked_after_said i ms o ≡ true → asked i (say at ms s) ≡ true
after_all i at [] o s f e = f e
after_all i at (m ∷ ms) o s f e = after_all i at ms (asked_after i m o) (Said at m ∷ s) (after_asks i m o (asked i s) f) e

owed_asks : (d : Descriptor) (life : Life) (i : ℕ) (o barred : Bool) (at : ℕ) (r : Record) (owed : Bool) (s : List Line) → (barred ≡ false → choked s ≡ false) → (owed ≡ true → asked i s ≡ true)
    → owed_after d life i o barred r owed ≡ true → asked i (told d life o at r s) ≡ true
owed_asks d life i o barred at (Received a sender bytes) owed s free f e = in_asks i at barred (heard_in d life o (Received a sender bytes)) owed s free f e
owed_asks d life i o barred at (Quiet a) owed s free f e = f e
owed_asks d life i o barred at (Sent moment receiver bytes) owed s free f e = after_all i at (said_in d life (Sent moment receiver bytes)) owed s f e

pub owed_is_asked : (d : Descriptor) (life : Life) (i : ℕ) (past : List Record) → is_owed d life i past ≡ true → asked i (story d life past) ≡ true
owed_is_asked d life i [] e = e
owed_is_asked d life i (r ∷ b) e = pick (leb life.opening (length b)) (owed_is_asked d life i b) e
  where
    pick : (x : Bool) → (is_owed d life i b ≡ true → asked i (story d life b) ≡ true)
        → cond x (owed_after d life i (eqb life.opening (length b)) (choked (story d life b) || not (is_announced d i b)) r (is_owed d life i b)) false ≡ true
        → asked i (cond x (told d life (eqb life.opening (length b)) (now (r ∷ b)) r (story d life b)) []) ≡ true
    pick true ih w = owed_asks d life i (eqb life.opening (length b)) (choked (story d life b) || not (is_announced d i b)) (now (r ∷ b)) r (is_owed d life i b) (story d life b)
        (λ e. (or_parts (choked (story d life b)) (not (is_announced d i b)) e).0) ih w
    pick false ih w = absurd cc

-- ---- all is read of a plain channel

not_before : (n opening : ℕ) (y : Bool) → y ≡ true → (ltb n opening && y) ≡ false → leb opening n ≡ true
not_before n opening y near e = pick (leb opening n) refl
  where
    pick : (x : Bool) → leb opening n ≡ x → leb opening n ≡ true
    pick true is = is
    pick false is = let lt : n < opening = leb-false opening n is in
        let both : (ltb n opening && y) ≡ true = and_from (ltb n opening) y (lt-ltb n opening lt) near in absurd cc

-- every place is from 0 on
from_start : (n : ℕ) → leb 0 n ≡ true
from_start n = le-leb 0 n (omega arith)

-- what comes from elsewhere adds nothing
elsewhere : (d : Descriptor) (life : Life) (o : Bool) (at : ℕ) (r : Record) (s : List Line) → life.is_dialled ≡ true → comes_from life.address r ≡ false
    → with_unread d life o at r s ≡ told d life o at r s
elsewhere d life o at (Received a sender bytes) s dialled away = ap (λ (ms : List Message). Taken at ∷ hear at ms s) (sym none_heard)
  where
    r : Record
    r = Received a sender bytes

    pick : (o x y z : Bool) → x ≡ true → z ≡ false → cond (o && not x && y) (drop 1 (read d r).messages.read) (cond (z && is_number life.local (read d r).channel) (read d r).messages.read []) ≡ []
    pick o false y z e e' = absurd cc
    pick o true y true e e' = absurd cc
    pick false true y false e e' = refl
    pick true true y false e e' = refl

    none_heard : heard_in d life o (Received a sender bytes) ≡ []
    none_heard = pick o life.is_dialled (greets d life r) (comes_from life.address r) dialled away
elsewhere d life o at (Quiet a) s dialled away = refl
elsewhere d life o at (Sent moment receiver bytes) s dialled away = refl

abbrev came : Life → List Record → Bool
came life past = some_since (comes_from life.address) 0 past

none_came : (d : Descriptor) (life : Life) (past : List Record) → life.is_dialled ≡ true → came life past ≡ false → read_story d life past ≡ story d life past
none_came d life [] dialled none = refl
none_came d life (r ∷ b) dialled none = pick (leb life.opening (length b)) (is_read d life (r ∷ b)) (none_came d life b dialled parts.1)
  where
    parts : (comes_from life.address r ≡ false) × (came life b ≡ false)
    parts = or_parts (comes_from life.address r) (came life b) (subst (λ (x : Bool). ((x && comes_from life.address r) || came life b) ≡ false) (from_start (length b)) none)

    away : comes_from life.address r ≡ false
    away = parts.0

    pick : (x y : Bool) → read_story d life b ≡ story d life b
        → cond x (cond y (told d life (eqb life.opening (length b)) (now (r ∷ b)) r (read_story d life b))
        (with_unread d life (eqb life.opening (length b)) (now (r ∷ b)) r (read_story d life b))) []
        ≡ cond x (told d life (eqb life.opening (length b)) (now (r ∷ b)) r (story d life b)) []
    pick true true ih = ap (λ (s : List Line). told d life (eqb life.opening (length b)) (now (r ∷ b)) r s) ih
    pick true false ih = elsewhere d life (eqb life.opening (length b)) (now (r ∷ b)) r (read_story d life b) dialled away
        ∙ ap (λ (s : List Line). told d life (eqb life.opening (length b)) (now (r ∷ b)) r s) ih
    pick false y ih = refl

-- where the first that came is the reply, and nothing came before the opening: all is read, and the reply was there
pub record ReadWhole (d : Descriptor) (life : Life) (past : List Record) : Type 0 where
  pub same : read_story d life past ≡ story d life past
  pub replied : is_replied d life past ≡ true

or_third : (x y z : Bool) → z ≡ true → (x || (y || z)) ≡ true
or_third x y z e = or_right x (y || z) (or_right y z e)

whole : (d : Descriptor) (life : Life) (past : List Record) → life.is_dialled ≡ true → first_since (comes_from life.address) (greets d life) 0 past ≡ true
    → some_until (concerns life.address) life.opening past ≡ false → ReadWhole d life past
whole d life [] dialled first fresh = absurd cc
whole d life (r ∷ b) dialled first fresh = by_case (came life b) refl (whole d life b dialled)
  where
    later : some_until (concerns life.address) life.opening b ≡ false
    later = (or_parts (ltb (length b) life.opening && concerns life.address r) (some_until (concerns life.address) life.opening b) fresh).1

    here : (ltb (length b) life.opening && concerns life.address r) ≡ false
    here = (or_parts (ltb (length b) life.opening && concerns life.address r) (some_until (concerns life.address) life.opening b) fresh).0

    read_it : (x y : Bool) → y ≡ true → read_story d life b ≡ story d life b
        → cond x (cond y (told d life (eqb life.opening (length b)) (now (r ∷ b)) r (read_story d life b)) (with_unread d life (eqb life.opening (length b)) (now (r ∷ b)) r (read_story d life b))) [] ≡ cond x (told d life (eqb life.opening (length b)) (now (r ∷ b)) r (story d life b)) []
    read_it true true e ih = ap (λ (s : List Line). told d life (eqb life.opening (length b)) (now (r ∷ b)) r s) ih
    read_it true false e ih = absurd cc
    read_it false y e ih = refl

    by_case : (x : Bool) → came life b ≡ x
        → (first_since (comes_from life.address) (greets d life) 0 b ≡ true → some_until (concerns life.address) life.opening b ≡ false → ReadWhole d life b)
        → ReadWhole d life (r ∷ b)
    by_case true e ih =
        let before : first_since (comes_from life.address) (greets d life) 0 b ≡ true =
        subst (λ (x : Bool). cond x (first_since (comes_from life.address) (greets d life) 0 b) ((leb 0 (length b) && comes_from life.address r) && greets d life r) ≡ true) e first in
        let w = ih before later in
        let there : is_replied d life (r ∷ b) ≡ true = or_right (leb life.opening (length b) && greets d life r) (is_replied d life b) w.replied in
        record { same = read_it (leb life.opening (length b)) (is_read d life (r ∷ b)) (or_right (not life.is_dialled) (is_replied d life (r ∷ b)) there) w.same; replied = there }
    by_case false e ih =
        let test : ((leb 0 (length b) && comes_from life.address r) && greets d life r) ≡ true =
        subst (λ (x : Bool). cond x (first_since (comes_from life.address) (greets d life) 0 b) ((leb 0 (length b) && comes_from life.address r) && greets d life r) ≡ true) e first in
        let reply : (comes_from life.address r && greets d life r) ≡ true =
        subst (λ (x : Bool). ((x && comes_from life.address r) && greets d life r) ≡ true) (from_start (length b)) test in
        let parts = and_parts (comes_from life.address r) (greets d life r) reply in
        let near : concerns life.address r ≡ true = or_left (comes_from life.address r) (goes_to life.address r) parts.0 in
        let reached : leb life.opening (length b) ≡ true = not_before (length b) life.opening (concerns life.address r) near here in
        let there : is_replied d life (r ∷ b) ≡ true = or_left (leb life.opening (length b) && greets d life r) (is_replied d life b)
        (and_from (leb life.opening (length b)) (greets d life r) reached parts.1) in
        record { same = read_it (leb life.opening (length b)) (is_read d life (r ∷ b)) (or_right (not life.is_dialled) (is_replied d life (r ∷ b)) there) (none_came d life b dialled e); replied = there }

pub plains_are_read : (d : Descriptor) (life : Life) (past : List Record) → IsPlainNow d life past → read_story d life past ≡ story d life past
plains_are_read d life past plain = by_kind life.is_dialled refl plain.begins
  where
    by_kind : (x : Bool) → life.is_dialled ≡ x → MatchBool x (IsPlainDial d life past past) (IsPlainAnswer d life past) → read_story d life past ≡ story d life past
    by_kind true e begins = (whole d life past e begins.replied plain.fresh).same
    by_kind false e begins = answers_are_read d life past e

-- before the opening nothing is read
pub unread_before : (d : Descriptor) (life : Life) (past : List Record) → length past ≤ life.opening → read_story d life past ≡ []
unread_before d life [] le = refl
unread_before d life (r ∷ past) le = let early : leb life.opening (length past) ≡ false = lt-leb life.opening (length past) (omega arith) in rw early refl
