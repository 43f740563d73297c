-- Numbers that the messages of a traffic don't tell apart: what is asked for, owed, announced and told of is the same of both.
use Rattle.std.proofs.Common.{◌≡◌, ℕ, ◌+◌, ◌<◌, get_or, subst, leb, eqb, Bool, true, false, cond, not, ◌&&◌, ◌||◌, List, [], ◌∷◌, length, drop, refl, sym, ◌∙◌, ap}
use Rattle.std.specs.List.{AllByRecursion}
use Rattle.pp_terms.specs.format.Traffic.{Record, Received, Quiet, Sent}
use Rattle.pp_terms.specs.format.Descriptor.{Descriptor}
use Rattle.pp_terms.specs.format.Messages.{Message, Handshake, Data, Ack, Have, Integrity, Pex4, PexReq, Request, Cancel, Choke, Unchoke, Pex6}
use Rattle.pp_terms.specs.tree.Range.{within}
use Rattle.pp_traffic.specs.Past.{now, read, goes_to, is_number}
use Rattle.pp_traffic.specs.Life.{Life, greets, comes_on}
use Rattle.pp_traffic.specs.Story.{Line, Heard, Said, Taken, hear, say, behind, heard_in, said_in, told, story}
use Rattle.pp_traffic.specs.Asking.{choked, asked_by, asked_after, asked}
use Rattle.pp_traffic.specs.Keeping.{announces}
use Rattle.pp_promises.specs.LastTurn.{earlier}
use Rattle.pp_promises.specs.OwnSide.{has_in}
use Rattle.pp_promises.specs.Served.{is_announced, asked_after_heard, asked_after_said, owed_after, is_owed}
use Rattle.pp_promises.specs.Announced.{is_told_of}
use Rattle.pp_traffic.specs.Past.{bytes_of}
use Rattle.pp_recorded.specs.declared.entry.Entry.{Entry}
use Rattle.pp_recorded.specs.Entries.{record_of}
use Rattle.pp_recorded.specs.Parts.{all}
use Rattle.pp_recorded.proofs.Pasts.{first, one_more}
use Rattle.pp_audit.specs.Alike.{IsAlike, AreAlikeIn, AreAlike}

-- ---- what is so of the messages of a record is so of those that a channel heard or said

drop_all_by : (P : Message → Type 0) (ms : List Message) → AllByRecursion P ms → AllByRecursion P (drop 1 ms)
drop_all_by P [] all = tt
drop_all_by P (m ∷ ms) all = all.1

behind_shake : (P : Message → Type 0) (b : Bool) (ms more : List Message) → AllByRecursion P ms → AllByRecursion P more → AllByRecursion P (cond b ms more)
behind_shake P true ms more x y = x
behind_shake P false ms more x y = y

behind_by : (P : Message → Type 0) (number : ℕ) (ms : List Message) → AllByRecursion P ms → AllByRecursion P (behind number ms)
behind_by P number [] all = tt
behind_by P number (Handshake source options ∷ ms) all = behind_shake P (eqb source number) ms (behind number ms) all.1 (behind_by P number ms all.1)
behind_by P number (Data chunk sent_at bytes ∷ ms) all = behind_by P number ms all.1
behind_by P number (Ack span delay ∷ ms) all = behind_by P number ms all.1
behind_by P number (Have span ∷ ms) all = behind_by P number ms all.1
behind_by P number (Integrity span digest ∷ ms) all = behind_by P number ms all.1
behind_by P number (Pex4 address port ∷ ms) all = behind_by P number ms all.1
behind_by P number (PexReq ∷ ms) all = behind_by P number ms all.1
behind_by P number (Request span ∷ ms) all = behind_by P number ms all.1
behind_by P number (Cancel span ∷ ms) all = behind_by P number ms all.1
behind_by P number (Choke ∷ ms) all = behind_by P number ms all.1
behind_by P number (Unchoke ∷ ms) all = behind_by P number ms all.1
behind_by P number (Pex6 address port ∷ ms) all = behind_by P number ms all.1

pub heard_by : (P : Message → Type 0) (d : Descriptor) (life : Life) (is_opening : Bool) (r : Record) → AllByRecursion P (read d r).messages.read → AllByRecursion P (heard_in d life is_opening r)
heard_by P d life is_opening r all =
    behind_shake P (is_opening && not life.is_dialled && greets d life r) (drop 1 (read d r).messages.read) (cond (comes_on d life r) (read d r).messages.read [])
    (drop_all_by P (read d r).messages.read all) (behind_shake P (comes_on d life r) (read d r).messages.read [] all tt)

pub said_by : (P : Message → Type 0) (d : Descriptor) (life : Life) (r : Record) → AllByRecursion P (read d r).messages.read → AllByRecursion P (said_in d life r)
said_by P d life r all =
    behind_shake P (not (goes_to life.address r)) []
    (cond (is_number life.remote (read d r).channel) (read d r).messages.read (cond (is_number 0 (read d r).channel) (behind life.local (read d r).messages.read) [])) tt
    (behind_shake P (is_number life.remote (read d r).channel) (read d r).messages.read (cond (is_number 0 (read d r).channel) (behind life.local (read d r).messages.read) []) all
    (behind_shake P (is_number 0 (read d r).channel) (behind life.local (read d r).messages.read) [] (behind_by P life.local (read d r).messages.read all) tt))

-- ---- and of the lines of its story

abbrev pub AllLines : (Message → Type 0) → List Line → Type 0
AllLines P [] = Unit {0}
AllLines P (Heard now m ∷ before) = P m × AllLines P before
AllLines P (Said now m ∷ before) = P m × AllLines P before
AllLines P (Taken now ∷ before) = AllLines P before

hear_by : (P : Message → Type 0) (now : ℕ) (ms : List Message) (lines : List Line) → AllByRecursion P ms → AllLines P lines → AllLines P (hear now ms lines)
hear_by P now [] lines all more = more
hear_by P now (m ∷ ms) lines all more = hear_by P now ms (Heard now m ∷ lines) all.1 (all.0, more)

say_by : (P : Message → Type 0) (now : ℕ) (ms : List Message) (lines : List Line) → AllByRecursion P ms → AllLines P lines → AllLines P (say now ms lines)
say_by P now [] lines all more = more
say_by P now (m ∷ ms) lines all more = say_by P now ms (Said now m ∷ lines) all.1 (all.0, more)

told_by : (P : Message → Type 0) (d : Descriptor) (life : Life) (is_opening : Bool) (now : ℕ) (r : Record) (lines : List Line)
    → AllByRecursion P (read d r).messages.read → AllLines P lines → AllLines P (told d life is_opening now r lines)
told_by P d life is_opening now (Received at sender bytes) lines all more =
    hear_by P now (heard_in d life is_opening (Received at sender bytes)) lines (heard_by P d life is_opening (Received at sender bytes) all) more
told_by P d life is_opening now (Quiet at) lines all more = more
told_by P d life is_opening now (Sent moment receiver bytes) lines all more =
    say_by P now (said_in d life (Sent moment receiver bytes)) lines (said_by P d life (Sent moment receiver bytes) all) more

either_lines : (P : Message → Type 0) (b : Bool) (lines : List Line) → AllLines P lines → AllLines P (cond b lines [])
either_lines P true lines all = all
either_lines P false lines all = tt

pub story_by : (P : Message → Type 0) (d : Descriptor) (life : Life) (past : List Record) → AllByRecursion (λ r. AllByRecursion P (read d r).messages.read) past
    → AllLines P (story d life past)
story_by P d life [] all = tt
story_by P d life (r ∷ before) all =
    either_lines P (leb life.opening (length before)) (told d life (eqb life.opening (length before)) (now (r ∷ before)) r (story d life before))
    (told_by P d life (eqb life.opening (length before)) (now (r ∷ before)) r (story d life before) all.0 (story_by P d life before all.1))

pub earlier_by : (P : Record → Type 0) (past : List Record) → AllByRecursion P past → AllByRecursion P (earlier past)
earlier_by P [] all = tt
earlier_by P (Received at sender bytes ∷ before) all = all.1
earlier_by P (Quiet at ∷ before) all = all.1
earlier_by P (Sent moment receiver bytes ∷ before) all = earlier_by P before all.1

-- ---- two numbers alike

asks_alike : (i j : ℕ) (c : Bool) (m : Message) (x y : Bool) → IsAlike i j m → x ≡ y → asked_by i c m x ≡ asked_by j c m y
asks_alike i j c (Handshake source options) x y e s = s
asks_alike i j c (Data chunk sent_at bytes) x y e s = s
asks_alike i j c (Ack span delay) x y e s = s
asks_alike i j c (Have span) x y e s = s
asks_alike i j c (Integrity span digest) x y e s = s
asks_alike i j c (Pex4 address port) x y e s = s
asks_alike i j c PexReq x y e s = s
asks_alike i j c (Request span) x y e s = ap (λ (b : Bool). (b && not c) || x) e ∙ ap (λ (b : Bool). (within span j && not c) || b) s
asks_alike i j c (Cancel span) x y e s = ap (λ (b : Bool). not b && x) e ∙ ap (λ (b : Bool). not (within span j) && b) s
asks_alike i j c Choke x y e s = s
asks_alike i j c Unchoke x y e s = s
asks_alike i j c (Pex6 address port) x y e s = s

ends_alike : (i j : ℕ) (m : Message) (x y : Bool) → IsAlike i j m → x ≡ y → asked_after i m x ≡ asked_after j m y
ends_alike i j (Handshake source options) x y e s = s
ends_alike i j (Data chunk sent_at bytes) x y e s = ap (λ (b : Bool). not b && x) e ∙ ap (λ (b : Bool). not (eqb chunk j) && b) s
ends_alike i j (Ack span delay) x y e s = s
ends_alike i j (Have span) x y e s = s
ends_alike i j (Integrity span digest) x y e s = s
ends_alike i j (Pex4 address port) x y e s = s
ends_alike i j PexReq x y e s = s
ends_alike i j (Request span) x y e s = s
ends_alike i j (Cancel span) x y e s = s
ends_alike i j Choke x y e s = refl
ends_alike i j Unchoke x y e s = s
ends_alike i j (Pex6 address port) x y e s = s

pub asked_alike : (i j : ℕ) (lines : List Line) → AllLines (IsAlike i j) lines → asked i lines ≡ asked j lines
asked_alike i j [] all = refl
asked_alike i j (Heard now m ∷ before) all = asks_alike i j (choked before) m (asked i before) (asked j before) all.0 (asked_alike i j before all.1)
asked_alike i j (Said now m ∷ before) all = ends_alike i j m (asked i before) (asked j before) all.0 (asked_alike i j before all.1)
asked_alike i j (Taken now ∷ before) all = asked_alike i j before all

has_alike : (i j : ℕ) (m : Message) → IsAlike i j m → has_in i m ≡ has_in j m
has_alike i j (Handshake source options) e = refl
has_alike i j (Data chunk sent_at bytes) e = refl
has_alike i j (Ack span delay) e = refl
has_alike i j (Have span) e = e
has_alike i j (Integrity span digest) e = refl
has_alike i j (Pex4 address port) e = refl
has_alike i j PexReq e = refl
has_alike i j (Request span) e = refl
has_alike i j (Cancel span) e = refl
has_alike i j Choke e = refl
has_alike i j Unchoke e = refl
has_alike i j (Pex6 address port) e = refl

pub told_alike : (i j : ℕ) (lines : List Line) → AllLines (IsAlike i j) lines → is_told_of i lines ≡ is_told_of j lines
told_alike i j [] all = refl
told_alike i j (Heard now m ∷ before) all = told_alike i j before all.1
told_alike i j (Said now m ∷ before) all =
    ap (λ (b : Bool). b || is_told_of i before) (has_alike i j m all.0) ∙ ap (λ (b : Bool). has_in j m || b) (told_alike i j before all.1)
told_alike i j (Taken now ∷ before) all = told_alike i j before all

news_alike : (i j : ℕ) (ms : List Message) → AllByRecursion (IsAlike i j) ms → announces i ms ≡ announces j ms
news_alike i j [] all = refl
news_alike i j (Handshake source options ∷ ms) all = news_alike i j ms all.1
news_alike i j (Data chunk sent_at bytes ∷ ms) all = news_alike i j ms all.1
news_alike i j (Ack span delay ∷ ms) all = ap (λ (b : Bool). b || announces i ms) all.0 ∙ ap (λ (b : Bool). within span j || b) (news_alike i j ms all.1)
news_alike i j (Have span ∷ ms) all = ap (λ (b : Bool). b || announces i ms) all.0 ∙ ap (λ (b : Bool). within span j || b) (news_alike i j ms all.1)
news_alike i j (Integrity span digest ∷ ms) all = news_alike i j ms all.1
news_alike i j (Pex4 address port ∷ ms) all = news_alike i j ms all.1
news_alike i j (PexReq ∷ ms) all = news_alike i j ms all.1
news_alike i j (Request span ∷ ms) all = news_alike i j ms all.1
news_alike i j (Cancel span ∷ ms) all = news_alike i j ms all.1
news_alike i j (Choke ∷ ms) all = news_alike i j ms all.1
news_alike i j (Unchoke ∷ ms) all = news_alike i j ms all.1
news_alike i j (Pex6 address port ∷ ms) all = news_alike i j ms all.1

pub announced_alike : (d : Descriptor) (i j : ℕ) (past : List Record) → AreAlike d i j past → is_announced d i past ≡ is_announced d j past
announced_alike d i j [] all = refl
announced_alike d i j (Received at sender bytes ∷ before) all = announced_alike d i j before all.1
announced_alike d i j (Quiet at ∷ before) all = announced_alike d i j before all.1
announced_alike d i j (Sent moment receiver bytes ∷ before) all =
    ap (λ (b : Bool). b || is_announced d i before) (news_alike i j (read d (Sent moment receiver bytes)).messages.read all.0)
    ∙ ap (λ (b : Bool). announces j (read d (Sent moment receiver bytes)).messages.read || b) (announced_alike d i j before all.1)

-- ---- what is owed

heard_alike : (i j : ℕ) (c : Bool) (ms : List Message) (x y : Bool) → AllByRecursion (IsAlike i j) ms → x ≡ y → asked_after_heard i c ms x ≡ asked_after_heard j c ms y
heard_alike i j c [] x y all s = s
heard_alike i j c (m ∷ ms) x y all s = heard_alike i j c ms (asked_by i c m x) (asked_by j c m y) all.1 (asks_alike i j c m x y all.0 s)

said_alike : (i j : ℕ) (ms : List Message) (x y : Bool) → AllByRecursion (IsAlike i j) ms → x ≡ y → asked_after_said i ms x ≡ asked_after_said j ms y
said_alike i j [] x y all s = s
said_alike i j (m ∷ ms) x y all s = said_alike i j ms (asked_after i m x) (asked_after j m y) all.1 (ends_alike i j m x y all.0 s)

after_alike : (d : Descriptor) (life : Life) (i j : ℕ) (is_opening c : Bool) (r : Record) (x y : Bool) → AreAlikeIn d i j r → x ≡ y
    → owed_after d life i is_opening c r x ≡ owed_after d life j is_opening c r y
after_alike d life i j is_opening c (Received at sender bytes) x y all s =
    heard_alike i j c (heard_in d life is_opening (Received at sender bytes)) x y (heard_by (IsAlike i j) d life is_opening (Received at sender bytes) all) s
after_alike d life i j is_opening c (Quiet at) x y all s = s
after_alike d life i j is_opening c (Sent moment receiver bytes) x y all s =
    said_alike i j (said_in d life (Sent moment receiver bytes)) x y (said_by (IsAlike i j) d life (Sent moment receiver bytes) all) s

pub owed_alike : (d : Descriptor) (life : Life) (i j : ℕ) (past : List Record) → AreAlike d i j past → is_owed d life i past ≡ is_owed d life j past
owed_alike d life i j [] all = refl
owed_alike d life i j (r ∷ before) all =
    let same = leb life.opening (length before) in
    let opens = eqb life.opening (length before) in
    let barred = choked (story d life before) || not (is_announced d j before) in
    ap (λ (b : Bool). cond same (owed_after d life i opens (choked (story d life before) || not b) r (is_owed d life i before)) false) (announced_alike d i j before all.1)
    ∙ ap (λ (b : Bool). cond same b false) (after_alike d life i j opens barred r (is_owed d life i before) (is_owed d life j before) all.0 (owed_alike d life i j before all.1))

-- ---- one entry more

pub alike_more : (d : Descriptor) (i j : ℕ) (xs : List Entry) (n : ℕ) (x : Entry) (bytes : List ℕ) → n < length xs → x ≡ get_or xs n x → bytes ≡ bytes_of (record_of x)
    → AllByRecursion (IsAlike i j) (all d bytes) → AreAlike d i j (first n xs) → AreAlike d i j (first (n + 1) xs)
alike_more d i j xs n x bytes lt is same here before =
    subst (λ (rs : List Record). AreAlike d i j rs) (sym (one_more xs n x lt is))
    (subst (λ (bs : List ℕ). AllByRecursion (IsAlike i j) (all d bs)) same here, before)

-- ---- a number is alike to itself

one_self : (i : ℕ) (m : Message) → IsAlike i i m
one_self i (Handshake source options) = tt
one_self i (Data chunk sent_at bytes) = refl
one_self i (Ack span delay) = refl
one_self i (Have span) = refl
one_self i (Integrity span digest) = tt
one_self i (Pex4 address port) = tt
one_self i PexReq = tt
one_self i (Request span) = refl
one_self i (Cancel span) = refl
one_self i Choke = tt
one_self i Unchoke = tt
one_self i (Pex6 address port) = tt

all_self : (i : ℕ) (ms : List Message) → AllByRecursion (IsAlike i i) ms
all_self i [] = tt
all_self i (m ∷ ms) = (one_self i m, all_self i ms)

pub alike_self : (d : Descriptor) (i : ℕ) (past : List Record) → AreAlike d i i past
alike_self d i [] = tt
alike_self d i (r ∷ past) = (all_self i (read d r).messages.read, alike_self d i past)

pub alike_same : (d : Descriptor) (i j : ℕ) (past : List Record) → i ≡ j → AreAlike d i j past
alike_same d i j past e = subst (λ (n : ℕ). AreAlike d i n past) e (alike_self d i past)
