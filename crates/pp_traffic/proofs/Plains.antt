-- Plain channels, and one record more.
use Rattle.std.proofs.Common.{◌≡◌, ◌⊎◌, inl, inr, ⊎_elim, ℕ, ◌<◌, ◌≤◌, ltb, leb, eqb, Bool, true, false, cond, not, ◌&&◌, ◌||◌, List, [], ◌∷◌, ◌++◌, length, drop, refl, sym, ◌∙◌, ap, subst, arith, append_assoc}
use Rattle.std.proofs.lemmas.Bool.{and_parts, and_from, or_cases, or_left, or_right, or_parts, cases_Bool, both_ways, cond-true, cond-false, leb-true, eqb-true, le-leb, cases_order, false_from_ne_true}
use Rattle.std.specs.Prelude.{MatchBool}
use Rattle.std.specs.List.{list_any}
use Rattle.std.proofs.lemmas.List.{length-append}
use Rattle.pp_terms.specs.format.Traffic.{Address, Record, Received, Quiet, Sent}
use Rattle.pp_terms.specs.format.Descriptor.{Descriptor}
use Rattle.pp_terms.specs.format.Messages.{Message, Handshake, Data, Ack, Have, Integrity, Pex4, PexReq, Request, Cancel, Choke, Unchoke, Pex6}
use Rattle.pp_traffic.specs.Past.{now, now_at, read, comes_from, goes_to, is_event, is_number, some_since, some_until, is_at}
use Rattle.pp_traffic.specs.Life.{Life, greets, answers, closes_on, begins_fitting}
use Rattle.pp_traffic.specs.Plain.{is_handshake, concerns, greets_once, asks_anew, first_since, none_until_first, heard_at, is_in_time, is_timely, IsPlainAnswer, IsPlainDial, IsPlainNow}
use Rattle.pp_traffic.specs.Places.{StandsFrom, StandsBefore}
use Rattle.pp_traffic.proofs.Standing.{found_since, stands_since, found_at, stands_until}
use Rattle.pp_traffic.proofs.PlainPlaces.{only_from}

-- no record stands from the end on
pub none_from_end : (test : Record → Bool) (place : ℕ) (past : List Record) → length past ≤ place → some_since test place past ≡ false
none_from_end test place past le = false_from_ne_true (some_since test place past) (λ e.
    let s = found_since test place past e in
    omega (arith, s.place, ap length s.split, length-append s.after (s.here ∷ s.before)))

-- what is at a place of a longer past is at one of the past, or is the new record
pub at_either : (test : Record → Bool) (place : ℕ) (r : Record) (past : List Record) → is_at test place (r ∷ past) ≡ true
    → ((place ≡ length past) × (test r ≡ true)) ⊎ (is_at test place past ≡ true)
at_either test place r past e = ⊎_elim
    (λ here. let parts = and_parts (eqb place (length past)) (test r) here in inl (eqb-true place (length past) parts.0, parts.1))
    (λ before. inr before)
    (or_cases (eqb place (length past) && test r) (is_at test place past) e)

-- the first that passes is one that passes
pub first_some : (which test : Record → Bool) (place : ℕ) (past : List Record) → first_since which test place past ≡ true → some_since test place past ≡ true
first_some which test place [] e = absurd cc
first_some which test place (r ∷ past) e = by (some_since which place past) (λ f. first_some which test place past f) e
  where
    by : (b : Bool) → (first_since which test place past ≡ true → some_since test place past ≡ true) → cond b (first_since which test place past) (leb place (length past) && which r && test r) ≡ true
        → ((leb place (length past) && test r) || some_since test place past) ≡ true
    by true more f = or_right (leb place (length past) && test r) (some_since test place past) (more f)
    by false more f =
        let a = and_parts (leb place (length past) && which r) (test r) f in
        or_left (leb place (length past) && test r) (some_since test place past)
        (and_from (leb place (length past)) (test r) (and_parts (leb place (length past)) (which r) a.0).0 a.1)

-- the first that passes is the same one, where there was one; else it is the new record
pub first_either : (which test : Record → Bool) (place : ℕ) (r : Record) (past : List Record) → first_since which test place (r ∷ past) ≡ true
    → (first_since which test place past ≡ true) ⊎ ((some_since which place past ≡ false) × (place ≤ length past) × (which r ≡ true) × (test r ≡ true))
first_either which test place r past e = ⊎_elim
    (λ some. inl (sym (cond-true (some_since which place past) (first_since which test place past) (leb place (length past) && which r && test r) some) ∙ e))
    (λ none.
    let outer = and_parts (leb place (length past) && which r) (test r) (sym (cond-false (some_since which place past) (first_since which test place past) (leb place (length past) && which r && test r) none) ∙ e) in
    let inner = and_parts (leb place (length past)) (which r) outer.0 in
    inr (none, leb-true place (length past) inner.0, inner.1, outer.1))
    (cases_Bool (some_since which place past))

-- where the first passes, there is one
pub some_first : (which test : Record → Bool) (place : ℕ) (xs : List Record) → first_since which test place xs ≡ true → some_since which place xs ≡ true
some_first which test place [] e = absurd cc
some_first which test place (x ∷ xs) e = ⊎_elim
    (λ first. or_right (leb place (length xs) && which x) (some_since which place xs) (some_first which test place xs first))
    (λ new. or_left (leb place (length xs) && which x) (some_since which place xs) (and_from (leb place (length xs)) (which x) (le-leb place (length xs) new.1) new.2))
    (first_either which test place x xs e)

-- ---- an answered channel

-- What an answered plain channel has, apart from its reply.
pub record IsRest (d : Descriptor) (life : Life) (past : List Record) : Type 0 where
  pub only_one : none_until_first (goes_to life.address) (asks_anew d life) life.opening past ≡ true
  pub fresh : some_until (concerns life.address) life.opening past ≡ false
  pub open_still : some_since (closes_on d life) life.opening past ≡ false
  pub timely : is_timely d life past ≡ true

rest_before : (d : Descriptor) (life : Life) (r : Record) (past : List Record) → IsRest d life (r ∷ past) → IsRest d life past
rest_before d life r past is = record {
  only_one = (and_parts (not (ltb life.opening (length past) && asks_anew d life r) || some_since (goes_to life.address) life.opening past) (none_until_first (goes_to life.address) (asks_anew d life) life.opening past) is.only_one).1;
  fresh = (or_parts (ltb (length past) life.opening && concerns life.address r) (some_until (concerns life.address) life.opening past) is.fresh).1;
  open_still = (or_parts (leb life.opening (length past) && closes_on d life r) (some_since (closes_on d life) life.opening past) is.open_still).1;
  timely = (and_parts (not (is_event r && ltb life.opening (length past)) || is_in_time (now_at life.opening past) (heard_at d life (r ∷ past)) (now (r ∷ past))) (is_timely d life past) is.timely).1;
}

-- a plain channel that the peer opened, in parts
pub record IsAnswered (d : Descriptor) (life : Life) (past : List Record) : Type 0 where
  pub local_some : 0 < life.local
  pub remote_some : 0 < life.remote
  pub answered : life.is_dialled ≡ false
  pub opened : is_at (greets_once d life) life.opening past ≡ true
  pub replied : first_since (goes_to life.address) (answers d life) life.opening past ≡ true
  pub rest : IsRest d life past

pub plain_answered : (d : Descriptor) (life : Life) (past : List Record) → life.is_dialled ≡ false → IsPlainNow d life past → IsAnswered d life past
plain_answered d life past answered is =
    let begins = subst (λ (b : Bool). MatchBool b (IsPlainDial d life past past) (IsPlainAnswer d life past)) answered is.begins in
    record {
      local_some = is.local_some;
      remote_some = is.remote_some;
      answered = answered;
      opened = begins.opened;
      replied = begins.replied;
      rest = record { only_one = begins.only_one; fresh = is.fresh; open_still = is.open_still; timely = is.timely };
    }

pub answered_plain : (d : Descriptor) (life : Life) (past : List Record) → IsAnswered d life past → IsPlainNow d life past
answered_plain d life past is = record {
  local_some = is.local_some;
  remote_some = is.remote_some;
  fresh = is.rest.fresh;
  begins = subst (λ (b : Bool). MatchBool b (IsPlainDial d life past past) (IsPlainAnswer d life past)) (sym is.answered)
      (let answer : IsPlainAnswer d life past = record { opened = is.opened; replied = is.replied; only_one = is.rest.only_one } in answer);
  open_still = is.rest.open_still;
  timely = is.rest.timely;
}

-- Before one record more the channel was plain, or the record is its reply.
pub record IsReplyTo (d : Descriptor) (life : Life) (r : Record) (past : List Record) : Type 0 where
  pub answered : life.is_dialled ≡ false
  pub opened : is_at (greets_once d life) life.opening past ≡ true
  pub none_sent : some_since (goes_to life.address) life.opening past ≡ false
  pub goes : goes_to life.address r ≡ true
  pub is_answer : answers d life r ≡ true
  pub rest : IsRest d life past

pub no_goes : (a : Address) (r : Record) → comes_from a r ≡ true → goes_to a r ≡ true → ⊥
no_goes a (Received at sender bytes) c g = cc
no_goes a (Quiet at) c g = cc
no_goes a (Sent moment receiver bytes) c g = cc

greets_comes : (d : Descriptor) (life : Life) (r : Record) → greets_once d life r ≡ true → comes_from life.address r ≡ true
greets_comes d life r e =
    let once = and_parts (greets d life r) (not (list_any is_handshake (drop 1 (read d r).messages.read))) e in
    let outer = and_parts (comes_from life.address r && is_number (cond life.is_dialled life.local 0) (read d r).channel) (begins_fitting d life.is_dialled life.remote (read d r).messages.read) once.0 in
    (and_parts (comes_from life.address r) (is_number (cond life.is_dialled life.local 0) (read d r).channel) outer.0).0

pub answered_before : (d : Descriptor) (life : Life) (r : Record) (past : List Record) → IsAnswered d life (r ∷ past) → IsAnswered d life past ⊎ IsReplyTo d life r past
answered_before d life r past is = ⊎_elim
    (λ here. absurd (⊎_elim
    (λ first. both_ways (some_since (goes_to life.address) life.opening past) (none_from_end (goes_to life.address) life.opening past (omega (arith, here.0)))
    (some_first (goes_to life.address) (answers d life) life.opening past first))
    (λ new. no_goes life.address r (greets_comes d life r here.1) new.2)
    (first_either (goes_to life.address) (answers d life) life.opening r past is.replied)))
    (λ opened. ⊎_elim
    (λ first. inl (record { local_some = is.local_some; remote_some = is.remote_some; answered = is.answered; opened = opened; replied = first; rest = rest_before d life r past is.rest }))
    (λ new. inr (record { answered = is.answered; opened = opened; none_sent = new.0; goes = new.2; is_answer = new.3; rest = rest_before d life r past is.rest }))
    (first_either (goes_to life.address) (answers d life) life.opening r past is.replied))
    (at_either (greets_once d life) life.opening r past is.opened)

-- ---- dialled channels, and records that are events

-- a place of a longer past stays
pub at_later : (test : Record → Bool) (place : ℕ) (r : Record) (past : List Record) → is_at test place past ≡ true → is_at test place (r ∷ past) ≡ true
at_later test place r past e = or_right (eqb place (length past) && test r) (is_at test place past) e

pub no_answer : (d : Descriptor) (life : Life) (r : Record) → is_event r ≡ true → answers d life r ≡ true → ⊥
no_answer d life (Received at sender bytes) event e = cc
no_answer d life (Quiet at) event e = cc
no_answer d life (Sent moment receiver bytes) event e = cc

no_goes_event : (a : Address) (r : Record) → is_event r ≡ true → goes_to a r ≡ true → ⊥
no_goes_event a (Received at sender bytes) event e = cc
no_goes_event a (Quiet at) event e = cc
no_goes_event a (Sent moment receiver bytes) event e = cc

-- where nothing was dialled, no plain channel is dialled
abbrev pub NoneDialled : Descriptor → List Record → Type 0
NoneDialled d past = (life : Life) (place : ℕ) → life.is_dialled ≡ true → is_at (answers d life) place past ≡ true → ⊥

pub plain_before : (d : Descriptor) (life : Life) (r : Record) (past : List Record) → NoneDialled d past → is_event r ≡ true → IsPlainNow d life (r ∷ past) → IsPlainNow d life past
plain_before d life r past undialled event is = ⊎_elim
    (λ dialled. absurd (
    let begins = subst (λ (b : Bool). MatchBool b (IsPlainDial d life (r ∷ past) (r ∷ past)) (IsPlainAnswer d life (r ∷ past))) dialled is.begins in
    ⊎_elim (λ here. no_answer d life r event here.1) (λ before. undialled life life.opening dialled before) (at_either (answers d life) life.opening r past begins.opened)))
    (λ answered. ⊎_elim
    (λ before. answered_plain d life past before)
    (λ reply. absurd (no_goes_event life.address r event reply.goes))
    (answered_before d life r past (plain_answered d life (r ∷ past) answered is)))
    (cases_Bool life.is_dialled)

-- a plain channel before a datagram was sent, or one to which the datagram is the reply
pub plain_before_sent : (d : Descriptor) (life : Life) (r : Record) (past : List Record) → NoneDialled d (r ∷ past) → IsPlainNow d life (r ∷ past) → IsPlainNow d life past ⊎ IsReplyTo d life r past
plain_before_sent d life r past undialled is = ⊎_elim
    (λ dialled. absurd (
    let begins = subst (λ (b : Bool). MatchBool b (IsPlainDial d life (r ∷ past) (r ∷ past)) (IsPlainAnswer d life (r ∷ past))) dialled is.begins in
    undialled life life.opening dialled begins.opened))
    (λ answered. ⊎_elim
    (λ before. inl (answered_plain d life past before))
    (λ reply. inr reply)
    (answered_before d life r past (plain_answered d life (r ∷ past) answered is)))
    (cases_Bool life.is_dialled)

-- ---- one opening

greets_handshake : (d : Descriptor) (is_reply : Bool) (number : ℕ) (ms : List Message) → begins_fitting d is_reply number ms ≡ true → list_any is_handshake ms ≡ true
greets_handshake d is_reply number [] e = absurd cc
greets_handshake d is_reply number (Handshake source options ∷ ms) e = refl
greets_handshake d is_reply number (Data chunk sent_at bytes ∷ ms) e = absurd cc
greets_handshake d is_reply number (Ack span delay ∷ ms) e = absurd cc
greets_handshake d is_reply number (Have span ∷ ms) e = absurd cc
greets_handshake d is_reply number (Integrity span digest ∷ ms) e = absurd cc
greets_handshake d is_reply number (Pex4 address port ∷ ms) e = absurd cc
greets_handshake d is_reply number (PexReq ∷ ms) e = absurd cc
greets_handshake d is_reply number (Request span ∷ ms) e = absurd cc
greets_handshake d is_reply number (Cancel span ∷ ms) e = absurd cc
greets_handshake d is_reply number (Choke ∷ ms) e = absurd cc
greets_handshake d is_reply number (Unchoke ∷ ms) e = absurd cc
greets_handshake d is_reply number (Pex6 address port ∷ ms) e = absurd cc

-- a handshake that opens one channel of an address asks anew, as seen by another
pub greets_anew : (d : Descriptor) (life other : Life) (r : Record) → life.is_dialled ≡ false → other.address ≡ life.address → greets d life r ≡ true → asks_anew d other r ≡ true
greets_anew d life other r answered same e =
    let outer = and_parts (comes_from life.address r && is_number (cond life.is_dialled life.local 0) (read d r).channel) (begins_fitting d life.is_dialled life.remote (read d r).messages.read) e in
    let inner = and_parts (comes_from life.address r) (is_number (cond life.is_dialled life.local 0) (read d r).channel) outer.0 in
    and_from (comes_from other.address r && is_number 0 (read d r).channel) (list_any is_handshake (read d r).messages.read)
    (and_from (comes_from other.address r) (is_number 0 (read d r).channel)
    (subst (λ (a : Address). comes_from a r ≡ true) (sym same) inner.0)
    (subst (λ (b : Bool). is_number (cond b life.local 0) (read d r).channel ≡ true) answered inner.1))
    (greets_handshake d life.is_dialled life.remote (read d r).messages.read outer.1)

pub greets_from : (d : Descriptor) (life : Life) (r : Record) → greets d life r ≡ true → comes_from life.address r ≡ true
greets_from d life r e =
    let outer = and_parts (comes_from life.address r && is_number (cond life.is_dialled life.local 0) (read d r).channel) (begins_fitting d life.is_dialled life.remote (read d r).messages.read) e in
    (and_parts (comes_from life.address r) (is_number (cond life.is_dialled life.local 0) (read d r).channel) outer.0).0

-- A channel that awaits its reply, and another of that address that a handshake opened, were opened by one handshake.
pub one_opening : (d : Descriptor) (life other : Life) (r : Record) (past : List Record) → life.is_dialled ≡ false → other.address ≡ life.address
    → is_at (greets d life) life.opening past ≡ true → IsReplyTo d other r past → other.opening ≡ life.opening
one_opening d life other r past answered same opened reply = ⊎_elim
    (λ e. e)
    (λ apart. ⊎_elim
    (λ earlier.
    let s = found_at (greets d life) life.opening past opened in
    let later : other.opening < length s.before = omega (arith, s.place, earlier) in
    let behind = only_from (goes_to other.address) (asks_anew d other) other.opening s.after s.here s.before
    (subst (λ (xs : List Record). none_until_first (goes_to other.address) (asks_anew d other) other.opening xs ≡ true) s.split reply.rest.only_one)
    later (greets_anew d life other s.here answered same s.passes) in
    absurd (both_ways (some_since (goes_to other.address) other.opening past) reply.none_sent (goes_since other.address other.opening past s.after s.here s.before s.split behind)))
    (λ later.
    let s = found_at (greets d life) life.opening past opened in
    let stands : StandsBefore (concerns other.address) other.opening past = record {
      after = s.after;
      here = s.here;
      before = s.before;
      split = s.split;
      place = omega (arith, s.place, later);
      passes = or_left (comes_from other.address s.here) (goes_to other.address s.here) (subst (λ (a : Address). comes_from a s.here ≡ true) (sym same) (greets_from d life s.here s.passes));
    } in
    absurd (both_ways (some_until (concerns other.address) other.opening past) reply.rest.fresh (stands_until (concerns other.address) other.opening past stands)))
    apart)
    (cases_order other.opening life.opening)
  where
    goes_since : (a : Address) (place : ℕ) (xs after : List Record) (here : Record) (before : List Record) → xs ≡ after ++ here ∷ before → StandsFrom (goes_to a) place before → some_since (goes_to a) place xs ≡ true
    goes_since a place xs after here before split s = stands_since (goes_to a) place xs (record {
      after = after ++ here ∷ s.after;
      here = s.here;
      before = s.before;
      split = split ∙ ap (λ (ys : List Record). after ++ here ∷ ys) s.split ∙ sym (append_assoc after (here ∷ s.after) (s.here ∷ s.before));
      place = s.place;
      passes = s.passes;
    })
