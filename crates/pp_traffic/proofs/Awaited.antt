-- Plain channels of either kind, and one record more.
use Rattle.std.proofs.Common.{◌≡◌, ◌⊎◌, inl, inr, ⊎_elim, ℕ, ◌+◌, ◌<◌, ◌≤◌, ltb, leb, Bool, true, false, cond, not, ◌&&◌, ◌||◌, Option, Some, List, ◌∷◌, length, refl, sym, ◌∙◌, ap, subst, arith}
use Rattle.std.proofs.lemmas.Bool.{and_parts, and_from, and_right, or_cases, or_left, or_right, or_parts, or_from, and_cases, cases_Bool, both_ways, cond-true, cond-false, le-leb, le-ltb, not-true, not_from_false, lt-ltb}
use Rattle.std.specs.Prelude.{MatchBool}
use Rattle.pp_terms.specs.format.Traffic.{Address, Record, Received, Quiet, Sent}
use Rattle.pp_terms.specs.format.Descriptor.{Descriptor}
use Rattle.pp_traffic.specs.Past.{now, now_at, read, comes_from, goes_to, is_event, is_number, some_since, some_until, is_at}
use Rattle.pp_traffic.specs.Life.{Life, greets, answers, comes_on, closes_on, begins_as, begins_fitting}
use Rattle.pp_traffic.specs.Plain.{concerns, greets_once, asks_anew, first_since, none_until_first, heard_at, is_in_time, is_timely, silence_time, IsPlainAnswer, IsPlainDial, IsPlain, IsPlainNow, IsPlainUpTo}
use Rattle.pp_traffic.specs.Awaiting.{AwaitsAnswer, AwaitsDial, Awaits, IsReply, IsReplyOfPeer, is_in_time_at, PlainGrows}
use Rattle.std.proofs.lemmas.List.{length-append}
use Rattle.pp_traffic.specs.Places.{StandsBefore}
use Rattle.pp_traffic.proofs.Standing.{found_since, stands_until}
use Rattle.pp_traffic.proofs.OneMore.{at_within}
use Rattle.pp_traffic.proofs.PlainPlaces.{each_way}
use Rattle.pp_traffic.proofs.Plains.{at_either, at_later, first_either, some_first, greets_from, no_goes, no_answer, plain_answered, answered_plain, answered_before}

-- ---- parts of a longer past, in the past

until_before : (test : Record → Bool) (place : ℕ) (r : Record) (past : List Record) → some_until test place (r ∷ past) ≡ false → some_until test place past ≡ false
until_before test place r past e = (or_parts (ltb (length past) place && test r) (some_until test place past) e).1

since_before : (test : Record → Bool) (place : ℕ) (r : Record) (past : List Record) → some_since test place (r ∷ past) ≡ false → some_since test place past ≡ false
since_before test place r past e = (or_parts (leb place (length past) && test r) (some_since test place past) e).1

since_here : (test : Record → Bool) (place : ℕ) (r : Record) (past : List Record) → place ≤ length past → some_since test place (r ∷ past) ≡ false → test r ≡ false
since_here test place r past le e = ⊎_elim
    (λ early. absurd (both_ways (leb place (length past)) early (le-leb place (length past) le)))
    (λ isnt. isnt)
    (and_cases (leb place (length past)) (test r) (or_parts (leb place (length past) && test r) (some_since test place past) e).0)

none_before : (which test : Record → Bool) (place : ℕ) (r : Record) (past : List Record) → none_until_first which test place (r ∷ past) ≡ true → none_until_first which test place past ≡ true
none_before which test place r past e = (and_parts (not (ltb place (length past) && test r) || some_since which place past) (none_until_first which test place past) e).1

timely_before : (d : Descriptor) (life : Life) (r : Record) (past : List Record) → is_timely d life (r ∷ past) ≡ true → is_timely d life past ≡ true
timely_before d life r past e = (and_parts (not (is_event r && ltb life.opening (length past)) || is_in_time_at d life r past) (is_timely d life past) e).1

timely_at : (d : Descriptor) (life : Life) (r : Record) (past : List Record) → life.opening < length past → is_event r ≡ true → is_timely d life (r ∷ past) ≡ true → is_in_time_at d life r past ≡ true
timely_at d life r past lt event e = ⊎_elim
    (λ isnt. absurd (both_ways (is_event r && ltb life.opening (length past)) (not-true (is_event r && ltb life.opening (length past)) isnt)
    (and_from (is_event r) (ltb life.opening (length past)) event (lt-ltb life.opening (length past) lt))))
    (λ timely. timely)
    (or_cases (not (is_event r && ltb life.opening (length past))) (is_in_time_at d life r past)
    (and_parts (not (is_event r && ltb life.opening (length past)) || is_in_time_at d life r past) (is_timely d life past) e).0)

-- ---- and back

until_later : (test : Record → Bool) (place : ℕ) (r : Record) (past : List Record) → place ≤ length past → some_until test place past ≡ false → some_until test place (r ∷ past) ≡ false
until_later test place r past le e =
    or_from (ltb (length past) place && test r) (some_until test place past)
    (ap (λ (b : Bool). b && test r) (le-ltb (length past) place le)) e

since_later : (test : Record → Bool) (place : ℕ) (r : Record) (past : List Record) → test r ≡ false → some_since test place past ≡ false → some_since test place (r ∷ past) ≡ false
since_later test place r past isnt e = or_from (leb place (length past) && test r) (some_since test place past) (and_right (leb place (length past)) (test r) isnt) e

first_later : (which test : Record → Bool) (place : ℕ) (r : Record) (past : List Record) → first_since which test place past ≡ true → first_since which test place (r ∷ past) ≡ true
first_later which test place r past e =
    cond-true (some_since which place past) (first_since which test place past) (leb place (length past) && which r && test r) (some_first which test place past e) ∙ e

first_new : (which test : Record → Bool) (place : ℕ) (r : Record) (past : List Record) → some_since which place past ≡ false → place ≤ length past → which r ≡ true → test r ≡ true
    → first_since which test place (r ∷ past) ≡ true
first_new which test place r past none le is passes =
    cond-false (some_since which place past) (first_since which test place past) (leb place (length past) && which r && test r) none
    ∙ and_from (leb place (length past) && which r) (test r) (and_from (leb place (length past)) (which r) (le-leb place (length past) le) is) passes

timely_later : (d : Descriptor) (life : Life) (r : Record) (past : List Record) → (is_event r ≡ false) ⊎ (is_in_time_at d life r past ≡ true) → is_timely d life past ≡ true
    → is_timely d life (r ∷ past) ≡ true
timely_later d life r past early e =
    and_from (not (is_event r && ltb life.opening (length past)) || is_in_time_at d life r past) (is_timely d life past)
    (⊎_elim
    (λ isnt. or_left (not (is_event r && ltb life.opening (length past))) (is_in_time_at d life r past)
    (ap (λ (b : Bool). not (b && ltb life.opening (length past))) isnt))
    (λ timely. or_right (not (is_event r && ltb life.opening (length past))) (is_in_time_at d life r past) timely)
    early)
    e

-- ---- which channels have begun

opened_within : (d : Descriptor) (life : Life) (A B : Record → Bool) (past : List Record) (P Q : Type 0) → MatchBool life.is_dialled P Q
    → (P → is_at A life.opening past ≡ true) → (Q → is_at B life.opening past ≡ true) → life.opening < length past
opened_within d life A B past P Q begins left right = one_of life.is_dialled begins
  where
    one_of : (b : Bool) → MatchBool b P Q → life.opening < length past
    one_of true p = at_within A life.opening past (left p)
    one_of false q = at_within B life.opening past (right q)

pub plain_began : (d : Descriptor) (life : Life) (reach past : List Record) → IsPlain d life reach past → life.opening < length past
plain_began d life reach past is =
    opened_within d life (answers d life) (greets_once d life) past (IsPlainDial d life reach past) (IsPlainAnswer d life past) is.begins (λ p. p.opened) (λ q. q.opened)

awaits_began : (d : Descriptor) (life : Life) (past : List Record) → Awaits d life past → life.opening < length past
awaits_began d life past is =
    opened_within d life (answers d life) (greets_once d life) past (AwaitsDial d life past) (AwaitsAnswer d life past) is.begins (λ p. p.opened) (λ q. q.opened)

-- ---- what was so before

-- the parts that both kinds have
record IsOpen (d : Descriptor) (life : Life) (past : List Record) : Type 0 where
  local_some : 0 < life.local
  remote_some : 0 < life.remote
  fresh : some_until (concerns life.address) life.opening past ≡ false
  open_still : some_since (closes_on d life) life.opening past ≡ false
  timely : is_timely d life past ≡ true

open_before : (d : Descriptor) (life : Life) (r : Record) (past : List Record) → IsOpen d life (r ∷ past) → IsOpen d life past
open_before d life r past is = record {
  local_some = is.local_some;
  remote_some = is.remote_some;
  fresh = until_before (concerns life.address) life.opening r past is.fresh;
  open_still = since_before (closes_on d life) life.opening r past is.open_still;
  timely = timely_before d life r past is.timely;
}

open_later : (d : Descriptor) (life : Life) (r : Record) (past : List Record) → life.opening ≤ length past → closes_on d life r ≡ false
    → (is_event r ≡ false) ⊎ (is_in_time_at d life r past ≡ true) → IsOpen d life past → IsOpen d life (r ∷ past)
open_later d life r past le none early is = record {
  local_some = is.local_some;
  remote_some = is.remote_some;
  fresh = until_later (concerns life.address) life.opening r past le is.fresh;
  open_still = since_later (closes_on d life) life.opening r past none is.open_still;
  timely = timely_later d life r past early is.timely;
}

open_of : (d : Descriptor) (life : Life) (reach past : List Record) → IsPlain d life reach past → IsOpen d life past
open_of d life reach past is = record { local_some = is.local_some; remote_some = is.remote_some; fresh = is.fresh; open_still = is.open_still; timely = is.timely }

awaits_open : (d : Descriptor) (life : Life) (past : List Record) → Awaits d life past → IsOpen d life past
awaits_open d life past is = record { local_some = is.local_some; remote_some = is.remote_some; fresh = is.fresh; open_still = is.open_still; timely = is.timely }

plain_by : (d : Descriptor) (life : Life) (reach past : List Record) → IsOpen d life past
    → MatchBool life.is_dialled (IsPlainDial d life reach past) (IsPlainAnswer d life past) → IsPlain d life reach past
plain_by d life reach past is begins =
    record { local_some = is.local_some; remote_some = is.remote_some; fresh = is.fresh; begins = begins; open_still = is.open_still; timely = is.timely }

awaits_by : (d : Descriptor) (life : Life) (past : List Record) → IsOpen d life past
    → MatchBool life.is_dialled (AwaitsDial d life past) (AwaitsAnswer d life past) → Awaits d life past
awaits_by d life past is begins =
    record { local_some = is.local_some; remote_some = is.remote_some; fresh = is.fresh; begins = begins; open_still = is.open_still; timely = is.timely }

-- one arm of a choice by the kind of opening
at_dial : (b : Bool) (P Q : Type 0) → b ≡ true → MatchBool b P Q → P
at_dial b P Q e m = subst (λ (x : Bool). MatchBool x P Q) e m

at_answer : (b : Bool) (P Q : Type 0) → b ≡ false → MatchBool b P Q → Q
at_answer b P Q e m = subst (λ (x : Bool). MatchBool x P Q) e m

by_dial : (b : Bool) (P Q : Type 0) → b ≡ true → P → MatchBool b P Q
by_dial b P Q e p = subst (λ (x : Bool). MatchBool x P Q) (sym e) p

by_answer : (b : Bool) (P Q : Type 0) → b ≡ false → Q → MatchBool b P Q
by_answer b P Q e q = subst (λ (x : Bool). MatchBool x P Q) (sym e) q

-- what came from an address before the opening concerns it
came_before : (life : Life) (past : List Record) → life.opening ≡ length past → some_since (comes_from life.address) 0 past ≡ true → some_until (concerns life.address) life.opening past ≡ true
came_before life past at e =
    let s = found_since (comes_from life.address) 0 past e in
    let stands : StandsBefore (concerns life.address) life.opening past = record {
      after = s.after;
      here = s.here;
      before = s.before;
      split = s.split;
      place = omega (arith, at, ap length s.split, length-append s.after (s.here ∷ s.before));
      passes = or_left (comes_from life.address s.here) (goes_to life.address s.here) s.passes;
    } in
    stands_until (concerns life.address) life.opening past stands

pub answers_goes : (d : Descriptor) (life : Life) (r : Record) → answers d life r ≡ true → goes_to life.address r ≡ true
answers_goes d life r e =
    let outer = and_parts (goes_to life.address r && is_number (cond life.is_dialled 0 life.remote) (read d r).channel) (begins_as life.local (read d r).messages.read) e in
    (and_parts (goes_to life.address r) (is_number (cond life.is_dialled 0 life.remote) (read d r).channel) outer.0).0

-- a reply of the peer comes on the channel
reply_comes_on : (d : Descriptor) (life : Life) (r : Record) → life.is_dialled ≡ true → greets d life r ≡ true → comes_on d life r ≡ true
reply_comes_on d life r dialled e =
    let outer = and_parts (comes_from life.address r && is_number (cond life.is_dialled life.local 0) (read d r).channel) (begins_fitting d life.is_dialled life.remote (read d r).messages.read) e in
    let inner = and_parts (comes_from life.address r) (is_number (cond life.is_dialled life.local 0) (read d r).channel) outer.0 in
    and_from (comes_from life.address r) (is_number life.local (read d r).channel) inner.0
    (subst (λ (b : Bool). is_number (cond b life.local 0) (read d r).channel ≡ true) dialled inner.1)

-- it is in time when it comes
heard_in_time : (d : Descriptor) (life : Life) (r : Record) (past : List Record) → life.opening < length past → comes_on d life r ≡ true → is_in_time_at d life r past ≡ true
heard_in_time d life r past lt on =
    let heard : heard_at d life (r ∷ past) ≡ Some (now (r ∷ past)) =
    cond-true (ltb life.opening (length past) && comes_on d life r) (Some (now (r ∷ past))) (heard_at d life past)
    (and_from (ltb life.opening (length past)) (comes_on d life r) (lt-ltb life.opening (length past) lt) on) in
    subst (λ (o : Option ℕ). is_in_time (now_at life.opening past) o (now (r ∷ past)) ≡ true) (sym heard)
    (lt-ltb (now (r ∷ past)) (now (r ∷ past) + silence_time) (later_on (now (r ∷ past))))
  where
    later_on : (n : ℕ) → n < n + silence_time
    later_on n = omega arith

-- What a channel was before, of which a longer past says that it is plain: plain, or it awaited this reply.
abbrev WasPlain : Descriptor → Life → Record → List Record → Type 0
WasPlain d life r past = IsPlainNow d life past ⊎ (IsReplyOfPeer d life r past ⊎ IsReply d life r past)

dial_before : (d : Descriptor) (life : Life) (r : Record) (past : List Record) → life.is_dialled ≡ true → IsPlainNow d life (r ∷ past) → WasPlain d life r past
dial_before d life r past dialled is =
    let dial = at_dial life.is_dialled (IsPlainDial d life (r ∷ past) (r ∷ past)) (IsPlainAnswer d life (r ∷ past)) dialled is.begins in
    let before = open_before d life r past (open_of d life (r ∷ past) (r ∷ past) is) in
    ⊎_elim
    (λ here. absurd (⊎_elim
    (λ first. both_ways (some_until (concerns life.address) life.opening past) before.fresh
    (came_before life past here.0 (some_first (comes_from life.address) (greets d life) 0 past first)))
    (λ new. no_goes life.address r new.2 (answers_goes d life r here.1))
    (first_either (comes_from life.address) (greets d life) 0 r past dial.replied)))
    (λ opened. ⊎_elim
    (λ first. inl (plain_by d life past past before (by_dial life.is_dialled (IsPlainDial d life past past) (IsPlainAnswer d life past) dialled
    (let dial : IsPlainDial d life past past = record { opened = opened; replied = first } in dial))))
    (λ new. inr (inl (
      dialled,
      awaits_by d life past before (by_dial life.is_dialled (AwaitsDial d life past) (AwaitsAnswer d life past) dialled
          (let awaited : AwaitsDial d life past = record { opened = opened; none_came = new.0 } in awaited)),
      new.3,
    )))
    (first_either (comes_from life.address) (greets d life) 0 r past dial.replied))
    (at_either (answers d life) life.opening r past dial.opened)

answer_before : (d : Descriptor) (life : Life) (r : Record) (past : List Record) → life.is_dialled ≡ false → IsPlainNow d life (r ∷ past) → WasPlain d life r past
answer_before d life r past answered is =
    let before = open_before d life r past (open_of d life (r ∷ past) (r ∷ past) is) in
    ⊎_elim
    (λ was. inl (answered_plain d life past was))
    (λ reply. inr (inr (
      answered,
      awaits_by d life past before (by_answer life.is_dialled (AwaitsDial d life past) (AwaitsAnswer d life past) answered
          (let awaited : AwaitsAnswer d life past = record { opened = reply.opened; none_sent = reply.none_sent; only_one = reply.rest.only_one } in awaited)),
      reply.is_answer,
    )))
    (answered_before d life r past (plain_answered d life (r ∷ past) answered is))

pub was_plain : (d : Descriptor) (life : Life) (r : Record) (past : List Record) → IsPlainNow d life (r ∷ past) → WasPlain d life r past
was_plain d life r past is = ⊎_elim
    (λ dialled. dial_before d life r past dialled is)
    (λ answered. answer_before d life r past answered is)
    (cases_Bool life.is_dialled)

-- where a reply was awaited, or had come, the channel had begun
was_begun : (d : Descriptor) (life : Life) (r : Record) (past : List Record) → WasPlain d life r past → life.opening < length past
was_begun d life r past (inl is) = plain_began d life past past is
was_begun d life r past (inr (inl is)) = awaits_began d life past is.1
was_begun d life r past (inr (inr is)) = awaits_began d life past is.1

-- ---- what stays so

pub stays_plain : (d : Descriptor) (life : Life) (r : Record) (past : List Record) → closes_on d life r ≡ false
    → (is_event r ≡ false) ⊎ (is_in_time_at d life r past ≡ true) → IsPlainNow d life past → IsPlainNow d life (r ∷ past)
stays_plain d life r past none early is =
    let began = plain_began d life past past is in
    plain_by d life (r ∷ past) (r ∷ past) (open_later d life r past (omega (arith, began)) none early (open_of d life past past is))
    (each_way life.is_dialled (IsPlainDial d life past past) (IsPlainAnswer d life past) (IsPlainDial d life (r ∷ past) (r ∷ past)) (IsPlainAnswer d life (r ∷ past))
    (λ dial. record { opened = at_later (answers d life) life.opening r past dial.opened; replied = first_later (comes_from life.address) (greets d life) 0 r past dial.replied })
    (λ answer. record {
      opened = at_later (greets_once d life) life.opening r past answer.opened;
      replied = first_later (goes_to life.address) (answers d life) life.opening r past answer.replied;
      only_one = and_from (not (ltb life.opening (length past) && asks_anew d life r) || some_since (goes_to life.address) life.opening past)
          (none_until_first (goes_to life.address) (asks_anew d life) life.opening past)
          (or_right (not (ltb life.opening (length past) && asks_anew d life r)) (some_since (goes_to life.address) life.opening past)
          (some_first (goes_to life.address) (answers d life) life.opening past answer.replied))
          answer.only_one;
    })
    is.begins)

pub reply_of_peer : (d : Descriptor) (life : Life) (r : Record) (past : List Record) → closes_on d life r ≡ false → IsReplyOfPeer d life r past → IsPlainNow d life (r ∷ past)
reply_of_peer d life r past none is =
    let began = awaits_began d life past is.1 in
    let timely = heard_in_time d life r past began (reply_comes_on d life r is.0 is.2) in
    let awaited = at_dial life.is_dialled (AwaitsDial d life past) (AwaitsAnswer d life past) is.0 is.1.begins in
    plain_by d life (r ∷ past) (r ∷ past) (open_later d life r past (omega (arith, began)) none (inr timely) (awaits_open d life past is.1))
    (by_dial life.is_dialled (IsPlainDial d life (r ∷ past) (r ∷ past)) (IsPlainAnswer d life (r ∷ past)) is.0
    (let dial : IsPlainDial d life (r ∷ past) (r ∷ past) = record {
      opened = at_later (answers d life) life.opening r past awaited.opened;
      replied = first_new (comes_from life.address) (greets d life) 0 r past awaited.none_came (omega arith) (greets_from d life r is.2) is.2;
    } in dial))

pub reply_to_peer : (d : Descriptor) (life : Life) (moment : ℕ) (receiver : Address) (bytes : List ℕ) (past : List Record)
    → IsReply d life (Sent moment receiver bytes) past → IsPlainNow d life (Sent moment receiver bytes ∷ past)
reply_to_peer d life moment receiver bytes past is =
    let r = Sent moment receiver bytes in
    let began = awaits_began d life past is.1 in
    let awaited = at_answer life.is_dialled (AwaitsDial d life past) (AwaitsAnswer d life past) is.0 is.1.begins in
    plain_by d life (r ∷ past) (r ∷ past) (open_later d life r past (omega (arith, began)) refl (inl refl) (awaits_open d life past is.1))
    (by_answer life.is_dialled (IsPlainDial d life (r ∷ past) (r ∷ past)) (IsPlainAnswer d life (r ∷ past)) is.0
    (let answer : IsPlainAnswer d life (r ∷ past) = record {
      opened = at_later (greets_once d life) life.opening r past awaited.opened;
      replied = first_new (goes_to life.address) (answers d life) life.opening r past awaited.none_sent (omega (arith, began)) (answers_goes d life r is.2) is.2;
      only_one = and_from (not (ltb life.opening (length past) && asks_anew d life r) || some_since (goes_to life.address) life.opening past)
          (none_until_first (goes_to life.address) (asks_anew d life) life.opening past)
          (or_left (not (ltb life.opening (length past) && asks_anew d life r)) (some_since (goes_to life.address) life.opening past)
          (not_from_false (ltb life.opening (length past) && asks_anew d life r) (and_right (ltb life.opening (length past)) (asks_anew d life r) refl)))
          awaited.only_one;
    } in answer))

-- ---- by the kind of record

no_greeting : (d : Descriptor) (life : Life) (r : Record) (past : List Record) → comes_from life.address r ≡ false → IsReplyOfPeer d life r past → ⊥
no_greeting d life r past isnt is = both_ways (comes_from life.address r) isnt (greets_from d life r is.2)

no_reply : (d : Descriptor) (life : Life) (r : Record) (past : List Record) → is_event r ≡ true → IsReply d life r past → ⊥
no_reply d life r past event is = no_answer d life r event is.2

received_parts : (d : Descriptor) (life : Life) (r : Record) (past : List Record) → is_event r ≡ true → IsPlainNow d life (r ∷ past)
    → (closes_on d life r ≡ false) × ((IsPlainNow d life past × (is_in_time_at d life r past ≡ true)) ⊎ IsReplyOfPeer d life r past)
received_parts d life r past event is =
    let was = was_plain d life r past is in
    let began = was_begun d life r past was in (
      since_here (closes_on d life) life.opening r past (omega (arith, began)) is.open_still,
      ⊎_elim
          (λ plain. inl (plain, timely_at d life r past began event is.timely))
          (λ replies. ⊎_elim (λ of_peer. inr of_peer) (λ reply. absurd (no_reply d life r past event reply)) replies)
          was,
    )

quiet_parts : (d : Descriptor) (life : Life) (at : ℕ) (past : List Record) → IsPlainNow d life (Quiet at ∷ past)
    → IsPlainNow d life past × (is_in_time_at d life (Quiet at) past ≡ true)
quiet_parts d life at past is = ⊎_elim
    (λ plain. plain)
    (λ of_peer. absurd (no_greeting d life (Quiet at) past refl of_peer))
    (received_parts d life (Quiet at) past refl is).1

sent_parts : (d : Descriptor) (life : Life) (moment : ℕ) (receiver : Address) (bytes : List ℕ) (past : List Record)
    → IsPlainNow d life (Sent moment receiver bytes ∷ past) → IsPlainNow d life past ⊎ IsReply d life (Sent moment receiver bytes) past
sent_parts d life moment receiver bytes past is = ⊎_elim
    (λ plain. inl plain)
    (λ replies. ⊎_elim (λ of_peer. absurd (no_greeting d life (Sent moment receiver bytes) past refl of_peer)) (λ reply. inr reply) replies)
    (was_plain d life (Sent moment receiver bytes) past is)

-- ---- up to the next record

up_to_parts : (d : Descriptor) (life : Life) (r : Record) (past : List Record) → IsPlainUpTo d life past r → IsPlainNow d life past ⊎ IsReplyOfPeer d life r past
up_to_parts d life r past is =
    let before = open_of d life (r ∷ past) past is in
    ⊎_elim
    (λ dialled.
    let dial = at_dial life.is_dialled (IsPlainDial d life (r ∷ past) past) (IsPlainAnswer d life past) dialled is.begins in
    ⊎_elim
    (λ first. inl (plain_by d life past past before (by_dial life.is_dialled (IsPlainDial d life past past) (IsPlainAnswer d life past) dialled
    (let now_is : IsPlainDial d life past past = record { opened = dial.opened; replied = first } in now_is))))
    (λ new. inr (
      dialled,
      awaits_by d life past before (by_dial life.is_dialled (AwaitsDial d life past) (AwaitsAnswer d life past) dialled
          (let awaited : AwaitsDial d life past = record { opened = dial.opened; none_came = new.0 } in awaited)),
      new.3,
    ))
    (first_either (comes_from life.address) (greets d life) 0 r past dial.replied))
    (λ answered. inl (plain_by d life past past before (by_answer life.is_dialled (IsPlainDial d life past past) (IsPlainAnswer d life past) answered
    (at_answer life.is_dialled (IsPlainDial d life (r ∷ past) past) (IsPlainAnswer d life past) answered is.begins))))
    (cases_Bool life.is_dialled)

up_to_from : (d : Descriptor) (life : Life) (r : Record) (past : List Record) → IsPlainNow d life past ⊎ IsReplyOfPeer d life r past → IsPlainUpTo d life past r
up_to_from d life r past (inl is) =
    plain_by d life (r ∷ past) past (open_of d life past past is)
    (each_way life.is_dialled (IsPlainDial d life past past) (IsPlainAnswer d life past) (IsPlainDial d life (r ∷ past) past) (IsPlainAnswer d life past)
    (λ dial. record { opened = dial.opened; replied = first_later (comes_from life.address) (greets d life) 0 r past dial.replied })
    (λ answer. answer)
    is.begins)
up_to_from d life r past (inr is) =
    let awaited = at_dial life.is_dialled (AwaitsDial d life past) (AwaitsAnswer d life past) is.0 is.1.begins in
    plain_by d life (r ∷ past) past (awaits_open d life past is.1)
    (by_dial life.is_dialled (IsPlainDial d life (r ∷ past) past) (IsPlainAnswer d life past) is.0
    (let dial : IsPlainDial d life (r ∷ past) past = record {
      opened = awaited.opened;
      replied = first_new (comes_from life.address) (greets d life) 0 r past awaited.none_came (omega arith) (greets_from d life r is.2) is.2;
    } in dial))

-- ---- wherever a reply is looked for

-- where the peer opened, it doesn't matter
answered_anywhere : (d : Descriptor) (life : Life) (reach other past : List Record) → life.is_dialled ≡ false → IsPlain d life reach past → IsPlain d life other past
answered_anywhere d life reach other past answered is =
    plain_by d life other past (open_of d life reach past is) (by_answer life.is_dialled (IsPlainDial d life other past) (IsPlainAnswer d life past) answered
    (at_answer life.is_dialled (IsPlainDial d life reach past) (IsPlainAnswer d life past) answered is.begins))

pub plain_earlier : (d : Descriptor) (life : Life) (reach : List Record) (r : Record) (past : List Record) → IsPlain d life reach (r ∷ past)
    → IsPlain d life reach past ⊎ (IsReply d life r past ⊎ ((life.is_dialled ≡ true) × (life.opening ≡ length past) × (answers d life r ≡ true)))
plain_earlier d life reach r past is = ⊎_elim
    (λ dialled.
    let dial = at_dial life.is_dialled (IsPlainDial d life reach (r ∷ past)) (IsPlainAnswer d life (r ∷ past)) dialled is.begins in
    ⊎_elim
    (λ here. inr (inr (dialled, here.0, here.1)))
    (λ opened. inl (plain_by d life reach past (open_before d life r past (open_of d life reach (r ∷ past) is))
    (by_dial life.is_dialled (IsPlainDial d life reach past) (IsPlainAnswer d life past) dialled
    (let before : IsPlainDial d life reach past = record { opened = opened; replied = dial.replied } in before))))
    (at_either (answers d life) life.opening r past dial.opened))
    (λ answered. ⊎_elim
    (λ plain. inl (answered_anywhere d life past reach past answered plain))
    (λ replies. ⊎_elim (λ of_peer. absurd (both_ways life.is_dialled answered of_peer.0)) (λ reply. inr (inl reply)) replies)
    (answer_before d life r past answered (answered_anywhere d life reach (r ∷ past) (r ∷ past) answered is)))
    (cases_Bool life.is_dialled)

-- ---- a channel that awaits its reply

awaited_before : (d : Descriptor) (life : Life) (r : Record) (past : List Record) → Awaits d life (r ∷ past)
    → Awaits d life past ⊎ ((life.opening ≡ length past) × (MatchBool life.is_dialled (answers d life r ≡ true) (greets_once d life r ≡ true)))
awaited_before d life r past is =
    let before = open_before d life r past (awaits_open d life (r ∷ past) is) in
    ⊎_elim
    (λ dialled.
    let dial = at_dial life.is_dialled (AwaitsDial d life (r ∷ past)) (AwaitsAnswer d life (r ∷ past)) dialled is.begins in
    ⊎_elim
    (λ here. inr (here.0, by_dial life.is_dialled (answers d life r ≡ true) (greets_once d life r ≡ true) dialled here.1))
    (λ opened. inl (awaits_by d life past before (by_dial life.is_dialled (AwaitsDial d life past) (AwaitsAnswer d life past) dialled
    (let awaited : AwaitsDial d life past = record { opened = opened; none_came = since_before (comes_from life.address) 0 r past dial.none_came } in awaited))))
    (at_either (answers d life) life.opening r past dial.opened))
    (λ answered.
    let answer = at_answer life.is_dialled (AwaitsDial d life (r ∷ past)) (AwaitsAnswer d life (r ∷ past)) answered is.begins in
    ⊎_elim
    (λ here. inr (here.0, by_answer life.is_dialled (answers d life r ≡ true) (greets_once d life r ≡ true) answered here.1))
    (λ opened. inl (awaits_by d life past before (by_answer life.is_dialled (AwaitsDial d life past) (AwaitsAnswer d life past) answered
    (let awaited : AwaitsAnswer d life past = record {
      opened = opened;
      none_sent = since_before (goes_to life.address) life.opening r past answer.none_sent;
      only_one = none_before (goes_to life.address) (asks_anew d life) life.opening r past answer.only_one;
    } in awaited))))
    (at_either (greets_once d life) life.opening r past answer.opened))
    (cases_Bool life.is_dialled)

-- Where one record more came, and the channel is plain: it was, up to that record.
pub plain_up_to : (d : Descriptor) (life : Life) (r : Record) (past : List Record) → is_event r ≡ true → IsPlainNow d life (r ∷ past) → IsPlainUpTo d life past r
plain_up_to d life r past event is = up_to_from d life r past (⊎_elim
    (λ plain. inl plain.0)
    (λ of_peer. inr of_peer)
    (received_parts d life r past event is).1)

pub plain_grows : PlainGrows
plain_grows = record {
  received = λ d life at sender bytes past.
      let r = Received at sender bytes in
      (received_parts d life r past refl, λ is. ⊎_elim (λ plain. stays_plain d life r past is.0 (inr plain.1) plain.0) (λ of_peer. reply_of_peer d life r past is.0 of_peer) is.1);
  quiet = λ d life at past. (quiet_parts d life at past, λ is. stays_plain d life (Quiet at) past refl (inr is.1) is.0);
  sent = λ d life moment receiver bytes past.
      let r = Sent moment receiver bytes in
      (sent_parts d life moment receiver bytes past, λ is. ⊎_elim (λ plain. stays_plain d life r past refl (inl refl) plain) (λ reply. reply_to_peer d life moment receiver bytes past reply) is);
  up_to = λ d life r past. (up_to_parts d life r past, up_to_from d life r past);
  earlier = plain_earlier;
  awaited = awaited_before;
}
