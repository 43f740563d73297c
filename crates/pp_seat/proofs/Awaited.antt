-- Which chunks this peer waits for on a channel.
use Rattle.std.proofs.Common.{◌≡◌, ◌⊎◌, inl, inr, ℕ, ◌+◌, ◌≤◌, max, eqb, nat_le, nat_lt, Bool, true, false, cond, not, ◌&&◌, ◌||◌, Option, Some, None, List, [], ◌∷◌, ◌++◌, map, filter, refl, sym, ◌∙◌, ap, subst, arith}
use Rattle.std.specs.Prelude.{option_map, min}
use Rattle.std.proofs.lemmas.Bool.{and_parts, cases_eq, eq-eqb, le-leb, false≢true}
use Rattle.std.proofs.lemmas.Bool.Decides.{nat_tests}
use Rattle.pp_terms.specs.format.Messages.{Message, Data, Request, Cancel, Choke, Unchoke, only}
use Rattle.pp_terms.specs.tree.Range.{Span, within, has}
use Rattle.pp_traffic.specs.Story.{Line, Heard, Said, Taken, say}
use Rattle.pp_traffic.specs.Fates.{clock}
use Rattle.pp_promises.specs.OwnSide.{OwnRequest, is_lost, is_expired, is_outstanding, request_for, outstanding, without_requests, after_answer, after_heard, after_said, own_requests, waiting_time}
use Rattle.pp_requests.specs.declared.asking.Asking.{Asking}
use Rattle.pp_requests.specs.Moments.{asked_at, entry_of, ChangesEntry, is_timely, timely, passed_by, Answers, IsLeastExpired, IsLeastLost}
use Rattle.pp_requests.proofs.Chunks.{asked_entry}
use Rattle.pp_seat.specs.Lines.{names_at, is_named_at}
use Rattle.pp_seat.specs.Own.{IsSplit, asked_now, AsksAll}
use Rattle.pp_seat.specs.Follows.{IsUnsaid, IsIdleSaid}
use Rattle.pp_seat.specs.Awaited.{request_of, AreAwaited, KeepsAwaited, AllKeepAwaited, PassesHeard, PassesSaid, PassesOwn, AllPassSaid, LinesKeepAwaited, NoneAwaited}
use Rattle.pp_seat.proofs.Moments.{say_clock}
use Rattle.pp_seat.proofs.OwnRequests.{outstanding_later, alike_later, passed, alike_passed, request_without, request_passed, sent_now, request_asked, request_taken}

-- the own request of a chunk
abbrev own_of : List Asking → ℕ → Option OwnRequest
own_of own i = option_map request_of (entry_of own i)

-- ---- a line that begins and ends no wait

heard_passes : (now : ℕ) (m : Message) (qs : List OwnRequest) → PassesHeard m → after_heard now m qs ≡ qs
heard_passes now (Data chunk sent_at bytes) qs h = absurd h
heard_passes now Choke qs h = absurd h
heard_passes now _ qs h = refl

said_passes : (now : ℕ) (m : Message) (qs : List OwnRequest) → PassesSaid m → after_said now m qs ≡ qs
said_passes now (Request span) qs h = absurd h
said_passes now (Cancel span) qs h = absurd h
said_passes now _ qs h = refl

-- the request of a chunk by a line that does nothing to it
abbrev request_in : ℕ → List Line → Option OwnRequest
request_in i story = request_for i (own_requests story)

others_keep_awaited : (line : Line) (own : List Asking) → PassesOwn line → KeepsAwaited line own own
others_keep_awaited (Heard now m) own h = record {
  stays = λ story le is i. alike_later (clock story) (max now (clock story)) (own_of own i) (request_in i story) (omega arith) (is i)
      ∙ ap (λ (qs : List OwnRequest). outstanding (max now (clock story)) (request_for i qs)) (sym (heard_passes now m (own_requests story) h));
}
others_keep_awaited (Said now m) own h = record {
  stays = λ story le is i. alike_later (clock story) (max now (clock story)) (own_of own i) (request_in i story) (omega arith) (is i)
      ∙ ap (λ (qs : List OwnRequest). outstanding (max now (clock story)) (request_for i qs)) (sym (said_passes now m (own_requests story) h));
}
others_keep_awaited (Taken now) own h = record {
  stays = λ story le is i. alike_later (clock story) (max now (clock story)) (own_of own i) (request_in i story) (omega arith) (is i)
      ∙ sym (ap (outstanding (max now (clock story))) (request_taken now i story)
      ∙ outstanding_later now (max now (clock story)) (request_in i story) (omega arith));
}

pub unchoke_keeps_awaited : (now : ℕ) (own : List Asking) → KeepsAwaited (Heard now Unchoke) own own
unchoke_keeps_awaited now own = others_keep_awaited (Heard now Unchoke) own tt

-- ---- a chunk came

same_timely : (now : ℕ) (o : Option Asking) → option_map request_of (timely now o) ≡ outstanding now (option_map request_of o)
same_timely now None = refl
same_timely now (Some x) = of (is_timely now x) (is_outstanding now (request_of x)) test
  where
    test : is_timely now x ≡ is_outstanding now (request_of x)
    test = tests (x.moment + 10_000_000) x.overtaken
      where
        tests : (a c : ℕ) → (nat_lt now a && nat_lt c 3) ≡ (not (nat_le a now) && not (nat_le 3 c))
        tests a c = grind (arith, nat_tests)

    of : (b c : Bool) → b ≡ c → option_map request_of (cond b (Some x) None) ≡ cond c (Some (request_of x)) None
    of true c e = ap (λ (d : Bool). cond d (Some (request_of x)) None) e
    of false c e = ap (λ (d : Bool). cond d (Some (request_of x)) None) e

same_passed : (a o : Option Asking) → option_map request_of (passed_by a o) ≡ passed (option_map request_of a) (option_map request_of o)
same_passed None o = refl
same_passed (Some a) None = refl
same_passed (Some a) (Some x) = ap Some (of (nat_lt x.chunk a.chunk && nat_le x.moment a.moment))
  where
    of : (b : Bool) → request_of (cond b (record { chunk = x.chunk; moment = x.moment; overtaken = min (x.overtaken + 1) 3 }) x)
        ≡ cond b (record { chunk = x.chunk; asked_at = x.moment; overtaken = min (x.overtaken + 1) 3 }) (request_of x)
    of true = refl
    of false = refl

pub data_keeps_awaited : (i now sent_at : ℕ) (bytes : List ℕ) (old new : List Asking) → Answers now i old new → KeepsAwaited (Heard now (Data i sent_at bytes)) old new
data_keeps_awaited i now sent_at bytes old new answers = record { stays = stays }
  where
    stays : (story : List Line) → clock story ≤ now → AreAwaited old story → AreAwaited new (Heard now (Data i sent_at bytes) ∷ story)
    stays story le is j =
        ap (λ (o : Option Asking). outstanding (max now (clock story)) (option_map request_of o)) (answers j)
        ∙ split (eqb i j) (passed_by (timely now (entry_of old i)) (entry_of old j))
        ∙ ap (λ (o : Option OwnRequest). outstanding (max now (clock story)) (cond (eqb i j) None o)) (same_passed (timely now (entry_of old i)) (entry_of old j))
        ∙ ap (λ (o : Option OwnRequest). outstanding (max now (clock story)) (cond (eqb i j) None (passed o (own_of old j)))) same
        ∙ alike (eqb i j)
        ∙ ap (outstanding (max now (clock story))) (sym gone)
      where
        answered : Option OwnRequest
        answered = outstanding now (request_in i story)

        same : option_map request_of (timely now (entry_of old i)) ≡ answered
        same = same_timely now (entry_of old i) ∙ alike_later (clock story) now (own_of old i) (request_in i story) le (is i)

        split : (b : Bool) (o : Option Asking) → outstanding (max now (clock story)) (option_map request_of (cond b None o)) ≡ outstanding (max now (clock story)) (cond b None (option_map request_of o))
        split true o = refl
        split false o = refl

        alike : (b : Bool) → outstanding (max now (clock story)) (cond b None (passed answered (own_of old j))) ≡ outstanding (max now (clock story)) (cond b None (passed answered (request_in j story)))
        alike true = refl
        alike false = alike_passed (max now (clock story)) answered (own_of old j) (request_in j story)
            (alike_later (clock story) (max now (clock story)) (own_of old j) (request_in j story) (omega arith) (is j))

        alone : (k l : ℕ) → (nat_le k l && nat_le l k) ≡ eqb k l
        alone k l = grind (arith, nat_tests)

        swap : (a : Option OwnRequest) (b : Bool) (o : Option OwnRequest) → passed a (cond b None o) ≡ cond b None (passed a o)
        swap None b o = refl
        swap (Some a) true o = refl
        swap (Some a) false o = refl

        gone : request_for j (after_answer answered (without_requests (only i) (own_requests story))) ≡ cond (eqb i j) None (passed answered (request_in j story))
        gone = request_passed j answered (without_requests (only i) (own_requests story))
            ∙ ap (passed answered) (request_without j (only i) (own_requests story) ∙ ap (λ (b : Bool). cond b None (request_in j story)) (alone i j))
            ∙ swap answered (eqb i j) (request_in j story)

pub choke_keeps_awaited : (now : ℕ) (story : List Line) → AreAwaited [] (Heard now Choke ∷ story)
choke_keeps_awaited now story i = refl

-- ---- CANCELs and REQUESTs

said_one : (now i : ℕ) (m : Message) (own : List Asking) (story : List Line) (which : Bool) (entry : Option Asking)
    → request_for i (after_said now m (own_requests story)) ≡ cond which (option_map request_of entry) (request_in i story)
    → AreAwaited own story → outstanding (max now (clock story)) (option_map request_of (cond which entry (entry_of own i)))
    ≡ outstanding (max now (clock story)) (request_for i (after_said now m (own_requests story)))
said_one now i m own story which entry becomes is = of which ∙ ap (outstanding (max now (clock story))) (sym becomes)
  where
    of : (b : Bool) → outstanding (max now (clock story)) (option_map request_of (cond b entry (entry_of own i)))
        ≡ outstanding (max now (clock story)) (cond b (option_map request_of entry) (request_in i story))
    of true = refl
    of false = alike_later (clock story) (max now (clock story)) (own_of own i) (request_in i story) (omega arith) (is i)

cancel_keeps_awaited : (now : ℕ) (span : Span) (old new : List Asking) → ((i : ℕ) → entry_of new i ≡ cond (within span i) None (entry_of old i)) → KeepsAwaited (Said now (Cancel span)) old new
cancel_keeps_awaited now span old new gone = record {
  stays = λ story le is i. ap (λ (o : Option Asking). outstanding (max now (clock story)) (option_map request_of o)) (gone i)
      ∙ said_one now i (Cancel span) old story (within span i) None (request_without i span (own_requests story)) is;
}

pub one_cancel_keeps_awaited : (i now : ℕ) (span : Span) (old new : List Asking) → ((j : ℕ) → within span j ≡ eqb i j) → ChangesEntry i None old new → KeepsAwaited (Said now (Cancel span)) old new
one_cancel_keeps_awaited i now span old new only gone =
    cancel_keeps_awaited now span old new (λ j. gone j ∙ ap (λ (b : Bool). cond b None (entry_of old j)) (sym (only j)))

-- several that were sent: what they make of the request of a chunk, and of the clock
abbrev Becomes : (now : ℕ) → List Message → (ℕ → Bool) → (ℕ → Option OwnRequest) → Type 0
Becomes now ms which entry = (i : ℕ) (story : List Line) → request_in i (say now ms story) ≡ cond (which i) (entry i) (request_in i story)

requests_become : (now : ℕ) (spans : List Span) → Becomes now (map Request spans) (has spans) (λ i. Some (sent_now now i))
requests_become now [] i story = refl
requests_become now (x ∷ xs) i story =
    requests_become now xs i (Said now (Request x) ∷ story)
    ∙ ap (λ (o : Option OwnRequest). cond (has xs i) (Some (sent_now now i)) o) (request_asked i now x (own_requests story))
    ∙ either (within x i) (has xs i) (request_in i story)
  where
    either : (a b : Bool) (o : Option OwnRequest) → cond b (Some (sent_now now i)) (cond a (Some (sent_now now i)) o) ≡ cond (a || b) (Some (sent_now now i)) o
    either true true o = refl
    either true false o = refl
    either false b o = refl

cancels_become : (now : ℕ) (spans : List Span) → Becomes now (map Cancel spans) (has spans) (λ i. None)
cancels_become now [] i story = refl
cancels_become now (x ∷ xs) i story =
    cancels_become now xs i (Said now (Cancel x) ∷ story)
    ∙ ap (λ (o : Option OwnRequest). cond (has xs i) None o) (request_without i x (own_requests story))
    ∙ either (within x i) (has xs i) (request_in i story)
  where
    either : (a b : Bool) (o : Option OwnRequest) → cond b None (cond a None o) ≡ cond (a || b) None o
    either true true o = refl
    either true false o = refl
    either false b o = refl

become_keep : (now : ℕ) (ms : List Message) (range : Span) (spans : List Span) (entry : ℕ → Option Asking) (old new : List Asking) → IsSplit range spans
    → Becomes now ms (has spans) (λ i. option_map request_of (entry i)) → ((i : ℕ) → entry_of new i ≡ cond (within range i) (entry i) (entry_of old i))
    → AllKeepAwaited now ms old new
become_keep now ms range spans entry old new split becomes changed = record { stays = stays }
  where
    stays : (story : List Line) → clock story ≤ now → AreAwaited old story → AreAwaited new (say now ms story)
    stays story le is i =
        ap (λ (o : Option Asking). outstanding (clock (say now ms story)) (option_map request_of o)) (changed i) ∙ of (within range i)
        ∙ sym (ap (outstanding (clock (say now ms story))) (becomes i story ∙ ap (λ (b : Bool). cond b (option_map request_of (entry i)) (request_in i story)) (split i)))
      where
        of : (b : Bool) → outstanding (clock (say now ms story)) (option_map request_of (cond b (entry i) (entry_of old i)))
            ≡ outstanding (clock (say now ms story)) (cond b (option_map request_of (entry i)) (request_in i story))
        of true = refl
        of false = alike_later (clock story) (clock (say now ms story)) (own_of old i) (request_in i story) (say_clock now ms story) (is i)

pub requests_keep_awaited : (now : ℕ) (range : Span) (spans : List Span) (old new : List Asking) → IsSplit range spans → AsksAll range now old new → AllKeepAwaited now (map Request spans) old new
requests_keep_awaited now range spans old new split all =
    become_keep now (map Request spans) range spans (λ i. Some (asked_now i now)) old new split (requests_become now spans) all.entered

cancels_keep_awaited : (now : ℕ) (range : Span) (spans : List Span) (old new : List Asking) → IsSplit range spans
    → ((i : ℕ) → entry_of new i ≡ cond (within range i) None (entry_of old i)) → AllKeepAwaited now (map Cancel spans) old new
cancels_keep_awaited now range spans old new split gone =
    become_keep now (map Cancel spans) range spans (λ i. None) old new split (cancels_become now spans) gone

said_to : (now : ℕ) (m : Message) (story : List Line) → clock story ≤ now → clock (Said now m ∷ story) ≤ now
said_to now m story le = omega arith

passed_keep_awaited : (now : ℕ) (ms : List Message) (own : List Asking) → AllPassSaid ms → AllKeepAwaited now ms own own
passed_keep_awaited now [] own h = record { stays = λ story le is. is }
passed_keep_awaited now (m ∷ ms) own h = record {
  stays = λ story le is.
      (passed_keep_awaited now ms own h.1).stays (Said now m ∷ story) (said_to now m story le) ((others_keep_awaited (Said now m) own h.0).stays story le is);
}

all_said_to : (now : ℕ) (ms : List Message) (story : List Line) → clock story ≤ now → clock (say now ms story) ≤ now
all_said_to now [] story le = le
all_said_to now (m ∷ ms) story le = all_said_to now ms (Said now m ∷ story) (said_to now m story le)

twice_keep_awaited : (now : ℕ) (ms more : List Message) (old mid new : List Asking) → AllKeepAwaited now ms old mid → AllKeepAwaited now more mid new
    → AllKeepAwaited now (ms ++ more) old new
twice_keep_awaited now ms more old mid new first second = record {
  stays = λ story le is. subst (λ (s : List Line). AreAwaited new s) (sym (said_twice ms story))
      (second.stays (say now ms story) (all_said_to now ms story le) (first.stays story le is));
}
  where
    said_twice : (xs : List Message) (story : List Line) → say now (xs ++ more) story ≡ say now more (say now xs story)
    said_twice [] story = refl
    said_twice (x ∷ xs) story = said_twice xs (Said now x ∷ story)

-- ---- one that isn't outstanding leaves

gone_keeps_awaited : (i : ℕ) (story : List Line) (old new : List Asking) → ChangesEntry i None old new → outstanding (clock story) (own_of old i) ≡ None
    → AreAwaited old story → AreAwaited new story
gone_keeps_awaited i story old new gone dead is j =
    ap (λ (o : Option Asking). outstanding (clock story) (option_map request_of o)) (gone j) ∙ of (cases_eq i j) ∙ is j
  where
    of : (i ≡ j) ⊎ (i ≡ j → ⊥) → outstanding (clock story) (option_map request_of (cond (eqb i j) None (entry_of old j))) ≡ outstanding (clock story) (own_of old j)
    of (inl same) =
        ap (λ (b : Bool). outstanding (clock story) (option_map request_of (cond b None (entry_of old j)))) (eq-eqb i j same)
        ∙ sym (ap (λ (k : ℕ). outstanding (clock story) (own_of old k)) (sym same) ∙ dead)
    of (inr ne) = let other : eqb i j ≡ false = grind (arith, nat_tests) in
        ap (λ (b : Bool). outstanding (clock story) (option_map request_of (cond b None (entry_of old j)))) other

dead_request : (n : ℕ) (q : OwnRequest) → (is_expired n q ≡ true) ⊎ (is_lost q ≡ true) → outstanding n (Some q) ≡ None
dead_request n q (inl e) = ap (λ (b : Bool). cond (not b && not (is_lost q)) (Some q) None) e
dead_request n q (inr e) = ap (λ (b : Bool). cond (not (is_expired n q) && not b) (Some q) None) e ∙ of (not (is_expired n q))
  where
    of : (b : Bool) → cond (b && false) (Some q) None ≡ None
    of true = refl
    of false = refl

pub expired_keeps_awaited : (now i : ℕ) (story : List Line) (old new : List Asking) → IsLeastExpired old now i → ChangesEntry i None old new → now ≤ clock story
    → AreAwaited old story → AreAwaited new story
expired_keeps_awaited now i story old new least gone come =
    gone_keeps_awaited i story old new gone (by (entry_of old i) refl (sym (asked_entry old i) ∙ least.asked))
  where
    by : (o : Option Asking) → entry_of old i ≡ o → option_map (λ (x : Asking). x.moment) o ≡ Some least.moment → outstanding (clock story) (own_of old i) ≡ None
    by None is e = absurd (cc)
    by (Some x) is e =
        let moment : x.moment ≡ least.moment = cc in
        let old_one = least.expired in
        ap (λ (o : Option Asking). outstanding (clock story) (option_map request_of o)) is
        ∙ dead_request (clock story) (request_of x) (inl (le-leb (x.moment + waiting_time) (clock story) (omega arith)))

pub lost_keeps_awaited : (i : ℕ) (story : List Line) (old new : List Asking) → IsLeastLost old i → ChangesEntry i None old new
    → AreAwaited old story → AreAwaited new story
lost_keeps_awaited i story old new least gone =
    gone_keeps_awaited i story old new gone
    (ap (λ (o : Option Asking). outstanding (clock story) (option_map request_of o)) least.there
    ∙ dead_request (clock story) (request_of least.entry) (inr least.lost))

pub lines_keep_awaited : LinesKeepAwaited
lines_keep_awaited = record {
  others = others_keep_awaited;
  answer = data_keeps_awaited;
  choke = choke_keeps_awaited;
  cancel = cancel_keeps_awaited;
  cancels = cancels_keep_awaited;
  requests = requests_keep_awaited;
  passed = passed_keep_awaited;
  twice = twice_keep_awaited;
  expired = expired_keeps_awaited;
  lost = lost_keeps_awaited;
}

-- ---- where a seat begins

unsaid_requests : (story : List Line) → IsUnsaid story → own_requests story ≡ []
unsaid_requests [] h = refl
unsaid_requests (Heard now m ∷ story) h = ap (after_heard now m) (unsaid_requests story h) ∙ of m
  where
    of : (x : Message) → after_heard now x [] ≡ []
    of (Data chunk sent_at bytes) = refl
    of Choke = refl
    of _ = refl
unsaid_requests (Said now m ∷ story) h = ap (after_said now m) (unsaid_requests story h.1) ∙ of m h.0
  where
    of : (x : Message) → IsIdleSaid x → after_said now x [] ≡ []
    of (Request span) idle = absurd idle
    of (Cancel span) idle = refl
    of _ idle = refl
unsaid_requests (Taken now ∷ story) h = ap (λ (qs : List OwnRequest). filter (is_outstanding now) qs) (unsaid_requests story h)

unsaid_unnamed : (i moment : ℕ) (story : List Line) → IsUnsaid story → is_named_at i moment story ≡ false
unsaid_unnamed i moment [] h = refl
unsaid_unnamed i moment (Heard now m ∷ story) h = unsaid_unnamed i moment story h
unsaid_unnamed i moment (Said now m ∷ story) h = of m h.0 ∙ unsaid_unnamed i moment story h.1
  where
    of : (m : Message) → IsIdleSaid m → (names_at i moment now m || is_named_at i moment story) ≡ is_named_at i moment story
    of (Request span) idle = absurd idle
    of _ idle = refl
unsaid_unnamed i moment (Taken now ∷ story) h = unsaid_unnamed i moment story h

pub none_awaited : NoneAwaited
none_awaited f lost s t begins h i =
    by (entry_of s.own i) refl ∙ sym (ap (λ (qs : List OwnRequest). outstanding (clock t.story) (request_for i qs)) (unsaid_requests t.story begins.unsaid))
  where
    by : (o : Option Asking) → entry_of s.own i ≡ o → outstanding (clock t.story) (own_of s.own i) ≡ None
    by None is = ap (λ (o : Option Asking). outstanding (clock t.story) (option_map request_of o)) is
    by (Some x) is =
        let asked : asked_at s.own i ≡ Some x.moment = asked_entry s.own i ∙ ap (λ (o : Option Asking). option_map (λ (y : Asking). y.moment) o) is in
        let p = and_parts (nat_lt i f.chunks) (is_named_at i x.moment t.story) (h.own.named i x.moment asked) in
        absurd (false≢true (sym (unsaid_unnamed i x.moment t.story begins.unsaid) ∙ p.1))
