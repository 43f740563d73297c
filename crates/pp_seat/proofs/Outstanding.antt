-- The requests that are outstanding, by the story that is read.
use Rattle.std.proofs.Common.{◌≡◌, ℕ, ◌+◌, ◌≤◌, max, eqb, nat_le, Bool, true, false, cond, not, ◌&&◌, Option, Some, None, List, [], ◌∷◌, length, refl, sym, ◌∙◌, ap, arith}
use Rattle.std.specs.Prelude.{option_map}
use Rattle.std.proofs.lemmas.Bool.{and_from}
use Rattle.std.proofs.lemmas.Bool.Decides.{nat_tests}
use Rattle.pp_terms.specs.format.Traffic.{Record, Received, Quiet, Sent}
use Rattle.pp_terms.specs.format.Descriptor.{Descriptor}
use Rattle.pp_terms.specs.format.Messages.{Message, Request, Cancel}
use Rattle.pp_terms.specs.tree.Range.{within}
use Rattle.pp_traffic.specs.Past.{now}
use Rattle.pp_traffic.specs.Life.{Life}
use Rattle.pp_traffic.specs.Story.{Line, Heard, Said, Taken, heard_in, said_in, hear, say, told}
use Rattle.pp_traffic.specs.Fates.{clock}
use Rattle.pp_promises.specs.OwnSide.{OwnRequest, is_lost, is_expired, request_for, outstanding, own_requests, after_said, waiting_time}
use Rattle.pp_promises.specs.ReadStory.{with_unread, is_read, read_story}
use Rattle.pp_requests.specs.declared.asking.Asking.{Asking}
use Rattle.pp_requests.specs.Moments.{asked_at, entry_of, NoneExpired, NoneLost}
use Rattle.pp_requests.proofs.Chunks.{asked_entry}
use Rattle.pp_seat.specs.Awaited.{request_of, OwnIsAsking}
use Rattle.pp_seat.proofs.OwnRequests.{outstanding_later, alike_later, request_without, sent_now, request_asked, request_taken}

-- ---- the clock of what was read

pub heard_by : (at : ℕ) (ms : List Message) (story : List Line) → clock (hear at ms story) ≤ max at (clock story)
heard_by at [] story = omega arith
heard_by at (m ∷ ms) story = let rest = heard_by at ms (Heard at m ∷ story) in omega arith

pub said_by : (at : ℕ) (ms : List Message) (story : List Line) → clock (say at ms story) ≤ max at (clock story)
said_by at [] story = omega arith
said_by at (m ∷ ms) story = let rest = said_by at ms (Said at m ∷ story) in omega arith

told_by : (d : Descriptor) (life : Life) (o : Bool) (at : ℕ) (r : Record) (story : List Line) → clock (told d life o at r story) ≤ max at (clock story)
told_by d life o at (Received moment sender bytes) story = let most = heard_by at (heard_in d life o (Received moment sender bytes)) story in omega arith
told_by d life o at (Quiet moment) story = omega arith
told_by d life o at (Sent moment receiver bytes) story = said_by at (said_in d life (Sent moment receiver bytes)) story

unread_by : (d : Descriptor) (life : Life) (o : Bool) (at : ℕ) (r : Record) (story : List Line) → clock (with_unread d life o at r story) ≤ max at (clock story)
unread_by d life o at (Received moment sender bytes) story = omega arith
unread_by d life o at (Quiet moment) story = omega arith
unread_by d life o at (Sent moment receiver bytes) story = said_by at (said_in d life (Sent moment receiver bytes)) story

pub now_grows : (r : Record) (b : List Record) → now b ≤ now (r ∷ b)
now_grows (Received at sender bytes) b = omega arith
now_grows (Quiet at) b = omega arith
now_grows (Sent moment receiver bytes) b = omega arith

-- what was read has come no further than the clock
pub clock_now : (d : Descriptor) (life : Life) (past : List Record) → clock (read_story d life past) ≤ now past
clock_now d life [] = omega arith
clock_now d life (r ∷ b) = by (nat_le life.opening (length b)) (is_read d life (r ∷ b)) (clock_now d life b) (now_grows r b)
  where
    by : (x y : Bool) → clock (read_story d life b) ≤ now b → now b ≤ now (r ∷ b)
        → clock (cond x (cond y (told d life (eqb life.opening (length b)) (now (r ∷ b)) r (read_story d life b))
        (with_unread d life (eqb life.opening (length b)) (now (r ∷ b)) r (read_story d life b))) []) ≤ now (r ∷ b)
    by true true low less = let most = told_by d life (eqb life.opening (length b)) (now (r ∷ b)) r (read_story d life b) in omega arith
    by true false low less = let most = unread_by d life (eqb life.opening (length b)) (now (r ∷ b)) r (read_story d life b) in omega arith
    by false y low less = omega arith

-- ---- all requests of what was read are outstanding

abbrev AreOutstanding : ℕ → List Line → Type 0
AreOutstanding n story = (i : ℕ) → outstanding n (request_for i (own_requests story)) ≡ request_for i (own_requests story)

taken_out : (n : ℕ) (story : List Line) → AreOutstanding n (Taken n ∷ story)
taken_out n story i = ap (outstanding n) (request_taken n i story) ∙ outstanding_later n n (request_for i (own_requests story)) (omega arith) ∙ sym (request_taken n i story)

new_out : (n i : ℕ) → outstanding n (Some (sent_now n i)) ≡ Some (sent_now n i)
new_out n i = ap (λ (b : Bool). cond (b && true) (Some (sent_now n i)) None) (early n)
  where
    early : (m : ℕ) → not (nat_le (m + 10_000_000) m) ≡ true
    early m = grind (arith, nat_tests)

said_out : (n : ℕ) (m : Message) (qs : List OwnRequest) (i : ℕ) → outstanding n (request_for i qs) ≡ request_for i qs
    → outstanding n (request_for i (after_said n m qs)) ≡ request_for i (after_said n m qs)
said_out n (Request span) qs i out =
    ap (outstanding n) (request_asked i n span qs) ∙ of (within span i) ∙ sym (request_asked i n span qs)
  where
    of : (b : Bool) → outstanding n (cond b (Some (sent_now n i)) (request_for i qs)) ≡ cond b (Some (sent_now n i)) (request_for i qs)
    of true = new_out n i
    of false = out
said_out n (Cancel span) qs i out =
    ap (outstanding n) (request_without i span qs) ∙ of (within span i) ∙ sym (request_without i span qs)
  where
    of : (b : Bool) → outstanding n (cond b None (request_for i qs)) ≡ cond b None (request_for i qs)
    of true = refl
    of false = out
said_out n _ qs i out = out

all_said_out : (n : ℕ) (ms : List Message) (story : List Line) → AreOutstanding n story → AreOutstanding n (say n ms story)
all_said_out n [] story h = h
all_said_out n (m ∷ ms) story h = all_said_out n ms (Said n m ∷ story) (λ i. said_out n m (own_requests story) i (h i))

pub are_outstanding : (d : Descriptor) (life : Life) (past : List Record) (i : ℕ)
    → outstanding (now past) (request_for i (own_requests (read_story d life past))) ≡ request_for i (own_requests (read_story d life past))
are_outstanding d life [] = λ i. refl
are_outstanding d life (Received at sender bytes ∷ b) = by (nat_le life.opening (length b)) (is_read d life (Received at sender bytes ∷ b))
  where
    by : (x y : Bool) → AreOutstanding (max at (now b))
        (cond x (cond y (told d life (eqb life.opening (length b)) (max at (now b)) (Received at sender bytes) (read_story d life b))
        (with_unread d life (eqb life.opening (length b)) (max at (now b)) (Received at sender bytes) (read_story d life b))) [])
    by true true = taken_out (max at (now b)) (hear (max at (now b)) (heard_in d life (eqb life.opening (length b)) (Received at sender bytes)) (read_story d life b))
    by true false = taken_out (max at (now b)) (read_story d life b)
    by false y = λ i. refl
are_outstanding d life (Quiet at ∷ b) = by (nat_le life.opening (length b)) (is_read d life (Quiet at ∷ b))
  where
    by : (x y : Bool) → AreOutstanding (max at (now b))
        (cond x (cond y (told d life (eqb life.opening (length b)) (max at (now b)) (Quiet at) (read_story d life b))
        (with_unread d life (eqb life.opening (length b)) (max at (now b)) (Quiet at) (read_story d life b))) [])
    by true true = taken_out (max at (now b)) (read_story d life b)
    by true false = taken_out (max at (now b)) (read_story d life b)
    by false y = λ i. refl
are_outstanding d life (Sent moment receiver bytes ∷ b) = by (nat_le life.opening (length b)) (is_read d life (Sent moment receiver bytes ∷ b)) (are_outstanding d life b)
  where
    by : (x y : Bool) → AreOutstanding (now b) (read_story d life b) → AreOutstanding (now b)
        (cond x (cond y (told d life (eqb life.opening (length b)) (now b) (Sent moment receiver bytes) (read_story d life b))
        (with_unread d life (eqb life.opening (length b)) (now b) (Sent moment receiver bytes) (read_story d life b))) [])
    by true true h = all_said_out (now b) (said_in d life (Sent moment receiver bytes)) (read_story d life b) h
    by true false h = all_said_out (now b) (said_in d life (Sent moment receiver bytes)) (read_story d life b) h
    by false y h = λ i. refl

-- ---- own requests are outstanding

pub own_out : (n : ℕ) (own : List Asking) → NoneExpired own n → NoneLost own → (i : ℕ)
    → outstanding n (option_map request_of (entry_of own i)) ≡ option_map request_of (entry_of own i)
own_out n own early kept i = by (entry_of own i) refl
  where
    by : (o : Option Asking) → entry_of own i ≡ o → outstanding n (option_map request_of o) ≡ option_map request_of o
    by None is = refl
    by (Some x) is =
        let asked : asked_at own i ≡ Some x.moment = asked_entry own i ∙ ap (λ (o : Option Asking). option_map (λ (y : Asking). y.moment) o) is in
        let in_time : not (nat_le (x.moment + waiting_time) n) ≡ true = (let soon = early i x.moment asked in grind (arith, nat_tests)) in
        ap (λ (b : Bool). cond b (Some (request_of x)) None)
        (and_from (not (is_expired n (request_of x))) (not (is_lost (request_of x))) in_time (ap not (kept i x is)))

pub own_is_asking : OwnIsAsking
own_is_asking d life own past is none kept i =
    sym (own_out (now past) own none kept i)
    ∙ alike_later (clock (read_story d life past)) (now past) (option_map request_of (entry_of own i)) (request_for i (own_requests (read_story d life past)))
    (clock_now d life past) (is i)
    ∙ are_outstanding d life past i
