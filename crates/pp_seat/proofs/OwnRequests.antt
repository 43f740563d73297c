-- Lists of own requests as the promises have them: the request of a chunk after each step.
use Rattle.std.proofs.Common.{◌≡◌, ◌⊎◌, inl, inr, ℕ, zero, suc, ◌+◌, ◌-◌, ◌<◌, ◌≤◌, eqb, nat_le, nat_lt, Bool, true, false, cond, not, ◌&&◌, ◌||◌, Option, Some, None, List, [], ◌∷◌, ◌++◌, map, length, refl, sym, ◌∙◌, ap, arith}
use Rattle.std.specs.Prelude.{is_some, option_map, min}
use Rattle.std.specs.List.{list_any, filter, range_with_len}
use Rattle.std.proofs.lemmas.Bool.{and_from, and_parts, or_left, or_right, cases_eq, eq-eqb, false≢true}
use Rattle.std.proofs.lemmas.Bool.Decides.{nat_tests}
use Rattle.std.proofs.lemmas.List.Sums.{length-filter, count_by-le-length}
use Rattle.pp_terms.specs.format.Messages.{Message, Data, Request, Cancel, Choke, only}
use Rattle.pp_terms.specs.tree.Range.{Span, within}
use Rattle.pp_traffic.specs.Story.{Line, Heard, Said, Taken}
use Rattle.pp_promises.specs.OwnSide.{OwnRequest, losing_count, is_lost, is_expired, is_outstanding, request_for, outstanding, without_requests, overtaken_by, after_answer, after_heard, after_said, own_requests, waiting_time}

-- ---- what is outstanding

before_that : (a n later : ℕ) → n ≤ later → not (nat_le a later) ≡ true → not (nat_le a n) ≡ true
before_that a n later le e = grind (arith, nat_tests)

-- what is outstanding later was before
pub outstanding_later : (n later : ℕ) (o : Option OwnRequest) → n ≤ later → outstanding later (outstanding n o) ≡ outstanding later o
outstanding_later n later None le = refl
outstanding_later n later (Some q) le = by (is_outstanding n q) (is_outstanding later q) refl early
  where
    early : is_outstanding later q ≡ true → is_outstanding n q ≡ true
    early e =
        let p = and_parts (not (is_expired later q)) (not (is_lost q)) e in
        and_from (not (is_expired n q)) (not (is_lost q)) (before_that (q.asked_at + waiting_time) n later le p.0) p.1

    by : (t u : Bool) → is_outstanding later q ≡ u → (u ≡ true → t ≡ true) → outstanding later (cond t (Some q) None) ≡ cond (is_outstanding later q) (Some q) None
    by true u is h = refl
    by false true is h = absurd (false≢true (h refl))
    by false false is h = sym (ap (λ (b : Bool). cond b (Some q) None) is)

-- Where two are alike while they are outstanding, they are so later.
pub alike_later : (n later : ℕ) (x y : Option OwnRequest) → n ≤ later → outstanding n x ≡ outstanding n y → outstanding later x ≡ outstanding later y
alike_later n later x y le same =
    sym (outstanding_later n later x le) ∙ ap (outstanding later) same ∙ outstanding_later n later y le

-- ---- what an answer does to others

abbrev pub passed : Option OwnRequest → Option OwnRequest → Option OwnRequest
passed None x = x
passed (Some a) x = option_map (overtaken_by a) x

still_lost : (o : ℕ) → nat_le 3 o ≡ true → nat_le 3 (min (o + 1) 3) ≡ true
still_lost o e = grind (arith, nat_tests)

-- one that isn't outstanding isn't so with one more that overtook it
stays_out : (n : ℕ) (a q : OwnRequest) → is_outstanding n (overtaken_by a q) ≡ true → is_outstanding n q ≡ true
stays_out n a q = by (nat_lt q.chunk a.chunk && nat_le q.asked_at a.asked_at)
  where
    by : (t : Bool) → is_outstanding n (cond t (record { chunk = q.chunk; asked_at = q.asked_at; overtaken = min (q.overtaken + 1) losing_count }) q) ≡ true
        → is_outstanding n q ≡ true
    by true e =
        let p = and_parts (not (is_expired n q)) (not (nat_le 3 (min (q.overtaken + 1) 3))) e in
        and_from (not (is_expired n q)) (not (is_lost q)) p.0 (of (nat_le 3 q.overtaken) refl p.1)
      where
        of : (b : Bool) → nat_le 3 q.overtaken ≡ b → not (nat_le 3 (min (q.overtaken + 1) 3)) ≡ true → not b ≡ true
        of true is not_lost = absurd (false≢true (ap not (sym (still_lost q.overtaken is)) ∙ not_lost))
        of false is not_lost = refl
    by false e = e

overtaken_out : (n : ℕ) (a : OwnRequest) (x : Option OwnRequest)
    → outstanding n (option_map (overtaken_by a) (outstanding n x)) ≡ outstanding n (option_map (overtaken_by a) x)
overtaken_out n a None = refl
overtaken_out n a (Some q) = by (is_outstanding n q) (is_outstanding n (overtaken_by a q)) refl (stays_out n a q)
  where
    by : (t u : Bool) → is_outstanding n (overtaken_by a q) ≡ u → (is_outstanding n (overtaken_by a q) ≡ true → t ≡ true)
        → outstanding n (option_map (overtaken_by a) (cond t (Some q) None)) ≡ cond (is_outstanding n (overtaken_by a q)) (Some (overtaken_by a q)) None
    by true u is h = refl
    by false true is h = absurd (false≢true (h is))
    by false false is h = sym (ap (λ (b : Bool). cond b (Some (overtaken_by a q)) None) is)

pub alike_passed : (n : ℕ) (a : Option OwnRequest) (x y : Option OwnRequest) → outstanding n x ≡ outstanding n y
    → outstanding n (passed a x) ≡ outstanding n (passed a y)
alike_passed n None x y same = same
alike_passed n (Some a) x y same =
    sym (overtaken_out n a x) ∙ ap (λ (o : Option OwnRequest). outstanding n (option_map (overtaken_by a) o)) same ∙ overtaken_out n a y

-- ---- the request of a chunk

overtaken_chunk : (a q : OwnRequest) → (overtaken_by a q).chunk ≡ q.chunk
overtaken_chunk a q = of (nat_lt q.chunk a.chunk && nat_le q.asked_at a.asked_at)
  where
    of : (b : Bool) → (cond b (record { chunk = q.chunk; asked_at = q.asked_at; overtaken = min (q.overtaken + 1) losing_count }) q).chunk ≡ q.chunk
    of true = refl
    of false = refl

pub request_without : (i : ℕ) (span : Span) (qs : List OwnRequest) → request_for i (without_requests span qs) ≡ cond (within span i) None (request_for i qs)
request_without i span [] = none (within span i)
  where
    none : (b : Bool) → None ≡ cond {A = Option OwnRequest} b None None
    none true = refl
    none false = refl
request_without i span (q ∷ qs) = of (within span q.chunk) (cases_eq q.chunk i) refl (request_without i span qs)
  where
    of : (b : Bool) → (q.chunk ≡ i) ⊎ (q.chunk ≡ i → ⊥) → within span q.chunk ≡ b
        → request_for i (without_requests span qs) ≡ cond (within span i) None (request_for i qs)
        → request_for i (cond (not b) (q ∷ without_requests span qs) (without_requests span qs))
        ≡ cond (within span i) None (cond (eqb q.chunk i) (Some q) (request_for i qs))
    of true (inl same) is rest =
        let inside : within span i ≡ true = ap (within span) (sym same) ∙ is in
        rest ∙ ap (λ (b : Bool). cond b None (request_for i qs)) inside
        ∙ sym (ap (λ (b : Bool). cond b None (cond (eqb q.chunk i) (Some q) (request_for i qs))) inside)
    of true (inr ne) is rest =
        let other : eqb q.chunk i ≡ false = grind (arith, nat_tests) in
        rest ∙ sym (ap (λ (b : Bool). cond (within span i) None (cond b (Some q) (request_for i qs))) other)
    of false (inl same) is rest =
        let outside : within span i ≡ false = ap (within span) (sym same) ∙ is in
        let here : eqb q.chunk i ≡ true = eq-eqb q.chunk i same in
        ap (λ (b : Bool). cond b (Some q) (request_for i (without_requests span qs))) here
        ∙ sym (ap (λ (b : Bool). cond b None (cond (eqb q.chunk i) (Some q) (request_for i qs))) outside
        ∙ ap (λ (b : Bool). cond b (Some q) (request_for i qs)) here)
    of false (inr ne) is rest =
        let other : eqb q.chunk i ≡ false = grind (arith, nat_tests) in
        ap (λ (b : Bool). cond b (Some q) (request_for i (without_requests span qs))) other ∙ rest
        ∙ sym (ap (λ (b : Bool). cond (within span i) None (cond b (Some q) (request_for i qs))) other)

request_mapped : (i : ℕ) (a : OwnRequest) (qs : List OwnRequest) → request_for i (map (overtaken_by a) qs) ≡ option_map (overtaken_by a) (request_for i qs)
request_mapped i a [] = refl
request_mapped i a (q ∷ qs) =
    ap (λ (k : ℕ). cond (eqb k i) (Some (overtaken_by a q)) (request_for i (map (overtaken_by a) qs))) (overtaken_chunk a q)
    ∙ ap (λ (o : Option OwnRequest). cond (eqb q.chunk i) (Some (overtaken_by a q)) o) (request_mapped i a qs) ∙ of (eqb q.chunk i)
  where
    of : (b : Bool) → cond b (Some (overtaken_by a q)) (option_map (overtaken_by a) (request_for i qs))
        ≡ option_map (overtaken_by a) (cond b (Some q) (request_for i qs))
    of true = refl
    of false = refl

pub request_passed : (i : ℕ) (a : Option OwnRequest) (qs : List OwnRequest) → request_for i (after_answer a qs) ≡ passed a (request_for i qs)
request_passed i None qs = refl
request_passed i (Some a) qs = request_mapped i a qs

-- a request that is sent now
abbrev pub sent_now : (now i : ℕ) → OwnRequest
sent_now now i = record { chunk = i; asked_at = now; overtaken = 0 }

-- requests of a range of chunks, in front of others
in_front : (i now first n : ℕ) (qs : List OwnRequest) → request_for i (map (sent_now now) (range_with_len first n) ++ qs)
    ≡ cond (nat_le first i && nat_lt i (first + n)) (Some (sent_now now i)) (request_for i qs)
in_front i now first zero qs =
    let none : (nat_le first i && nat_lt i (first + 0)) ≡ false = grind (arith, nat_tests) in
    sym (ap (λ (b : Bool). cond b (Some (sent_now now i)) (request_for i qs)) none)
in_front i now first (suc n) qs =
    ap (λ (o : Option OwnRequest). cond (eqb first i) (Some (sent_now now first)) o) (in_front i now (first + 1) n qs) ∙ of (cases_eq first i)
  where
    of : (first ≡ i) ⊎ (first ≡ i → ⊥)
        → cond (eqb first i) (Some (sent_now now first)) (cond (nat_le (first + 1) i && nat_lt i (first + 1 + n)) (Some (sent_now now i)) (request_for i qs))
        ≡ cond (nat_le first i && nat_lt i (first + suc n)) (Some (sent_now now i)) (request_for i qs)
    of (inl same) =
        let here : eqb first i ≡ true = eq-eqb first i same in
        let all : (nat_le first i && nat_lt i (first + suc n)) ≡ true = grind (arith, nat_tests) in
        ap (λ (b : Bool). cond b (Some (sent_now now first)) (cond (nat_le (first + 1) i && nat_lt i (first + 1 + n)) (Some (sent_now now i)) (request_for i qs))) here
        ∙ ap (λ (k : ℕ). Some (sent_now now k)) same
        ∙ sym (ap (λ (b : Bool). cond b (Some (sent_now now i)) (request_for i qs)) all)
    of (inr ne) =
        let other : eqb first i ≡ false = grind (arith, nat_tests) in
        let alike : (nat_le (first + 1) i && nat_lt i (first + 1 + n)) ≡ (nat_le first i && nat_lt i (first + suc n)) = grind (arith, nat_tests) in
        ap (λ (b : Bool). cond b (Some (sent_now now first)) (cond (nat_le (first + 1) i && nat_lt i (first + 1 + n)) (Some (sent_now now i)) (request_for i qs))) other
        ∙ ap (λ (b : Bool). cond b (Some (sent_now now i)) (request_for i qs)) alike

pub request_asked : (i now : ℕ) (span : Span) (qs : List OwnRequest)
    → request_for i (after_said now (Request span) qs) ≡ cond (within span i) (Some (sent_now now i)) (request_for i qs)
request_asked i now span qs =
    in_front i now span.first (span.last + 1 - span.first) (without_requests span qs)
    ∙ ap (λ (b : Bool). cond b (Some (sent_now now i)) (request_for i (without_requests span qs))) (range span.first span.last i)
    ∙ ap (λ (o : Option OwnRequest). cond (within span i) (Some (sent_now now i)) o) (request_without i span qs)
    ∙ of (within span i) (request_for i qs)
  where
    range : (first last i : ℕ) → (nat_le first i && nat_lt i (first + (last + 1 - first))) ≡ (nat_le first i && nat_le i last)
    range first last i = grind (arith, nat_tests)

    of : (b : Bool) (o : Option OwnRequest) → cond b (Some (sent_now now i)) (cond b None o) ≡ cond b (Some (sent_now now i)) o
    of true o = refl
    of false o = refl

-- ---- each chunk stands once

abbrev EachOnce : List OwnRequest → Type 0
EachOnce [] = Unit {0}
EachOnce (q ∷ qs) = (request_for q.chunk qs ≡ None) × EachOnce qs

none_filtered : (p : OwnRequest → Bool) (i : ℕ) (qs : List OwnRequest) → request_for i qs ≡ None → request_for i (filter p qs) ≡ None
none_filtered p i [] none = refl
none_filtered p i (q ∷ qs) none = of (p q) (eqb q.chunk i) refl none (λ rest. none_filtered p i qs rest)
  where
    of : (b c : Bool) → eqb q.chunk i ≡ c → cond c (Some q) (request_for i qs) ≡ None → (request_for i qs ≡ None → request_for i (filter p qs) ≡ None)
        → request_for i (cond b (q ∷ filter p qs) (filter p qs)) ≡ None
    of b true is e rest = absurd (cc)
    of true false is e rest = ap (λ (c : Bool). cond c (Some q) (request_for i (filter p qs))) is ∙ rest e
    of false false is e rest = rest e

once_filtered : (p : OwnRequest → Bool) (qs : List OwnRequest) → EachOnce qs → EachOnce (filter p qs)
once_filtered p [] h = tt
once_filtered p (q ∷ qs) h = of (p q) (none_filtered p q.chunk qs h.0) (once_filtered p qs h.1)
  where
    of : (b : Bool) → request_for q.chunk (filter p qs) ≡ None → EachOnce (filter p qs) → EachOnce (cond b (q ∷ filter p qs) (filter p qs))
    of true none rest = (none, rest)
    of false none rest = rest

once_mapped : (a : OwnRequest) (qs : List OwnRequest) → EachOnce qs → EachOnce (map (overtaken_by a) qs)
once_mapped a [] h = tt
once_mapped a (q ∷ qs) h = (
  ap (λ (k : ℕ). request_for k (map (overtaken_by a) qs)) (overtaken_chunk a q) ∙ request_mapped q.chunk a qs
      ∙ ap (λ (o : Option OwnRequest). option_map (overtaken_by a) o) h.0,
  once_mapped a qs h.1,
)

once_in_front : (now first n : ℕ) (qs : List OwnRequest) → ((i : ℕ) → first ≤ i → i < first + n → request_for i qs ≡ None) → EachOnce qs
    → EachOnce (map (sent_now now) (range_with_len first n) ++ qs)
once_in_front now first zero qs none h = h
once_in_front now first (suc n) qs none h = (
  (let before : (nat_le (first + 1) first && nat_lt first (first + 1 + n)) ≡ false = grind (arith, nat_tests) in
      in_front first now (first + 1) n qs ∙ ap (λ (b : Bool). cond b (Some (sent_now now first)) (request_for first qs)) before
      ∙ none first (omega arith) (omega arith)),
  once_in_front now (first + 1) n qs (λ i low high. none i (omega arith) (omega arith)) h,
)

once_said : (now : ℕ) (m : Message) (qs : List OwnRequest) → EachOnce qs → EachOnce (after_said now m qs)
once_said now (Request span) qs h =
    once_in_front now span.first (span.last + 1 - span.first) (without_requests span qs)
    (λ i low high. let inside : within span i ≡ true = grind (arith, nat_tests) in
    request_without i span qs ∙ ap (λ (b : Bool). cond b None (request_for i qs)) inside)
    (once_filtered (λ q. not (within span q.chunk)) qs h)
once_said now (Cancel span) qs h = once_filtered (λ q. not (within span q.chunk)) qs h
once_said now _ qs h = h

once_answered : (a : Option OwnRequest) (qs : List OwnRequest) → EachOnce qs → EachOnce (after_answer a qs)
once_answered None qs h = h
once_answered (Some a) qs h = once_mapped a qs h

once_heard : (now : ℕ) (m : Message) (qs : List OwnRequest) → EachOnce qs → EachOnce (after_heard now m qs)
once_heard now (Data i sent_at bytes) qs h =
    once_answered (outstanding now (request_for i qs)) (without_requests (only i) qs) (once_filtered (λ q. not (within (only i) q.chunk)) qs h)
once_heard now Choke qs h = tt
once_heard now _ qs h = h

each_once : (story : List Line) → EachOnce (own_requests story)
each_once [] = tt
each_once (Heard now m ∷ story) = once_heard now m (own_requests story) (each_once story)
each_once (Said now m ∷ story) = once_said now m (own_requests story) (each_once story)
each_once (Taken now ∷ story) = once_filtered (is_outstanding now) (own_requests story) (each_once story)

request_filtered : (now i : ℕ) (qs : List OwnRequest) → EachOnce qs → request_for i (filter (is_outstanding now) qs) ≡ outstanding now (request_for i qs)
request_filtered now i [] h = refl
request_filtered now i (q ∷ qs) h = of (is_outstanding now q) (cases_eq q.chunk i) refl (request_filtered now i qs h.1)
  where
    of : (b : Bool) → (q.chunk ≡ i) ⊎ (q.chunk ≡ i → ⊥) → is_outstanding now q ≡ b
        → request_for i (filter (is_outstanding now) qs) ≡ outstanding now (request_for i qs)
        → request_for i (cond b (q ∷ filter (is_outstanding now) qs) (filter (is_outstanding now) qs))
        ≡ outstanding now (cond (eqb q.chunk i) (Some q) (request_for i qs))
    of true (inl same) is rest =
        let here : eqb q.chunk i ≡ true = eq-eqb q.chunk i same in
        ap (λ (c : Bool). cond c (Some q) (request_for i (filter (is_outstanding now) qs))) here
        ∙ sym (ap (λ (c : Bool). outstanding now (cond c (Some q) (request_for i qs))) here ∙ ap (λ (c : Bool). cond c (Some q) None) is)
    of false (inl same) is rest =
        let here : eqb q.chunk i ≡ true = eq-eqb q.chunk i same in
        none_filtered (is_outstanding now) i qs (ap (λ (k : ℕ). request_for k qs) (sym same) ∙ h.0)
        ∙ sym (ap (λ (c : Bool). outstanding now (cond c (Some q) (request_for i qs))) here ∙ ap (λ (c : Bool). cond c (Some q) None) is)
    of true (inr ne) is rest =
        let other : eqb q.chunk i ≡ false = grind (arith, nat_tests) in
        ap (λ (c : Bool). cond c (Some q) (request_for i (filter (is_outstanding now) qs))) other ∙ rest
        ∙ sym (ap (λ (c : Bool). outstanding now (cond c (Some q) (request_for i qs))) other)
    of false (inr ne) is rest =
        let other : eqb q.chunk i ≡ false = grind (arith, nat_tests) in
        rest ∙ sym (ap (λ (c : Bool). outstanding now (cond c (Some q) (request_for i qs))) other)

-- at the end of a wait those are left that are outstanding
pub request_taken : (now i : ℕ) (story : List Line) → request_for i (own_requests (Taken now ∷ story)) ≡ outstanding now (request_for i (own_requests story))
request_taken now i story = request_filtered now i (own_requests story) (each_once story)

-- ---- counts and tests

pub any_passes : (p : OwnRequest → Bool) (i : ℕ) (q : OwnRequest) (qs : List OwnRequest) → request_for i qs ≡ Some q → p q ≡ true → list_any p qs ≡ true
any_passes p i q [] is passes = absurd (cc)
any_passes p i q (x ∷ xs) is passes = of (eqb x.chunk i) is (λ e. any_passes p i q xs e passes)
  where
    of : (b : Bool) → cond b (Some x) (request_for i xs) ≡ Some q → (request_for i xs ≡ Some q → list_any p xs ≡ true) → (p x || list_any p xs) ≡ true
    of true e rest = let same : x ≡ q = cc in or_left (p x) (list_any p xs) (ap p same ∙ passes)
    of false e rest = or_right (p x) (list_any p xs) (rest e)

-- without those of one chunk a list is shorter, where there is one
pub shorter : (c : ℕ) (qs : List OwnRequest) → is_some (request_for c qs) ≡ true → length (filter (λ q. not (eqb q.chunk c)) qs) < length qs
shorter c [] e = absurd (false≢true e)
shorter c (q ∷ qs) e = by (eqb q.chunk c) e (λ there. shorter c qs there)
  where
    by : (b : Bool) → is_some (cond b (Some q) (request_for c qs)) ≡ true
        → (is_some (request_for c qs) ≡ true → length (filter (λ (r : OwnRequest). not (eqb r.chunk c)) qs) < length qs)
        → length (cond (not b) (q ∷ filter (λ (r : OwnRequest). not (eqb r.chunk c)) qs) (filter (λ (r : OwnRequest). not (eqb r.chunk c)) qs)) < length (q ∷ qs)
    by true is rest =
        let most = count_by-le-length (λ (r : OwnRequest). not (eqb r.chunk c)) qs in
        let size = length-filter (λ (r : OwnRequest). not (eqb r.chunk c)) qs in omega arith
    by false is rest = let less = rest is in omega arith

pub others_stay : (c i : ℕ) (qs : List OwnRequest) → (c ≡ i → ⊥) → request_for i (filter (λ q. not (eqb q.chunk c)) qs) ≡ request_for i qs
others_stay c i [] ne = refl
others_stay c i (q ∷ qs) ne = of (cases_eq q.chunk c) (others_stay c i qs ne)
  where
    of : (q.chunk ≡ c) ⊎ (q.chunk ≡ c → ⊥) → request_for i (filter (λ (r : OwnRequest). not (eqb r.chunk c)) qs) ≡ request_for i qs
        → request_for i (cond (not (eqb q.chunk c)) (q ∷ filter (λ (r : OwnRequest). not (eqb r.chunk c)) qs) (filter (λ (r : OwnRequest). not (eqb r.chunk c)) qs))
        ≡ cond (eqb q.chunk i) (Some q) (request_for i qs)
    of (inl same) rest =
        let here : eqb q.chunk c ≡ true = eq-eqb q.chunk c same in
        let other : eqb q.chunk i ≡ false = grind (arith, nat_tests) in
        ap (λ (b : Bool). request_for i (cond (not b) (q ∷ filter (λ (r : OwnRequest). not (eqb r.chunk c)) qs) (filter (λ (r : OwnRequest). not (eqb r.chunk c)) qs))) here
        ∙ rest ∙ sym (ap (λ (b : Bool). cond b (Some q) (request_for i qs)) other)
    of (inr differs) rest =
        let there : eqb q.chunk c ≡ false = grind (arith, nat_tests) in
        ap (λ (b : Bool). request_for i (cond (not b) (q ∷ filter (λ (r : OwnRequest). not (eqb r.chunk c)) qs) (filter (λ (r : OwnRequest). not (eqb r.chunk c)) qs))) there
        ∙ ap (λ (o : Option OwnRequest). cond (eqb q.chunk i) (Some q) o) rest
