-- The chunks of a range are asked for one by one.
use Rattle.pp_requests.proofs.Entries.{at_least}
use Rattle.pp_seat.specs.Follows.{Frame, Lost, Follows}
use Rattle.pp_seat.specs.Seats.{SeatState}
use Rattle.pp_seat.specs.Lines.{names_at, is_named_at, Tale}
use Rattle.pp_promises.specs.Asked.{named_count}
use Rattle.pp_promises.specs.OwnSide.{names_in, is_named, has_old_request}
use Rattle.pp_traffic.specs.Fates.{clock}
use Rattle.pp_terms.specs.format.Messages.{Message, Request}
use Rattle.pp_traffic.specs.Story.{Line, Heard, Said, Taken}
use Rattle.std.specs.List.{count_by, range_with_len}
use Rattle.std.proofs.lemmas.List.Sums.{sum_by-cons}
use Rattle.std.proofs.Common.{◌≡◌, ◌⊎◌, inl, inr, ⊎_elim, ℕ, ◌+◌, ◌-◌, ◌<◌, ◌≤◌, nat_le, nat_lt, eqb, Bool, true, false, cond, ◌&&◌, Option, Some, None, List, length, refl, sym, ◌∙◌, ap, arith, zero, suc, [], ◌∷◌, subst}
use Rattle.std.proofs.lemmas.Bool.{and_from, le-leb, and_parts, or_left, or_right, or_cases, false≢true, eq-eqb, ltb-true, cases_lt, cases_eq}
use Rattle.std.proofs.lemmas.Bool.Decides.{nat_tests}
use Rattle.pp_terms.specs.tree.Range.{Span, within}
use Rattle.pp_requests.specs.declared.asking.Asking.{Asking}
use Rattle.pp_requests.specs.Moments.{asked_at, entry_of, IsRisingFrom}
use Rattle.pp_seat.specs.Own.{asked_now, HasAsked, CanAsk, AsksAll, room_of}

-- those from the first up to another were
pub record AskedTo (first n now : ℕ) (old new : List Asking) : Type 0 where
  pub low : first ≤ n
  pub asked : (j : ℕ) → asked_at new j ≡ cond (nat_le first j && nat_lt j n) (Some now) (asked_at old j)
  pub entered : (j : ℕ) → entry_of new j ≡ cond (nat_le first j && nat_lt j n) (Some (asked_now j now)) (entry_of old j)
  pub len : length new ≡ length old + (n - first)

pub begins : (first n now : ℕ) (own : List Asking) → n ≡ first → AskedTo first n now own own
begins first n now own e = record {
  low = omega arith;
  asked = λ j. let none : (nat_le first j && nat_lt j n) ≡ false = grind (arith, nat_tests) in sym (ap (λ (b : Bool). cond b (Some now) (asked_at own j)) none);
  entered = λ j. let none : (nat_le first j && nat_lt j n) ≡ false = grind (arith, nat_tests) in
      sym (ap (λ (b : Bool). cond b (Some (asked_now j now)) (entry_of own j)) none);
  len = omega arith;
}

choose : {A : Type 0} (x : A) (b c d : Bool) (o : Option A) → (b ≡ true → d ≡ true) → (b ≡ false → d ≡ c) → cond b (Some x) (cond c (Some x) o) ≡ cond d (Some x) o
choose x true c d o p q = sym (ap (λ (t : Bool). cond t (Some x) o) (p refl))
choose x false c d o p q = sym (ap (λ (t : Bool). cond t (Some x) o) (q refl))

pub one_more : (first n now : ℕ) (old mid new : List Asking) → AskedTo first n now old mid → HasAsked n now mid new → AskedTo first (n + 1) now old new
one_more first n now old mid new a asks =
    let low = a.low in
    let before = a.len in
    let len = asks.len in
    record {
      low = omega arith;
      asked = λ j. asks.asked j ∙ ap (λ (o : Option ℕ). cond (eqb n j) (Some now) o) (a.asked j) ∙ either j now (asked_at old j) low;
      entered = λ j. asks.entered j ∙ ap (λ (o : Option Asking). cond (eqb n j) (Some (asked_now n now)) o) (a.entered j) ∙ at j (cases_eq n j)
          ∙ either j (asked_now j now) (entry_of old j) low;
      len = omega arith;
    }
  where
    at : (j : ℕ) → (n ≡ j) ⊎ (n ≡ j → ⊥) → cond (eqb n j) (Some (asked_now n now)) (cond (nat_le first j && nat_lt j n) (Some (asked_now j now)) (entry_of old j))
        ≡ cond (eqb n j) (Some (asked_now j now)) (cond (nat_le first j && nat_lt j n) (Some (asked_now j now)) (entry_of old j))
    at j (inl is) = ap (λ (k : ℕ). cond (eqb n j) (Some (asked_now k now)) (cond (nat_le first j && nat_lt j n) (Some (asked_now j now)) (entry_of old j))) is
    at j (inr ne) = let other : eqb n j ≡ false = grind (arith, nat_tests) in
        ap (λ (b : Bool). cond b (Some (asked_now n now)) (cond (nat_le first j && nat_lt j n) (Some (asked_now j now)) (entry_of old j))) other
        ∙ sym (ap (λ (b : Bool). cond b (Some (asked_now j now)) (cond (nat_le first j && nat_lt j n) (Some (asked_now j now)) (entry_of old j))) other)

    either : {A : Type 0} (j : ℕ) (x : A) (o : Option A) → first ≤ n → cond (eqb n j) (Some x) (cond (nat_le first j && nat_lt j n) (Some x) o) ≡ cond (nat_le first j && nat_lt j (n + 1)) (Some x) o
    either j x o low = choose x (eqb n j) (nat_le first j && nat_lt j n) (nat_le first j && nat_lt j (n + 1)) o (λ same. grind (arith, nat_tests)) (λ other. grind (arith, nat_tests))

-- ---- with or without room

pub record AskedSome (part : Span) (n now : ℕ) (old new : List Asking) : Type 0 where
  pub low : part.first ≤ n
  pub named : (i m : ℕ) → asked_at new i ≡ Some m → (asked_at old i ≡ Some m) ⊎ ((m ≡ now) × (part.first ≤ i) × (i < n))
  pub exact : CanAsk part old → AskedTo part.first n now old new

pub begins_some : (part : Span) (n now : ℕ) (own : List Asking) → n ≡ part.first → AskedSome part n now own own
begins_some part n now own e = record { low = omega arith; named = λ i m is. inl is; exact = λ can. begins part.first n now own e }

pub some_more : (part : Span) (n now : ℕ) (old mid new : List Asking) → AskedSome part n now old mid → n < part.last + 1
    → ((j m : ℕ) → asked_at new j ≡ Some m → (asked_at mid j ≡ Some m) ⊎ ((j ≡ n) × (m ≡ now)))
    → (length mid < 32 → asked_at mid n ≡ None → HasAsked n now mid new) → AskedSome part (n + 1) now old new
some_more part n now old mid new a lt named exact =
    let low = a.low in
    record {
      low = omega arith;
      named = λ j m e. ⊎_elim
          (λ was. ⊎_elim (λ is. inl is) (λ (x : (m ≡ now) × (part.first ≤ j) × (j < n)). inr (x.0, x.1, (let less = x.2 in omega arith))) (a.named j m was))
          (λ (x : (j ≡ n) × (m ≡ now)). let same = x.0 in inr (x.1, omega arith, omega arith))
          (named j m e);
      exact = λ can.
          let to = a.exact can in
          let len = to.len in
          let room = can.room in
          let asks = exact (omega arith) (not_yet part n now old mid to lt can.absent) in
          one_more part.first n now old mid new to asks;
    }
  where
    not_yet : (part : Span) (n now : ℕ) (old mid : List Asking) → AskedTo part.first n now old mid → n < part.last + 1 → ((i : ℕ) → within part i ≡ true → asked_at old i ≡ None) → asked_at mid n ≡ None
    not_yet part n now old mid a lt absent =
        let low = a.low in
        let nothing : (nat_le part.first n && nat_lt n n) ≡ false = grind (arith, nat_tests) in
        let here : within part n ≡ true = grind (arith, nat_tests) in
        a.asked n ∙ ap (λ (b : Bool). cond b (Some now) (asked_at old n)) nothing ∙ absent n here

pub all_asked : (part : Span) (n now : ℕ) (old new : List Asking) → AskedTo part.first n now old new → n ≡ part.last + 1 → AsksAll part now old new
all_asked part n now old new a e = record {
  asked = λ i. let same : (nat_le part.first i && nat_lt i n) ≡ within part i = grind (arith, nat_tests) in a.asked i ∙ ap (λ (b : Bool). cond b (Some now) (asked_at old i)) same;
  entered = λ i. let same : (nat_le part.first i && nat_lt i n) ≡ within part i = grind (arith, nat_tests) in
      a.entered i ∙ ap (λ (b : Bool). cond b (Some (asked_now i now)) (entry_of old i)) same;
  len = (let len = a.len in omega arith);
}

pub named_within : (part : Span) (n now : ℕ) (old new : List Asking) → AskedSome part n now old new → n ≡ part.last + 1
    → (i m : ℕ) → asked_at new i ≡ Some m → (asked_at old i ≡ Some m) ⊎ ((within part i ≡ true) × (m ≡ now))
named_within part n now old new a e i m is = ⊎_elim
    (λ was. inl was)
    (λ (x : (m ≡ now) × (part.first ≤ i) × (i < n)). let low = x.1 in let high = x.2 in inr (and_from (nat_le part.first i) (nat_le i part.last) (le-leb part.first i low) (le-leb i part.last (omega arith)), x.0))
    (a.named i m is)

-- ---- room

-- The chunks that are waited for are no more than those of a range that pass a test which each of them passes.
few_pass : (p : ℕ → Bool) (own : List Asking) (low n : ℕ) → IsRisingFrom low own
    → ((i m : ℕ) → asked_at own i ≡ Some m → (i < low + n) × (p i ≡ true)) → length own ≤ count_by p (range_with_len low n)
few_pass p [] low n rising passes = omega arith
few_pass p (x ∷ xs) low zero rising passes = absurd (let at = rising.0 in let high = (passes x.chunk x.moment here).0 in omega arith)
  where
    here : cond (eqb x.chunk x.chunk) (Some x.moment) (asked_at xs x.chunk) ≡ Some x.moment
    here = ap (λ (b : Bool). cond b (Some x.moment) (asked_at xs x.chunk)) (eq-eqb x.chunk x.chunk refl)
few_pass p (x ∷ xs) low (suc n) rising passes =
    let split = sum_by-cons (λ (i : ℕ). cond {A = ℕ} (p i) 1 0) low (range_with_len (low + 1) n) in
    ⊎_elim
    (λ (less : low < x.chunk).
    let rest = few_pass p (x ∷ xs) (low + 1) n (omega arith, rising.1) (λ i m e. let q = passes i m e in (let high = q.0 in omega arith, q.1)) in omega arith)
    (λ (most : x.chunk ≤ low).
    let at = rising.0 in
    let same : x.chunk ≡ low = omega arith in
    let rest = few_pass p xs (low + 1) n (subst (λ (k : ℕ). IsRisingFrom (k + 1) xs) same rising.1) (later most) in
    let one = first (passes x.chunk x.moment here).1 same in omega arith)
    (cases_lt low x.chunk)
  where
    here : cond (eqb x.chunk x.chunk) (Some x.moment) (asked_at xs x.chunk) ≡ Some x.moment
    here = ap (λ (b : Bool). cond b (Some x.moment) (asked_at xs x.chunk)) (eq-eqb x.chunk x.chunk refl)

    first : p x.chunk ≡ true → x.chunk ≡ low → cond {A = ℕ} (p low) 1 0 ≡ 1
    first passed same = ap (λ (b : Bool). cond {A = ℕ} b 1 0) (ap p (sym same) ∙ passed)

    later : x.chunk ≤ low → (i m : ℕ) → asked_at xs i ≡ Some m → (i < low + 1 + n) × (p i ≡ true)
    later most i m e =
        let beyond = at_least xs (x.chunk + 1) i m rising.1 e in
        let other : eqb x.chunk i ≡ false = grind (arith, nat_tests) in
        let q = passes i m (ap (λ (b : Bool). cond b (Some x.moment) (asked_at xs i)) other ∙ e) in
        (let high = q.0 in omega arith, q.1)

named_then : (i moment : ℕ) (story : List Line) → is_named_at i moment story ≡ true → is_named i story ≡ true
named_then i moment [] e = e
named_then i moment (Heard now m ∷ story) e = named_then i moment story e
named_then i moment (Said now m ∷ story) e = ⊎_elim
    (λ here. or_left (names_in i m) (is_named i story) (of m here))
    (λ there. or_right (names_in i m) (is_named i story) (named_then i moment story there))
    (or_cases (names_at i moment now m) (is_named_at i moment story) e)
  where
    of : (m : Message) → names_at i moment now m ≡ true → names_in i m ≡ true
    of (Request span) here = (and_parts (within span i) (eqb now moment) here).0
    of _ here = absurd (false≢true here)
named_then i moment (Taken now ∷ story) e = named_then i moment story e

pub room_left : (f : Frame) (lost : Lost) (s : SeatState) (t : Tale) → length s.own ≤ 32 → IsRisingFrom 0 s.own → Follows f lost s t
    → has_old_request (clock t.story) t.story ≡ false → named_count f.chunks t.story < 32 → 0 < room_of s.stopped s.own
room_left f lost s t most_32 rising h fresh few =
    let most = few_pass (λ i. is_named i t.story) s.own 0 f.chunks rising (λ i m e.
    let p = and_parts (nat_lt i f.chunks) (is_named_at i m t.story) (h.own.named i m e) in
    (let lt : i < f.chunks = ltb-true i f.chunks p.0 in omega arith, named_then i m t.story p.1)) in
    of s.stopped refl (omega arith)
  where
    of : (b : Bool) → s.stopped ≡ b → length s.own < 32 → 0 < room_of s.stopped s.own
    of true is less = absurd (false≢true (sym fresh ∙ h.own.expired is))
    of false is less = subst (λ (b : Bool). 0 < room_of b s.own) (sym is) (omega arith)
