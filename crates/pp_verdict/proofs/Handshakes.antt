-- The handshakes of a channel that is open stand in a table of all.
use Rattle.std.proofs.Common.{◌≡◌, ⊎_elim, inl, inr, ℕ, zero, suc, ◌+◌, ◌<◌, ◌≤◌, eqb, leb, Bool, true, false, cond, ◌&&◌, ◌||◌, Option, Some, None, List, [], ◌∷◌, ◌++◌, length, get_or, sym, ◌∙◌, ap, subst, arith}
use Rattle.std.specs.Prelude.{MatchOption, option_to_list}
use Rattle.std.specs.List.{Contains}
use Rattle.std.proofs.lemmas.Bool.{and_parts, or_cases, eqb-true, leb-true, cases_lt}
use Rattle.std.proofs.lemmas.List.Elements.{Contains-append_left, Contains-push}
use Rattle.pp_terms.specs.format.Traffic.{Record, same_address}
use Rattle.pp_terms.specs.format.Descriptor.{Descriptor}
use Rattle.pp_terms.specs.format.Messages.{Message, Handshake}
use Rattle.pp_terms.proofs.Addressed.{same_is}
use Rattle.pp_traffic.specs.Past.{read, comes_from, goes_to, is_number, some_since, is_at}
use Rattle.pp_traffic.specs.Life.{Life, greets, answers, begins_as, begins_fitting, fits, IsLife}
use Rattle.pp_outside.specs.Outside.{address_of}
use Rattle.pp_outside.specs.declared.link.Address as code
use Rattle.pp_recorded.specs.declared.entry.Entry.{Entry}
use Rattle.pp_recorded.specs.Entries.{record_of}
use Rattle.pp_recorded.proofs.Pasts.{first, one_more, length_first, first_all, entry_at}
use Rattle.pp_verdict.specs.Shakes.{IsShake, IsGreeting, IsReply, Opens, HasShake, HasShakes}
use Rattle.pp_verdict.specs.declared.shakes.Shake.{Shake}

-- ---- what a handshake says

pub fitting_begins : (d : Descriptor) (is_reply : Bool) (number : ℕ) (ms : List Message) → begins_fitting d is_reply number ms ≡ true → begins_as number ms ≡ true
fitting_begins d is_reply number [] e = absurd cc
fitting_begins d is_reply number (Handshake source options ∷ ms) e = (and_parts (eqb source number) (fits d is_reply options) e).0
fitting_begins d is_reply number (m ∷ ms) e = absurd cc

pub greeting_parts : (d : Descriptor) (life : Life) (r : Record) → greets d life r ≡ true
    → (comes_from life.address r ≡ true) × (is_number (cond life.is_dialled life.local 0) (read d r).channel ≡ true) × (begins_as life.remote (read d r).messages.read ≡ true)
greeting_parts d life r e =
    let outer = and_parts (comes_from life.address r && is_number (cond life.is_dialled life.local 0) (read d r).channel)
    (begins_fitting d life.is_dialled life.remote (read d r).messages.read) e in
    let inner = and_parts (comes_from life.address r) (is_number (cond life.is_dialled life.local 0) (read d r).channel) outer.0 in
    (inner.0, inner.1, fitting_begins d life.is_dialled life.remote (read d r).messages.read outer.1)

pub reply_parts : (d : Descriptor) (life : Life) (r : Record) → answers d life r ≡ true
    → (goes_to life.address r ≡ true) × (is_number (cond life.is_dialled 0 life.remote) (read d r).channel ≡ true) × (begins_as life.local (read d r).messages.read ≡ true)
reply_parts d life r e =
    let outer = and_parts (goes_to life.address r && is_number (cond life.is_dialled 0 life.remote) (read d r).channel)
    (begins_as life.local (read d r).messages.read) e in
    let inner = and_parts (goes_to life.address r) (is_number (cond life.is_dialled 0 life.remote) (read d r).channel) outer.0 in
    (inner.0, inner.1, outer.1)

pub greeting_is : (life : Life) (a : code.Address) (place : ℕ) (found : Option Shake) → same_address (address_of a) life.address ≡ true
    → MatchOption found ⊥ (λ s. (s.place ≡ place) × (s.is_sent ≡ false) × (s.address ≡ a) × IsShake (cond life.is_dialled life.local 0) life.remote s)
    → MatchOption found ⊥ (λ s. (s.place ≡ place) × IsGreeting life s)
greeting_is life a place None same is = is
greeting_is life a place (Some s) same is = (is.0, record { came = is.1; address = ap (λ (x : code.Address). address_of x) is.2 ∙ same_is (address_of a) life.address same; shake = is.3 })

pub reply_is : (life : Life) (a : code.Address) (place : ℕ) (found : Option Shake) → same_address (address_of a) life.address ≡ true
    → MatchOption found ⊥ (λ s. (s.place ≡ place) × (s.is_sent ≡ true) × (s.address ≡ a) × IsShake (cond life.is_dialled 0 life.remote) life.local s)
    → MatchOption found ⊥ (λ s. (s.place ≡ place) × IsReply life s)
reply_is life a place None same is = is
reply_is life a place (Some s) same is = (is.0, record { sent = is.1; address = ap (λ (x : code.Address). address_of x) is.2 ∙ same_is (address_of a) life.address same; shake = is.3 })

-- ---- the table

pub shake_kept : (d : Descriptor) (place : ℕ) (x : Entry) (shakes more : List Shake) → HasShake d place x shakes → HasShake d place x (shakes ++ more)
shake_kept d place x shakes more has = λ life. (
  λ e. let h = (has life).0 e in (h.0, Contains-append_left shakes more h.0 h.1, h.2, h.3),
  λ e. let h = (has life).1 e in (h.0, Contains-append_left shakes more h.0 h.1, h.2, h.3),
)

-- with what was found of one record more
pub shake_added : (d : Descriptor) (place : ℕ) (x : Entry) (shakes : List Shake) (found : Option Shake)
    → ((life : Life) → greets d life (record_of x) ≡ true → MatchOption found ⊥ (λ s. (s.place ≡ place) × IsGreeting life s))
    → ((life : Life) → answers d life (record_of x) ≡ true → MatchOption found ⊥ (λ s. (s.place ≡ place) × IsReply life s))
    → HasShake d place x (shakes ++ option_to_list found)
shake_added d place x shakes None greeting reply = λ life. (λ e. absurd (greeting life e), λ e. absurd (reply life e))
shake_added d place x shakes (Some s) greeting reply = λ life. (
  λ e. let g = greeting life e in (s, Contains-push shakes s, g.1, g.0),
  λ e. let g = reply life e in (s, Contains-push shakes s, g.1, g.0),
)

-- ---- a record that passes a test, by its entry

pub record Stands (xs : List Entry) (test : Record → Bool) (place : ℕ) : Type 0 where
  pub entry : Entry
  pub within : place < length xs
  pub there : entry ≡ get_or xs place entry
  pub passes : test (record_of entry) ≡ true

stands_same : (xs : List Entry) (test : Record → Bool) (n : ℕ) → length xs ≤ n → first (suc n) xs ≡ first n xs
stands_same xs test n le = first_all xs (suc n) (omega (arith, le)) ∙ sym (first_all xs n le)

one_more_is : (xs : List Entry) (n : ℕ) (x : Entry) → n < length xs → x ≡ get_or xs n x → first (suc n) xs ≡ record_of x ∷ first n xs
one_more_is xs n x lt is = ap (λ (m : ℕ). first m xs) (let e : suc n ≡ n + 1 = omega arith in e) ∙ one_more xs n x lt is

-- a record from a place on
pub since_found : (xs : List Entry) (test : Record → Bool) (from n : ℕ) → some_since test from (first n xs) ≡ true → (k : ℕ) × (from ≤ k) × Stands xs test k
since_found xs test from zero e = absurd cc
since_found xs test from (suc n) e = ⊎_elim
    (λ lt.
    let at = entry_at xs n lt in
    let split : (leb from (length (first n xs)) && test (record_of at.0) || some_since test from (first n xs)) ≡ true =
    subst (λ (rs : List Record). some_since test from rs ≡ true) (one_more_is xs n at.0 lt at.1) e in
    ⊎_elim
    (λ here.
    let parts = and_parts (leb from (length (first n xs))) (test (record_of at.0)) here in
    let long = length_first xs n (let le : n ≤ length xs = omega (arith, lt) in le) in
    let low = leb-true from (length (first n xs)) parts.0 in
    (n, omega (arith, long, low), record { entry = at.0; within = lt; there = at.1; passes = parts.1 }))
    (λ before. since_found xs test from n before)
    (or_cases (leb from (length (first n xs)) && test (record_of at.0)) (some_since test from (first n xs)) split))
    (λ ge. since_found xs test from n (subst (λ (rs : List Record). some_since test from rs ≡ true) (stands_same xs test n ge) e))
    (cases_lt n (length xs))

-- the record at a place
pub at_found : (xs : List Entry) (test : Record → Bool) (place n : ℕ) → is_at test place (first n xs) ≡ true → Stands xs test place
at_found xs test place zero e = absurd cc
at_found xs test place (suc n) e = ⊎_elim
    (λ lt.
    let at = entry_at xs n lt in
    let split : (eqb place (length (first n xs)) && test (record_of at.0) || is_at test place (first n xs)) ≡ true =
    subst (λ (rs : List Record). is_at test place rs ≡ true) (one_more_is xs n at.0 lt at.1) e in
    ⊎_elim
    (λ here.
    let parts = and_parts (eqb place (length (first n xs))) (test (record_of at.0)) here in
    let same : n ≡ place = sym (eqb-true place (length (first n xs)) parts.0 ∙ length_first xs n (let le : n ≤ length xs = omega (arith, lt) in le)) in
    subst (λ (k : ℕ). Stands xs test k) same (record { entry = at.0; within = lt; there = at.1; passes = parts.1 }))
    (λ before. at_found xs test place n before)
    (or_cases (eqb place (length (first n xs)) && test (record_of at.0)) (is_at test place (first n xs)) split))
    (λ ge. at_found xs test place n (subst (λ (rs : List Record). is_at test place rs ≡ true) (stands_same xs test n ge) e))
    (cases_lt n (length xs))

-- ---- the two of an open channel

pub opens_found : (d : Descriptor) (xs : List Entry) (shakes : List Shake) (life : Life) (n : ℕ) → HasShakes d xs shakes → IsLife d life (first n xs)
    → (a : Shake) × (b : Shake) × Contains shakes a × Contains shakes b × Opens life a b
opens_found d xs shakes life n all alive =
    let o = at_found xs (λ r. greets d life r || answers d life r) life.opening n alive.opened in
    ⊎_elim
    (λ greeted.
    let a = (all life.opening o.entry o.within o.there life).0 greeted in
    let s = since_found xs (answers d life) life.opening n alive.answered in
    let b = (all s.0 s.2.entry s.2.within s.2.there life).1 s.2.passes in (
      a.0,
      b.0,
      a.1,
      b.1,
      record {
        place = a.3;
        order = omega (arith, a.3, b.3, s.1);
        both = inl (a.2, b.2);
        local_some = alive.local_some;
        remote_some = alive.remote_some;
      },
    ))
    (λ answered.
    let a = (all life.opening o.entry o.within o.there life).1 answered in
    let s = since_found xs (greets d life) life.opening n alive.greeted in
    let b = (all s.0 s.2.entry s.2.within s.2.there life).0 s.2.passes in (
      a.0,
      b.0,
      a.1,
      b.1,
      record {
        place = a.3;
        order = omega (arith, a.3, b.3, s.1);
        both = inr (a.2, b.2);
        local_some = alive.local_some;
        remote_some = alive.remote_some;
      },
    ))
    (or_cases (greets d life (record_of o.entry)) (answers d life (record_of o.entry)) o.passes)
