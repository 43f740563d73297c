-- Where more may be asked for on a channel, all that it offers was asked for.
use Rattle.std.proofs.Common.{◌≡◌, ◌⊎◌, inl, inr, ⊎_elim, ℕ, ◌-◌, Bool, true, false, not, ◌&&◌, ◌||◌, Option, Some, None, List, [], ◌∷◌, length, refl, sym, ◌∙◌, ap, subst, arith, zero, suc, eqb}
use Rattle.std.specs.Prelude.{slice_index_or, nat_lt}
use Rattle.std.specs.List.{list_any}
use Rattle.std.proofs.Math.ListN.{set}
use Rattle.std.proofs.lemmas.Bool.{cases_Bool, false≢true, both_ways, and_parts, or_cases, not-true, eqb-true}
use Rattle.std.proofs.lemmas.Option.{same_Some}
use Rattle.pp_terms.specs.tree.Range.{Span, has}
use Rattle.pp_ranges.specs.Edits.{number_count}
use Rattle.pp_requests.specs.declared.asking.Asking.{Asking}
use Rattle.pp_avail.specs.declared.ranker.Rank.{Rank}
use Rattle.pp_avail.specs.Offers as offers
use Rattle.pp_wanting.specs.Wants.{WantState, is_wanted, is_for}
use Rattle.pp_fetching.specs.Fetching.{FetchState, with_asked, with_request, IsNextOf, PicksInTurn}
use Rattle.pp_fetching.specs.Owners.{awaits}
use Rattle.pp_peer.specs.Standing.{asked_of}
use Rattle.pp_peer.specs.Speaking.{PicksFrom, SettlesIn}
use Rattle.pp_peer.proofs.Owning.{Noted, still, noted_after}
use Rattle.pp_core.specs.Asking.{GoesBefore}
use Rattle.pp_core.proofs.Having.{had_of}

-- ---- one chunk

-- A chunk that is to be asked for is neither had nor asked for.
pub unasked : (w : WantState) (o : offers.Offers) (seat i : ℕ) → is_for w o seat i ≡ true
    → (slice_index_or w.had i false ≡ false) × (slice_index_or w.asked i false ≡ false)
unasked w o seat i e =
    let wanted = (and_parts (is_wanted w i) (offers.has o seat i) e).0 in
    let parts = and_parts ((nat_lt i (length w.had) && nat_lt i w.limit) && not (slice_index_or w.had i false))
    (not (slice_index_or w.asked i false)) wanted in (
      not-true (slice_index_or w.had i false)
          (and_parts (nat_lt i (length w.had) && nat_lt i w.limit) (not (slice_index_or w.had i false)) parts.0).1,
      not-true (slice_index_or w.asked i false) parts.1,
    )

-- It is so whatever is asked for, if it isn't.
unasked_still : (f : FetchState) (asked : List Bool) (seat i : ℕ) → slice_index_or asked i false ≡ false → slice_index_or f.want.asked i false ≡ false
    → is_for (with_asked asked f).want (with_asked asked f).offers seat i ≡ is_for f.want f.offers seat i
unasked_still f asked seat i one two =
    ap (λ (b : Bool).
    (((nat_lt i (length f.want.had) && nat_lt i f.want.limit) && not (slice_index_or f.want.had i false)) && not b) && offers.has f.offers seat i)
    (one ∙ sym two)

-- ---- what was picked, and what was given back

-- What is fetched is as it was, but for what is asked for.
pub record ChangesAsked (o : Option FetchState) (f : FetchState) : Type 0 where
  pub was : FetchState
  pub there : o ≡ Some was
  pub is : f ≡ with_asked f.want.asked was

pub changes_asked : (may : Bool) (order : Rank) (seat room : ℕ) (picks cancels : List Span) (own : List Asking) (o m n : Option FetchState)
    (f : FetchState)
    → PicksFrom may order seat room picks o m → SettlesIn own picks cancels m n → n ≡ Some f → ChangesAsked o f
changes_asked true order seat room picks cancels own (Some old) m n f p s e =
    let it : SettlesIn own picks cancels (Some p.0) n = subst (λ (x : Option FetchState). SettlesIn own picks cancels x n) p.1 s in
    let same : it.0 ≡ f = same_Some it.0 f (sym it.1 ∙ e) in
    record {
      was = old;
      there = refl;
      is = subst (λ (x : FetchState). x ≡ with_asked x.want.asked old) same
          (it.2.rest ∙ ap (λ (x : FetchState). with_asked it.0.want.asked x) p.3.rest);
    }
changes_asked true order seat room picks cancels own None m n f p s e =
    let none : SettlesIn own picks cancels None n = subst (λ (x : Option FetchState). SettlesIn own picks cancels x n) p.1 s in
    let x : None ≡ Some f = sym none ∙ e in absurd cc
changes_asked false order seat room picks cancels own None m n f p s e =
    let none : SettlesIn own picks cancels None n = subst (λ (x : Option FetchState). SettlesIn own picks cancels x n) p.1 s in
    let x : None ≡ Some f = sym none ∙ e in absurd cc
changes_asked false order seat room picks cancels own (Some old) m n f p s e =
    let it : SettlesIn own picks cancels (Some old) n = subst (λ (x : Option FetchState). SettlesIn own picks cancels x n) p.1 s in
    let same : it.0 ≡ f = same_Some it.0 f (sym it.1 ∙ e) in
    record {
      was = old;
      there = refl;
      is = subst (λ (x : FetchState). x ≡ with_asked x.want.asked old) same it.2.rest;
    }

-- a chunk that was asked for and isn't any more was picked now or cancelled, and isn't awaited
gone_of : (pc w : Bool) → (true && not (pc && not w)) ≡ false → (pc ≡ true) × (w ≡ false)
gone_of true true e = absurd (false≢true (sym e))
gone_of true false e = (refl, refl)
gone_of false w e = absurd (false≢true (sym e))

gone : (a p c w : Bool) → a ≡ true → still a p c w ≡ false → ((p || c) ≡ true) × (w ≡ false)
gone a p c w is e = gone_of (p || c) w (sym (ap (λ (x : Bool). (x || p) && not ((p || c) && not w)) is) ∙ e)

-- All that may be asked for is what might have been before, and the same chunks are offered.
abbrev pub Less : Option FetchState → Option FetchState → Type 0
Less o n = (f : FetchState) → n ≡ Some f
    → (was : FetchState) × (o ≡ Some was) × (f.offers ≡ was.offers)
    × ((seat i : ℕ) → is_for f.want f.offers seat i ≡ true → is_for was.want was.offers seat i ≡ true)

pub less_same : (o n : Option FetchState) → n ≡ o → Less o n
less_same o n same f e = (f, sym same ∙ e, refl, λ seat i is. is)

pub less_twice : (a b c : Option FetchState) → Less a b → Less b c → Less a c
less_twice a b c one two f e =
    let then = two f e in
    let first = one then.0 then.1 in
    (first.0, first.1, then.2 ∙ first.2, λ seat i is. first.3 seat i (then.3 seat i is))

-- a peer that fetches has these chunks
abbrev pub HadAll : Option (List Bool) → (ℕ → Bool) → Type 0
HadAll None committed = Unit {0}
HadAll (Some had) committed = (i : ℕ) → committed i ≡ true → slice_index_or had i false ≡ true

had_one : (o : Option FetchState) (committed : ℕ → Bool) (f : FetchState) → HadAll (had_of o) committed → o ≡ Some f → (i : ℕ) → committed i ≡ true
    → slice_index_or f.want.had i false ≡ true
had_one o committed f h e = subst (λ (x : Option FetchState). HadAll (had_of x) committed) e h

pub lessened : (may : Bool) (order : Rank) (seat room : ℕ) (picks cancels : List Span) (own : List Asking) (committed : ℕ → Bool)
    (o m n : Option FetchState)
    → PicksFrom may order seat room picks o m → SettlesIn own picks cancels m n → ((i : ℕ) → has cancels i ≡ true → committed i ≡ true)
    → HadAll (had_of o) committed → Less o n
lessened may order seat room picks cancels own committed o m n p s dropped had f e =
    (c.was, c.there, ap (λ (x : FetchState). x.offers) c.is, λ k i is. at k i is (cases_Bool (slice_index_or c.was.want.asked i false)))
  where
    c : ChangesAsked o f
    c = changes_asked may order seat room picks cancels own o m n f p s e

    noted : (i : ℕ) → Noted i own picks cancels (asked_of o) (asked_of n)
    noted i = noted_after may order seat room picks cancels own o m n i p s

    asked_is : (i : ℕ) → slice_index_or f.want.asked i false ≡ still (slice_index_or c.was.want.asked i false) (has picks i) (has cancels i)
        (awaits own i)
    asked_is i = sym (ap (λ (x : Option FetchState). slice_index_or (asked_of x) i false) e) ∙ (noted i).now
        ∙ ap (λ (x : Option FetchState). still (slice_index_or (asked_of x) i false) (has picks i) (has cancels i) (awaits own i)) c.there

    moved : (k i : ℕ) → is_for f.want f.offers k i ≡ true
        → is_for (with_asked f.want.asked c.was).want (with_asked f.want.asked c.was).offers k i ≡ true
    moved k i is = ap (λ (x : FetchState). is_for x.want x.offers k i) (sym c.is) ∙ is

    at : (k i : ℕ) → is_for f.want f.offers k i ≡ true
        → (slice_index_or c.was.want.asked i false ≡ true) ⊎ (slice_index_or c.was.want.asked i false ≡ false)
        → is_for c.was.want c.was.offers k i ≡ true
    at k i is (inr free) = sym (unasked_still c.was f.want.asked k i (unasked f.want f.offers k i is).1 free) ∙ moved k i is
    at k i is (inl was) =
        let free = unasked f.want f.offers k i is in
        let left = gone (slice_index_or c.was.want.asked i false) (has picks i) (has cancels i) (awaits own i) was (sym (asked_is i) ∙ free.1) in
        ⊎_elim
        (λ picked. absurd (both_ways (slice_index_or c.was.want.asked i false)
        (sym (ap (λ (x : Option FetchState). slice_index_or (asked_of x) i false) c.there) ∙ (noted i).fresh picked) was))
        (λ cancelled. absurd (both_ways (slice_index_or f.want.had i false) free.0
        (ap (λ (x : FetchState). slice_index_or x.want.had i false) c.is ∙ had_one o committed c.was had c.there i (dropped i cancelled))))
        (or_cases (has picks i) (has cancels i) left.0)

-- ---- the end of picking

picks_end : (order : Rank) (seat room : ℕ) (old : FetchState) (picks : List ℕ) (new : FetchState) → PicksInTurn order seat room old picks new
    → (length picks ≡ room) ⊎ IsNextOf order seat new None
picks_end order seat room old [] new p =
    ⊎_elim (λ full. inl (sym full)) (λ none. inr (subst (λ (f : FetchState). IsNextOf order seat f None) (sym p.0) none)) p.1
picks_end order seat room old (i ∷ picks) new p = ⊎_elim
    (λ full. inl (let lt = p.0 in omega (arith, lt, full))) (λ none. inr none)
    (picks_end order seat (room - 1) _ picks new p.2)

-- where all that was picked is awaited and nothing was cancelled, nothing more is to be asked for
pub none_left : (order : Rank) (seat room : ℕ) (picks cancels : List Span) (own : List Asking) (o m n : Option FetchState)
    → PicksFrom true order seat room picks o m
    → SettlesIn own picks cancels m n → ((i : ℕ) → has picks i ≡ true → awaits own i ≡ true) → ((i : ℕ) → has cancels i ≡ false)
    → (number_count picks ≡ room → ⊥) → (f : FetchState) → n ≡ Some f → (i : ℕ) → is_for f.want f.offers seat i ≡ false
none_left order seat room picks cancels own None m n p s awaited none few f e i =
    let empty : SettlesIn own picks cancels None n = subst (λ (x : Option FetchState). SettlesIn own picks cancels x n) p.1 s in
    let x : None ≡ Some f = sym empty ∙ e in absurd cc
none_left order seat room picks cancels own (Some old) m n p s awaited none few f e i =
    ⊎_elim (λ is. absurd (never is)) (λ no. no) (cases_Bool (is_for f.want f.offers seat i))
  where
    it : SettlesIn own picks cancels (Some p.0) n
    it = subst (λ (x : Option FetchState). SettlesIn own picks cancels x n) p.1 s

    same : it.0 ≡ f
    same = same_Some it.0 f (sym it.1 ∙ e)

    ended : IsNextOf order seat p.0 None
    ended = ⊎_elim (λ full. absurd (few (p.2.count ∙ full))) (λ end. end) (picks_end order seat room old p.2.picks p.0 p.2.in_turn)

    -- nothing was given back
    kept_all : (b a c w : Bool) → (a ≡ true → w ≡ true) → c ≡ false → (b && not ((a || c) && not w)) ≡ b
    kept_all b true false true h none = and_all b
      where
        and_all : (b : Bool) → (b && true) ≡ b
        and_all true = refl
        and_all false = refl
    kept_all b true false false h none = absurd (false≢true (h refl))
    kept_all b false false w h none = and_all b
      where
        and_all : (b : Bool) → (b && true) ≡ b
        and_all true = refl
        and_all false = refl
    kept_all b a true w h none = absurd (false≢true (sym none))

    asked_is : slice_index_or it.0.want.asked i false ≡ slice_index_or p.0.want.asked i false
    asked_is = it.2.asked i ∙ kept_all (slice_index_or p.0.want.asked i false) (has picks i) (has cancels i) (awaits own i) (awaited i) (none i)

    never : is_for f.want f.offers seat i ≡ true → ⊥
    never is =
        let free = sym asked_is ∙ ap (λ (x : FetchState). slice_index_or x.want.asked i false) same ∙ (unasked f.want f.offers seat i is).1 in
        let there : is_for p.0.want p.0.offers seat i ≡ true =
        sym (unasked_still p.0 f.want.asked seat i (unasked f.want f.offers seat i is).1 free)
        ∙ ap (λ (x : FetchState). is_for x.want x.offers seat i) (sym (subst (λ (x : FetchState). x ≡ with_asked x.want.asked p.0) same it.2.rest))
        ∙ is in
        both_ways (is_for p.0.want p.0.offers seat i) (ended i) there

-- ---- the order of picking

set_false : (xs : List Bool) (k i : ℕ) → slice_index_or (set xs k true) i false ≡ false → slice_index_or xs i false ≡ false
set_false [] k i e = e
set_false (x ∷ xs) zero zero e = absurd (false≢true (sym e))
set_false (x ∷ xs) zero (suc i) e = e
set_false (x ∷ xs) (suc k) zero e = e
set_false (x ∷ xs) (suc k) (suc i) e = set_false xs k i e

unrequested : (k : ℕ) (f : FetchState) (seat i : ℕ) → is_for (with_request k f).want (with_request k f).offers seat i ≡ true
    → is_for f.want f.offers seat i ≡ true
unrequested k f seat i is =
    let free = (unasked (with_request k f).want f.offers seat i is).1 in
    sym (unasked_still f (set f.want.asked k true) seat i free (set_false f.want.asked k i free)) ∙ is

-- Each chunk that was picked goes before those that are left, which might have been picked.
pub record PicksBefore (order : Rank) (seat : ℕ) (picks : List ℕ) (old new : FetchState) : Type 0 where
  pub offers_same : new.offers ≡ old.offers
  pub less : (j : ℕ) → is_for new.want new.offers seat j ≡ true → is_for old.want old.offers seat j ≡ true
  pub before : (i j : ℕ) → list_any (λ k. eqb k i) picks ≡ true → is_for new.want new.offers seat j ≡ true → GoesBefore order old.offers i j

picks_before : (order : Rank) (seat room : ℕ) (old : FetchState) (picks : List ℕ) (new : FetchState) → PicksInTurn order seat room old picks new
    → PicksBefore order seat picks old new
picks_before order seat room old [] new p = record {
  offers_same = ap (λ (f : FetchState). f.offers) p.0;
  less = λ j is. subst (λ (f : FetchState). is_for f.want f.offers seat j ≡ true) p.0 is;
  before = λ i j e is. absurd (false≢true e);
}
picks_before order seat room old (x ∷ picks) new p =
    let rest = picks_before order seat (room - 1) (with_request x old) picks new p.2 in
    record {
      offers_same = rest.offers_same;
      less = λ j is. unrequested x old seat j (rest.less j is);
      before = λ i j e is. ⊎_elim
          (λ here. subst (λ (n : ℕ). GoesBefore order old.offers n j) (eqb-true x i here) (p.1.1 j (unrequested x old seat j (rest.less j is))))
          (λ later. rest.before i j later is)
          (or_cases (eqb x i) (list_any (λ k. eqb k i) picks) e);
    }

-- Where all that was picked is awaited, it goes before all that may be asked for still.
pub left_behind : (order : Rank) (seat room : ℕ) (picks cancels : List Span) (own : List Asking) (committed : ℕ → Bool) (o m n : Option FetchState)
    → PicksFrom true order seat room picks o m → SettlesIn own picks cancels m n → ((i : ℕ) → has picks i ≡ true → awaits own i ≡ true)
    → ((i : ℕ) → has cancels i ≡ true → committed i ≡ true) → HadAll (had_of o) committed
    → (f : FetchState) → n ≡ Some f → (i j : ℕ) → has picks i ≡ true → is_for f.want f.offers seat j ≡ true → GoesBefore order f.offers i j
left_behind order seat room picks cancels own committed None m n p s awaited dropped had f e i j at is =
    let empty : SettlesIn own picks cancels None n = subst (λ (x : Option FetchState). SettlesIn own picks cancels x n) p.1 s in
    let x : None ≡ Some f = sym empty ∙ e in absurd cc
left_behind order seat room picks cancels own committed (Some old) m n p s awaited dropped had f e i j at is =
    subst (λ (o : offers.Offers). GoesBefore order o i j) (sym (ap (λ (x : FetchState). x.offers) is_left ∙ picked.offers_same))
    (picked.before i j (sym (p.2.each i) ∙ at) (there (cases_Bool (slice_index_or p.0.want.asked j false))))
  where
    it : SettlesIn own picks cancels (Some p.0) n
    it = subst (λ (x : Option FetchState). SettlesIn own picks cancels x n) p.1 s

    same : it.0 ≡ f
    same = same_Some it.0 f (sym it.1 ∙ e)

    is_left : f ≡ with_asked f.want.asked p.0
    is_left = subst (λ (x : FetchState). x ≡ with_asked x.want.asked p.0) same it.2.rest

    picked : PicksBefore order seat p.2.picks old p.0
    picked = picks_before order seat room old p.2.picks p.0 p.2.in_turn

    free : (slice_index_or f.want.had j false ≡ false) × (slice_index_or f.want.asked j false ≡ false)
    free = unasked f.want f.offers seat j is

    asked_is : (slice_index_or p.0.want.asked j false && not ((has picks j || has cancels j) && not (awaits own j))) ≡ false
    asked_is = sym (it.2.asked j) ∙ ap (λ (x : FetchState). slice_index_or x.want.asked j false) same ∙ free.1

    there : (slice_index_or p.0.want.asked j false ≡ true) ⊎ (slice_index_or p.0.want.asked j false ≡ false)
        → is_for p.0.want p.0.offers seat j ≡ true
    there (inr out) = sym (unasked_still p.0 f.want.asked seat j free.1 out) ∙ ap (λ (x : FetchState). is_for x.want x.offers seat j) (sym is_left)
        ∙ is
    there (inl was) =
        let left = gone_of (has picks j || has cancels j) (awaits own j)
        (ap (λ (b : Bool). b && not ((has picks j || has cancels j) && not (awaits own j))) (sym was) ∙ asked_is) in
        ⊎_elim
        (λ again. absurd (both_ways (awaits own j) left.1 (awaited j again)))
        (λ cancelled. absurd (both_ways (slice_index_or f.want.had j false) free.0
        (ap (λ (x : FetchState). slice_index_or x.want.had j false) is_left ∙ ap (λ (x : FetchState). slice_index_or x.want.had j false) p.3.rest
        ∙ had j (dropped j cancelled))))
        (or_cases (has picks j) (has cancels j) left.0)
