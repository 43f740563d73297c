-- Of whom each chunk is asked, once notes were delivered on a channel and what isn't awaited there was given back.
use Rattle.std.proofs.Common.{◌≡◌, ◌⊎◌, inl, inr, ⊎_elim, ℕ, ◌+◌, ◌≤◌, arith, eqb, Bool, true, false, cond, ◌||◌, ◌&&◌, not, Option, Some, None, List, [], ◌∷◌, length, refl, sym, ◌∙◌, ap, subst}
use Rattle.std.specs.Prelude.{is_some, slice_index_or}
use Rattle.std.proofs.lemmas.Bool.{cases_eq, eq-eqb, eqb-true, cases_Bool, false≢true}
use Rattle.pp_terms.specs.tree.Range.{Span, has}
use Rattle.pp_requests.specs.declared.asking.Asking.{Asking}
use Rattle.pp_avail.specs.declared.ranker.Rank.{Rank}
use Rattle.pp_fetching.specs.Fetching.{FetchState}
use Rattle.pp_fetching.specs.Owners.{is_at, awaits, AreOwned, SameElsewhere}
use Rattle.pp_fetching.specs.Laws as fetching
use Rattle.pp_fetching.proofs.Owners.{picks_fit}
use Rattle.pp_seat.specs.Own.{room_of}
use Rattle.pp_seats.specs.Sending as seats
use Rattle.pp_seats.specs.Sending.{FitAll}
use Rattle.pp_peer.specs.Standing.{asked_of}
use Rattle.pp_peer.specs.Speaking.{PicksFrom, SettlesIn}

-- ---- what was picked fits

apart_same : (ranges : List Span) → fetching.AreApart ranges → seats.AreApart ranges
apart_same [] a = tt
apart_same (x ∷ xs) a = (a.0, apart_same xs a.1)

fit_same : (ranges : List Span) (own : List Asking) → fetching.AreFit ranges own → FitAll ranges own
fit_same [] own f = tt
fit_same (x ∷ xs) own f = record { room = f.room; absent = f.absent; apart = apart_same (x ∷ xs) f.apart }

-- what there is room for makes 32 at most with what is awaited
pub room_fits : (stopped : Bool) (own : List Asking) (room : ℕ) → room ≡ room_of stopped own → length own ≤ 32 → room + length own ≤ 32
room_fits true own room is few = omega arith
room_fits false own room is few = omega arith

pub picks_are_fit : (may : Bool) (order : Rank) (seat room : ℕ) (picks : List Span) (old new : Option FetchState) (own_of : ℕ → List Asking)
    → AreOwned (asked_of old) own_of → room + length (own_of seat) ≤ 32 → PicksFrom may order seat room picks old new → FitAll picks (own_of seat)
picks_are_fit true order seat room picks (Some old) new own_of owned is p =
    fit_same picks (own_of seat) (picks_fit seat room old p.0 picks own_of owned p.3 is)
picks_are_fit true order seat room picks None new own_of owned is p = subst (λ (xs : List Span). FitAll xs (own_of seat)) (sym p.0) tt
picks_are_fit false order seat room picks old new own_of owned is p = subst (λ (xs : List Span). FitAll xs (own_of seat)) (sym p.0) tt

-- ---- what is noted then

-- what is noted as asked for, by what was, what was picked, what was cancelled, and what is awaited now
abbrev pub still : (asked picked cancelled awaited : Bool) → Bool
still asked picked cancelled awaited = (asked || picked) && not ((picked || cancelled) && not awaited)

-- A picked chunk wasn't noted; and then it is.
pub record Noted (i : ℕ) (own : List Asking) (picks cancels : List Span) (old new : List Bool) : Type 0 where
  pub now : slice_index_or new i false ≡ still (slice_index_or old i false) (has picks i) (has cancels i) (awaits own i)
  pub fresh : has picks i ≡ true → slice_index_or old i false ≡ false

false_still : (c w : Bool) → false ≡ still false false c w
false_still c w = refl

or_none : (a : Bool) → (a || false) ≡ a
or_none true = refl
or_none false = refl

pub noted_after : (may : Bool) (order : Rank) (seat room : ℕ) (picks cancels : List Span) (own : List Asking) (old mid new : Option FetchState) (i : ℕ)
    → PicksFrom may order seat room picks old mid → SettlesIn own picks cancels mid new → Noted i own picks cancels (asked_of old) (asked_of new)
noted_after true order seat room picks cancels own (Some old) mid new i p s = record {
  now = ap (λ (o : Option FetchState). slice_index_or (asked_of o) i false) it.1 ∙ it.2.asked i
      ∙ ap (λ (a : Bool). a && not ((has picks i || has cancels i) && not (awaits own i))) (p.3.asked i);
  fresh = p.3.fresh i;
}
  where
    it : SettlesIn own picks cancels (Some p.0) new
    it = subst (λ (o : Option FetchState). SettlesIn own picks cancels o new) p.1 s
noted_after true order seat room picks cancels own None mid new i p s = record {
  now = ap (λ (o : Option FetchState). slice_index_or (asked_of o) i false) (subst (λ (o : Option FetchState). SettlesIn own picks cancels o new) p.1 s)
      ∙ ap (λ (xs : List Span). still false (has xs i) (has cancels i) (awaits own i)) (sym p.0);
  fresh = λ at. refl;
}
noted_after false order seat room picks cancels own None mid new i p s = record {
  now = ap (λ (o : Option FetchState). slice_index_or (asked_of o) i false) (subst (λ (o : Option FetchState). SettlesIn own picks cancels o new) p.1 s)
      ∙ ap (λ (xs : List Span). still false (has xs i) (has cancels i) (awaits own i)) (sym p.0);
  fresh = λ at. refl;
}
noted_after false order seat room picks cancels own (Some old) mid new i p s = record {
  now = ap (λ (o : Option FetchState). slice_index_or (asked_of o) i false) it.1 ∙ it.2.asked i
      ∙ ap (λ (a : Bool). a && not ((has picks i || has cancels i) && not (awaits own i)))
      (sym (or_none (slice_index_or old.want.asked i false)) ∙ ap (λ (xs : List Span). slice_index_or old.want.asked i false || has xs i) (sym p.0));
  fresh = λ at. absurd (false≢true (ap (λ (xs : List Span). has xs i) (sym p.0) ∙ at));
}
  where
    it : SettlesIn own picks cancels (Some old) new
    it = subst (λ (o : Option FetchState). SettlesIn own picks cancels o new) p.1 s

-- ---- of whom each is asked

at_some : (seat : ℕ) (o : Option ℕ) → is_at seat o ≡ true → is_some o ≡ true
at_some seat None e = absurd cc
at_some seat (Some k) e = refl

-- of whom a chunk is asked then
abbrev owner_then : (seat : ℕ) (was is : Bool) → Option ℕ → Option ℕ
owner_then seat was is o = cond is (Some seat) (cond was None o)

noted_of : (o : Option ℕ) (seat : ℕ) (a p c was is : Bool) → a ≡ is_some o → was ≡ is_at seat o → (is ≡ true → (was ≡ true) ⊎ (p ≡ true))
    → (was ≡ true → (is ≡ true) ⊎ (c ≡ true)) → (c ≡ true → was ≡ true) → (p ≡ true → a ≡ false) → still a p c is ≡ is_some (owner_then seat was is o)
noted_of o seat true true true was true ea ew more fewer some fresh = refl
noted_of o seat true true false was true ea ew more fewer some fresh = refl
noted_of o seat true false true was true ea ew more fewer some fresh = refl
noted_of o seat true false false was true ea ew more fewer some fresh = refl
noted_of o seat false true true was true ea ew more fewer some fresh = refl
noted_of o seat false true false was true ea ew more fewer some fresh = refl
noted_of o seat false false c was true ea ew more fewer some fresh =
    absurd (⊎_elim (λ here. false≢true (ea ∙ at_some seat o (sym ew ∙ here))) (λ picked. false≢true picked) (more refl))
noted_of o seat true true true true false ea ew more fewer some fresh = refl
noted_of o seat true false true true false ea ew more fewer some fresh = refl
noted_of o seat false true true true false ea ew more fewer some fresh = refl
noted_of o seat false false true true false ea ew more fewer some fresh = refl
noted_of o seat a p false true false ea ew more fewer some fresh = absurd (⊎_elim (λ e. false≢true e) (λ e. false≢true e) (fewer refl))
noted_of o seat a p true false false ea ew more fewer some fresh = absurd (false≢true (some refl))
noted_of o seat true true false false false ea ew more fewer some fresh = absurd (false≢true (sym (fresh refl)))
noted_of o seat false true false false false ea ew more fewer some fresh = ea
noted_of o seat true false false false false ea ew more fewer some fresh = ea
noted_of o seat false false false false false ea ew more fewer some fresh = ea

here_of : (o : Option ℕ) (seat : ℕ) (was is : Bool) → was ≡ is_at seat o → is ≡ is_at seat (owner_then seat was is o)
here_of o seat was true ew = sym (eq-eqb seat seat refl)
here_of o seat true false ew = refl
here_of o seat false false ew = ew

apart_eqb : (k s : ℕ) → (k ≡ s → ⊥) → eqb k s ≡ false
apart_eqb k s ne = ⊎_elim (λ e. absurd (ne (eqb-true k s e))) (λ e. e) (cases_Bool (eqb k s))

other_of : (o : Option ℕ) (s seat : ℕ) (a p was is : Bool) → a ≡ is_some o → was ≡ is_at seat o → (is ≡ true → (was ≡ true) ⊎ (p ≡ true))
    → (p ≡ true → a ≡ false) → (seat ≡ s → ⊥) → is_at s o ≡ is_at s (owner_then seat was is o)
other_of None s seat a p was true ea ew more fresh ne = sym (apart_eqb seat s ne)
other_of (Some k) s seat a p was true ea ew more fresh ne = ⊎_elim
    (λ here. ap (λ (n : ℕ). eqb n s) (eqb-true k seat (sym ew ∙ here)))
    (λ picked. absurd (false≢true (sym (fresh picked) ∙ ea)))
    (more refl)
other_of None s seat a p true false ea ew more fresh ne = refl
other_of (Some k) s seat a p true false ea ew more fresh ne = ap (λ (n : ℕ). eqb n s) (eqb-true k seat (sym ew)) ∙ apart_eqb seat s ne
other_of o s seat a p false false ea ew more fresh ne = refl

-- Picked chunks, some of which are awaited on the seat from now on, and cancelled ones, which were awaited there.
pub record Moved (seat : ℕ) (picks cancels : List Span) (asked asked' : List Bool) (old new : ℕ → List Asking) : Type 0 where
  pub elsewhere : SameElsewhere seat old new
  pub more_are : (i : ℕ) → awaits (new seat) i ≡ true → (awaits (old seat) i ≡ true) ⊎ (has picks i ≡ true)
  pub fewer_are : (i : ℕ) → awaits (old seat) i ≡ true → (awaits (new seat) i ≡ true) ⊎ (has cancels i ≡ true)
  pub awaited : (i : ℕ) → has cancels i ≡ true → awaits (old seat) i ≡ true
  pub noted : (i : ℕ) → Noted i (new seat) picks cancels asked asked'

pub owned_after : (seat : ℕ) (picks cancels : List Span) (asked asked' : List Bool) (old new : ℕ → List Asking) → AreOwned asked old
    → Moved seat picks cancels asked asked' old new → AreOwned asked' new
owned_after seat picks cancels asked asked' old new owned d = record {
  owner = owner;
  noted = λ i. (d.noted i).now ∙ noted_of (owned.owner i) seat (slice_index_or asked i false) (has picks i) (has cancels i) (awaits (old seat) i) (awaits (new seat) i)
      (owned.noted i) (owned.each seat i) (d.more_are i) (d.fewer_are i) (d.awaited i) (d.noted i).fresh;
  each = λ s i. each s i (cases_eq s seat);
}
  where
    owner : ℕ → Option ℕ
    owner i = owner_then seat (awaits (old seat) i) (awaits (new seat) i) (owned.owner i)

    each : (s i : ℕ) → (s ≡ seat) ⊎ (s ≡ seat → ⊥) → awaits (new s) i ≡ is_at s (owner i)
    each s i (inl here) = subst (λ (n : ℕ). awaits (new n) i ≡ is_at n (owner i)) (sym here)
        (here_of (owned.owner i) seat (awaits (old seat) i) (awaits (new seat) i) (owned.each seat i))
    each s i (inr ne) = ap (λ (own : List Asking). awaits own i) (d.elsewhere s ne) ∙ owned.each s i
        ∙ other_of (owned.owner i) s seat (slice_index_or asked i false) (has picks i) (awaits (old seat) i) (awaits (new seat) i) (owned.noted i) (owned.each seat i)
        (d.more_are i) (d.noted i).fresh (λ e. ne (sym e))
