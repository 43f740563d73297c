-- Own requests that expired, or were lost.
use Rattle.std.proofs.Common.{◌≡◌, ◌≢◌, ◌⊎◌, ⊎_elim, inl, inr, ℕ, zero, suc, ◌+◌, ◌^◌, ◌<◌, ◌≤◌, eqb, Bool, true, false, cond, Option, Some, None, List, [], refl, sym, ◌∙◌, ap, subst, arith}
use Rattle.std.specs.Prelude.{is_some, option_map}
use Rattle.std.specs.List.{slice_get}
use Rattle.std.proofs.Math.ListN.{set}
use Rattle.std.proofs.lemmas.Bool.{cases_eq, eq-eqb}
use Rattle.std.proofs.lemmas.Bool.Decides.{nat_tests}
use Rattle.std.proofs.lemmas.Option.{same_Some}
use Rattle.pp_requests.specs.declared.asking.Asking.{Asking}
use Rattle.pp_requests.specs.Moments.{asked_at, entry_of, Changes, ChangesEntry, NoneExpired, NoneLost}
use Rattle.pp_requests.proofs.Chunks.{asked_entry, changed_moment}
use Rattle.pp_channels.specs.Seats.{channel_at}
use Rattle.pp_lives.specs.Fars.{far_of}
use Rattle.pp_fetching.specs.Fetching.{FetchState, without_request}
use Rattle.pp_fetching.specs.Owners.{awaits, AreOwned}
use Rattle.pp_fetching.proofs.Owners.{tie_stays}
use Rattle.pp_seat.specs.Seats.{SeatState}
use Rattle.pp_seats.specs.Standing.{SeatsState}
use Rattle.pp_terms.specs.format.Traffic.{Record}
use Rattle.pp_seats.specs.Standing.{Setting}
use Rattle.pp_seats.specs.Standing as seats
use Rattle.pp_seats.specs.Turning.{GivesUpRequest, GivesUpLost}
use Rattle.pp_seats.specs.Turning as turning
use Rattle.pp_seats.proofs.Lists.{get_set_there, get_set_other}
use Rattle.pp_peer.specs.declared.parts.Parts.{Parts}
use Rattle.pp_peer.specs.Standing.{asked_of, own_at, own_in, Fetches}
use Rattle.pp_peer.specs.Greeting.{offers_of, wanted_of, IsExpired, LetsGo, LetsGoAt, GivesUp, GivesUpAt, IsSpent, HasNoneSpent, open_below, open_at}
use Rattle.pp_peer.proofs.Ending.{stands_same}

-- ---- how many are asked for

abbrev bit : Option ℕ → ℕ
bit o = cond (is_some o) 1 0

one_fewer_at : (i n : ℕ) (old new : List Asking) → Changes i None old new → bit (asked_at new n) ≤ bit (asked_at old n)
one_fewer_at i n old new changes = of (eqb i n) (asked_at old n) (asked_at new n) (changes n)
  where
    of : (b : Bool) (o p : Option ℕ) → p ≡ cond b None o → bit p ≤ bit o
    of true o p e = let none : bit p ≡ 0 = ap bit e in omega (arith, none)
    of false o p e = let same : bit p ≡ bit o = ap bit e in omega (arith, same)

no_more : (i n : ℕ) (old new : List Asking) → Changes i None old new → open_below new n ≤ open_below old n
unfolding open_below
no_more i zero old new changes = omega arith
no_more i (suc n) old new changes = let here = one_fewer_at i n old new changes in let rest = no_more i n old new changes in omega (arith, here, rest)

fewer : (i n : ℕ) (old new : List Asking) → Changes i None old new → awaits old i ≡ true → i < n → open_below new n < open_below old n
unfolding open_below
fewer i zero old new changes awaited lt = absurd (omega (arith, lt))
fewer i (suc n) old new changes awaited lt = of (λ below. fewer i n old new changes awaited below) (cases_eq i n)
  where
    of : (i < n → open_below new n < open_below old n) → (i ≡ n) ⊎ (i ≡ n → ⊥)
        → bit (asked_at new n) + open_below new n < bit (asked_at old n) + open_below old n
    of rest (inl is) =
        let gone : bit (asked_at new n) ≡ 0 = ap bit (changes n ∙ ap (λ (b : Bool). cond b None (asked_at old n)) (eq-eqb i n is)) in
        let was : bit (asked_at old n) ≡ 1 = ap (λ (b : Bool). cond b 1 0) (ap (awaits old) (sym is) ∙ awaited) in
        let more = no_more i n old new changes in omega (arith, gone, was, more)
    of rest (inr ne) =
        let at = one_fewer_at i n old new changes in
        let below = rest (grind (arith, lt)) in omega (arith, at, below)

-- ---- one request is given up

without_asked : (i : ℕ) (f : Option FetchState) → asked_of (option_map (without_request i) f) ≡ set (asked_of f) i false
without_asked i None = refl
without_asked i (Some f) = refl

without_wanted : (i : ℕ) (f : Option FetchState) → wanted_of (option_map (without_request i) f) ≡ wanted_of f
without_wanted i None = refl
without_wanted i (Some f) = refl

without_offers : (i : ℕ) (f : Option FetchState) (seat j : ℕ) → offers_of (option_map (without_request i) f) seat j ≡ offers_of f seat j
without_offers i None seat j = refl
without_offers i (Some f) seat j = refl

lets_none : (now : ℕ) (s : SeatState) → LetsGo now s s
lets_none now s = record { own = λ i. inl refl; rest = refl; stopped = inl refl }

lets_none_at : (now : ℕ) (o p : Option SeatState) → p ≡ o → LetsGoAt now o p
lets_none_at now None p e = e
lets_none_at now (Some s) p e = (s, e, lets_none now s)

some_expired : (now m : ℕ) (o : Option ℕ) → o ≡ Some m → m + 10_000_000 ≤ now → IsExpired now o
some_expired now m o is le = subst (λ (e : Option ℕ). IsExpired now e) (sym is) le

-- One request of a seat that expired or was lost was taken out.
pub record GivesOne (k i : ℕ) (p q : SeatsState) : Type 0 where
  pub before : SeatState
  pub after : SeatState
  pub there : slice_get p.seats k ≡ Some before
  pub entry : Asking
  pub entered : entry_of before.own i ≡ Some entry
  pub spent : IsSpent p.moment (Some entry)
  pub taken : ChangesEntry i None before.own after.own
  pub rest : after ≡ record before { own = after.own; stopped = after.stopped }
  pub stopped : (after.stopped ≡ before.stopped) ⊎ (IsExpired p.moment (asked_at before.own i) × (after.stopped ≡ true))
  pub is : q ≡ record p { seats = set p.seats k after }
  pub stands : (x : Setting) (most : ℕ) (past : List Record) → seats.StandsFor x most p past → seats.StandsFor x most q past

entry_asked : (own : List Asking) (i m : ℕ) → asked_at own i ≡ Some m → (x : Asking) × (entry_of own i ≡ Some x) × (x.moment ≡ m)
entry_asked own i m is = of (entry_of own i) refl (sym (asked_entry own i) ∙ is)
  where
    of : (o : Option Asking) → entry_of own i ≡ o → option_map (λ (x : Asking). x.moment) o ≡ Some m → (x : Asking) × (entry_of own i ≡ Some x) × (x.moment ≡ m)
    of None e same = absurd cc
    of (Some x) e same = let moment : x.moment ≡ m = cc in (x, e, moment)

pub one_expired : (k i : ℕ) (p q : SeatsState) → GivesUpRequest k i p q → GivesOne k i p q
one_expired k i p q g =
    let entry = entry_asked g.before.own i g.least.moment g.least.asked in
    let old = g.least.expired in
    let same = entry.2 in
    record {
      before = g.before;
      after = g.after;
      there = g.there;
      entry = entry.0;
      entered = entry.1;
      spent = inl (omega (arith, old, same));
      taken = g.taken;
      rest = g.exact ∙ ap (λ (b : Bool). record g.before { own = g.after.own; stopped = b }) (sym (ap (λ (o : SeatState). o.stopped) g.exact));
      stopped = inr (some_expired p.moment g.least.moment (asked_at g.before.own i) g.least.asked old, ap (λ (o : SeatState). o.stopped) g.exact);
      is = g.is;
      stands = g.stands;
    }

pub one_lost : (k i : ℕ) (p q : SeatsState) → GivesUpLost k i p q → GivesOne k i p q
one_lost k i p q g = record {
  before = g.before;
  after = g.after;
  there = g.there;
  entry = g.least.entry;
  entered = g.least.there;
  spent = inr g.least.lost;
  taken = g.taken;
  rest = g.exact ∙ ap (λ (b : Bool). record g.before { own = g.after.own; stopped = b }) (sym (ap (λ (o : SeatState). o.stopped) g.exact));
  stopped = inl (ap (λ (o : SeatState). o.stopped) g.exact);
  is = g.is;
  stands = g.stands;
}

not_empty : (own : List Asking) (i m : ℕ) → own ≡ [] → asked_at own i ≡ Some m → ⊥
not_empty own i m empty asked = let e : None ≡ Some m = ap (λ (xs : List Asking). asked_at xs i) (sym empty) ∙ asked in absurd cc

module _ (p : Parts) (s : SeatsState) (fetching : Option FetchState) (k i : ℕ) (g : GivesOne k i p.seats s)
    (given : fetching ≡ option_map (without_request i) p.fetching) where
  abbrev q : Parts
  q = record p { seats = s; fetching = fetching }

  messages : s.seats ≡ set p.seats.seats k g.after
  messages = ap (λ (o : SeatsState). o.seats) g.is

  here : slice_get s.seats k ≡ Some g.after
  here = ap (λ (xs : List SeatState). slice_get xs k) messages ∙ get_set_there p.seats.seats k g.after g.before g.there

  elsewhere : (n : ℕ) → n ≢ k → slice_get s.seats n ≡ slice_get p.seats.seats n
  elsewhere n ne = ap (λ (xs : List SeatState). slice_get xs n) messages ∙ get_set_other p.seats.seats k n g.after ne

  own_before : own_in p.seats.seats k ≡ g.before.own
  own_before = ap own_at g.there

  own_after : own_in s.seats k ≡ g.after.own
  own_after = ap own_at here

  changes : Changes i None (own_in p.seats.seats k) (own_in s.seats k)
  changes = changed_moment i None (own_in p.seats.seats k) (own_in s.seats k)
      (subst (λ (xs : List Asking). ChangesEntry i None xs (own_in s.seats k)) (sym own_before)
      (subst (λ (ys : List Asking). ChangesEntry i None g.before.own ys) (sym own_after) g.taken))

  asked : asked_at (own_in p.seats.seats k) i ≡ Some g.entry.moment
  asked = ap (λ (xs : List Asking). asked_at xs i) own_before ∙ asked_entry g.before.own i
      ∙ ap (λ (o : Option Asking). option_map (λ (x : Asking). x.moment) o) g.entered

  awaited : awaits (own_in p.seats.seats k) i ≡ true
  awaited = ap (λ (o : Option ℕ). is_some o) asked

  pub fewer_open : i < 2 ^ 32 → open_at q k < open_at p k
  fewer_open lt = fewer i (2 ^ 32) (own_in p.seats.seats k) (own_in s.seats k) changes awaited lt

  fetches : Fetches p → Fetches q
  fetches f = record {
    owned = subst (λ (xs : List Bool). AreOwned xs (own_in s.seats)) (sym (ap asked_of given ∙ without_asked i p.fetching))
        (tie_stays.answered k i (asked_of p.fetching) (own_in p.seats.seats) (own_in s.seats) f.owned (λ n ne. ap own_at (elsewhere n ne)) changes awaited);
    idle = λ n far. of n (f.idle n (ap (λ (o : SeatsState). far_of (channel_at o.table n)) (sym g.is) ∙ far)) (cases_eq n k);
  }
    where
      of : (n : ℕ) → own_in p.seats.seats n ≡ [] → (n ≡ k) ⊎ (n ≡ k → ⊥) → own_in s.seats n ≡ []
      of n empty (inl is) = absurd (not_empty (own_in p.seats.seats k) i g.entry.moment (ap (own_in p.seats.seats) (sym is) ∙ empty) asked)
      of n empty (inr ne) = ap own_at (elsewhere n ne) ∙ empty

  lets_go : LetsGo p.seats.moment g.before g.after
  lets_go = record { own = λ j. of j (cases_eq i j); rest = g.rest; stopped = ⊎_elim inl (λ e. inr (i, e.0, e.1)) g.stopped }
    where
      of : (j : ℕ) → (i ≡ j) ⊎ (i ≡ j → ⊥)
          → (entry_of g.after.own j ≡ entry_of g.before.own j) ⊎ (IsSpent p.seats.moment (entry_of g.before.own j) × (entry_of g.after.own j ≡ None))
      of j (inl is) = inr (
        subst (λ (o : Option Asking). IsSpent p.seats.moment o) (sym (ap (entry_of g.before.own) (sym is) ∙ g.entered)) g.spent,
        g.taken j ∙ ap (λ (b : Bool). cond b None (entry_of g.before.own j)) (eq-eqb i j is),
      )
      of j (inr ne) = let test : eqb i j ≡ false = grind (arith, nat_tests) in
          inl (g.taken j ∙ ap (λ (b : Bool). cond b None (entry_of g.before.own j)) test)

  pub gives_one : GivesUpAt k p q
  gives_one = record {
    gives_up = record {
      each = λ n. of n (cases_eq n k);
      rest = ap (λ (o : SeatsState). record p { seats = o; fetching = fetching }) (g.is ∙ ap (λ (xs : List SeatState). record p.seats { seats = xs }) (sym messages));
      wanted = ap wanted_of given ∙ without_wanted i p.fetching;
      offers = λ n j. ap (λ (f : Option FetchState). offers_of f n j) given ∙ without_offers i p.fetching n j;
      stands = λ b most past h. stands_same b most most p q past refl (record { datagrams = refl; short = refl; sent = refl })
          (λ x h. g.stands x most past h) fetches h;
    };
    others = elsewhere;
  }
    where
      of : (n : ℕ) → (n ≡ k) ⊎ (n ≡ k → ⊥) → LetsGoAt p.seats.moment (slice_get p.seats.seats n) (slice_get s.seats n)
      of n (inl is) = subst (λ (m : ℕ). LetsGoAt p.seats.moment (slice_get p.seats.seats m) (slice_get s.seats m)) (sym is)
          (subst (λ (o : Option SeatState). LetsGoAt p.seats.moment o (slice_get s.seats k)) (sym g.there) (g.after, here, lets_go))
      of n (inr ne) = lets_none_at p.seats.moment (slice_get p.seats.seats n) (slice_get s.seats n) (elsewhere n ne)

-- none is left
pub none_left : (p : Parts) (s t : SeatsState) (k : ℕ) → turning.HasNoneExpired k p.seats s → turning.HasNoneLost k s t → (t ≡ p.seats) × HasNoneSpent k p
none_left p s t k none kept = (
  kept.same ∙ none.same,
  λ state there. (
    subst (λ (o : SeatState). NoneExpired o.own p.seats.moment) (same_Some none.known state (sym none.there ∙ there)) none.none,
    subst (λ (o : SeatState). NoneLost o.own)
        (same_Some kept.known state (sym kept.there ∙ ap (λ (x : SeatsState). slice_get x.seats k) none.same ∙ there)) kept.none,
  ),
)

-- ---- all of them

pub gives_none : (p : Parts) → GivesUp p p
gives_none p = record {
  each = λ n. lets_none_at p.seats.moment (slice_get p.seats.seats n) (slice_get p.seats.seats n) refl;
  rest = refl;
  wanted = refl;
  offers = λ n j. refl;
  stands = λ b most past h. h;
}

pub gives_none_at : (k : ℕ) (p : Parts) → GivesUpAt k p p
gives_none_at k p = record { gives_up = gives_none p; others = λ n ne. refl }

lets_twice : (now : ℕ) (a b c : SeatState) → LetsGo now a b → LetsGo now b c → LetsGo now a c
lets_twice now a b c one two = record {
  own = λ i. of i (one.own i) (two.own i);
  rest = two.rest ∙ ap (λ (s : SeatState). record s { own = c.own; stopped = c.stopped }) one.rest;
  stopped = stops one.stopped two.stopped;
}
  where
    of : (i : ℕ) → (entry_of b.own i ≡ entry_of a.own i) ⊎ (IsSpent now (entry_of a.own i) × (entry_of b.own i ≡ None))
        → (entry_of c.own i ≡ entry_of b.own i) ⊎ (IsSpent now (entry_of b.own i) × (entry_of c.own i ≡ None))
        → (entry_of c.own i ≡ entry_of a.own i) ⊎ (IsSpent now (entry_of a.own i) × (entry_of c.own i ≡ None))
    of i (inl u) (inl v) = inl (v ∙ u)
    of i (inr u) (inl v) = inr (u.0, v ∙ u.1)
    of i (inl u) (inr v) = inr (subst (λ (o : Option Asking). IsSpent now o) u v.0, v.1)
    of i (inr u) (inr v) = inr (u.0, v.1)

    was : (i : ℕ) → IsExpired now (asked_at b.own i)
        → (entry_of b.own i ≡ entry_of a.own i) ⊎ (IsSpent now (entry_of a.own i) × (entry_of b.own i ≡ None)) → IsExpired now (asked_at a.own i)
    was i expired (inl u) = subst (λ (o : Option ℕ). IsExpired now o)
        (asked_entry b.own i ∙ ap (λ (o : Option Asking). option_map (λ (x : Asking). x.moment) o) u ∙ sym (asked_entry a.own i)) expired
    was i expired (inr u) = absurd (subst (λ (o : Option ℕ). IsExpired now o)
        (asked_entry b.own i ∙ ap (λ (o : Option Asking). option_map (λ (x : Asking). x.moment) o) u.1) expired)

    stops : (b.stopped ≡ a.stopped) ⊎ ((i : ℕ) × IsExpired now (asked_at a.own i) × (b.stopped ≡ true))
        → (c.stopped ≡ b.stopped) ⊎ ((i : ℕ) × IsExpired now (asked_at b.own i) × (c.stopped ≡ true))
        → (c.stopped ≡ a.stopped) ⊎ ((i : ℕ) × IsExpired now (asked_at a.own i) × (c.stopped ≡ true))
    stops (inl u) (inl v) = inl (v ∙ u)
    stops (inr u) (inl v) = inr (u.0, u.1, v ∙ u.2)
    stops u (inr v) = inr (v.0, was v.0 v.1 (one.own v.0), v.2)

lets_twice_at : (now : ℕ) (a b c : Option SeatState) → LetsGoAt now a b → LetsGoAt now b c → LetsGoAt now a c
lets_twice_at now None b c one two = subst (λ (o : Option SeatState). LetsGoAt now o c) one two
lets_twice_at now (Some a) b c one two =
    let left = subst (λ (o : Option SeatState). LetsGoAt now o c) one.1 two in (left.0, left.1, lets_twice now a one.0 left.0 one.2 left.2)

pub gives_twice : (a b c : Parts) → GivesUp a b → GivesUp b c → GivesUp a c
gives_twice a b c one two = record {
  each = λ n. lets_twice_at a.seats.moment (slice_get a.seats.seats n) (slice_get b.seats.seats n) (slice_get c.seats.seats n) (one.each n)
      (subst (λ (m : ℕ). LetsGoAt m (slice_get b.seats.seats n) (slice_get c.seats.seats n)) (ap (λ (p : Parts). p.seats.moment) one.rest) (two.each n));
  rest = two.rest ∙ ap (λ (p : Parts). record p { seats = record p.seats { seats = c.seats.seats }; fetching = c.fetching }) one.rest;
  wanted = two.wanted ∙ one.wanted;
  offers = λ n j. two.offers n j ∙ one.offers n j;
  stands = λ x most past h. two.stands x most past (one.stands x most past h);
}

pub gives_twice_at : (k : ℕ) (a b c : Parts) → GivesUpAt k a b → GivesUpAt k b c → GivesUpAt k a c
gives_twice_at k a b c one two = record {
  gives_up = gives_twice a b c one.gives_up two.gives_up;
  others = λ n ne. two.others n ne ∙ one.others n ne;
}

-- the seats below a number have none left
abbrev pub HaveNoneSpent : ℕ → Parts → Type 0
HaveNoneSpent below p = (seat : ℕ) → seat < below → HasNoneSpent seat p

pub none_more : (below : ℕ) (a b : Parts) → HaveNoneSpent below a → GivesUpAt below a b → HasNoneSpent below b → HaveNoneSpent (below + 1) b
none_more below a b none gives last n lt = of (cases_eq n below)
  where
    of : (n ≡ below) ⊎ (n ≡ below → ⊥) → HasNoneSpent n b
    of (inl is) = subst (λ (m : ℕ). HasNoneSpent m b) (sym is) last
    of (inr ne) = λ s there.
        let was = none n (grind (arith, lt)) s (sym (gives.others n ne) ∙ there) in
        (subst (λ (m : ℕ). NoneExpired s.own m) (sym (ap (λ (p : Parts). p.seats.moment) gives.gives_up.rest)) was.0, was.1)
