-- What a swarm sends is what it sends over a link of its own that gains the same; and between two calls other swarms may use the link.
use Rattle.std.proofs.Common.{◌≡◌, inl, inr, ⊎_elim, ℕ, ◌≤◌, Bool, true, false, List, [], ◌∷◌, ◌++◌, Option, Some, None, refl, sym, ◌∙◌, subst, arith}
use Rattle.std.specs.Prelude.{MatchBool, Result, Ok, Err, OnOk, OnErr, is_ok}
use Rattle.std.proofs.lemmas.List.{append_cancel_right}
use Rattle.std.proofs.lemmas.Option.{same_Some}
use Rattle.pp_terms.specs.Count.{HasCause}
use Rattle.pp_terms.specs.disk.Disk.{DiskState}
use Rattle.pp_terms.specs.format.Traffic.{LinkState, Record, GainsRecords}
use Rattle.pp_terms.proofs.Risings.{risen_more, risen_less, gains_nothing}
use Rattle.pp_outside.specs.Outside.{DoesNext}
use Rattle.pp_outside.specs.declared.disk.DiskFault.{DiskFault}
use Rattle.pp_outside.specs.declared.link.Event.{Event}
use Rattle.pp_outside.specs.declared.link.LinkFault.{LinkFault}
use Rattle.pp_scan.specs.Look.{KeepsAll}
use Rattle.pp_holding.specs.Holding.{stock_of}
use Rattle.pp_holding.specs.Stock.{Advances}
use Rattle.pp_peer.specs.Standing.{Beginning, StandsFor}
use Rattle.pp_core.specs.Offering.{limit_of}
use Rattle.pp_core.specs.Peers.{PeerState}
use Rattle.pp_core.specs.Turning.{Closes, after_refusal}
use Rattle.pp_turns.specs.Alike.{GainsAlike, Carries}
use Rattle.pp_turns.specs.Promising.{Ended, Came, Refused}
use Rattle.pp_turns.specs.Taking.{Waits, Finishes}
use Rattle.pp_turns.specs.Turning.{post}
use Rattle.pp_turns.proofs.Alike.{closes_alike}
use Rattle.pp_turns.proofs.Counted.{turned_counted}
use Rattle.pp_turns.proofs.Turned.{waits_refused}
use Rattle.pp_swarms.specs.Sharing.{Swarm, swarm, is_live, HearsIf, RefusesIf, SeesPart, SendsPart, ClosesPart, SendsIf, ClosesIf, SendsOne, ClosesOne, GainsParts}
use Rattle.pp_swarms.proofs.Loops.{Within}

-- ---- one link and another

gains_alike : (a b v w : Option (List Record)) (part : List Record) → GainsRecords a part b → GainsRecords v part w
    → ((before : List Record) → v ≡ Some before → (all : List Record) × (a ≡ Some all))
    → (added : List Record) → GainsRecords a added b → GainsRecords v added w
gains_alike a b None w part one two tells added gained = two
gains_alike None b (Some vs) w part one two tells added gained = let t = tells vs refl in absurd (let never : None ≡ Some t.0 = t.1 in cc)
gains_alike (Some xs) b (Some vs) w part one two tells added gained =
    let same : part ≡ added = append_cancel_right part added xs (same_Some (part ++ xs) (added ++ xs) (sym one ∙ gained)) in
    subst (λ (rs : List Record). w ≡ Some (rs ++ vs)) same two

pub sees_alike : (part : List Record) (link link' seen seen' : LinkState) → GainsRecords link.traffic part link'.traffic
    → SeesPart part link link' seen seen' → GainsAlike link link' seen seen'
sees_alike part link link' seen seen' gained s = record {
  gained = gains_alike link.traffic link'.traffic seen.traffic seen'.traffic part gained s.gained s.tells;
  tells = s.tells;
  nexts = s.nexts;
  bound = s.bound;
  before = s.before;
  after = s.after;
}

-- ---- while others use the link

-- the same link, that refused so often
abbrev counted : ℕ → LinkState → LinkState
counted faults link = record link { faults = faults }

module _ (part : List Record) (link link' before after : LinkState) (w : Within link link' before after) (seen seen' : LinkState)
    (s : SeesPart part before after seen seen') where
  abbrev sees_within : SeesPart part link link' (counted link.faults seen) (counted link'.faults seen')
  sees_within = record {
    gained = s.gained;
    tells = λ traffic is. let t = s.tells traffic is in w.tells t.0 t.1;
    nexts = s.nexts;
    bound = s.bound;
    before = refl;
    after = refl;
  }

  before_less : seen.faults ≤ link.faults
  before_less = let e = s.before in let le = w.first in omega (arith, e, le)

  after_more : link'.faults ≤ seen'.faults
  after_more = let e = s.after in let le = w.last in omega (arith, e, le)

  finishes_within : (x y : Swarm) → Finishes (post x.peer x.disk (counted link.faults seen)) (post y.peer y.disk (counted link'.faults seen'))
      → Finishes (post x.peer x.disk seen) (post y.peer y.disk seen')
  finishes_within x y finishes b taken first waited =
      turned_counted seen'.faults b first (post y.peer y.disk (counted link'.faults seen')) after_more Ended taken
      (finishes b taken first (⊎_elim
      (λ came. inl (turned_counted link.faults b first (post x.peer x.disk seen) before_less Came taken came))
      (λ late. inr (turned_counted link.faults b first (post x.peer x.disk seen) before_less Refused taken late))
      waited))

  closes_within : (x y : Swarm) → Closes x.peer y.peer (counted link.faults seen) (counted link'.faults seen') x.disk
      → Closes x.peer y.peer seen seen' x.disk
  closes_within x y c = record {
    parting = record {
      flushes = record {
        added = c.parting.flushes.added;
        gained = c.parting.flushes.gained;
        nexts = c.parting.flushes.nexts;
        bound = c.parting.flushes.bound;
        later = (let le = c.parting.flushes.later in omega (arith, le, before_less, after_more));
        ours = c.parting.flushes.ours;
        seeds = c.parting.flushes.seeds;
        waits = c.parting.flushes.waits;
        reads = c.parting.flushes.reads;
        holding = c.parting.flushes.holding;
        swarm = c.parting.flushes.swarm;
        moment = c.parting.flushes.moment;
        stands = c.parting.flushes.stands;
      };
      each = λ seat far lt is proven. ⊎_elim (λ closed. inl closed)
          (λ risen. inr (risen_more seen.faults link'.faults seen'.faults after_more (risen_less seen.faults link.faults link'.faults before_less risen)))
          (c.parting.each seat far lt is proven);
      others = c.parting.others;
      once = c.parting.once;
      counted = c.parting.counted;
      fars = c.parting.fars;
      rest = c.parting.rest;
    };
    goes = c.goes;
    rest = c.rest;
  }

pub sends_within : (part : List Record) (x y : Swarm) (link link' before after : LinkState) → Within link link' before after
    → SendsPart part x y link link' → SendsPart part x y before after
sends_within part x y link link' before after w p = record {
  ends = λ seen seen' s. finishes_within part link link' before after w seen seen' s x y
      (p.ends (counted link.faults seen) (counted link'.faults seen') (sees_within part link link' before after w seen seen' s));
  ours = p.ours;
  refused = p.refused;
  stands = p.stands;
  store = p.store;
  book = p.book;
  reads = p.reads;
  limit = p.limit;
}

pub closed_within : (part : List Record) (x y : Swarm) (link link' before after : LinkState) → Within link link' before after
    → ClosesPart part x y link link' → ClosesPart part x y before after
closed_within part x y link link' before after w p = record {
  closes = λ seen seen' s. closes_within part link link' before after w seen seen' s x y
      (p.closes (counted link.faults seen) (counted link'.faults seen') (sees_within part link link' before after w seen seen' s));
  ours = p.ours;
  disk = p.disk;
}

-- ---- a swarm that goes on, and a stopped one

match_on : (b : Bool) (A B C : Type 0) → (A → B) → MatchBool b A C → MatchBool b B C
match_on true A B C on is = on is
match_on false A B C on is = is

pub sends_grows : (part : List Record) (x y : Swarm) (link link' before after : LinkState) → Within link link' before after
    → SendsIf part x y link link' → SendsIf part x y before after
sends_grows part x y link link' before after w is =
    match_on (is_live x.peer) _ _ _ (sends_within part x y link link' before after w) is

pub closes_grows : (part : List Record) (x y : Swarm) (link link' before after : LinkState) → Within link link' before after
    → ClosesIf part x y link link' → ClosesIf part x y before after
closes_grows part x y link link' before after w is =
    match_on (is_live x.peer) _ _ _ (closed_within part x y link link' before after w) is

-- nothing was sent
pub gains_none : (link : LinkState) → GainsParts ([] ∷ []) link link
gains_none link = record { gained = gains_nothing link.traffic link.traffic refl; nexts = refl; bound = refl; later = omega arith }

pub match_false : (b : Bool) (A B : Type 0) → b ≡ false → B → MatchBool b A B
match_false true A B e is = absurd cc
match_false false A B e is = is

pub match_true : (b : Bool) (A B : Type 0) → b ≡ true → A → MatchBool b A B
match_true true A B e is = is
match_true false A B e is = absurd cc

-- ---- one swarm

live_is : (r : Result (Unit {0}) DiskFault) (b : Bool) → OnOk r (b ≡ true) → OnErr r (b ≡ false) → b ≡ is_ok r
live_is (Ok u) b goes stops = goes
live_is (Err f) b goes stops = stops

on_ok : (r : Result (Unit {0}) DiskFault) (P : Type 0) → OnOk r P → is_ok r ≡ true → P
on_ok (Ok u) P is e = is
on_ok (Err f) P is e = absurd (let never : false ≡ true = e in cc)

pub hears_live : (event : Event) (buffer : List ℕ) (x y : Swarm) (r : Result (Unit {0}) DiskFault) → is_live x.peer ≡ true
    → ((seen seen' : LinkState) → DoesNext {E = LinkFault} seen buffer (Ok event) seen' → Waits (post x.peer x.disk seen) (post y.peer y.disk seen') r)
    → Advances (stock_of x.peer.parts.holding x.disk) (stock_of y.peer.parts.holding y.disk)
    → (is_live x.peer ≡ true → HasCause x.disk.hard y.disk.hard r) → (is_live x.peer ≡ true → OnOk r (is_live y.peer ≡ true))
    → OnErr r (is_live y.peer ≡ false) → OnOk r (limit_of y.peer.parts.fetching ≡ limit_of x.peer.parts.fetching)
    → HearsIf event buffer x y
hears_live event buffer x y r live waits advances cause goes_on dead limit = match_true (is_live x.peer) _ _ live (record {
  result = r;
  waits = waits;
  advances = advances;
  cause = cause live;
  live = live_is r (is_live y.peer) (goes_on live) dead;
  limit = on_ok r _ limit;
})

pub refuses_live : (p q : PeerState) → is_live p ≡ true → q ≡ after_refusal p
    → ((b : Beginning) (most : ℕ) (past : List Record) → StandsFor b most p.parts past → StandsFor b most q.parts past) → RefusesIf p q
refuses_live p q live exact stands = match_true (is_live p) _ _ live (record {
  counted = exact;
  waits = λ disk buffer fault seen seen' does. waits_refused (post p disk seen) (post q disk seen') tt exact refl does.refused does.nexts does.bound
      does.cause.later (does.cause.risen refl) stands;
})

pub sends_live : (x y : Swarm) (link link' : LinkState) → is_live x.peer ≡ true
    → Carries (post x.peer x.disk link) (post y.peer y.disk link')
    → ((seen seen' : LinkState) → GainsAlike link link' seen seen' → Finishes (post x.peer x.disk seen) (post y.peer y.disk seen'))
    → y.peer.parts.holding.store ≡ x.peer.parts.holding.store → y.peer.parts.holding.book ≡ x.peer.parts.holding.book
    → KeepsAll x.disk y.disk → limit_of y.peer.parts.fetching ≡ limit_of x.peer.parts.fetching → SendsOne x y link link'
sends_live x y link link' live c alike store book reads limit = (
  c.added,
  record { gained = c.gained; nexts = c.nexts; bound = c.bound; later = c.later },
  match_true (is_live x.peer) _ _ live (record {
    ends = λ seen seen' s. alike seen seen' (sees_alike c.added link link' seen seen' c.gained s);
    ours = c.ours;
    refused = c.refused;
    stands = c.stands;
    store = store;
    book = book;
    reads = reads;
    limit = limit;
  }),
)

pub closes_live : (p q : PeerState) (disk : DiskState) (link link' : LinkState) → is_live p ≡ true → Closes p q link link' disk
    → ClosesOne (swarm p disk) (swarm q disk) link link'
closes_live p q disk link link' live c = (
  c.parting.flushes.added,
  record {
    gained = c.parting.flushes.gained;
    nexts = c.parting.flushes.nexts;
    bound = c.parting.flushes.bound;
    later = c.parting.flushes.later;
  },
  match_true (is_live p) _ _ live (record {
    closes = λ seen seen' s. closes_alike p q link link' seen seen' disk
        (sees_alike c.parting.flushes.added link link' seen seen' c.parting.flushes.gained s) c;
    ours = c.parting.flushes.ours;
    disk = refl;
  }),
)

-- a stopped swarm
pub sends_stopped : (x : Swarm) (link : LinkState) → is_live x.peer ≡ false → SendsOne x x link link
sends_stopped x link stopped = ([], gains_none link, match_false (is_live x.peer) _ _ stopped (refl, refl))

pub closes_stopped : (x : Swarm) (link : LinkState) → is_live x.peer ≡ false → ClosesOne x x link link
closes_stopped x link stopped = ([], gains_none link, match_false (is_live x.peer) _ _ stopped (refl, refl))
