-- Turns, one after the other.
use Rattle.std.proofs.Common.{◌≡◌, ◌⊎◌, inl, inr, ⊎_elim, ℕ, zero, suc, ◌+◌, ◌<◌, ◌≤◌, Bool, true, false, ◌||◌, Some, List, [], ◌∷◌, ◌++◌, length, take, refl, sym, ◌∙◌, ap, subst, arith}
use Rattle.std.specs.Prelude.{is_some}
use Rattle.std.specs.List.{AllByRecursion, list_any}
use Rattle.std.proofs.lemmas.List.{length-take-le, take-take}
use Rattle.std.proofs.lemmas.List.Folds.{list_any-append}
use Rattle.pp_terms.specs.Count.{HasRisen, capped, one_more}
use Rattle.pp_terms.specs.disk.Disk.{DiskState, History, moment_of}
use Rattle.pp_terms.specs.format.Descriptor.{Descriptor}
use Rattle.pp_terms.specs.format.Messages.{Datagram}
use Rattle.pp_terms.specs.format.Traffic as traffic
use Rattle.pp_terms.specs.format.Traffic.{LinkState, Record, Received, Sent, GainsRecords}
use Rattle.pp_terms.proofs.Risings.{risen_more, risen_less, gains_nothing, gains_twice}
use Rattle.pp_traffic.specs.Committed.{requests, RequestsNone}
use Rattle.pp_traffic.specs.Keeping.{EachAnnounced}
use Rattle.pp_traffic.specs.Tallied.{TookTurns}
use Rattle.pp_traffic.specs.Turns.{events, is_closing}
use Rattle.pp_promises.specs.Datagrams as promised
use Rattle.pp_counts.specs.declared.counts.Counts.{Counts}
use Rattle.pp_outside.specs.Outside.{address_of, record_of, size_of, FitsIn}
use Rattle.pp_outside.specs.Arrivals.{IsEvent}
use Rattle.pp_outside.specs.declared.link.Event.{Event}
use Rattle.pp_outside.specs.declared.link.Event.TheVariants as came
use Rattle.pp_complete.specs.Shipped.{StoresShipped}
use Rattle.pp_store.specs.Store.{StoreState, is_held}
use Rattle.pp_terms.specs.tree.Book.{LookUp}
use Rattle.pp_tree.specs.Book.{BookState, entry}
use Rattle.pp_paths.specs.Judge.{KeepsEntries}
use Rattle.pp_holding.specs.Holding.{HoldingState, stock_of}
use Rattle.pp_holding.specs.Stock.{Stock, Advances}
use Rattle.pp_holding.proofs.Advancing.{advances_none, advances_twice, advances_reading}
use Rattle.pp_peer.specs.declared.parts.Parts.{Parts}
use Rattle.pp_peer.specs.Absorbing.{with_event, Advanced}
use Rattle.pp_peer.specs.Events.{Absorbs}
use Rattle.pp_peer.specs.Flushing.{IsOurs, Flushes}
use Rattle.pp_peer.specs.Standing.{Beginning, Ledger, StandsFor}
use Rattle.pp_core.specs.Offering.{KeepsOffers}
use Rattle.pp_core.specs.Peers.{PeerState}
use Rattle.pp_core.specs.Keeping.{IsThere, IsKeeping}
use Rattle.pp_core.specs.Remembering.{KeepsWrote, StaysUnchoked, KeepsTold, HasNoTicket, KeepsAcks, HasNoRepeat}
use Rattle.pp_core.specs.Storing.{StoresIn, CommitsTold}
use Rattle.pp_core.specs.Turning.{scene, without_tickets, Goes, Sends, Closes, after_refusal}
use Rattle.pp_turns.specs.Turning.{Post, post, stock_in, IsBegun, Went, TakesTurns, Stops}
use Rattle.pp_turns.proofs.Idle.{absorbs_idle}
use Rattle.pp_turns.proofs.Promising.{event_open}

-- ---- the event in the buffer

pub event_fits : (event : Event) (buffer : List ℕ) → length buffer ≡ 65536 → FitsIn event buffer → IsEvent event (take (size_of event) buffer)
event_fits (came.Datagram sender len at) buffer whole fits =
    let is = length-take-le len buffer fits in (sym is, omega (arith, is, fits, whole))
event_fits (came.Quiet at) buffer whole fits = refl

pub same_record : (event : Event) (buffer : List ℕ) → record_of event (take (size_of event) buffer) ≡ record_of event buffer
same_record (came.Datagram sender len at) buffer = ap (λ (xs : List ℕ). Received at (address_of sender) xs) (take-take len len buffer (omega arith))
same_record (came.Quiet at) buffer = refl

-- ---- what one event adds

event_counts : (event : Event) (bytes : List ℕ) (past : List Record) → events (record_of event bytes ∷ past) ≡ events past + 1
event_counts (came.Datagram sender len at) bytes past = refl
event_counts (came.Quiet at) bytes past = refl

event_whole : (d : Descriptor) (event : Event) (bytes : List ℕ) → promised.IsWhole d (record_of event bytes)
event_whole d (came.Datagram sender len at) bytes = tt
event_whole d (came.Quiet at) bytes = tt

event_asks_none : (d : Descriptor) (event : Event) (bytes : List ℕ) (past : List Record) → RequestsNone d past → RequestsNone d (record_of event bytes ∷ past)
event_asks_none d (came.Datagram sender len at) bytes past none = none
event_asks_none d (came.Quiet at) bytes past none = none

event_turns : (event : Event) (bytes : List ℕ) (k : Counts) → (with_event event bytes k).turns ≡ one_more k.turns
event_turns (came.Datagram sender len at) bytes k = refl
event_turns (came.Quiet at) bytes k = refl

event_refusals : (event : Event) (bytes : List ℕ) (k : Counts) → (with_event event bytes k).receive_faults ≡ k.receive_faults
event_refusals (came.Datagram sender len at) bytes k = refl
event_refusals (came.Quiet at) bytes k = refl

-- ---- what is sent

pub sent_none : (d : Descriptor) (moment : ℕ) (xs past : List Record) → AllByRecursion (IsOurs d moment) xs → events (xs ++ past) ≡ events past
sent_none d moment [] past all = refl
sent_none d moment (x ∷ xs) past all =
    subst (λ (r : Record). events (r ∷ (xs ++ past)) ≡ events past) (sym all.0.is) (sent_none d moment xs past all.1)

ours_whole : (d : Descriptor) (moment : ℕ) (r : Record) → IsOurs d moment r → promised.IsWhole d r
ours_whole d moment r o = subst (promised.IsWhole d) (sym o.is) (record {
  numbered = ap (λ (x : Datagram). is_some x.channel) o.written.read;
  short = o.written.short;
  to_end = ap (λ (x : Datagram). x.messages.fault) o.written.read;
})

all_whole : (d : Descriptor) (moment : ℕ) (xs past : List Record) → AllByRecursion (IsOurs d moment) xs
    → AllByRecursion (promised.IsWhole d) past → AllByRecursion (promised.IsWhole d) (xs ++ past)
all_whole d moment [] past all before = before
all_whole d moment (x ∷ xs) past all before = (ours_whole d moment x all.0, all_whole d moment xs past all.1 before)

asks_both : (d : Descriptor) (xs past : List Record) → RequestsNone d xs → RequestsNone d past → RequestsNone d (xs ++ past)
asks_both d xs past one two =
    list_any-append (requests d) xs past ∙ ap (λ (x : Bool). x || list_any (requests d) past) one ∙ two

-- ---- nothing yet

pub each_announced : (d : Descriptor) (P Q : ℕ → ℕ → Type 0) → ((moment i : ℕ) → P moment i → Q moment i) → (xs : List Record) → EachAnnounced d P xs → EachAnnounced d Q xs
each_announced d P Q on [] all = tt
each_announced d P Q on (Received at sender bytes ∷ xs) all = each_announced d P Q on xs all
each_announced d P Q on (traffic.Quiet at ∷ xs) all = each_announced d P Q on xs all
each_announced d P Q on (Sent moment receiver bytes ∷ xs) all = (λ i e. on moment i (all.0 i e), each_announced d P Q on xs all.1)

pub turns_none : (b : Beginning) (p : Post) → IsBegun b p → TakesTurns b 0 p p
turns_none b p begun = record {
  went = record {
    past = begun.past;
    added = [];
    gained = gains_nothing p.link.traffic p.link.traffic refl;
    took = record { nexts = λ some. absurd (omega (arith, some)); still = λ none. refl; refused = 0; each = refl; why = inl refl };
    bound = refl;
    later = omega arith;
    advances = advances_none (stock_in p);
    whole = tt;
    asks_none = λ idle. refl;
    ledger = begun.stands.ledger;
    keeps = λ keeps. keeps;
    turns = ap (λ (k : Counts). k.turns) begun.counts ∙ omega arith;
    receive_faults = ap (λ (k : Counts). k.receive_faults) begun.counts ∙ omega arith;
  };
  refused = 0;
  stands = begun.stands;
  live = begun.live;
  idle = λ idle. idle;
}

pub none_turned : (b : Beginning) (p : Post) (begun : IsBegun b p)
    → ((turns_none b p begun).went.added ≡ []) × ((turns_none b p begun).refused ≡ 0)
unfolding turns_none
none_turned b p begun = (refl, refl)

-- ---- the count of waits

next_step : (n a b c : ℕ) → (0 < n → b ≡ capped (a + n)) → (n ≡ 0 → b ≡ a) → c ≡ capped (b + 1) → c ≡ capped (a + (n + 1))
next_step zero a b c more same e = let h = same refl in omega (arith, h, e)
next_step (suc n) a b c more same e = let h = more (omega arith) in omega (arith, h, e)

-- One wait more: it gave an event, or it was refused.
abbrev waited : (n more : ℕ) (first old new : LinkState) (past now : List Record) (t : TookTurns n first old past) → first.faults ≤ old.faults
    → old.faults ≤ new.faults → new.nexts ≡ capped (old.nexts + 1) → events now + more ≡ events past + 1
    → (more ≡ 0) ⊎ HasRisen old.faults new.faults → TookTurns (n + 1) first new now
waited n more first old new past now t before later nexts all why = record {
  nexts = λ some. next_step n first.nexts old.nexts new.nexts t.nexts t.still nexts;
  still = λ none. absurd (omega (arith, none));
  refused = t.refused + more;
  each = let e = t.each in omega (arith, e, all);
  why = ⊎_elim
      (λ none. ⊎_elim (λ zero. inl (omega (arith, none, zero))) (λ risen. inr (risen_less first.faults old.faults new.faults before risen)) why)
      (λ risen. inr (risen_more first.faults old.faults new.faults later risen)) t.why;
}

-- ---- an event

-- What absorbing an event keeps, whatever it answered.
pub record Kept (r : Record) (counts : Counts) (old new : Post) : Type 0 where
  pub gained : GainsRecords old.link.traffic (r ∷ []) new.link.traffic
  pub nexts : new.link.nexts ≡ capped (old.link.nexts + 1)
  pub bound : new.link.bound ≡ old.link.bound
  pub later : old.link.faults ≤ new.link.faults
  pub advanced : Advanced counts old.peer.parts new.peer.parts old.disk new.disk
  pub ledger : (b : Beginning) (past : List Record) → Ledger b old.peer.parts past → Ledger b new.peer.parts (r ∷ past)
  pub keeps : (since : ℕ) (past : List Record) → IsKeeping since old.peer old.disk past → IsKeeping since new.peer new.disk (r ∷ past)

abbrev event_took : (event : Event) (bytes : List ℕ) (n : ℕ) (b : Beginning) (first old new : Post)
    → Kept (record_of event bytes) (with_event event bytes old.peer.parts.counts) old new → (q : TakesTurns b n first old)
    → TookTurns (n + 1) first.link new.link (record_of event bytes ∷ q.went.added)
event_took event bytes n b first old new k q =
    waited n 0 first.link old.link new.link q.went.added (record_of event bytes ∷ q.went.added) q.went.took q.went.later k.later k.nexts
    (let e = event_counts event bytes q.went.added in omega (arith, e)) (inl refl)

pub went_event : (event : Event) (bytes : List ℕ) (n : ℕ) (b : Beginning) (first old new : Post)
    → Kept (record_of event bytes) (with_event event bytes old.peer.parts.counts) old new → TakesTurns b n first old → Went b (n + 1) first new
went_event event bytes n b first old new k q = record {
  past = let later = k.advanced.advances.disk.later in omega (arith, q.went.past, later);
  added = record_of event bytes ∷ q.went.added;
  gained = gains_twice first.link.traffic old.link.traffic new.link.traffic q.went.added (record_of event bytes ∷ []) q.went.gained k.gained;
  took = event_took event bytes n b first old new k q;
  bound = k.bound ∙ q.went.bound;
  later = omega (arith, q.went.later, k.later);
  advances = advances_twice (stock_in first) (stock_in old) (stock_in new) q.went.advances k.advanced.advances;
  whole = (event_whole b.d event bytes, q.went.whole);
  asks_none = λ idle. event_asks_none b.d event bytes q.went.added (q.went.asks_none idle);
  ledger = k.ledger b q.went.added q.went.ledger;
  keeps = λ keeps. k.keeps b.since q.went.added (q.went.keeps keeps);
  turns =
      let h1 = k.advanced.counts_are.turns in
      let h2 = event_turns event bytes old.peer.parts.counts in
      let h3 = q.went.turns in
      omega (arith, h1, h2, h3);
  receive_faults =
      let h1 = k.advanced.counts_are.receive_faults in
      let h2 = event_refusals event bytes old.peer.parts.counts in
      let h3 = q.went.receive_faults in
      omega (arith, h1, h2, h3);
}

-- What else it does where it answers Ok.
pub record Absorbed (event : Event) (bytes : List ℕ) (old new : Post) : Type 0 where
  pub fits : IsEvent event bytes
  pub dials : new.peer.dials ≡ old.peer.dials
  pub exact : Absorbs event bytes old.peer.parts new.peer.parts
  pub stands : (b : Beginning) (most : ℕ) (past : List Record) → StandsFor b most old.peer.parts past
      → StandsFor b most new.peer.parts (record_of event bytes ∷ past)
  pub proves : (b : Beginning) (most : ℕ) (past : List Record) → StandsFor b most old.peer.parts past
      → StoresIn b.d (entry new.peer.parts.holding.book) new.peer.parts.holding.store past (record_of event bytes)
  pub ships : (b : Beginning) (most : ℕ) (past : List Record) → StandsFor b most old.peer.parts past → old.peer.parts.holding.store.live ≡ true
      → (had : ℕ → Bool) → CommitsTold b.d had past old.peer.parts.holding.store
      → StoresShipped b.d had (entry new.peer.parts.holding.book) (is_held new.peer.parts.holding.store) past (record_of event bytes)
  pub wrote : (b : Beginning) (most : ℕ) (past : List Record) → StandsFor b most old.peer.parts past
      → KeepsWrote b.d old.peer.parts past → KeepsWrote b.d new.peer.parts (record_of event bytes ∷ past)
  pub unchoked : (b : Beginning) (most : ℕ) (past : List Record) → StandsFor b most old.peer.parts past
      → StaysUnchoked b.d old.peer.parts past → StaysUnchoked b.d new.peer.parts (record_of event bytes ∷ past)
  pub told : (b : Beginning) (most : ℕ) (past : List Record) → StandsFor b most old.peer.parts past → HasNoTicket old.peer.parts
      → KeepsTold b.d old.peer.parts past → KeepsTold b.d new.peer.parts (record_of event bytes ∷ past)
  pub acks : (b : Beginning) (most : ℕ) (past : List Record) → StandsFor b most old.peer.parts past → HasNoTicket old.peer.parts
      → HasNoRepeat old.peer.parts → KeepsTold b.d old.peer.parts past → (book : LookUp) → KeepsEntries (entry new.peer.parts.holding.book) book
      → KeepsAcks b.d book old.peer.parts past → KeepsAcks b.d book new.peer.parts (record_of event bytes ∷ past)
  pub offers : (b : Beginning) (most : ℕ) (past : List Record) → StandsFor b most old.peer.parts past
      → KeepsOffers b.d old.peer.parts past → KeepsOffers b.d new.peer.parts (record_of event bytes ∷ past)
  pub live : new.peer.parts.holding.store.live ≡ true

pub turns_event : (event : Event) (bytes : List ℕ) (n : ℕ) (b : Beginning) (first old new : Post)
    → Kept (record_of event bytes) (with_event event bytes old.peer.parts.counts) old new → Absorbed event bytes old new
    → TakesTurns b n first old → TakesTurns b (n + 1) first new
unfolding went_event
turns_event event bytes n b first old new k a q = record {
  went = went_event event bytes n b first old new k q;
  refused = q.refused;
  stands = a.stands b q.refused q.went.added q.stands;
  live = a.live;
  idle = λ idle. absorbs_idle event bytes old.peer.parts new.peer.parts a.exact (q.idle idle);
}

pub event_turned : (event : Event) (bytes : List ℕ) (n : ℕ) (b : Beginning) (first old new : Post)
    → (k : Kept (record_of event bytes) (with_event event bytes old.peer.parts.counts) old new) → (a : Absorbed event bytes old new)
    → (q : TakesTurns b n first old)
    → ((turns_event event bytes n b first old new k a q).went.added ≡ record_of event bytes ∷ q.went.added)
    × ((turns_event event bytes n b first old new k a q).refused ≡ q.refused)
unfolding turns_event went_event
event_turned event bytes n b first old new k a q = (refl, refl)

pub stops_event : (event : Event) (bytes : List ℕ) (n : ℕ) (b : Beginning) (first old new : Post)
    → Kept (record_of event bytes) (with_event event bytes old.peer.parts.counts) old new → HasRisen old.disk.hard new.disk.hard
    → (q : TakesTurns b n first old)
    → ((before : List Record) → first.link.traffic ≡ Some before → list_any (is_closing b.d) q.went.added ≡ false) → Stops b (n + 1) first new
unfolding went_event
stops_event event bytes n b first old new k hard q closes_none = record {
  went = went_event event bytes n b first old new k q;
  some = omega arith;
  hard = risen_less first.disk.hard old.disk.hard new.disk.hard q.went.advances.disk.hard hard;
  closes_none = λ before is. ap (λ (x : Bool). x || list_any (is_closing b.d) q.went.added) (event_open b.d event bytes) ∙ closes_none before is;
}

pub event_stopped : (event : Event) (bytes : List ℕ) (n : ℕ) (b : Beginning) (first old new : Post)
    → (k : Kept (record_of event bytes) (with_event event bytes old.peer.parts.counts) old new) → (hard : HasRisen old.disk.hard new.disk.hard)
    → (q : TakesTurns b n first old)
    → (closes_none : (before : List Record) → first.link.traffic ≡ Some before → list_any (is_closing b.d) q.went.added ≡ false)
    → (stops_event event bytes n b first old new k hard q closes_none).went.added ≡ record_of event bytes ∷ q.went.added
unfolding stops_event went_event
event_stopped event bytes n b first old new k hard q closes_none = refl

-- a wait that gave an event, which lies at the front of the buffer
module _ (event : Event) (buffer : List ℕ) (n : ℕ) (old new : Post) (is : n ≡ size_of event) (whole : length buffer ≡ 65536) (fits : FitsIn event buffer) where
  pub bytes_fit : IsEvent event (take n buffer)
  bytes_fit = subst (λ (m : ℕ). IsEvent event (take m buffer)) (sym is) (event_fits event buffer whole fits)

  record_is : record_of event (take n buffer) ≡ record_of event buffer
  record_is = subst (λ (m : ℕ). record_of event (take m buffer) ≡ record_of event buffer) (sym is) (same_record event buffer)

  pub gained_event : GainsRecords old.link.traffic (record_of event buffer ∷ []) new.link.traffic
      → GainsRecords old.link.traffic (record_of event (take n buffer) ∷ []) new.link.traffic
  gained_event gained = subst (λ (r : Record). GainsRecords old.link.traffic (r ∷ []) new.link.traffic) (sym record_is) gained

-- ---- a wait that was refused

abbrev refused_took : (n : ℕ) (b : Beginning) (first old new : Post) → new.link.nexts ≡ capped (old.link.nexts + 1)
    → old.link.faults ≤ new.link.faults → HasRisen old.link.faults new.link.faults → (q : TakesTurns b n first old)
    → TookTurns (n + 1) first.link new.link q.went.added
refused_took n b first old new nexts later risen q =
    waited n 1 first.link old.link new.link q.went.added q.went.added q.went.took q.went.later later nexts refl (inr risen)

pub turns_refused : (n : ℕ) (b : Beginning) (first old new : Post) → new.peer ≡ after_refusal old.peer → new.disk ≡ old.disk
    → new.link.traffic ≡ old.link.traffic → new.link.nexts ≡ capped (old.link.nexts + 1) → new.link.bound ≡ old.link.bound
    → old.link.faults ≤ new.link.faults → HasRisen old.link.faults new.link.faults
    → ((b : Beginning) (most : ℕ) (past : List Record) → StandsFor b most old.peer.parts past → StandsFor b most new.peer.parts past)
    → TakesTurns b n first old → TakesTurns b (n + 1) first new
turns_refused n b first old new peer disk traffic nexts bound later risen stands q = record {
  went = record {
    past = subst (λ (s : DiskState). b.since ≤ moment_of s.history) (sym disk) q.went.past;
    added = q.went.added;
    gained = gains_twice first.link.traffic old.link.traffic new.link.traffic q.went.added [] q.went.gained
        (gains_nothing old.link.traffic new.link.traffic traffic);
    took = refused_took n b first old new nexts later risen q;
    bound = bound ∙ q.went.bound;
    later = omega (arith, q.went.later, later);
    advances = subst (λ (s : Stock). Advances (stock_in first) s) (sym stock) q.went.advances;
    whole = q.went.whole;
    asks_none = q.went.asks_none;
    ledger = (stands b q.refused q.went.added q.stands).ledger;
    keeps = λ keeps. subst (λ (p : PeerState). IsKeeping b.since p new.disk q.went.added) (sym peer)
        (subst (λ (s : DiskState). IsKeeping b.since (after_refusal old.peer) s q.went.added) (sym disk) (kept (q.went.keeps keeps)));
    turns = ap (λ (p : PeerState). p.parts.counts.turns) peer ∙ (let h = q.went.turns in omega (arith, h));
    receive_faults = ap (λ (p : PeerState). p.parts.counts.receive_faults) peer ∙ (let h = q.went.receive_faults in omega (arith, h));
  };
  refused = q.refused;
  stands = stands b q.refused q.went.added q.stands;
  live = ap (λ (p : PeerState). p.parts.holding.store.live) peer ∙ q.live;
  idle = λ idle. ap (λ (p : PeerState). p.parts.fetching) peer ∙ q.idle idle;
}
  where
    stock : stock_in new ≡ stock_in old
    stock = ap (λ (p : PeerState). stock_of p.parts.holding new.disk) peer ∙ ap (λ (s : DiskState). stock_of old.peer.parts.holding s) disk

    kept : IsKeeping b.since old.peer old.disk q.went.added → IsKeeping b.since (after_refusal old.peer) old.disk q.went.added
    kept k = record {
      kept = k.kept;
      announced = each_announced old.peer.parts.holding.store.descriptor (IsThere old.peer old.disk) (IsThere (after_refusal old.peer) old.disk)
          (λ moment i at. record { committed = at.committed; past = at.past; stands = at.stands }) q.went.added k.announced;
    }

pub refused_turned : (n : ℕ) (b : Beginning) (first old new : Post) → (peer : new.peer ≡ after_refusal old.peer) → (disk : new.disk ≡ old.disk)
    → (traffic : new.link.traffic ≡ old.link.traffic) → (nexts : new.link.nexts ≡ capped (old.link.nexts + 1)) → (bound : new.link.bound ≡ old.link.bound)
    → (later : old.link.faults ≤ new.link.faults) → (risen : HasRisen old.link.faults new.link.faults)
    → (stands : (b : Beginning) (most : ℕ) (past : List Record) → StandsFor b most old.peer.parts past → StandsFor b most new.peer.parts past)
    → (q : TakesTurns b n first old)
    → ((turns_refused n b first old new peer disk traffic nexts bound later risen stands q).went.added ≡ q.went.added)
    × ((turns_refused n b first old new peer disk traffic nexts bound later risen stands q).refused ≡ q.refused)
unfolding turns_refused
refused_turned n b first old new peer disk traffic nexts bound later risen stands q = (refl, refl)

-- ---- what is due is sent

-- The peer has these parts but for its tickets.
pub record IsButTickets (mid new : Parts) : Type 0 where
  pub store : new.holding.store ≡ mid.holding.store
  pub book : new.holding.book ≡ mid.holding.book
  pub fetching : new.fetching ≡ mid.fetching
  pub counts : new.counts ≡ mid.counts

module _ (n : ℕ) (b : Beginning) (first old new : Post) (mid : Parts) (refused : ℕ)
    (f : Flushes refused (scene old.peer.parts old.link old.disk) (scene mid new.link new.disk)) (goes : Goes refused f.added old.peer new.peer old.disk new.disk)
    (same : IsButTickets mid new.peer.parts) (q : TakesTurns b n first old) where
  abbrev all : List Record
  all = f.added ++ q.went.added

  d_is : old.peer.parts.seats.descriptor ≡ b.d
  d_is = q.stands.seats.swarm

  ours : AllByRecursion (IsOurs b.d (moment_of old.disk.history)) f.added
  ours = subst (λ (d : Descriptor). AllByRecursion (IsOurs d (moment_of old.disk.history)) f.added) d_is f.ours

  stands : StandsFor b (q.refused + refused) new.peer.parts all
  stands = goes.stands b q.refused q.went.added q.went.past q.stands

  store_is : new.peer.parts.holding.store ≡ old.peer.parts.holding.store
  store_is = same.store ∙ ap (λ (h : HoldingState). h.store) f.holding

  book_is : new.peer.parts.holding.book ≡ old.peer.parts.holding.book
  book_is = same.book ∙ ap (λ (h : HoldingState). h.book) f.holding

  stock_is : stock_in new ≡ record (stock_in old) { disk = new.disk }
  stock_is =
      ap (λ (s : StoreState). record { store = s; book = entry new.peer.parts.holding.book; disk = new.disk }) store_is
      ∙ ap (λ (k : BookState). record { store = old.peer.parts.holding.store; book = entry k; disk = new.disk }) book_is

  advances : Advances (stock_in first) (stock_in new)
  advances = subst (λ (s : Stock). Advances (stock_in first) s) (sym stock_is)
      (advances_twice (stock_in first) (stock_in old) (record (stock_in old) { disk = new.disk }) q.went.advances
      (advances_reading (stock_in old) new.disk f.reads))

  abbrev took : TookTurns n first.link new.link all
  took = record {
    nexts = λ some. f.nexts ∙ q.went.took.nexts some;
    still = λ none. f.nexts ∙ q.went.took.still none;
    refused = q.went.took.refused;
    each = let e = sent_none b.d (moment_of old.disk.history) f.added q.went.added ours in let h = q.went.took.each in omega (arith, e, h);
    why = ⊎_elim (λ none. inl none) (λ risen. inr (risen_more first.link.faults old.link.faults new.link.faults f.later risen)) q.went.took.why;
  }

  pub turns_sent : TakesTurns b n first new
  turns_sent = record {
    went = record {
      past = subst (λ (h : History). b.since ≤ moment_of h) (sym f.reads.same) q.went.past;
      added = all;
      gained = gains_twice first.link.traffic old.link.traffic new.link.traffic q.went.added f.added q.went.gained f.gained;
      took = took;
      bound = f.bound ∙ q.went.bound;
      later = let later = f.later in omega (arith, q.went.later, later);
      advances = advances;
      whole = all_whole b.d (moment_of old.disk.history) f.added q.went.added ours q.went.whole;
      asks_none = λ idle. asks_both b.d f.added q.went.added
          (subst (λ (d : Descriptor). RequestsNone d f.added) d_is (f.seeds (q.idle idle)).asks) (q.went.asks_none idle);
      ledger = stands.ledger;
      keeps = λ keeps. goes.keeps b q.refused b.since q.went.added q.went.past q.stands (q.went.keeps keeps);
      turns = ap (λ (k : Counts). k.turns) same.counts ∙ f.waits.turns ∙ q.went.turns;
      receive_faults = ap (λ (k : Counts). k.receive_faults) same.counts ∙ f.waits.receive_faults ∙ q.went.receive_faults;
    };
    refused = q.refused + refused;
    stands = stands;
    live = ap (λ (s : StoreState). s.live) store_is ∙ q.live;
    idle = λ idle. same.fetching ∙ (f.seeds (q.idle idle)).fetching;
  }

-- What a flush sent, whatever its course: the link gained these records, and the peer stands for them and keeps its disk with them.
pub record Flushed (refused : ℕ) (old new : Post) : Type 0 where
  pub sent : Parts
  pub flushes : Flushes refused (scene old.peer.parts old.link old.disk) (scene sent new.link new.disk)
  pub goes : Goes refused flushes.added old.peer new.peer old.disk new.disk
  pub rest : new.peer.parts ≡ without_tickets sent

abbrev pub flushed_by : (refused : ℕ) (old new : Post) → Sends refused old.peer new.peer old.link new.link old.disk new.disk
    → Flushed refused old new
flushed_by refused old new s = record { sent = s.sent; flushes = s.flushes; goes = s.goes; rest = s.rest }

pub turns_flushed : (n : ℕ) (b : Beginning) (first old new : Post) (refused : ℕ) → Flushed refused old new
    → TakesTurns b n first old → TakesTurns b n first new
turns_flushed n b first old new refused s q =
    turns_sent n b first old new s.sent refused s.flushes s.goes (record {
      store = ap (λ (p : Parts). p.holding.store) s.rest;
      book = ap (λ (p : Parts). p.holding.book) s.rest;
      fetching = ap (λ (p : Parts). p.fetching) s.rest;
      counts = ap (λ (p : Parts). p.counts) s.rest;
    }) q

pub flushed_turned : (n : ℕ) (b : Beginning) (first old new : Post) (refused : ℕ)
    → (course : Flushed refused old new) → (q : TakesTurns b n first old)
    → ((turns_flushed n b first old new refused course q).went.added ≡ course.flushes.added ++ q.went.added)
    × ((turns_flushed n b first old new refused course q).refused ≡ q.refused + refused)
unfolding turns_flushed turns_sent
flushed_turned n b first old new refused course q = (refl, refl)

-- ---- the channels closed

pub turns_closed : (n : ℕ) (b : Beginning) (first old new : Post) → new.disk ≡ old.disk
    → (c : Closes old.peer new.peer old.link new.link old.disk) → (q : TakesTurns b n first old)
    → (t : TakesTurns b n first new) × (t.went.added ≡ c.parting.flushes.added ++ q.went.added)
unfolding turns_sent
turns_closed n b first old new disk c q =
    subst (λ (s : DiskState). (t : TakesTurns b n first (post new.peer s new.link)) × (t.went.added ≡ c.parting.flushes.added ++ q.went.added)) (sym disk) (
      turns_sent n b first old (post new.peer old.disk new.link) new.peer.parts 0 c.parting.flushes c.goes
          (record { store = refl; book = refl; fetching = refl; counts = refl }) q,
      refl,
    )
