-- A turn more, with what it keeps of what a peer promises.
use Rattle.std.proofs.Common.{◌≡◌, ◌⊎◌, inl, inr, ⊎_elim, ℕ, ◌+◌, ◌-◌, ◌<◌, ◌≤◌, zero, suc, map, length, append_assoc, Bool, true, false, ◌||◌, Some, List, [], ◌∷◌, ◌++◌, Result, Ok, Err, OnOk, refl, sym, ◌∙◌, ap, subst, arith}
use Rattle.std.specs.List.{AllByRecursion, list_any}
use Rattle.std.proofs.lemmas.List.Folds.{list_any-append}
use Rattle.pp_terms.specs.Count.{HasRisen, HasCause, capped}
use Rattle.pp_terms.specs.disk.Disk.{DiskState, History, moment_of}
use Rattle.pp_terms.specs.format.Descriptor.{Descriptor, chunks_of}
use Rattle.pp_terms.specs.format.Traffic as records
use Rattle.pp_terms.specs.format.Traffic.{LinkState, Record, Sent}
use Rattle.pp_terms.proofs.Risings.{risen_more, risen_less}
use Rattle.pp_terms.specs.tree.Book.{LookUp}
use Rattle.pp_tree.specs.Book.{entry}
use Rattle.pp_paths.specs.Judge.{KeepsEntries}
use Rattle.pp_traffic.specs.Meter.{lets_send}
use Rattle.pp_traffic.specs.Past.{EachRecord}
use Rattle.pp_traffic.specs.Turns.{is_closing}
use Rattle.pp_promises.specs.Announced.{AcknowledgesFirst, TellsOfHeld}
use Rattle.pp_promises.specs.Answered.{LetsIn, KeepsUp}
use Rattle.pp_promises.specs.LastTurn.{sent_since}
use Rattle.pp_promises.specs.Served.{LeavesFew}
use Rattle.pp_outside.specs.Arrivals.{IsEvent}
use Rattle.pp_outside.specs.Outside.{address_of, record_of}
use Rattle.pp_outside.specs.declared.link.Address.{Address}
use Rattle.pp_outside.specs.declared.disk.DiskFault.{DiskFault}
use Rattle.pp_outside.specs.declared.link.Event.{Event}
use Rattle.pp_holding.specs.Holding.{HoldingState}
use Rattle.pp_peer.specs.declared.parts.Parts.{Parts}
use Rattle.pp_peer.specs.Absorbing.{with_event}
use Rattle.pp_peer.specs.Dialling.{undialled}
use Rattle.pp_peer.specs.Events.{Absorbs}
use Rattle.pp_peer.specs.Flushing.{IsOurs}
use Rattle.pp_peer.specs.Standing.{Beginning, StandsFor}
use Rattle.pp_complete.specs.Shipped.{StoresShipped}
use Rattle.pp_store.specs.Store.{StoreState, is_committed, is_held}
use Rattle.pp_core.specs.Offering.{limit_of, FetchesAll, KeepsOffers, AsksOrHolds, requests_from, RequestsBelow}
use Rattle.pp_core.specs.Peers.{PeerState}
use Rattle.pp_core.specs.Promising.{IsFoundIn, Promises}
use Rattle.pp_core.specs.Remembering.{KeepsWrote, StaysUnchoked, KeepsTold, HasNoTicket, AwaitsAck, KeepsAcks, HasNoRepeat}
use Rattle.pp_core.specs.Keeping.{IsKeeping}
use Rattle.pp_core.specs.Storing.{StoresIn, CommitsTold}
use Rattle.pp_core.specs.Turning.{Sends, after_refusal}
use Rattle.pp_core.proofs.Dialled.{misses_more}
use Rattle.pp_core.proofs.FirstTurn.{events_few}
use Rattle.pp_core.proofs.LatelySent.{refused_wrote}
use Rattle.pp_core.proofs.Limits.{absorbs_limit}
use Rattle.pp_core.proofs.Offered.{begun_offers, refused_offers}
use Rattle.pp_core.proofs.Promising.{keeping_reads}
use Rattle.pp_core.proofs.Remembered.{refused_keeps}
use Rattle.pp_core.proofs.Unchoked.{refusal_unchokes}
use Rattle.pp_turns.specs.Promising.{Stage, Ended, Came, Refused, faults_of, Tells, FailsFew, IsTelling, IsCalmLink, EndsAll, HasCome, Keeps, open_of, HasDialled, DialsIn, HasTurned}
use Rattle.pp_turns.specs.Taking.{TakesTurn, Waits, Finishes}
use Rattle.pp_turns.specs.Turning.{Post, IsBegun, TakesTurns}
use Rattle.pp_turns.proofs.Promising.{each_grows, each_ships, each_sent, commits_told, fails_event, fails_refused, fails_sent, fails_sent_late, fails_none, owes_none, keeps_none, tells_none, acknowledges_none, asks_none, ends_before, ends_sent, event_last, gained_some, event_open, event_below}
use Rattle.pp_turns.proofs.Steps.{Flushed, flushed_by, Kept, Absorbed, turns_none, none_turned, turns_event, event_turned, sent_none, stops_event, event_stopped, turns_refused, refused_turned, turns_flushed, flushed_turned}

-- ---- what was refused

-- where the link refused nothing it refused nothing before
pub calm_before : (first old new : Post) → old.link.faults ≤ new.link.faults → IsCalmLink first new → IsCalmLink first old
calm_before first old new later calm risen = calm (risen_more first.link.faults old.link.faults new.link.faults later risen)

-- where both counts tell they told before
pub told_before : (old new : Post) → old.link.faults ≤ new.link.faults → old.disk.faults ≤ new.disk.faults → Tells new → Tells old
told_before old new link disk t = record {
  link = (let low = t.link in omega (arith, low, link));
  disk = (let low = t.disk in omega (arith, low, disk));
}

pub tells_before : (b : Beginning) (first old new : Post) → old.link.faults ≤ new.link.faults → old.disk.faults ≤ new.disk.faults
    → IsTelling b first new → IsTelling b first old
tells_before b first old new link disk t = record {
  keeping = t.keeping;
  tells = told_before old new link disk t.tells;
}

leaves_more : (few most : ℕ) (d : Descriptor) (h : History) (past : List Record) → few ≤ most → LeavesFew few d (lets_send d.chunk) h past
    → LeavesFew most d (lets_send d.chunk) h past
leaves_more few most d h past le leaves life may =
    let left = leaves life may in (left.0, (let low = left.1 in omega (arith, low, le)), left.2)

-- addresses are dialled in the first turn, as is said of turns
abbrev DialsOn : (stage : Stage) (taken : ℕ) → Beginning → Post → Post → List Record → Type 0
DialsOn stage taken b first new added = (addresses : List Address) → first.peer.dials ≡ map undialled addresses → length addresses ≤ 16
    → (before : List Record) → first.link.traffic ≡ Some before → Tells new → (ended : ℕ) → ended + open_of stage ≡ taken
    → DialsIn ended stage b addresses first new added

-- turns by the records that they added, and how much was given up
turned_as : (stage : Stage) (n : ℕ) (b : Beginning) (first new : Post) (t : TakesTurns b n first new) (added : List Record) (refused : ℕ)
    → (t.went.added ≡ added) × (t.refused ≡ refused) → Keeps stage b first new added
    → (IsTelling b first new → faults_of first + refused ≤ faults_of new) → open_of stage ≤ n → DialsOn stage n b first new added
    → HasTurned stage b n first new
turned_as stage n b first new t added refused are keeps lost within dials = record {
  turns = t;
  keeps = subst (λ (rs : List Record). Keeps stage b first new rs) (sym are.0) keeps;
  lost = λ telling. subst (λ (k : ℕ). faults_of first + k ≤ faults_of new) (sym are.1) (lost telling);
  within = within;
  dials = subst (λ (rs : List Record). DialsOn stage n b first new rs) (sym are.0) dials;
}

-- as many were missed before, and more refused since
pub misses_still : (b : Beginning) (addresses : List Address) (first old new : Post) (more past : List Record) → faults_of old ≤ faults_of new
    → HasDialled b addresses first old past → HasDialled b addresses first new (more ++ past)
misses_still b addresses first old new more past later h = record {
  rest = more ++ h.rest;
  turn = h.turn;
  behind = ap (λ (rs : List Record). more ++ rs) h.behind ∙ sym (append_assoc more h.rest h.turn);
  one = h.one;
  misses = misses_more (faults_of old - faults_of first) (faults_of new - faults_of first) b.d (map address_of addresses) h.turn
      (omega (arith, later)) h.misses;
}

-- ---- nothing yet

pub turned_none : (b : Beginning) (p : Post) → IsBegun b p → HasTurned Ended b 0 p p
turned_none b p begun = turned_as Ended 0 b p p (turns_none b p begun) [] 0 (none_turned b p begun)
    (record {
      stores = tt;
      ships = λ keeping. tt;
      closes_none = λ before is. refl;
      serves = λ telling h found most enough. fails_none p (LeavesFew most b.d (lets_send b.d.chunk) h) (owes_none most b.d h);
      wrote = λ before is. begun.wrote;
      keeps_up = λ before is tells. fails_none p (KeepsUp b.d) (keeps_none b.d);
      unchoked = λ before is. begun.unchoked;
      told = λ before is calm. begun.told;
      taken = (begun.taken, begun.unrepeated);
      tells = λ before is calm h found. inl (tells_none b.d h, tt);
      acks = λ before is calm book keeps. begun.acks book;
      acknowledges = λ before is calm book keeps. inl (acknowledges_none b.d book, tt);
      came = tt;
      lets_in = λ before is tells. fails_none p (LetsIn b.d) refl;
      offers = begun_offers b.d p.peer.parts begun.held;
      fetches = λ fetches. fetches;
      asked = λ calm m limit inside others contains. asks_none b.d m others;
      asks = λ fetches tells others contains. fails_none p (AsksOrHolds b.d (chunks_of b.d) others) (asks_none b.d (chunks_of b.d) others);
      below = λ before is n limit. refl;
    })
    (λ telling. omega arith) (omega arith) dials
  where
    dials : DialsOn Ended 0 b p p []
    dials addresses are few before is tells zero sum = record { dials = refl; few = omega arith }
    dials addresses are few before is tells (suc n) sum = absurd (omega (arith, sum))

-- no record was added
pub none_yet : (b : Beginning) (p : Post) → (begun : IsBegun b p) → (turned_none b p begun).turns.went.added ≡ []
unfolding turned_none turned_as
none_yet b p begun = (none_turned b p begun).0

-- ---- an event came

pub turned_event : (event : Event) (bytes : List ℕ) (n : ℕ) (b : Beginning) (first old new : Post)
    → Kept (record_of event bytes) (with_event event bytes old.peer.parts.counts) old new → Absorbed event bytes old new
    → HasTurned Ended b n first old → HasTurned Came b (n + 1) first new
turned_event event bytes n b first old new k a q =
    turned_as Came (n + 1) b first new (turns_event event bytes n b first old new k a q.turns) (record_of event bytes ∷ q.turns.went.added)
    q.turns.refused (event_turned event bytes n b first old new k a q.turns)
    (record {
      stores = (
        a.proves b q.turns.refused q.turns.went.added q.turns.stands,
        each_grows b.d (entry old.peer.parts.holding.book) (entry new.peer.parts.holding.book) old.peer.parts.holding.store
            new.peer.parts.holding.store k.advanced.advances.entries k.advanced.advances.held q.turns.went.added q.keeps.stores,
      );
      ships = λ keeping. (
        a.ships b q.turns.refused q.turns.went.added q.turns.stands q.turns.live (is_committed first.peer.parts.holding.store)
            (commits_told b.d b.since first.peer old.peer old.disk q.turns.went.added q.turns.stands.ledger.swarm
            q.turns.went.advances.committed (q.turns.went.keeps keeping)),
        each_ships b.d (is_committed first.peer.parts.holding.store) (entry old.peer.parts.holding.book) (entry new.peer.parts.holding.book)
            old.peer.parts.holding.store new.peer.parts.holding.store k.advanced.advances.entries k.advanced.advances.held q.turns.went.added
            (q.keeps.ships keeping),
      );
      closes_none = λ traffic is.
          ap (λ (x : Bool). x || list_any (is_closing b.d) q.turns.went.added) (event_open b.d event bytes) ∙ q.keeps.closes_none traffic is;
      serves = λ telling h found most enough. fails_event first old new _ event bytes q.turns.went.added later
          (q.keeps.serves (before telling) h found most (omega (arith, later, enough)));
      wrote = λ traffic is. a.wrote b q.turns.refused q.turns.went.added q.turns.stands (q.keeps.wrote traffic is);
      keeps_up = λ traffic is tells. fails_event first old new (KeepsUp b.d) event bytes q.turns.went.added later
          (q.keeps.keeps_up traffic is (told_before old new k.later disk tells));
      unchoked = λ traffic is. a.unchoked b q.turns.refused q.turns.went.added q.turns.stands (q.keeps.unchoked traffic is);
      told = λ traffic is calm. a.told b q.turns.refused q.turns.went.added q.turns.stands q.keeps.taken.0 (q.keeps.told traffic is (still calm));
      taken = tt;
      tells = λ traffic is calm h found.
          ends_before 0 (TellsOfHeld b.d h) event bytes q.turns.went.added (q.keeps.tells traffic is (still calm) h found);
      acks = λ traffic is calm book keeps. a.acks b q.turns.refused q.turns.went.added q.turns.stands q.keeps.taken.0 q.keeps.taken.1
          (q.keeps.told traffic is (still calm)) book keeps (q.keeps.acks traffic is (still calm) book (earlier book keeps));
      acknowledges = λ traffic is calm book keeps. ends_before 0 (AcknowledgesFirst b.d book) event bytes q.turns.went.added
          (q.keeps.acknowledges traffic is (still calm) book (earlier book keeps));
      came = record {
        event = event;
        bytes = bytes;
        fits = a.fits;
        start = old.peer.parts;
        absorbs = a.exact;
        past = q.turns.went.added;
        behind = refl;
        most = q.turns.refused;
        stands = q.turns.stands;
      };
      lets_in = λ traffic is tells. fails_event first old new (LetsIn b.d) event bytes q.turns.went.added later
          (q.keeps.lets_in traffic is (told_before old new k.later disk tells));
      offers = a.offers b q.turns.refused q.turns.went.added q.turns.stands q.keeps.offers;
      fetches = λ fetches. absorbs_limit event bytes old.peer.parts new.peer.parts a.exact ∙ q.keeps.fetches fetches;
      asked = tt;
      asks = λ fetches tells others contains. fails_event first old new (AsksOrHolds b.d (chunks_of b.d) others) event bytes q.turns.went.added later
          (q.keeps.asks fetches (told_before old new k.later disk tells) others (λ i is. contains i (k.advanced.advances.held i is)));
      below = λ traffic is m limit. λ i. event_below b.d m event bytes i
          || q.keeps.below traffic is m (sym (absorbs_limit event bytes old.peer.parts new.peer.parts a.exact) ∙ limit) i;
    })
    (λ telling. let lost = q.lost (before telling) in omega (arith, lost, later)) (omega arith) dials
  where
    disk : old.disk.faults ≤ new.disk.faults
    disk = k.advanced.advances.disk.faults

    later : faults_of old ≤ faults_of new
    later = let link = k.later in omega (arith, link, disk)

    before : IsTelling b first new → IsTelling b first old
    before = tells_before b first old new k.later disk

    still : IsCalmLink first new → IsCalmLink first old
    still = calm_before first old new k.later

    earlier : (book : LookUp) → KeepsEntries (entry new.peer.parts.holding.book) book → KeepsEntries (entry old.peer.parts.holding.book) book
    earlier book keeps layer offset digest is = keeps layer offset digest (k.advanced.advances.entries layer offset digest is)

    dials : DialsOn Came (n + 1) b first new (record_of event bytes ∷ q.turns.went.added)
    dials addresses are few traffic is tells zero sum =
        let d = q.dials addresses are few traffic is (told_before old new k.later disk tells) 0 (omega (arith, sum)) in
        record { dials = a.dials ∙ d.dials; few = (let none = d.few in omega (arith, none)) }
    dials addresses are few traffic is tells (suc m) sum =
        misses_still b addresses first old new (record_of event bytes ∷ []) q.turns.went.added later
        (q.dials addresses are few traffic is (told_before old new k.later disk tells) (suc m) (omega (arith, sum)))

pub waits_event : (event : Event) (bytes : List ℕ) (old new : Post) (result : Result (Unit {0}) DiskFault) → IsEvent event bytes
    → new.peer.dials ≡ old.peer.dials → Kept (record_of event bytes) (with_event event bytes old.peer.parts.counts) old new → OnOk result (Absorbs event bytes old.peer.parts new.peer.parts)
    → OnOk result ((b : Beginning) (most : ℕ) (past : List Record) → StandsFor b most old.peer.parts past
    → StandsFor b most new.peer.parts (record_of event bytes ∷ past))
    → OnOk result ((b : Beginning) (most : ℕ) (past : List Record) → StandsFor b most old.peer.parts past
    → StoresIn b.d (entry new.peer.parts.holding.book) new.peer.parts.holding.store past (record_of event bytes))
    → OnOk result ((b : Beginning) (most : ℕ) (past : List Record) → StandsFor b most old.peer.parts past
    → old.peer.parts.holding.store.live ≡ true → (had : ℕ → Bool) → CommitsTold b.d had past old.peer.parts.holding.store
    → StoresShipped b.d had (entry new.peer.parts.holding.book) (is_held new.peer.parts.holding.store) past (record_of event bytes))
    → OnOk result ((b : Beginning) (most : ℕ) (past : List Record) → StandsFor b most old.peer.parts past
    → KeepsWrote b.d old.peer.parts past → KeepsWrote b.d new.peer.parts (record_of event bytes ∷ past))
    → OnOk result ((b : Beginning) (most : ℕ) (past : List Record) → StandsFor b most old.peer.parts past
    → StaysUnchoked b.d old.peer.parts past → StaysUnchoked b.d new.peer.parts (record_of event bytes ∷ past))
    → OnOk result ((b : Beginning) (most : ℕ) (past : List Record) → StandsFor b most old.peer.parts past → HasNoTicket old.peer.parts
    → KeepsTold b.d old.peer.parts past → KeepsTold b.d new.peer.parts (record_of event bytes ∷ past))
    → OnOk result ((b : Beginning) (most : ℕ) (past : List Record) → StandsFor b most old.peer.parts past → HasNoTicket old.peer.parts
    → HasNoRepeat old.peer.parts → KeepsTold b.d old.peer.parts past → (book : LookUp) → KeepsEntries (entry new.peer.parts.holding.book) book
    → KeepsAcks b.d book old.peer.parts past → KeepsAcks b.d book new.peer.parts (record_of event bytes ∷ past))
    → OnOk result ((b : Beginning) (most : ℕ) (past : List Record) → StandsFor b most old.peer.parts past
    → KeepsOffers b.d old.peer.parts past → KeepsOffers b.d new.peer.parts (record_of event bytes ∷ past))
    → (old.peer.parts.holding.store.live ≡ true → OnOk result (new.peer.parts.holding.store.live ≡ true))
    → (old.peer.parts.holding.store.live ≡ true → HasCause old.disk.hard new.disk.hard result) → Waits old new result
waits_event event bytes old new (Ok u) fits dials k exact stands proves ships wrote unchoked told acks offers live cause b taken first q = inl
    (turned_event event bytes taken b first old new k (record { fits = fits; dials = dials; exact = exact; stands = stands; proves = proves; ships = ships; wrote = wrote; unchoked = unchoked; told = told; acks = acks; offers = offers; live = live q.turns.live }) q)
waits_event event bytes old new (Err fault) fits dials k exact stands proves ships wrote unchoked told acks offers live cause b taken first q =
    let hard = (cause q.turns.live).risen refl in
    record {
      stops = stops_event event bytes taken b first old new k hard q.turns q.keeps.closes_none;
      below = λ traffic is m limit. subst (λ (rs : List Record). RequestsBelow b.d m rs)
          (sym (event_stopped event bytes taken b first old new k hard q.turns q.keeps.closes_none))
          (λ i. event_below b.d m event bytes i || q.keeps.below traffic is m limit i);
    }

-- ---- the wait was refused

pub waits_refused : (old new : Post) (u : Unit {0}) → new.peer ≡ after_refusal old.peer → new.disk ≡ old.disk
    → new.link.traffic ≡ old.link.traffic → new.link.nexts ≡ capped (old.link.nexts + 1) → new.link.bound ≡ old.link.bound
    → old.link.faults ≤ new.link.faults → HasRisen old.link.faults new.link.faults
    → ((b : Beginning) (most : ℕ) (past : List Record) → StandsFor b most old.peer.parts past → StandsFor b most new.peer.parts past)
    → Waits old new (Ok u)
waits_refused old new u peer disk traffic nexts bound later risen stands b taken first q = inr (
    turned_as Refused (taken + 1) b first new (turns_refused taken b first old new peer disk traffic nexts bound later risen stands q.turns)
    q.turns.went.added q.turns.refused (refused_turned taken b first old new peer disk traffic nexts bound later risen stands q.turns)
    (record {
      stores = subst (λ (p : PeerState). EachRecord (StoresIn b.d (entry p.parts.holding.book) p.parts.holding.store) q.turns.went.added) (sym peer)
          q.keeps.stores;
      ships = λ keeping. subst (λ (p : PeerState). EachRecord (StoresShipped b.d (is_committed first.peer.parts.holding.store)
          (entry p.parts.holding.book) (is_held p.parts.holding.store)) q.turns.went.added) (sym peer) (q.keeps.ships keeping);
      closes_none = q.keeps.closes_none;
      serves = λ telling h found most enough.
          let lt = rises telling.tells in
          fails_refused first old new _ q.turns.went.added lt (q.keeps.serves (before telling) h found most (omega (arith, lt, enough)));
      wrote = λ traffic is. subst (λ (p : PeerState). KeepsWrote b.d p.parts q.turns.went.added) (sym peer)
          (refused_wrote b.d old.peer q.turns.went.added (q.keeps.wrote traffic is));
      keeps_up = λ traffic is tells. fails_refused first old new (KeepsUp b.d) q.turns.went.added (rises tells)
          (q.keeps.keeps_up traffic is (told_before old new later (omega (arith, same)) tells));
      unchoked = λ traffic is. subst (λ (p : PeerState). StaysUnchoked b.d p.parts q.turns.went.added) (sym peer)
          (refusal_unchokes b.d old.peer q.turns.went.added (q.keeps.unchoked traffic is));
      told = λ traffic is calm. subst (λ (p : PeerState). KeepsTold b.d p.parts q.turns.went.added) (sym peer)
          (refused_keeps b.d old.peer q.turns.went.added (q.keeps.told traffic is (calm_before first old new later calm)));
      taken = (
        ap (λ (p : PeerState). p.parts.holding.queue.tickets) peer ∙ q.keeps.taken.0,
        ap (λ (p : PeerState). p.parts.holding.queue.repeats) peer ∙ q.keeps.taken.1,
      );
      tells = λ traffic is calm. absurd
          (calm (risen_less first.link.faults old.link.faults new.link.faults q.turns.went.later risen));
      acks = λ traffic is calm. absurd
          (calm (risen_less first.link.faults old.link.faults new.link.faults q.turns.went.later risen));
      acknowledges = λ traffic is calm. absurd
          (calm (risen_less first.link.faults old.link.faults new.link.faults q.turns.went.later risen));
      came = tt;
      lets_in = λ traffic is tells. fails_refused first old new (LetsIn b.d) q.turns.went.added (rises tells)
          (q.keeps.lets_in traffic is (told_before old new later (omega (arith, same)) tells));
      offers = subst (λ (p : PeerState). KeepsOffers b.d p.parts q.turns.went.added) (sym peer)
          (refused_offers b.d old.peer q.turns.went.added q.keeps.offers);
      fetches = λ fetches. ap (λ (p : PeerState). limit_of p.parts.fetching) peer ∙ q.keeps.fetches fetches;
      asked = tt;
      asks = λ fetches tells others contains. fails_refused first old new (AsksOrHolds b.d (chunks_of b.d) others) q.turns.went.added (rises tells)
          (q.keeps.asks fetches (told_before old new later (omega (arith, same)) tells) others
          (λ i is. contains i (subst (λ (p : PeerState). is_held p.parts.holding.store i ≡ true) (sym peer) is)));
      below = λ traffic is m limit. q.keeps.below traffic is m (sym (ap (λ (p : PeerState). limit_of p.parts.fetching) peer) ∙ limit);
    })
    (λ telling. let lost = q.lost (before telling) in let lt = rises telling.tells in omega (arith, lost, lt)) (omega arith) dials
    )
  where
    same : new.disk.faults ≡ old.disk.faults
    same = ap (λ (d : DiskState). d.faults) disk

    before : IsTelling b first new → IsTelling b first old
    before = tells_before b first old new later (omega (arith, same))

    rises : Tells new → faults_of old < faults_of new
    rises tells = let lt = risen tells.link in omega (arith, lt, same)

    dials : DialsOn Refused (taken + 1) b first new q.turns.went.added
    dials addresses are few traffic is tells zero sum =
        let d = q.dials addresses are few traffic is (told_before old new later (omega (arith, same)) tells) 0 (omega (arith, sum)) in
        record { dials = ap (λ (p : PeerState). p.dials) peer ∙ d.dials; few = (let none = d.few in omega (arith, none)) }
    dials addresses are few traffic is tells (suc m) sum =
        misses_still b addresses first old new [] q.turns.went.added (let lt = rises tells in omega (arith, lt))
        (q.dials addresses are few traffic is (told_before old new later (omega (arith, same)) tells) (suc m) (omega (arith, sum)))

-- ---- what was due was sent

at_most_open : (stage : Stage) → open_of stage ≤ 1
at_most_open Ended = omega arith
at_most_open Came = omega arith
at_most_open Refused = omega arith

module _ (stage : Stage) (n : ℕ) (b : Beginning) (first old new : Post) (refused : ℕ)
    (course : Flushed refused old new)
    (promises : Promises refused old.peer new.peer old.link new.link old.disk new.disk course.flushes.added)
    (q : HasTurned stage b n first old) where
  abbrev all : List Record
  all = course.flushes.added ++ q.turns.went.added

  disk : old.disk.faults ≤ new.disk.faults
  disk = course.flushes.reads.faults

  later : faults_of old ≤ faults_of new
  later = let link = course.flushes.later in omega (arith, link, disk)

  before : IsTelling b first new → IsTelling b first old
  before = tells_before b first old new course.flushes.later disk

  lost : IsTelling b first new → faults_of first + (q.turns.refused + refused) ≤ faults_of new
  lost telling =
      let lost = q.lost (before telling) in
      let more = promises.lost (keeping_reads b.since old.peer old.link old.disk q.turns.went.added (q.turns.went.keeps telling.keeping))
      telling.tells.link telling.tells.disk in
      omega (arith, lost, more)

  ours : AllByRecursion (IsOurs old.peer.parts.seats.descriptor (moment_of old.disk.history)) course.flushes.added
  ours = course.flushes.ours

  -- what holds by the book and the store, of each record but of those that were sent, goes on
  each_then : (Q : LookUp → StoreState → List Record → Record → Type 0)
      → ((before : List Record) (at : ℕ) (receiver : records.Address) (bytes : List ℕ)
      → Q (entry new.peer.parts.holding.book) new.peer.parts.holding.store before (Sent at receiver bytes))
      → EachRecord (Q (entry old.peer.parts.holding.book) old.peer.parts.holding.store) q.turns.went.added
      → EachRecord (Q (entry new.peer.parts.holding.book) new.peer.parts.holding.store) all
  each_then Q none each = each_sent (Q (entry new.peer.parts.holding.book) new.peer.parts.holding.store) old.peer.parts.seats.descriptor
      (moment_of old.disk.history) none course.flushes.added q.turns.went.added ours
      (subst (λ (p : Parts). EachRecord (Q (entry p.holding.book) p.holding.store) q.turns.went.added) (sym course.rest)
      (subst (λ (h : HoldingState). EachRecord (Q (entry h.book) h.store) q.turns.went.added) (sym course.flushes.holding) each))

  stores : EachRecord (StoresIn b.d (entry new.peer.parts.holding.book) new.peer.parts.holding.store) all
  stores = each_then (StoresIn b.d)
      (λ before at receiver bytes life i text brings proof. absurd (let never = brings.comes in cc)) q.keeps.stores

  ships : IsKeeping b.since first.peer first.disk []
      → EachRecord (StoresShipped b.d (is_committed first.peer.parts.holding.store) (entry new.peer.parts.holding.book)
      (is_held new.peer.parts.holding.store)) all
  ships keeping = each_then (λ book store. StoresShipped b.d (is_committed first.peer.parts.holding.store) book (is_held store))
      (λ before at receiver bytes life i text brings told theirs shipped. absurd (let never = brings.comes in cc)) (q.keeps.ships keeping)

  closes_none : (traffic : List Record) → first.link.traffic ≡ Some traffic → list_any (is_closing b.d) all ≡ false
  closes_none traffic is =
      list_any-append (is_closing b.d) course.flushes.added q.turns.went.added
      ∙ ap (λ (x : Bool). x || list_any (is_closing b.d) q.turns.went.added)
      (promises.closes_none b q.turns.refused q.turns.went.added (q.turns.went.added ++ traffic) q.turns.went.past q.turns.stands
      (gained_some first.link.traffic old.link.traffic q.turns.went.added traffic q.turns.went.gained is))
      ∙ q.keeps.closes_none traffic is

  serves_now : IsTelling b first new → (h : History) → IsFoundIn b h → (most : ℕ) → faults_of new ≤ faults_of first + most
      → LeavesFew most b.d (lets_send b.d.chunk) h all ⊎ (faults_of old < faults_of new)
  serves_now telling h found most enough = ⊎_elim
      (λ leaves. inl (leaves_more (q.turns.refused + refused) most b.d h all
      (let lost = lost telling in omega (arith, lost, enough)) leaves))
      (λ risen. inr (let lt = risen telling.tells.link in omega (arith, lt, disk)))
      (promises.serves b q.turns.refused q.turns.went.added h q.turns.went.past q.turns.stands found)

  wrote : (traffic : List Record) → first.link.traffic ≡ Some traffic → KeepsWrote b.d new.peer.parts all
  wrote traffic is = promises.wrote b q.turns.refused q.turns.went.added (q.turns.went.added ++ traffic) q.turns.went.past q.turns.stands
      (gained_some first.link.traffic old.link.traffic q.turns.went.added traffic q.turns.went.gained is) (q.keeps.wrote traffic is)

  keeps_up_now : (traffic : List Record) → first.link.traffic ≡ Some traffic → Tells new → KeepsUp b.d all ⊎ (faults_of old < faults_of new)
  keeps_up_now traffic is tells = ⊎_elim
      (λ keeps. inl keeps)
      (λ risen. inr (let lt = risen tells.link in omega (arith, lt, disk)))
      (promises.keeps_up b q.turns.refused q.turns.went.added (q.turns.went.added ++ traffic) q.turns.stands
      (gained_some first.link.traffic old.link.traffic q.turns.went.added traffic q.turns.went.gained is) (q.keeps.wrote traffic is))

  lets_in_now : (traffic : List Record) → first.link.traffic ≡ Some traffic → HasCome b old q.turns.went.added → Tells new
      → LetsIn b.d all ⊎ (faults_of old < faults_of new)
  lets_in_now traffic is came tells = ⊎_elim
      (λ let_in. inl (subst (λ (rs : List Record). LetsIn b.d (course.flushes.added ++ rs)) (sym came.behind) let_in))
      (λ risen. inr (let lt = risen tells.link in omega (arith, lt, disk)))
      (promises.lets_in came.event came.bytes came.start came.absorbs came.fits b came.most q.turns.refused came.past
      (q.turns.went.added ++ traffic) came.stands
      (subst (λ (rs : List Record). StandsFor b q.turns.refused old.peer.parts rs) came.behind q.turns.stands)
      (gained_some first.link.traffic old.link.traffic q.turns.went.added traffic q.turns.went.gained is))

  offers_then : KeepsOffers b.d new.peer.parts all
  offers_then = promises.offers b q.turns.refused q.turns.went.added q.turns.went.past q.turns.stands q.keeps.offers

  asked_then : IsCalmLink first new → (m : ℕ) → limit_of new.peer.parts.fetching ≡ Some m → m ≤ chunks_of b.d → (others : ℕ → Bool)
      → ((i : ℕ) → is_held new.peer.parts.holding.store i ≡ true → others i ≡ true) → AsksOrHolds b.d m others all
  asked_then calm m limit inside others contains = ⊎_elim
      (λ asks. asks)
      (λ risen. absurd (calm (risen_less first.link.faults old.link.faults new.link.faults q.turns.went.later risen)))
      (promises.asks b q.turns.refused q.turns.went.added m q.turns.went.past q.turns.stands q.keeps.offers (sym promises.limit ∙ limit) inside
      others contains)

  asks_now : FetchesAll b.d first.peer.parts → Tells new → (others : ℕ → Bool)
      → ((i : ℕ) → is_held new.peer.parts.holding.store i ≡ true → others i ≡ true)
      → AsksOrHolds b.d (chunks_of b.d) others all ⊎ (faults_of old < faults_of new)
  asks_now fetches tells others contains = ⊎_elim
      (λ asks. inl asks)
      (λ risen. inr (let lt = risen tells.link in omega (arith, lt, disk)))
      (promises.asks b q.turns.refused q.turns.went.added (chunks_of b.d) q.turns.went.past q.turns.stands q.keeps.offers
      (q.keeps.fetches fetches) (omega arith) others contains)

  below : (traffic : List Record) → first.link.traffic ≡ Some traffic → (m : ℕ) → limit_of new.peer.parts.fetching ≡ Some m
      → RequestsBelow b.d m all
  below traffic is m limit =
      let was : limit_of old.peer.parts.fetching ≡ Some m = sym promises.limit ∙ limit in
      list_any-append (requests_from b.d m) course.flushes.added q.turns.went.added
      ∙ ap (λ (x : Bool). x || list_any (requests_from b.d m) q.turns.went.added)
      (promises.below b q.turns.refused q.turns.went.added (q.turns.went.added ++ traffic) m q.turns.stands
      (gained_some first.link.traffic old.link.traffic q.turns.went.added traffic q.turns.went.gained is) was)
      ∙ q.keeps.below traffic is m was

  -- what was held before is held
  held_then : (i : ℕ) → is_held old.peer.parts.holding.store i ≡ true → is_held new.peer.parts.holding.store i ≡ true
  held_then i is = subst (λ (p : Parts). is_held p.holding.store i ≡ true) (sym course.rest)
      (subst (λ (h : HoldingState). is_held h.store i ≡ true) (sym course.flushes.holding) is)

  unchoked : (traffic : List Record) → first.link.traffic ≡ Some traffic → StaysUnchoked b.d new.peer.parts all
  unchoked traffic is = promises.unchoked b q.turns.refused q.turns.went.added (q.turns.went.added ++ traffic) q.turns.stands
      (gained_some first.link.traffic old.link.traffic q.turns.went.added traffic q.turns.went.gained is) (q.keeps.unchoked traffic is)

  calm_then : IsCalmLink first new → IsCalmLink old new
  calm_then calm risen = calm (risen_less first.link.faults old.link.faults new.link.faults q.turns.went.later risen)

  keeps_told : (traffic : List Record) → first.link.traffic ≡ Some traffic → IsCalmLink first new → KeepsTold b.d new.peer.parts all
  keeps_told traffic is calm = promises.told b q.turns.refused q.turns.went.added (q.turns.went.added ++ traffic) q.turns.went.past
      q.turns.stands (gained_some first.link.traffic old.link.traffic q.turns.went.added traffic q.turns.went.gained is) (calm_then calm)
      (q.keeps.told traffic is (calm_before first old new course.flushes.later calm))

  entries_then : (book : LookUp) → KeepsEntries (entry new.peer.parts.holding.book) book → KeepsEntries (entry old.peer.parts.holding.book) book
  entries_then book keeps = subst (λ (h : HoldingState). KeepsEntries (entry h.book) book) course.flushes.holding
      (subst (λ (p : Parts). KeepsEntries (entry p.holding.book) book) course.rest keeps)

  keeps_acks : (traffic : List Record) → first.link.traffic ≡ Some traffic → IsCalmLink first new → (book : LookUp)
      → KeepsEntries (entry new.peer.parts.holding.book) book → KeepsAcks b.d book new.peer.parts all
  keeps_acks traffic is calm book keeps = promises.acks b q.turns.refused q.turns.went.added (q.turns.went.added ++ traffic) q.turns.went.past
      q.turns.stands (gained_some first.link.traffic old.link.traffic q.turns.went.added traffic q.turns.went.gained is) (calm_then calm) book
      (q.keeps.acks traffic is (calm_before first old new course.flushes.later calm) book (entries_then book keeps))

  acknowledges_now : (traffic : List Record) → first.link.traffic ≡ Some traffic → IsCalmLink first new → HasCome b old q.turns.went.added
      → (book : LookUp) → KeepsEntries (entry new.peer.parts.holding.book) book → AcknowledgesFirst b.d book all
  acknowledges_now traffic is calm came book keeps =
      subst (λ (rs : List Record). AcknowledgesFirst b.d book (course.flushes.added ++ rs)) (sym came.behind) (⊎_elim
      (λ acknowledges. acknowledges)
      (λ risen. absurd (calm_then calm risen))
      (promises.acknowledges came.event came.bytes came.start came.absorbs b q.turns.refused came.past (q.turns.went.added ++ traffic)
      q.turns.went.past (subst (λ (rs : List Record). StandsFor b q.turns.refused old.peer.parts rs) came.behind q.turns.stands)
      (gained_some first.link.traffic old.link.traffic q.turns.went.added traffic q.turns.went.gained is) book
      (subst (λ (rs : List Record). AwaitsAck b.d book old.peer.parts rs) came.behind
      (q.keeps.acks traffic is (calm_before first old new course.flushes.later calm) book (entries_then book keeps)).awaits)))

  tells_now : (traffic : List Record) → first.link.traffic ≡ Some traffic → IsCalmLink first new → HasCome b old q.turns.went.added → (h : History)
      → IsFoundIn b h → TellsOfHeld b.d h all
  tells_now traffic is calm came h found = ⊎_elim
      (λ tells. tells)
      (λ risen. absurd (calm_then calm risen))
      (promises.tells b q.turns.refused q.turns.went.added (q.turns.went.added ++ traffic) h q.turns.went.past q.turns.stands
      (gained_some first.link.traffic old.link.traffic q.turns.went.added traffic q.turns.went.gained is)
      (ap sent_since came.behind ∙ event_last came.event came.bytes came.past) found
      (q.keeps.told traffic is (calm_before first old new course.flushes.later calm)))

  -- both counts told before
  told : Tells new → Tells old
  told = told_before old new course.flushes.later disk

  -- the first turn's end
  dials_then : (addresses : List Address) → first.peer.dials ≡ map undialled addresses → length addresses ≤ 16 → (traffic : List Record)
      → first.link.traffic ≡ Some traffic → Tells new → (ended : ℕ) → DialsIn ended stage b addresses first old q.turns.went.added
      → HasDialled b addresses first new all
  dials_then addresses are few traffic is tells zero d =
      let once = sent_none old.peer.parts.seats.descriptor (moment_of old.disk.history) course.flushes.added q.turns.went.added ours in
      let one = events_few q.turns.went.added in
      let before = q.turns.went.later in
      let reads = q.turns.went.advances.disk.faults in
      let link = course.flushes.later in
      let short : length q.turns.went.added ≤ 1 = let most = d.few in let low = at_most_open stage in omega (arith, most, low) in
      record {
        rest = [];
        turn = all;
        behind = refl;
        one = omega (arith, once, one, short);
        misses = misses_more (new.link.faults - old.link.faults) (faults_of new - faults_of first) b.d (map address_of addresses) all
            (omega (arith, before, reads, link, disk))
            (promises.dials b q.turns.refused addresses q.turns.went.added (q.turns.went.added ++ traffic) q.turns.stands (d.dials ∙ are) short few
            (gained_some first.link.traffic old.link.traffic q.turns.went.added traffic q.turns.went.gained is) tells.link);
      }
  dials_then addresses are few traffic is tells (suc n) d =
      misses_still b addresses first old new course.flushes.added q.turns.went.added later d

  dials_on : 0 < open_of stage → open_of stage ≡ 1 → DialsOn Ended n b first new all
  dials_on some one addresses are few traffic is tells zero sum = absurd (let within = q.within in omega (arith, sum, within, some))
  dials_on some one addresses are few traffic is tells (suc m) sum =
      dials_then addresses are few traffic is tells m
      (q.dials addresses are few traffic is (told_before old new course.flushes.later disk tells) m (omega (arith, sum, one)))

abbrev sent_as : (stage : Stage) (n : ℕ) (b : Beginning) (first old new : Post) (refused : ℕ)
    → (course : Flushed refused old new)
    → (promises : Promises refused old.peer new.peer old.link new.link old.disk new.disk course.flushes.added)
    → (q : HasTurned stage b n first old)
    → (IsTelling b first new → (h : History) → IsFoundIn b h → (most : ℕ) → faults_of new ≤ faults_of first + most
    → FailsFew Ended first new (LeavesFew most b.d (lets_send b.d.chunk) h) (course.flushes.added ++ q.turns.went.added))
    → ((traffic : List Record) → first.link.traffic ≡ Some traffic → Tells new
    → FailsFew Ended first new (KeepsUp b.d) (course.flushes.added ++ q.turns.went.added))
    → ((traffic : List Record) → first.link.traffic ≡ Some traffic → Tells new
    → FailsFew Ended first new (LetsIn b.d) (course.flushes.added ++ q.turns.went.added))
    → ((traffic : List Record) → first.link.traffic ≡ Some traffic → IsCalmLink first new → (h : History) → IsFoundIn b h
    → EndsAll Ended (TellsOfHeld b.d h) (course.flushes.added ++ q.turns.went.added))
    → ((traffic : List Record) → first.link.traffic ≡ Some traffic → IsCalmLink first new → (book : LookUp)
    → KeepsEntries (entry new.peer.parts.holding.book) book → EndsAll Ended (AcknowledgesFirst b.d book) (course.flushes.added ++ q.turns.went.added))
    → (FetchesAll b.d first.peer.parts → Tells new → (others : ℕ → Bool)
    → ((i : ℕ) → is_held new.peer.parts.holding.store i ≡ true → others i ≡ true)
    → FailsFew Ended first new (AsksOrHolds b.d (chunks_of b.d) others) (course.flushes.added ++ q.turns.went.added))
    → 0 < open_of stage → open_of stage ≡ 1 → HasTurned Ended b n first new
sent_as stage n b first old new refused course promises q serves keeps_up lets_in tells acknowledges asks some one =
    turned_as Ended n b first new (turns_flushed n b first old new refused course q.turns) (course.flushes.added ++ q.turns.went.added)
    (q.turns.refused + refused) (flushed_turned n b first old new refused course q.turns)
    (record {
      stores = stores stage n b first old new refused course promises q;
      ships = ships stage n b first old new refused course promises q;
      closes_none = closes_none stage n b first old new refused course promises q;
      serves = serves;
      wrote = wrote stage n b first old new refused course promises q;
      keeps_up = keeps_up;
      unchoked = unchoked stage n b first old new refused course promises q;
      told = keeps_told stage n b first old new refused course promises q;
      taken = (promises.taken, promises.unrepeated);
      tells = tells;
      below = below stage n b first old new refused course promises q;
      asked = asked_then stage n b first old new refused course promises q;
      fetches = λ fetches. promises.limit ∙ q.keeps.fetches fetches;
      acks = keeps_acks stage n b first old new refused course promises q;
      acknowledges = acknowledges;
      came = tt;
      lets_in = lets_in;
      offers = offers_then stage n b first old new refused course promises q;
      asks = asks;
    })
    (lost stage n b first old new refused course promises q) (omega arith) (dials_on stage n b first old new refused course promises q some one)

pub turned_sent : (n : ℕ) (b : Beginning) (first old new : Post) (refused : ℕ)
    → (course : Flushed refused old new)
    → Promises refused old.peer new.peer old.link new.link old.disk new.disk course.flushes.added
    → HasTurned Came b n first old → HasTurned Ended b n first new
turned_sent n b first old new refused course promises q =
    sent_as Came n b first old new refused course promises q
    (λ telling h found most enough. fails_sent first old new _ old.peer.parts.seats.descriptor (moment_of old.disk.history) course.flushes.added
    q.turns.went.added course.flushes.ours (later Came n b first old new refused course promises q)
    (serves_now Came n b first old new refused course promises q telling h found most enough)
    (q.keeps.serves (before Came n b first old new refused course promises q telling) h found most
    (let le = later Came n b first old new refused course promises q in omega (arith, le, enough))))
    (λ traffic is tells. fails_sent first old new (KeepsUp b.d) old.peer.parts.seats.descriptor (moment_of old.disk.history) course.flushes.added
    q.turns.went.added course.flushes.ours (later Came n b first old new refused course promises q)
    (keeps_up_now Came n b first old new refused course promises q traffic is tells)
    (q.keeps.keeps_up traffic is (told Came n b first old new refused course promises q tells)))
    (λ traffic is tells. fails_sent first old new (LetsIn b.d) old.peer.parts.seats.descriptor (moment_of old.disk.history) course.flushes.added
    q.turns.went.added course.flushes.ours (later Came n b first old new refused course promises q)
    (lets_in_now Came n b first old new refused course promises q traffic is q.keeps.came tells)
    (q.keeps.lets_in traffic is (told Came n b first old new refused course promises q tells)))
    (λ traffic is calm h found. ends_sent (TellsOfHeld b.d h) old.peer.parts.seats.descriptor (moment_of old.disk.history) course.flushes.added
    q.turns.went.added course.flushes.ours (tells_now Came n b first old new refused course promises q traffic is calm q.keeps.came h found)
    (q.keeps.tells traffic is (calm_before first old new course.flushes.later calm) h found))
    (λ traffic is calm book keeps. ends_sent (AcknowledgesFirst b.d book) old.peer.parts.seats.descriptor (moment_of old.disk.history)
    course.flushes.added q.turns.went.added course.flushes.ours
    (acknowledges_now Came n b first old new refused course promises q traffic is calm q.keeps.came book keeps)
    (q.keeps.acknowledges traffic is (calm_before first old new course.flushes.later calm) book
    (entries_then Came n b first old new refused course promises q book keeps)))
    (λ fetches tells others contains. fails_sent first old new (AsksOrHolds b.d (chunks_of b.d) others) old.peer.parts.seats.descriptor
    (moment_of old.disk.history) course.flushes.added q.turns.went.added course.flushes.ours
    (later Came n b first old new refused course promises q)
    (asks_now Came n b first old new refused course promises q fetches tells others contains)
    (q.keeps.asks fetches (told Came n b first old new refused course promises q tells) others
    (λ i is. contains i (held_then Came n b first old new refused course promises q i is)))) (omega arith) refl

pub turned_late : (n : ℕ) (b : Beginning) (first old new : Post) (refused : ℕ)
    → (course : Flushed refused old new)
    → Promises refused old.peer new.peer old.link new.link old.disk new.disk course.flushes.added
    → HasTurned Refused b n first old → HasTurned Ended b n first new
turned_late n b first old new refused course promises q =
    sent_as Refused n b first old new refused course promises q
    (λ telling h found most enough. fails_sent_late first old new _ old.peer.parts.seats.descriptor (moment_of old.disk.history)
    course.flushes.added q.turns.went.added course.flushes.ours (later Refused n b first old new refused course promises q)
    (q.keeps.serves (before Refused n b first old new refused course promises q telling) h found most
    (let le = later Refused n b first old new refused course promises q in omega (arith, le, enough))))
    (λ traffic is tells. fails_sent_late first old new (KeepsUp b.d) old.peer.parts.seats.descriptor (moment_of old.disk.history)
    course.flushes.added q.turns.went.added course.flushes.ours (later Refused n b first old new refused course promises q)
    (q.keeps.keeps_up traffic is (told Refused n b first old new refused course promises q tells)))
    (λ traffic is tells. fails_sent_late first old new (LetsIn b.d) old.peer.parts.seats.descriptor (moment_of old.disk.history)
    course.flushes.added q.turns.went.added course.flushes.ours (later Refused n b first old new refused course promises q)
    (q.keeps.lets_in traffic is (told Refused n b first old new refused course promises q tells)))
    (λ traffic is calm h found. absurd (q.keeps.tells traffic is (calm_before first old new course.flushes.later calm) h found))
    (λ traffic is calm book keeps. absurd (q.keeps.acknowledges traffic is (calm_before first old new course.flushes.later calm) book
    (entries_then Refused n b first old new refused course promises q book keeps)))
    (λ fetches tells others contains. fails_sent_late first old new (AsksOrHolds b.d (chunks_of b.d) others) old.peer.parts.seats.descriptor
    (moment_of old.disk.history) course.flushes.added q.turns.went.added course.flushes.ours
    (later Refused n b first old new refused course promises q)
    (q.keeps.asks fetches (told Refused n b first old new refused course promises q tells) others
    (λ i is. contains i (held_then Refused n b first old new refused course promises q i is)))) (omega arith) refl

-- what is due, behind a wait
pub finish_whole : (old new : Post) (refused : ℕ) → (course : Flushed refused old new)
    → Promises refused old.peer new.peer old.link new.link old.disk new.disk course.flushes.added → Finishes old new
finish_whole old new refused course promises b taken first waited = ⊎_elim
    (λ came. turned_sent taken b first old new refused course promises came)
    (λ late. turned_late taken b first old new refused course promises late)
    waited

-- a turn: the wait, and then what is due
pub turn_whole : (old mid new : Post) (refused : ℕ) (u v : Unit {0}) → Waits old mid (Ok u)
    → (course : Sends refused mid.peer new.peer mid.link new.link mid.disk new.disk)
    → Promises refused mid.peer new.peer mid.link new.link mid.disk new.disk course.flushes.added → TakesTurn old new (Ok v)
turn_whole old mid new refused u v waits course promises b taken first q =
    finish_whole mid new refused (flushed_by refused mid new course) promises b (taken + 1) first (waits b taken first q)
