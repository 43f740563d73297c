-- What was announced goes on standing.
use Rattle.std.proofs.Common.{◌≡◌, ℕ, ◌+◌, ◌≤◌, true, Bool, Option, Some, None, List, [], ◌∷◌, ◌++◌, refl, sym, ◌∙◌, ap, subst, arith, Result, Ok, Err, OnOk}
use Rattle.std.specs.List.{AllByRecursion}
use Rattle.pp_terms.specs.disk.Disk.{DiskState, History, moment_of}
use Rattle.pp_terms.specs.format.Descriptor.{Descriptor}
use Rattle.pp_terms.specs.format.Traffic.{Address, Record, Received, Quiet, Sent, LinkState}
use Rattle.pp_traffic.specs.Keeping.{EachAnnounced, StandsSince}
use Rattle.pp_outside.specs.Outside.{record_of}
use Rattle.pp_outside.specs.declared.link.Event.{Event}
use Rattle.pp_outside.specs.declared.link.Event.TheVariants as events
use Rattle.pp_tree.specs.Book.{BookState, entry}
use Rattle.pp_traffic.specs.Meter.{lets_send}
use Rattle.pp_traffic.specs.Serving.{ServesAll}
use Rattle.pp_counts.specs.declared.counts.Counts.{Counts}
use Rattle.pp_channels.specs.Seats.{channel_at}
use Rattle.pp_lives.specs.Fars.{far_of}
use Rattle.pp_fetching.specs.Fetching.{FetchState}
use Rattle.pp_fetching.specs.Owners.{AreOwned}
use Rattle.pp_seats.specs.Standing.{SeatsState}
use Rattle.pp_seats.specs.Standing as seats
use Rattle.pp_seats.specs.Sending.{HoldsAnnounced}
use Rattle.pp_store.specs.Store.{StoreState, is_committed}
use Rattle.pp_holding.specs.Holding.{HoldingState, stock_of}
use Rattle.pp_holding.specs.Stock.{Stock, Advances}
use Rattle.pp_holding.proofs.Advancing.{advances_reading}
use Rattle.pp_peer.specs.declared.parts.Parts.{Parts}
use Rattle.pp_peer.specs.Standing.{Beginning, setting, own_in, asked_of, IsTied, StandsFor}
use Rattle.pp_peer.specs.Flushing.{IsOurs, Flushes}
use Rattle.pp_peer.proofs.Ledgers.{announced_on}
use Rattle.pp_peer.proofs.Greeted.{fetches_kept}
use Rattle.pp_core.specs.Peers.{PeerState}
use Rattle.pp_core.specs.Keeping.{IsThere, IsKeeping}
use Rattle.pp_core.specs.Turning.{scene, without_tickets, limited, Goes}

-- ---- whatever calls follow

pub kept_on : (since : ℕ) (old new : PeerState) (disk left : DiskState) (past : List Record)
    → Advances (stock_of old.parts.holding disk) (stock_of new.parts.holding left) → IsKeeping since old disk past → IsKeeping since new left past
kept_on since old new disk left past a k = record {
  kept = a.kept since k.kept;
  announced = subst (λ (d : Descriptor). EachAnnounced d (IsThere new left) past) (sym a.descriptor)
      (announced_on old.parts.holding.store.descriptor (IsThere old disk) (IsThere new left) past there k.announced);
}
  where
    there : (moment i : ℕ) → IsThere old disk moment i → IsThere new left moment i
    there moment i t = record {
      committed = a.committed i t.committed;
      past = (let later = a.disk.later in let was = t.past in omega (arith, later, was));
      stands = subst (λ (d : Descriptor). StandsSince d left.history moment i) (sym a.descriptor) (a.goes_on k.kept.known i t.committed moment t.past t.stands);
    }

-- an event announces nothing
pub kept_event : (since : ℕ) (p : PeerState) (disk : DiskState) (e : Event) (bytes : List ℕ) (past : List Record) → IsKeeping since p disk past
    → IsKeeping since p disk (record_of e bytes ∷ past)
kept_event since p disk (events.Datagram sender len at) bytes past k = record { kept = k.kept; announced = k.announced }
kept_event since p disk (events.Quiet at) bytes past k = record { kept = k.kept; announced = k.announced }

-- ---- what goes

-- What was sent announces what stands now.
announced_more : (d : Descriptor) (now : ℕ) (P Q : ℕ → ℕ → Type 0) (added past : List Record) → AllByRecursion (IsOurs d now) added
    → ((moment i : ℕ) → moment ≡ now → P moment i → Q moment i) → EachAnnounced d P (added ++ past) → EachAnnounced d Q past → EachAnnounced d Q (added ++ past)
announced_more d now P Q [] past ours f p q = q
announced_more d now P Q (Received at sender bytes ∷ rs) past ours f p q = announced_more d now P Q rs past ours.1 f p q
announced_more d now P Q (Quiet at ∷ rs) past ours f p q = announced_more d now P Q rs past ours.1 f p q
announced_more d now P Q (Sent moment receiver bytes ∷ rs) past ours f p q = (
  λ i is. f moment i (stamp (ours.0).receiver (ours.0).bytes (ours.0).is) (p.0 i is),
  announced_more d now P Q rs past ours.1 f p.1 q,
)
  where
    moment_in : Record → ℕ
    moment_in (Received at sender bytes) = at
    moment_in (Quiet at) = at
    moment_in (Sent at receiver bytes) = at

    stamp : (to : Address) (text : List ℕ) → Sent moment receiver bytes ≡ Sent now to text → moment ≡ now
    stamp to text e = ap moment_in e

pub goes_keeps : (refused : ℕ) (old new : PeerState) (mid : Parts) (link later : LinkState) (disk left : DiskState)
    → (f : Flushes refused (scene old.parts link disk) (scene mid later left)) → new.parts.holding.store ≡ mid.holding.store → new.parts.holding.book ≡ mid.holding.book
    → (b : Beginning) (most since : ℕ) (past : List Record) → b.since ≤ moment_of disk.history → StandsFor b most old.parts past
    → IsKeeping since old disk past → IsKeeping since new left (f.added ++ past)
goes_keeps refused old new mid link later disk left f store book b most since past begun s k =
    let kept = kept_on since old new disk left past advances k in
    record {
      kept = kept.kept;
      announced = subst (λ (d : Descriptor). EachAnnounced d (IsThere new left) (f.added ++ past)) (sym swarm)
          (announced_more b.d (moment_of disk.history) _ (IsThere new left) f.added past
          (subst (λ (d : Descriptor). AllByRecursion (IsOurs d (moment_of disk.history)) f.added) s.seats.swarm f.ours)
          (λ moment i now p. there moment i now p.0)
          (f.stands b most past begun s).ledger.announced
          (subst (λ (d : Descriptor). EachAnnounced d (IsThere new left) past) swarm kept.announced));
    }
  where
    store_is : new.parts.holding.store ≡ old.parts.holding.store
    store_is = store ∙ ap (λ (h : HoldingState). h.store) f.holding

    swarm : new.parts.holding.store.descriptor ≡ b.d
    swarm = ap (λ (x : StoreState). x.descriptor) store_is ∙ s.ledger.swarm

    advances : Advances (stock_of old.parts.holding disk) (stock_of new.parts.holding left)
    advances = subst (λ (x : Stock). Advances (stock_of old.parts.holding disk) x)
        (ap (λ (x : StoreState). record { store = x; book = entry old.parts.holding.book; disk = left }) (sym store_is)
        ∙ ap (λ (x : BookState). record { store = new.parts.holding.store; book = entry x; disk = left }) (sym (book ∙ ap (λ (h : HoldingState). h.book) f.holding)))
        (advances_reading (stock_of old.parts.holding disk) left f.reads)

    there : (moment i : ℕ) → moment ≡ moment_of disk.history → is_committed mid.holding.store i ≡ true → IsThere new left moment i
    there moment i now is = record {
      committed = ap (λ (x : StoreState). is_committed x i) store ∙ is;
      past = (let same = ap moment_of f.reads.same in omega (arith, now, same));
      stands = subst (λ (h : History). StandsSince new.parts.holding.store.descriptor h moment i) (sym f.reads.same)
          (subst (λ (n : ℕ). StandsSince new.parts.holding.store.descriptor disk.history n i) (sym now)
          (subst (λ (d : Descriptor). StandsSince d disk.history (moment_of disk.history) i) (ap (λ (x : StoreState). x.descriptor) (sym store_is))
          (k.kept.stands i (ap (λ (h : HoldingState). is_committed h.store i) (sym f.holding) ∙ is))));
    }

-- what a peer stands for says nothing of tickets, whoever drops them
pub stands_without : (b : Beginning) (most : ℕ) (old new : Parts) (past : List Record) → new.seats ≡ old.seats → new.holding.store ≡ old.holding.store
    → new.holding.book ≡ old.holding.book → new.fetching ≡ old.fetching → new.counts ≡ old.counts → StandsFor b most old past → StandsFor b most new past
stands_without b most old new past seats_same store book fetching counts s = record {
  ledger = record {
    swarm = ap (λ (x : StoreState). x.descriptor) store ∙ s.ledger.swarm;
    served = subst (λ (x : BookState). ServesAll b.d (entry x) (lets_send b.d.chunk) past) (sym book) s.ledger.served;
    plans = s.ledger.plans;
    announced = subst (λ (x : StoreState). EachAnnounced b.d (λ moment i. (is_committed x i ≡ true) × (b.since ≤ moment)) past) (sym store) s.ledger.announced;
    tied = subst (λ (k : Counts). IsTied k past) (sym counts) s.ledger.tied;
  };
  known_of = s.known_of;
  seats = subst (λ (x : SeatsState). seats.StandsFor (setting b s.known_of) most x past) (sym seats_same) s.seats;
  holds = subst (λ (x : StoreState). HoldsAnnounced (setting b s.known_of) (is_committed x) past) (sym store) s.holds;
  fetches = fetches_kept old new fetching (ap (λ (x : SeatsState). x.seats) seats_same)
      (λ n far. sym (ap (λ (x : SeatsState). far_of (channel_at x.table n)) seats_same) ∙ far) s.fetches;
}

-- ---- in the words of the calls

pub flush_goes : (refused : ℕ) (old new : PeerState) (mid : Parts) (link later : LinkState) (disk left : DiskState)
    → (f : Flushes refused (scene old.parts link disk) (scene mid later left)) → new.parts ≡ without_tickets mid → Goes refused f.added old new disk left
flush_goes refused old new mid link later disk left f is = record {
  stands = λ b most past begun s.
      stands_without b (most + refused) mid new.parts (f.added ++ past) (ap (λ (p : Parts). p.seats) is) (ap (λ (p : Parts). p.holding.store) is) (ap (λ (p : Parts). p.holding.book) is)
      (ap (λ (p : Parts). p.fetching) is) (ap (λ (p : Parts). p.counts) is) (f.stands b most past begun s);
  keeps = goes_keeps refused old new mid link later disk left f (ap (λ (p : Parts). p.holding.store) is) (ap (λ (p : Parts). p.holding.book) is);
}

pub close_goes : (old new : PeerState) (link later : LinkState) (disk left : DiskState) → (f : Flushes 0 (scene old.parts link disk) (scene new.parts later left))
    → Goes 0 f.added old new disk left
close_goes old new link later disk left f = record {
  stands = f.stands;
  keeps = goes_keeps 0 old new new.parts link later disk left f refl refl;
}

-- a wait that was refused is counted, and nothing else
pub refused_stands : (b : Beginning) (most : ℕ) (old : Parts) (counts : Counts) (past : List Record) → counts.datagrams ≡ old.counts.datagrams
    → counts.short ≡ old.counts.short → counts.sent ≡ old.counts.sent → StandsFor b most old past → StandsFor b most (record old { counts = counts }) past
refused_stands b most old counts past datagrams short sent s = record {
  ledger = record {
    swarm = s.ledger.swarm;
    served = s.ledger.served;
    plans = s.ledger.plans;
    announced = s.ledger.announced;
    tied = record { datagrams = datagrams ∙ s.ledger.tied.datagrams; short = short ∙ s.ledger.tied.short; sent = sent ∙ s.ledger.tied.sent };
  };
  known_of = s.known_of;
  seats = s.seats;
  holds = s.holds;
  fetches = record { owned = s.fetches.owned; idle = s.fetches.idle };
}

-- so many chunks are asked for at the most, and those that are asked for stay so
limited_asked : (limit : ℕ) (o : Option FetchState) → asked_of (limited limit o) ≡ asked_of o
limited_asked limit None = refl
limited_asked limit (Some f) = refl

pub limited_stands : (b : Beginning) (most limit : ℕ) (p : Parts) (fetching : Option FetchState) (past : List Record) → fetching ≡ limited limit p.fetching
    → StandsFor b most p past → StandsFor b most (record p { fetching = fetching }) past
limited_stands b most limit p fetching past is s = record {
  ledger = record { swarm = s.ledger.swarm; served = s.ledger.served; plans = s.ledger.plans; announced = s.ledger.announced; tied = s.ledger.tied };
  known_of = s.known_of;
  seats = s.seats;
  holds = s.holds;
  fetches = record {
    owned = subst (λ (xs : List Bool). AreOwned xs (own_in p.seats.seats)) (sym (ap asked_of is ∙ limited_asked limit p.fetching)) s.fetches.owned;
    idle = s.fetches.idle;
  };
}

-- two facts of what was answered make a third
pub on_ok_both : {T E P Q R : Type 0} (r : Result T E) → (P → Q → R) → OnOk r P → OnOk r Q → OnOk r R
on_ok_both (Ok v) f p q = f p q
on_ok_both (Err e) f p q = tt
