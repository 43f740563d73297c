-- Between the two halves of a turn, and between turns: a peer may ask for chunks below another number, and its disk may be read.
use Rattle.std.proofs.Common.{◌≡◌, ℕ, ◌<◌, ◌≤◌, zero, suc, Option, Some, None, List, [], refl, sym, ap, subst, arith}
use Rattle.std.proofs.lemmas.Option.{same_Some}
use Rattle.pp_terms.specs.disk.Disk.{DiskState, History, moment_of}
use Rattle.pp_terms.specs.format.Descriptor.{chunks_of}
use Rattle.pp_terms.specs.format.Traffic.{Record}
use Rattle.pp_promises.specs.Batches.{Batch}
use Rattle.pp_outside.specs.declared.link.Address.{Address}
use Rattle.pp_scan.specs.Look.{KeepsAll}
use Rattle.pp_holding.specs.Holding.{batch_of}
use Rattle.pp_holding.proofs.Advancing.{advances_none, advances_twice, advances_reading}
use Rattle.pp_fetching.specs.Fetching.{FetchState}
use Rattle.pp_peer.specs.Standing.{Beginning}
use Rattle.pp_core.specs.Having.{HasJust}
use Rattle.pp_core.specs.Offering.{limit_of, FetchesAll, KeepsOffers, RequestsBelow}
use Rattle.pp_core.specs.Turning.{limited, with_limit}
use Rattle.pp_core.proofs.Below.{requests_less}
use Rattle.pp_core.proofs.Haves.{limit_heard}
use Rattle.pp_core.proofs.Keeping.{kept_on, limited_stands}
use Rattle.pp_core.proofs.Unchoked.{limit_unchokes}
use Rattle.pp_turns.specs.Turning.{Post, stock_in, IsBegun, TakesTurns}
use Rattle.pp_turns.specs.Promising.{Stage, Ended, Came, Refused, faults_of, Tells, FailsFew, IsTelling, TakenAt, CameAt, AskedAt, open_of, DialsIn, HasTurned}
use Rattle.pp_turns.proofs.Limited.{absorbs_to}
use Rattle.pp_turns.proofs.Turned.{told_before, tells_before, misses_still}

-- ---- another limit

-- the peer asks for chunks below a number alone from now on
abbrev pub asking_below : ℕ → Post → Post
asking_below limit p = record p { peer = record p.peer { parts = with_limit limit p.peer.parts } }

limit_then : (limit n : ℕ) (o : Option FetchState) → limit ≡ n → limit_of o ≡ Some n → limit_of (limited limit o) ≡ Some n
limit_then limit n None is all = all
limit_then limit n (Some f) is all = ap Some is

held_then : (limit : ℕ) (batch : Batch) (o : Option FetchState) → ((f : FetchState) → o ≡ Some f → HasJust f.want.had batch)
    → (f : FetchState) → limited limit o ≡ Some f → HasJust f.want.had batch
held_then limit batch None held f is = held f is
held_then limit batch (Some g) held f is = subst (λ (s : FetchState). HasJust s.want.had batch) (same_Some (record g { want = record g.want { limit = limit } }) f is) (held g refl)

module _ (limit : ℕ) (b : Beginning) (first old : Post) where
  telling_then : IsTelling b first (asking_below limit old) → IsTelling b first old
  telling_then t = record { keeping = t.keeping; tells = record { link = t.tells.link; disk = t.tells.disk } }

  tells_then : Tells (asking_below limit old) → Tells old
  tells_then t = record { link = t.link; disk = t.disk }

  taken_then : (stage : Stage) → TakenAt stage old → TakenAt stage (asking_below limit old)
  taken_then Ended taken = taken
  taken_then Came taken = tt
  taken_then Refused taken = taken

  came_then : (stage : Stage) (added : List Record) → CameAt stage b old added → CameAt stage b (asking_below limit old) added
  came_then Ended added came = tt
  came_then Refused added came = tt
  came_then Came added came = record {
    event = came.event;
    bytes = came.bytes;
    fits = came.fits;
    start = with_limit limit came.start;
    absorbs = absorbs_to limit came.event came.bytes came.start old.peer.parts came.absorbs;
    past = came.past;
    behind = came.behind;
    most = came.most;
    stands = limited_stands b came.most limit came.start (limited limit came.start.fetching) came.past refl came.stands;
  }

  offers_then : (added : List Record) → KeepsOffers b.d old.peer.parts added → KeepsOffers b.d (with_limit limit old.peer.parts) added
  offers_then added offers = record {
    held = held_then limit (batch_of old.peer.parts.holding) old.peer.parts.fetching offers.held;
    heard = limit_heard b.d limit old.peer.parts added offers.heard;
  }

  dials_then : (ended : ℕ) (stage : Stage) (addresses : List Address) (added : List Record) → DialsIn ended stage b addresses first old added
      → DialsIn ended stage b addresses first (asking_below limit old) added
  dials_then zero stage addresses added d = record { dials = d.dials; few = d.few }
  dials_then (suc n) stage addresses added d = record { rest = d.rest; turn = d.turn; behind = d.behind; one = d.one; misses = d.misses }

  abbrev turns_then : (n : ℕ) → TakesTurns b n first old → TakesTurns b n first (asking_below limit old)
  turns_then n q = record {
    went = record {
      past = q.went.past;
      added = q.went.added;
      gained = q.went.gained;
      took = q.went.took;
      bound = q.went.bound;
      later = q.went.later;
      advances = q.went.advances;
      whole = q.went.whole;
      asks_none = q.went.asks_none;
      ledger = (limited_stands b q.refused limit old.peer.parts (limited limit old.peer.parts.fetching) q.went.added refl q.stands).ledger;
      keeps = λ keeps. kept_on b.since old.peer (asking_below limit old).peer old.disk old.disk q.went.added (advances_none (stock_in old)) (q.went.keeps keeps);
      turns = q.went.turns;
      receive_faults = q.went.receive_faults;
    };
    refused = q.refused;
    stands = limited_stands b q.refused limit old.peer.parts (limited limit old.peer.parts.fetching) q.went.added refl q.stands;
    live = q.live;
    idle = λ idle. ap (limited limit) (q.idle idle);
  }

  -- what was asked for lies below the limit, if that doesn't fall
  below_then : (added : List Record) (o : Option FetchState) → ((n : ℕ) → limit_of o ≡ Some n → n ≤ limit)
      → ((n : ℕ) → limit_of o ≡ Some n → RequestsBelow b.d n added) → (n : ℕ) → limit_of (limited limit o) ≡ Some n → RequestsBelow b.d n added
  below_then added None rises below n is = absurd cc
  below_then added (Some f) rises below n is = subst (λ (m : ℕ). RequestsBelow b.d m added) (same_Some limit n is)
      (requests_less b.d f.want.limit limit added (rises f.want.limit refl) (below f.want.limit refl))

  asked_then : (stage : Stage) (added : List Record) → 0 < open_of stage → AskedAt stage b first (asking_below limit old) added
  asked_then Ended added some = absurd (omega (arith, some))
  asked_then Came added some = tt
  asked_then Refused added some = tt

  -- Turns go on to have been taken when the limit rises before the last one ends; where the first peer asked for all that it lacked, the limit
  -- has to be that of all.
  pub turned_limited : (stage : Stage) (n : ℕ) → 0 < open_of stage → (FetchesAll b.d first.peer.parts → limit ≡ chunks_of b.d)
      → ((m : ℕ) → limit_of old.peer.parts.fetching ≡ Some m → m ≤ limit) → HasTurned stage b n first old
      → HasTurned stage b n first (asking_below limit old)
  turned_limited stage n some all rises q = record {
    turns = turns_then n q.turns;
    keeps = record {
      stores = q.keeps.stores;
      ships = q.keeps.ships;
      closes_none = q.keeps.closes_none;
      serves = λ telling. q.keeps.serves (telling_then telling);
      wrote = q.keeps.wrote;
      keeps_up = λ before is tells. q.keeps.keeps_up before is (tells_then tells);
      unchoked = λ before is. limit_unchokes limit b.d old.peer.parts q.turns.went.added (q.keeps.unchoked before is);
      told = λ before is calm. let t = q.keeps.told before is calm in record { told = t.told; few = t.few; passes = t.passes };
      taken = taken_then stage q.keeps.taken;
      tells = q.keeps.tells;
      acks = λ before is calm book keeps. let a = q.keeps.acks before is calm book keeps in record { awaits = a.awaits; came = a.came };
      acknowledges = q.keeps.acknowledges;
      came = came_then stage q.turns.went.added q.keeps.came;
      lets_in = λ before is tells. q.keeps.lets_in before is (tells_then tells);
      offers = offers_then q.turns.went.added q.keeps.offers;
      fetches = λ fetches. limit_then limit (chunks_of b.d) old.peer.parts.fetching (all fetches) (q.keeps.fetches fetches);
      asked = asked_then stage q.turns.went.added some;
      asks = λ fetches tells. q.keeps.asks fetches (tells_then tells);
      below = λ before is. below_then q.turns.went.added old.peer.parts.fetching rises (q.keeps.below before is);
    };
    lost = λ telling. q.lost (telling_then telling);
    within = q.within;
    dials = λ addresses are few before is tells ended sum.
        dials_then ended stage addresses q.turns.went.added (q.dials addresses are few before is (tells_then tells) ended sum);
  }

-- A peer that has begun, and asks for chunks below a number alone, has begun.
pub begun_limited : (limit : ℕ) (b : Beginning) (p : Post) → IsBegun b p → IsBegun b (asking_below limit p)
begun_limited limit b p begun = record {
  past = begun.past;
  stands = limited_stands b 0 limit p.peer.parts (limited limit p.peer.parts.fetching) [] refl begun.stands;
  counts = begun.counts;
  live = begun.live;
  wrote = begun.wrote;
  unchoked = limit_unchokes limit b.d p.peer.parts [] begun.unchoked;
  told = record { told = begun.told.told; few = begun.told.few; passes = begun.told.passes };
  taken = begun.taken;
  unrepeated = begun.unrepeated;
  acks = λ book. let a = begun.acks book in record { awaits = a.awaits; came = a.came };
  held = held_then limit (batch_of p.peer.parts.holding) p.peer.parts.fetching begun.held;
}

-- ---- a disk that is read

-- the same post over another state of its disk
abbrev pub reading : DiskState → Post → Post
reading disk p = record p { disk = disk }

module _ (disk : DiskState) (b : Beginning) (first old : Post) (looks : KeepsAll old.disk disk) where
  later : faults_of old ≤ faults_of (reading disk old)
  later = omega (arith, looks.faults)

  told : Tells (reading disk old) → Tells old
  told = told_before old (reading disk old) (omega arith) looks.faults

  telling : IsTelling b first (reading disk old) → IsTelling b first old
  telling = tells_before b first old (reading disk old) (omega arith) looks.faults

  fails_later : (stage : Stage) (P : List Record → Type 0) (past : List Record) → FailsFew stage first old P past → FailsFew stage first (reading disk old) P past
  fails_later stage P past (few, sum, ends) = (few, omega (arith, sum, later), ends)

  taken_read : (stage : Stage) → TakenAt stage old → TakenAt stage (reading disk old)
  taken_read Ended taken = taken
  taken_read Came taken = tt
  taken_read Refused taken = taken

  came_read : (stage : Stage) (added : List Record) → CameAt stage b old added → CameAt stage b (reading disk old) added
  came_read Ended added came = tt
  came_read Refused added came = tt
  came_read Came added came = record {
    event = came.event;
    bytes = came.bytes;
    fits = came.fits;
    start = came.start;
    absorbs = came.absorbs;
    past = came.past;
    behind = came.behind;
    most = came.most;
    stands = came.stands;
  }

  asked_read : (stage : Stage) (added : List Record) → AskedAt stage b first old added → AskedAt stage b first (reading disk old) added
  asked_read Ended added asked = asked
  asked_read Came added asked = tt
  asked_read Refused added asked = tt

  dials_read : (ended : ℕ) (stage : Stage) (addresses : List Address) (added : List Record) → DialsIn ended stage b addresses first old added
      → DialsIn ended stage b addresses first (reading disk old) added
  dials_read zero stage addresses added d = record { dials = d.dials; few = d.few }
  dials_read (suc n) stage addresses added d = misses_still b addresses first old (reading disk old) [] added later d

  abbrev turns_read : (n : ℕ) → TakesTurns b n first old → TakesTurns b n first (reading disk old)
  turns_read n q = record {
    went = record {
      past = subst (λ (h : History). b.since ≤ moment_of h) (sym looks.same) q.went.past;
      added = q.went.added;
      gained = q.went.gained;
      took = q.went.took;
      bound = q.went.bound;
      later = q.went.later;
      advances = advances_twice (stock_in first) (stock_in old) (stock_in (reading disk old)) q.went.advances (advances_reading (stock_in old) disk looks);
      whole = q.went.whole;
      asks_none = q.went.asks_none;
      ledger = q.went.ledger;
      keeps = λ keeps. kept_on b.since old.peer old.peer old.disk disk q.went.added (advances_reading (stock_in old) disk looks) (q.went.keeps keeps);
      turns = q.went.turns;
      receive_faults = q.went.receive_faults;
    };
    refused = q.refused;
    stands = q.stands;
    live = q.live;
    idle = q.idle;
  }

  -- Turns go on to have been taken when the disk is only read.
  pub turned_read : (stage : Stage) (n : ℕ) → HasTurned stage b n first old → HasTurned stage b n first (reading disk old)
  turned_read stage n q = record {
    turns = turns_read n q.turns;
    keeps = record {
      stores = q.keeps.stores;
      ships = q.keeps.ships;
      closes_none = q.keeps.closes_none;
      serves = λ tells h found most enough. fails_later stage _ q.turns.went.added (q.keeps.serves (telling tells) h found most (omega (arith, later, enough)));
      wrote = q.keeps.wrote;
      keeps_up = λ before is tells. fails_later stage _ q.turns.went.added (q.keeps.keeps_up before is (told tells));
      unchoked = q.keeps.unchoked;
      told = q.keeps.told;
      taken = taken_read stage q.keeps.taken;
      tells = q.keeps.tells;
      acks = q.keeps.acks;
      acknowledges = q.keeps.acknowledges;
      came = came_read stage q.turns.went.added q.keeps.came;
      lets_in = λ before is tells. fails_later stage _ q.turns.went.added (q.keeps.lets_in before is (told tells));
      offers = q.keeps.offers;
      asks = λ fetches tells others contains. fails_later stage _ q.turns.went.added (q.keeps.asks fetches (told tells) others contains);
      below = q.keeps.below;
      fetches = q.keeps.fetches;
      asked = asked_read stage q.turns.went.added q.keeps.asked;
    };
    lost = λ tells. let lost = q.lost (telling tells) in omega (arith, lost, later);
    within = q.within;
    dials = λ addresses are few before is tells ended sum.
        dials_read ended stage addresses q.turns.went.added (q.dials addresses are few before is (told tells) ended sum);
  }

-- No record is added by that.
pub added_read : (disk : DiskState) (b : Beginning) (first old : Post) (looks : KeepsAll old.disk disk) (stage : Stage) (n : ℕ) (q : HasTurned stage b n first old)
    → (turned_read disk b first old looks stage n q).turns.went.added ≡ q.turns.went.added
unfolding turned_read
added_read disk b first old looks stage n q = refl
