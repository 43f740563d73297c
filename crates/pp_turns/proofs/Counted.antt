-- Between turns, and between the two halves of one: the link may refuse something to others who share it.
use Rattle.std.proofs.Common.{◌≡◌, inl, inr, ⊎_elim, ℕ, ◌≤◌, zero, suc, List, [], refl, arith}
use Rattle.pp_terms.specs.format.Traffic.{Record}
use Rattle.pp_terms.proofs.Risings.{risen_more}
use Rattle.pp_outside.specs.declared.link.Address.{Address}
use Rattle.pp_peer.specs.Standing.{Beginning}
use Rattle.pp_turns.specs.Turning.{Post, TakesTurns}
use Rattle.pp_turns.specs.Promising.{Stage, Ended, Came, Refused, faults_of, Tells, FailsFew, IsTelling, IsCalmLink, TakenAt, CameAt, AskedAt, DialsIn, HasTurned}
use Rattle.pp_turns.proofs.Turned.{calm_before, told_before, tells_before, misses_still}

-- the same post, whose link refused so often
abbrev pub counting : ℕ → Post → Post
counting faults p = record p { link = record p.link { faults = faults } }

module _ (faults : ℕ) (b : Beginning) (first old : Post) (rises : old.link.faults ≤ faults) where
  later : faults_of old ≤ faults_of (counting faults old)
  later = omega (arith, rises)

  told : Tells (counting faults old) → Tells old
  told = told_before old (counting faults old) rises (omega arith)

  telling : IsTelling b first (counting faults old) → IsTelling b first old
  telling = tells_before b first old (counting faults old) rises (omega arith)

  calm : IsCalmLink first (counting faults old) → IsCalmLink first old
  calm = calm_before first old (counting faults old) rises

  fails_later : (stage : Stage) (P : List Record → Type 0) (past : List Record) → FailsFew stage first old P past
      → FailsFew stage first (counting faults old) P past
  fails_later stage P past (few, sum, ends) = (few, omega (arith, sum, later), ends)

  taken_on : (stage : Stage) → TakenAt stage old → TakenAt stage (counting faults old)
  taken_on Ended taken = taken
  taken_on Came taken = tt
  taken_on Refused taken = taken

  came_on : (stage : Stage) (added : List Record) → CameAt stage b old added → CameAt stage b (counting faults old) added
  came_on Ended added came = tt
  came_on Refused added came = tt
  came_on Came added came = record {
    event = came.event;
    bytes = came.bytes;
    fits = came.fits;
    start = came.start;
    absorbs = came.absorbs;
    past = came.past;
    behind = came.behind;
    most = came.most;
    stands = came.stands;
  }

  asked_on : (stage : Stage) (added : List Record) → AskedAt stage b first old added → AskedAt stage b first (counting faults old) added
  asked_on Ended added asked = λ still. asked (calm still)
  asked_on Came added asked = tt
  asked_on Refused added asked = tt

  dials_on : (ended : ℕ) (stage : Stage) (addresses : List Address) (added : List Record) → DialsIn ended stage b addresses first old added
      → DialsIn ended stage b addresses first (counting faults old) added
  dials_on zero stage addresses added d = record { dials = d.dials; few = d.few }
  dials_on (suc n) stage addresses added d = misses_still b addresses first old (counting faults old) [] added later d

  abbrev turns_on : (n : ℕ) → TakesTurns b n first old → TakesTurns b n first (counting faults old)
  turns_on n q = record {
    went = record {
      past = q.went.past;
      added = q.went.added;
      gained = q.went.gained;
      took = record {
        nexts = q.went.took.nexts;
        still = q.went.took.still;
        refused = q.went.took.refused;
        each = q.went.took.each;
        why = ⊎_elim (λ none. inl none) (λ risen. inr (risen_more first.link.faults old.link.faults faults rises risen)) q.went.took.why;
      };
      bound = q.went.bound;
      later = (let before = q.went.later in omega (arith, before, rises));
      advances = q.went.advances;
      whole = q.went.whole;
      asks_none = q.went.asks_none;
      ledger = q.went.ledger;
      keeps = q.went.keeps;
      turns = q.went.turns;
      receive_faults = q.went.receive_faults;
    };
    refused = q.refused;
    stands = q.stands;
    live = q.live;
    idle = q.idle;
  }

  -- Turns go on to have been taken when the link refuses something to others.
  pub turned_counted : (stage : Stage) (n : ℕ) → HasTurned stage b n first old → HasTurned stage b n first (counting faults old)
  turned_counted stage n q = record {
    turns = turns_on n q.turns;
    keeps = record {
      stores = q.keeps.stores;
      ships = q.keeps.ships;
      closes_none = q.keeps.closes_none;
      serves = λ tells h found most enough. fails_later stage _ q.turns.went.added (q.keeps.serves (telling tells) h found most (omega (arith, later, enough)));
      wrote = q.keeps.wrote;
      keeps_up = λ before is tells. fails_later stage _ q.turns.went.added (q.keeps.keeps_up before is (told tells));
      unchoked = q.keeps.unchoked;
      told = λ before is still. q.keeps.told before is (calm still);
      taken = taken_on stage q.keeps.taken;
      tells = λ before is still. q.keeps.tells before is (calm still);
      acks = λ before is still. q.keeps.acks before is (calm still);
      acknowledges = λ before is still. q.keeps.acknowledges before is (calm still);
      came = came_on stage q.turns.went.added q.keeps.came;
      lets_in = λ before is tells. fails_later stage _ q.turns.went.added (q.keeps.lets_in before is (told tells));
      offers = q.keeps.offers;
      fetches = q.keeps.fetches;
      asked = asked_on stage q.turns.went.added q.keeps.asked;
      asks = λ fetches tells others contains. fails_later stage _ q.turns.went.added (q.keeps.asks fetches (told tells) others contains);
      below = q.keeps.below;
    };
    lost = λ tells. let lost = q.lost (telling tells) in omega (arith, lost, later);
    within = q.within;
    dials = λ addresses are few before is tells ended sum.
        dials_on ended stage addresses q.turns.went.added (q.dials addresses are few before is (told tells) ended sum);
  }

-- No record is added by that.
pub added_counted : (faults : ℕ) (b : Beginning) (first old : Post) (rises : old.link.faults ≤ faults) (stage : Stage) (n : ℕ) (q : HasTurned stage b n first old)
    → (turned_counted faults b first old rises stage n q).turns.went.added ≡ q.turns.went.added
unfolding turned_counted
added_counted faults b first old rises stage n q = refl
