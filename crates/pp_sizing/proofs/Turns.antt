-- One turn of a learner, behind those before.
use Rattle.std.proofs.Common.{◌≡◌, ◌⊎◌, inl, inr, ⊎_elim, ℕ, zero, suc, ◌+◌, ◌<◌, ◌≤◌, Option, None, List, [], ◌∷◌, ◌++◌, length, refl, sym, ◌∙◌, ap, subst, arith}
use Rattle.std.specs.List.{AllByRecursion}
use Rattle.pp_terms.specs.Count.{HasRisen, capped}
use Rattle.pp_terms.specs.format.Descriptor.{Descriptor}
use Rattle.pp_terms.specs.format.Traffic.{Record, LinkState, GainsRecords}
use Rattle.pp_terms.proofs.Risings.{risen_more, risen_less, gains_nothing, gains_twice}
use Rattle.pp_traffic.specs.Tallied.{TookTurns}
use Rattle.pp_traffic.specs.Turns.{events, AtTurnEndsBut}
use Rattle.pp_promises.specs.Premises.{IsCalm}
use Rattle.pp_outside.specs.declared.link.Address.{Address}
use Rattle.pp_targets.specs.Names.{name_of}
use Rattle.pp_targets.specs.declared.target.SwarmName as targets
use Rattle.pp_learner.specs.Absorbing.{after_refusal}
use Rattle.pp_learner.specs.Following.{AreTallied, StandsFor}
use Rattle.pp_learner.specs.Laws.{came, AllAsked, AreDialled, EndsTurn, IsIdle, Speaks, TellsPlainly}
use Rattle.pp_learner.specs.Learners.{LearnerState, IsWhole}
use Rattle.pp_learner.specs.Sending.{Scene}
use Rattle.pp_learner.specs.Standing.{stand_in}
use Rattle.pp_learner.proofs.Ending.{flush_ends}
use Rattle.pp_learner.proofs.Idle.{absorb_idles, absorb_names, refusal_stands}
use Rattle.pp_learner.proofs.Missing.{absorb_misses}
use Rattle.pp_learner.proofs.Staying.{absorb_stands}
use Rattle.pp_learner.proofs.Tallying.{events_tally, refusal_tallies}
use Rattle.pp_sizing.specs.Sizing.{AsksAtEnds, DialsFirst, HasTurned, IsUnserving, TellsNone, name_in}
use Rattle.pp_sizing.specs.Turning.{Hears, IsRefused, Takes, TakesTurn}
use Rattle.pp_sizing.proofs.Records.{dialled_on, dials_further, event_counts, event_ends, event_unserving, sent_ends, sent_misses, sent_none, sent_unserving}

-- ---- the count of waits

pub next_step : (n a b c : ℕ) → (0 < n → b ≡ capped (a + n)) → (n ≡ 0 → b ≡ a) → c ≡ capped (b + 1) → c ≡ capped (a + (n + 1))
next_step zero a b c more same e = let h = same refl in omega (arith, h, e)
next_step (suc n) a b c more same e = let h = more (omega arith) in omega (arith, h, e)

-- One wait more: it gave an event, or it was refused.
abbrev pub waited : (n more : ℕ) (first old new : LinkState) (past now : List Record) (t : TookTurns n first old past) → first.faults ≤ old.faults
    → old.faults ≤ new.faults → new.nexts ≡ capped (old.nexts + 1) → events now + more ≡ events past + 1
    → (more ≡ 0) ⊎ HasRisen old.faults new.faults → TookTurns (n + 1) first new now
waited n more first old new past now t before later nexts all why = record {
  nexts = λ some. next_step n first.nexts old.nexts new.nexts t.nexts t.still nexts;
  still = λ none. absurd (omega (arith, none));
  refused = t.refused + more;
  each = let e = t.each in omega (arith, e, all);
  why = ⊎_elim
      (λ none. ⊎_elim (λ zero. inl (omega (arith, none, zero))) (λ risen. inr (risen_less first.faults old.faults new.faults before risen)) why)
      (λ risen. inr (risen_more first.faults old.faults new.faults later risen)) t.why;
}

-- What was sent is no wait.
abbrev pub sent_took : (d : Descriptor) (n : ℕ) (first old new : LinkState) (added past : List Record) (t : TookTurns n first old past)
    → new.nexts ≡ old.nexts → old.faults ≤ new.faults → AllByRecursion (Speaks d) added → TookTurns n first new (added ++ past)
sent_took d n first old new added past t nexts later speaks = record {
  nexts = λ some. nexts ∙ t.nexts some;
  still = λ none. nexts ∙ t.still none;
  refused = t.refused;
  each = let e = sent_none d added past speaks in let h = t.each in omega (arith, e, h);
  why = ⊎_elim (λ none. inl none) (λ risen. inr (risen_more first.faults old.faults new.faults later risen)) t.why;
}

-- ---- the first half

-- Behind so many turns of a learner that had just opened it waited once more: it took what came, which told no size, or the wait was
-- refused. Nothing was sent then.
pub record IsHalfway (taken : ℕ) (dial : List Address) (first last : Scene) : Type 0 where
  pub added : List Record
  pub gained : GainsRecords first.link.traffic added last.link.traffic
  pub took : TookTurns (taken + 1) first.link last.link added
  pub bound : last.link.bound ≡ first.link.bound
  pub later : first.link.faults ≤ last.link.faults
  pub name : last.parts.name ≡ first.parts.name
  pub whole : IsWhole last.parts
  pub stands : StandsFor last.parts added
  pub tallies : AreTallied took.refused last.parts.counts added
  pub unserving : AllByRecursion (IsUnserving (name_in first)) added
  pub misses : TellsNone (name_of first.parts.name) added
  pub ends : IsCalm first.link.faults last.link.faults → AtTurnEndsBut 0 (AllAsked (name_in first)) added
  pub idle : taken ≡ 0 → IsIdle dial last.parts
  pub few : taken ≡ 0 → events added ≤ 1
  pub dials : 0 < taken → IsCalm first.link.faults last.link.faults → DialsFirst (name_in first) dial added

-- a refusal counted keeps what isn't counted
refused_whole : (p : LearnerState) → IsWhole p → IsWhole (after_refusal p)
refused_whole p whole = record { size = whole.size; swarm = whole.swarm; seats = whole.seats }

refused_idle : (dial : List Address) (p : LearnerState) → IsIdle dial p → IsIdle dial (after_refusal p)
refused_idle dial p idle = record { free = idle.free; all = idle.all }

module _ (taken : ℕ) (dial : List Address) (first old : Scene) (q : HasTurned taken dial first old) where
  module _ (new : Scene) (answer : Option Descriptor) (h : Hears old new answer) where
    -- the link has refused as little before
    calm_before : IsCalm first.link.faults new.link.faults → IsCalm first.link.faults old.link.faults
    calm_before calm risen = calm (risen_more first.link.faults old.link.faults new.link.faults h.later risen)

    heard_later : first.link.faults ≤ new.link.faults
    heard_later = let later = h.later in omega (arith, q.later, later)

    -- ---- an event

    module _ (t : Takes answer old new) where
      abbrev pub records : List Record
      records = came t.event t.bytes ∷ q.added

      pub event_gained : GainsRecords first.link.traffic records new.link.traffic
      event_gained = gains_twice first.link.traffic old.link.traffic new.link.traffic q.added (came t.event t.bytes ∷ []) q.gained t.gained

      abbrev pub event_took : TookTurns (taken + 1) first.link new.link records
      event_took = waited taken 0 first.link old.link new.link q.added records q.took q.later h.later h.nexts
          (let e = event_counts t.event t.bytes q.added in omega (arith, e)) (inl refl)

      pub event_named : (new.parts.name ≡ old.parts.name) × (IsWhole old.parts → IsWhole new.parts)
      event_named = absorb_names t.event t.bytes answer old.parts new.parts t.absorbs

      pub event_tallies : AreTallied event_took.refused new.parts.counts records
      event_tallies =
          let same : q.took.refused ≡ q.took.refused + 0 = omega arith in
          subst (λ (n : ℕ). AreTallied n new.parts.counts records) same
          (events_tally t.event t.bytes answer old.parts new.parts q.took.refused q.added t.absorbs q.tallies)

      pub event_unserves : AllByRecursion (IsUnserving (name_in first)) records
      event_unserves = (event_unserving (name_in first) t.event t.bytes, q.unserving)

  module _ (new : Scene) (h : Hears old new None) where
    event_halfway : Takes None old new → IsHalfway taken dial first new
    event_halfway t = record {
      added = records new None h t;
      gained = event_gained new None h t;
      took = event_took new None h t;
      bound = h.bound ∙ q.bound;
      later = heard_later new None h;
      name = (event_named new None h t).0 ∙ q.name;
      whole = (event_named new None h t).1 q.whole;
      stands = absorb_stands t.event t.bytes old.parts new.parts q.added q.whole t.absorbs q.stands;
      tallies = event_tallies new None h t;
      unserving = event_unserves new None h t;
      misses = (
        λ e tells. absorb_misses t.event t.bytes old.parts new.parts q.added q.whole t.absorbs q.stands e
            (subst (λ (n : targets.SwarmName). TellsPlainly (name_of n) (came t.event t.bytes) q.added e) (sym q.name) tells),
        q.misses,
      );
      ends = λ calm.
          let asks = q.asks (calm_before new None h calm) in
          event_ends t.event t.bytes (AllAsked (name_in first)) q.added asks.0 asks.1;
      idle = λ none. (absorb_idles t.event t.bytes None dial old.parts new.parts t.absorbs (q.idle none)).0;
      few = λ none. let e = event_counts t.event t.bytes q.added in let all = q.took.each in omega (arith, e, all, none);
      dials = λ some calm.
          dials_further (name_in first) dial (came t.event t.bytes ∷ []) q.added (q.dials some (calm_before new None h calm));
    }

    -- ---- a wait that was refused

    refused_halfway : IsRefused None old new → IsHalfway taken dial first new
    refused_halfway r = record {
      added = q.added;
      gained = gains_twice first.link.traffic old.link.traffic new.link.traffic q.added [] q.gained
          (gains_nothing old.link.traffic new.link.traffic r.traffic);
      took = waited taken 1 first.link old.link new.link q.added q.added q.took q.later h.later h.nexts refl (inr r.risen);
      bound = h.bound ∙ q.bound;
      later = heard_later new None h;
      name = ap (λ (p : LearnerState). p.name) r.counted ∙ q.name;
      whole = subst IsWhole (sym r.counted) (refused_whole old.parts q.whole);
      stands = subst (λ (p : LearnerState). StandsFor p q.added) (sym r.counted) (refusal_stands old.parts q.added q.stands);
      tallies = subst (λ (p : LearnerState). AreTallied (q.took.refused + 1) p.counts q.added) (sym r.counted)
          (refusal_tallies old.parts q.took.refused q.added q.tallies);
      unserving = q.unserving;
      misses = q.misses;
      ends = λ calm. absurd (calm risen);
      idle = λ none. subst (λ (p : LearnerState). IsIdle dial p) (sym r.counted) (refused_idle dial old.parts (q.idle none));
      few = λ none. let all = q.took.each in omega (arith, all, none);
      dials = λ some calm. absurd (calm risen);
    }
      where
        risen : HasRisen first.link.faults new.link.faults
        risen = risen_less first.link.faults old.link.faults new.link.faults q.later r.risen

    pub heard_halfway : IsHalfway taken dial first new
    heard_halfway = ⊎_elim (λ t. event_halfway t) (λ r. refused_halfway r) h.does

-- ---- the second half

pub none_or_some : (n : ℕ) → (n ≡ 0) ⊎ (0 < n)
none_or_some zero = inl refl
none_or_some (suc n) = inr (omega arith)

module _ (taken : ℕ) (dial : List Address) (first mid new : Scene) (few : length dial ≤ 16) (h : IsHalfway taken dial first mid)
    (e : EndsTurn mid new h.added) where
  abbrev d : Descriptor
  d = name_in first

  abbrev all : List Record
  all = e.on.added ++ h.added

  name : new.parts.name ≡ first.parts.name
  name = e.name ∙ h.name

  d_is : stand_in (name_of new.parts.name) ≡ d
  d_is = ap (λ (n : targets.SwarmName). stand_in (name_of n)) name

  speaks : AllByRecursion (Speaks d) e.on.added
  speaks = subst (λ (x : Descriptor). AllByRecursion (Speaks x) e.on.added) d_is e.speaks

  calm_halfway : IsCalm first.link.faults new.link.faults → IsCalm first.link.faults mid.link.faults
  calm_halfway calm risen = calm (risen_more first.link.faults mid.link.faults new.link.faults e.alone.later risen)

  -- while the link is calm it refused nothing of this either
  calmly : (P : Type 0) → IsCalm first.link.faults new.link.faults → HasRisen mid.link.faults new.link.faults ⊎ P → P
  calmly P calm does = ⊎_elim (λ risen. absurd (calm (risen_less first.link.faults mid.link.faults new.link.faults h.later risen))) (λ p. p) does

  asked : IsCalm first.link.faults new.link.faults → AsksAtEnds d all
  asked calm = (
    subst (λ (x : Descriptor). AllAsked x all) d_is (calmly (AllAsked (stand_in (name_of new.parts.name)) all) calm e.asks),
    sent_ends d (AllAsked d) e.on.added h.added speaks (h.ends (calm_halfway calm)),
  )

  dialled : IsCalm first.link.faults new.link.faults → (taken ≡ 0) ⊎ (0 < taken) → DialsFirst d dial all
  dialled calm which = ⊎_elim
      (λ none. record {
        first = all;
        rest = [];
        split = refl;
        one = let sent = sent_none d e.on.added h.added speaks in let one = h.few none in omega (arith, sent, one);
        dialled = dialled_on d dial e.on.added h.added (subst (λ (x : Descriptor). AreDialled x dial e.on.added) d_is
            (calmly (AreDialled (stand_in (name_of new.parts.name)) dial e.on.added) calm (e.dials dial few (h.idle none))));
      })
      (λ some. dials_further d dial e.on.added h.added (h.dials some (calm_halfway calm)))
      which

  ended : HasTurned (taken + 1) dial first new
  ended = record {
    added = all;
    gained = gains_twice first.link.traffic mid.link.traffic new.link.traffic h.added e.on.added h.gained e.on.gained;
    took = sent_took d (taken + 1) first.link mid.link new.link e.on.added h.added h.took e.alone.nexts e.alone.later speaks;
    bound = e.alone.bound ∙ h.bound;
    later = let before = h.later in let later = e.alone.later in omega (arith, before, later);
    name = name;
    whole = e.whole;
    stands = e.on.stands;
    tallies = e.on.tallies h.took.refused h.tallies;
    unserving = sent_unserving d e.on.added h.added speaks h.unserving;
    misses = sent_misses d (name_of first.parts.name) e.on.added h.added speaks h.misses;
    asks = asked;
    idle = λ none. absurd (omega (arith, none));
    dials = λ some calm. dialled calm (none_or_some taken);
  }

-- A turn more in which no size was told.
pub turned_more : (moment taken : ℕ) (dial : List Address) (first old new : Scene) → length dial ≤ 16 → HasTurned taken dial first old
    → TakesTurn moment old new None → HasTurned (taken + 1) dial first new
turned_more moment taken dial first old new few q (mid, hears, flushes) =
    let h = heard_halfway taken dial first old q mid hears in
    ended taken dial first mid new few h (flush_ends moment mid new h.added h.whole flushes h.stands)
