-- The channels closed behind the turns.
use Rattle.std.proofs.Common.{◌≡◌, ⊎_elim, ℕ, ◌+◌, ◌≤◌, true, Option, Some, None, List, ◌∙◌, ap, subst, arith}
use Rattle.std.specs.List.{AllByRecursion}
use Rattle.pp_terms.specs.format.Descriptor.{Descriptor}
use Rattle.pp_terms.specs.format.Traffic.{Record, GainsRecords}
use Rattle.pp_terms.proofs.Risings.{gains_twice}
use Rattle.pp_traffic.specs.Tallied.{TookTurns}
use Rattle.pp_traffic.specs.Turns.{is_closing}
use Rattle.pp_outside.specs.declared.link.Address.{Address}
use Rattle.pp_targets.specs.Names.{name_of}
use Rattle.pp_targets.specs.declared.target.SwarmName as targets
use Rattle.pp_learner.specs.Flushing.{Closes, ClosesEach}
use Rattle.pp_learner.specs.Following.{AreTallied}
use Rattle.pp_learner.specs.Laws.{came, IsLearnedFrom, PartsAll, Speaks}
use Rattle.pp_learner.specs.Learners.{IsWhole}
use Rattle.pp_learner.specs.Sending.{Scene}
use Rattle.pp_learner.specs.Standing.{stand_in}
use Rattle.pp_learner.proofs.Idle.{absorb_idles}
use Rattle.pp_learner.proofs.Parting.{close_parts}
use Rattle.pp_learner.proofs.Sources.{learns_from}
use Rattle.pp_sizing.specs.Sizing.{HasClosed, HasLearned, HasNotLearned, HasTurned, IsUnserving, name_in}
use Rattle.pp_sizing.specs.Turning.{Hears, Takes}
use Rattle.pp_sizing.specs.declared.sizing.Lesson.{Lesson}
use Rattle.pp_sizing.proofs.Records.{sent_unserving}
use Rattle.pp_sizing.proofs.Turns.{event_gained, event_named, event_tallies, event_took, event_unserves, none_or_some, records, sent_took}

module _ (moment taken : ℕ) (turned : List Record) (first mid last : Scene) (name : mid.parts.name ≡ first.parts.name)
    (p : PartsAll mid last) where
  d_is : stand_in (name_of mid.parts.name) ≡ name_in first
  d_is = ap (λ (n : targets.SwarmName). stand_in (name_of n)) name

  speaks : AllByRecursion (Speaks (name_in first)) p.added
  speaks = subst (λ (x : Descriptor). AllByRecursion (Speaks x) p.added) d_is p.speaks

  closing : AllByRecursion (λ r. is_closing (name_in first) r ≡ true) p.added
  closing = subst (λ (x : Descriptor). AllByRecursion (λ r. is_closing x r ≡ true) p.added) d_is p.closing

  closed_by : GainsRecords first.link.traffic turned mid.link.traffic → (took : TookTurns taken first.link mid.link turned)
      → AreTallied took.refused mid.parts.counts turned → AllByRecursion (IsUnserving (name_in first)) turned
      → mid.link.bound ≡ first.link.bound → first.link.faults ≤ mid.link.faults → ClosesEach moment mid last
      → HasClosed taken turned first mid last
  closed_by gained took tallies unserving bound later each = record {
    behind = p.added;
    gained = gains_twice first.link.traffic mid.link.traffic last.link.traffic turned p.added gained p.gained;
    closing = closing;
    unserving = sent_unserving (name_in first) p.added turned speaks unserving;
    took = sent_took (name_in first) taken first.link mid.link last.link p.added turned took p.alone.nexts p.alone.later speaks;
    tallies = p.tallies took.refused turned tallies;
    bound = p.alone.bound ∙ bound;
    later = let more = p.alone.later in omega (arith, later, more);
    moment = moment;
    each = each;
  }

-- all turns were taken
pub closes_unlearned : (moment turns : ℕ) (dial : List Address) (first mid last : Scene) → HasTurned turns dial first mid
    → Closes moment mid last → ClosesEach moment mid last → HasNotLearned turns dial first last
closes_unlearned moment turns dial first mid last q closes each = record {
  mid = mid;
  turned = q;
  closed = closed_by moment turns q.added first mid last q.name (close_parts moment mid last q.whole closes) q.gained q.took q.tallies
      q.unserving q.bound q.later each;
}

some_none : (e : Descriptor) → Some e ≡ None → ⊥
some_none e is = cc

-- an event told the size
module _ (moment turns taken : ℕ) (dial : List Address) (first old heard last : Scene) (lesson : Lesson) (q : HasTurned taken dial first old)
    (h : Hears old heard (Some lesson.descriptor)) where
  abbrev answer : Option Descriptor
  answer = Some lesson.descriptor

  learned_in_turn : Takes answer old heard → taken + 1 + lesson.left ≡ turns → Closes moment heard last → ClosesEach moment heard last
      → HasLearned turns dial first last lesson
  learned_in_turn t left closes each = record {
    taken = taken;
    some = ⊎_elim
        (λ none. absurd (some_none lesson.descriptor (absorb_idles t.event t.bytes answer dial old.parts heard.parts t.absorbs (q.idle none)).1))
        (λ some. some) (none_or_some taken);
    left = left;
    mid = old;
    turned = q;
    came = came t.event t.bytes;
    told = subst (λ (n : targets.SwarmName). IsLearnedFrom (name_of n) (came t.event t.bytes) q.added lesson.descriptor) q.name
        (learns_from t.event t.bytes lesson.descriptor old.parts heard.parts q.added t.absorbs q.stands);
    heard = heard;
    hears = h;
    closed = closed_by moment (taken + 1) (records taken dial first old q heard answer h t) first heard last (named.0 ∙ q.name)
        (close_parts moment heard last (named.1 q.whole) closes) (event_gained taken dial first old q heard answer h t)
        (event_took taken dial first old q heard answer h t) (event_tallies taken dial first old q heard answer h t)
        (event_unserves taken dial first old q heard answer h t) (h.bound ∙ q.bound)
        (let more = h.later in let later = q.later in omega (arith, later, more)) each;
  }
    where
      named : (heard.parts.name ≡ old.parts.name) × (IsWhole old.parts → IsWhole heard.parts)
      named = event_named taken dial first old q heard answer h t

  pub closes_learned : taken + 1 + lesson.left ≡ turns → Closes moment heard last → ClosesEach moment heard last
      → HasLearned turns dial first last lesson
  closes_learned left closes each =
      ⊎_elim (λ t. learned_in_turn t left closes each) (λ r. absurd (some_none lesson.descriptor r.none)) h.does
