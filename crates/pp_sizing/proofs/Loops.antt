-- The turns in a loop.
use Rattle.std.proofs.Common.{◌≡◌, inl, ℕ, ◌+◌, ◌-◌, ◌<◌, ◌≤◌, Some, None, List, [], length, refl, sym, ◌∙◌, subst, arith}
use Rattle.std.proofs.lemmas.List.{length-replicate}
use Rattle.pp_terms.specs.tree.Content.{IsChunkSize}
use Rattle.pp_terms.specs.format.Descriptor.{Descriptor}
use Rattle.pp_terms.proofs.Risings.{gains_nothing}
use Rattle.pp_outside.specs.declared.link.Address.{Address}
use Rattle.pp_targets.specs.declared.target.SwarmName.{SwarmName}
use Rattle.pp_learner.specs.Flushing.{Closes, ClosesEach}
use Rattle.pp_learner.specs.Following.{AreTallied, StandsFor}
use Rattle.pp_learner.specs.Laws.{IsIdle}
use Rattle.pp_learner.specs.Learners.{LearnerState, IsWhole, opened}
use Rattle.pp_learner.specs.Rows.{blank}
use Rattle.pp_learner.specs.Sending.{Scene}
use Rattle.pp_learner.proofs.Staying.{open_stands}
use Rattle.pp_sizing.specs.Sizing.{HasTurned, LearnsSize, name_in}
use Rattle.pp_sizing.specs.Turning.{Hears, TakesTurn}
use Rattle.pp_sizing.proofs.Closing.{closes_learned, closes_unlearned}
use Rattle.pp_sizing.proofs.Records.{asks_none}
use Rattle.pp_sizing.proofs.Turns.{turned_more}

-- ---- a learner that has just opened

opened_whole : (name : SwarmName) (seed : List ℕ) (dial : List Address) → IsChunkSize name.chunk → IsWhole (opened name seed dial)
opened_whole name seed dial size = record { size = size; swarm = refl; seats = length-replicate 64 blank }

opened_idle : (name : SwarmName) (seed : List ℕ) (dial : List Address) → IsIdle dial (opened name seed dial)
opened_idle name seed dial = record { free = refl; all = refl }

module _ (name : SwarmName) (seed : List ℕ) (dial : List Address) (first : Scene) (is : first.parts ≡ opened name seed dial)
    (size : IsChunkSize first.parts.name.chunk) where
  turned_none : HasTurned 0 dial first first
  turned_none = record {
    added = [];
    gained = gains_nothing first.link.traffic first.link.traffic refl;
    took = record { nexts = λ some. absurd (omega (arith, some)); still = λ none. refl; refused = 0; each = refl; why = inl refl };
    bound = refl;
    later = omega arith;
    name = refl;
    whole = subst IsWhole (sym is) (opened_whole name seed dial (subst (λ (p : LearnerState). IsChunkSize p.name.chunk) is size));
    stands = subst (λ (p : LearnerState). StandsFor p []) (sym is) (open_stands name seed dial).0;
    tallies = subst (λ (p : LearnerState). AreTallied 0 p.counts []) (sym is) (open_stands name seed dial).1;
    unserving = tt;
    misses = tt;
    asks = λ calm. asks_none (name_in first);
    idle = λ none. subst (λ (p : LearnerState). IsIdle dial p) (sym is) (opened_idle name seed dial);
    dials = λ some calm. absurd (omega (arith, some));
  }

-- ---- the loop

-- So many turns have been taken, and told no size.
pub record HasTaken (taken turns : ℕ) (first now : Scene) (room : ℕ) : Type 0 where
  pub within : taken ≤ turns
  pub turned : (name : SwarmName) (seed : List ℕ) (dial : List Address) → first.parts ≡ opened name seed dial → length dial ≤ 16
      → IsChunkSize first.parts.name.chunk → HasTurned taken dial first now
  pub buffer : room ≡ 65536

pub taken_none : (turns : ℕ) (first : Scene) (room : ℕ) → room ≡ 65536 → HasTaken 0 turns first first room
taken_none turns first room buffer = record {
  within = omega arith;
  turned = λ name seed dial is few size. turned_none name seed dial first is size;
  buffer = buffer;
}

module _ (taken turns : ℕ) (first now : Scene) (room : ℕ) (h : HasTaken taken turns first now room) where
  pub taken_more : (moment : ℕ) (new : Scene) (room' : ℕ) → taken < turns → TakesTurn moment now new None → room' ≡ room
      → HasTaken (taken + 1) turns first new room'
  taken_more moment new room' lt turn same = record {
    within = omega (arith, lt);
    turned = λ name seed dial is few size. turned_more moment taken dial first now new few (h.turned name seed dial is few size) turn;
    buffer = same ∙ h.buffer;
  }

  pub taken_learned : (moment left : ℕ) (e : Descriptor) (heard last : Scene) → taken < turns → left ≡ turns - (taken + 1) → Hears now heard (Some e)
      → Closes moment heard last → ClosesEach moment heard last
      → (name : SwarmName) (seed : List ℕ) (dial : List Address) → first.parts ≡ opened name seed dial → length dial ≤ 16
      → LearnsSize turns dial first last (Some (record { descriptor = e; left = left }))
  taken_learned moment left e heard last lt is_left hears closes each name seed dial is few size =
      closes_learned moment turns taken dial first now heard last (record { descriptor = e; left = left }) (h.turned name seed dial is few size) hears
      (omega (arith, lt, is_left)) closes each

  pub taken_all : (moment : ℕ) (last : Scene) → turns ≤ taken → Closes moment now last → ClosesEach moment now last
      → (name : SwarmName) (seed : List ℕ) (dial : List Address) → first.parts ≡ opened name seed dial → length dial ≤ 16
      → LearnsSize turns dial first last None
  taken_all moment last le closes each name seed dial is few size =
      let same : taken ≡ turns = (let within = h.within in omega (arith, le, within)) in
      closes_unlearned moment turns dial first now last
      (subst (λ (n : ℕ). HasTurned n dial first now) same (h.turned name seed dial is few size)) closes each
