-- Links that gain records one step after the other, and a datagram among them.
use Rattle.std.proofs.Common.{◌≡◌, ◌⊎◌, inl, inr, ◌≤◌, List, [], ◌∷◌, ◌++◌, ap, subst, arith, append_assoc}
use Rattle.pp_terms.specs.Count.{HasRisen}
use Rattle.pp_terms.specs.format.Descriptor.{Descriptor}
use Rattle.pp_terms.specs.format.Messages.{Message}
use Rattle.pp_terms.specs.format.Traffic.{Record, Sent, LinkState, GainsRecords}
use Rattle.pp_terms.proofs.Risings.{risen_more, risen_less, gains_nothing, gains_twice}
use Rattle.pp_outside.specs.Outside.{address_of}
use Rattle.pp_lives.specs.declared.lives.Far.{Far}
use Rattle.pp_core.specs.Telling.{Tells}

-- The link gained some records, and no fault was forgotten.
pub record Grows (link later : LinkState) : Type 0 where
  pub added : List Record
  pub gained : GainsRecords link.traffic added later.traffic
  pub faults : link.faults ≤ later.faults

pub grows_none : (link later : LinkState) → later ≡ link → Grows link later
grows_none link later same = record {
  added = [];
  gained = gains_nothing link.traffic later.traffic (ap (λ (l : LinkState). l.traffic) same);
  faults = (let e = ap (λ (l : LinkState). l.faults) same in omega (arith, e));
}

pub grows_twice : (a b c : LinkState) → Grows a b → Grows b c → Grows a c
grows_twice a b c one two = record {
  added = two.added ++ one.added;
  gained = gains_twice a.traffic b.traffic c.traffic one.added two.added one.gained two.gained;
  faults = omega (arith, one.faults, two.faults);
}

-- A datagram of whose messages this holds is among what the link gained, or the link refused one.
abbrev pub Reached : Descriptor → Far → (List Message → Type 0) → LinkState → LinkState → Type 0
Reached d far says link later = Tells d far says link later ⊎ HasRisen link.faults later.faults

amid : (after newer : List Record) (r : Record) (older before : List Record)
    → after ++ ((newer ++ r ∷ older) ++ before) ≡ (after ++ newer) ++ r ∷ (older ++ before)
amid after newer r older before = simp append_assoc

tells_amid : (d : Descriptor) (far : Far) (says : List Message → Type 0) (a b c e : LinkState) → Grows a b → Tells d far says b c → Grows c e
    → Tells d far says a e
tells_amid d far says a b c e before t after = record {
  messages = t.messages;
  bytes = t.bytes;
  written = t.written;
  holds = t.holds;
  moment = t.moment;
  newer = after.added ++ t.newer;
  older = t.older ++ before.added;
  gained = subst (λ (rs : List Record). GainsRecords a.traffic rs e.traffic)
      (amid after.added t.newer (Sent t.moment (address_of far.address) t.bytes) t.older before.added)
      (gains_twice a.traffic c.traffic e.traffic ((t.newer ++ Sent t.moment (address_of far.address) t.bytes ∷ t.older) ++ before.added) after.added
      (gains_twice a.traffic b.traffic c.traffic before.added
      (t.newer ++ Sent t.moment (address_of far.address) t.bytes ∷ t.older) before.gained t.gained)
      after.gained);
}

-- a datagram that was gained is so too with what went before and behind
pub reached_amid : (d : Descriptor) (far : Far) (says : List Message → Type 0) (a b c e : LinkState) → Grows a b → Reached d far says b c → Grows c e
    → Reached d far says a e
reached_amid d far says a b c e before (inl t) after = inl (tells_amid d far says a b c e before t after)
reached_amid d far says a b c e before (inr risen) after =
    inr (risen_less a.faults b.faults e.faults before.faults (risen_more b.faults c.faults e.faults after.faults risen))
