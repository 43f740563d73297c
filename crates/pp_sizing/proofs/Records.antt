-- What is said of the records of a learner's turns.
use Rattle.std.proofs.Common.{◌≡◌, inl, ℕ, ◌+◌, Bool, ◌||◌, Some, None, List, [], ◌∷◌, ◌++◌, refl, sym, ◌∙◌, ap, subst, append_assoc}
use Rattle.std.specs.List.{AllByRecursion, list_any}
use Rattle.std.proofs.lemmas.Bool.{false≢true}
use Rattle.std.proofs.lemmas.List.Folds.{list_any-append}
use Rattle.pp_terms.specs.format.Descriptor.{Descriptor}
use Rattle.pp_terms.specs.format.Traffic as traffic
use Rattle.pp_terms.specs.format.Traffic.{Record, Received, Sent}
use Rattle.pp_traffic.specs.Turns.{events, AtTurnEndsBut}
use Rattle.pp_promises.specs.Asked.{dials}
use Rattle.pp_outside.specs.Outside.{address_of}
use Rattle.pp_outside.specs.declared.link.Address.{Address}
use Rattle.pp_outside.specs.declared.link.Event.{Event}
use Rattle.pp_outside.specs.declared.link.Event.TheVariants.{Datagram, Quiet}
use Rattle.pp_targets.specs.Target.{SwarmName}
use Rattle.pp_learner.specs.Laws.{came, AreDialled, Speaks, TellsPlainly}
use Rattle.pp_sizing.specs.Sizing.{AsksAtEnds, DialsFirst, IsUnserving, TellsNone}

-- ---- an event

pub event_counts : (event : Event) (bytes : List ℕ) (past : List Record) → events (came event bytes ∷ past) ≡ events past + 1
event_counts (Datagram sender len at) bytes past = refl
event_counts (Quiet at) bytes past = refl

pub event_unserving : (d : Descriptor) (event : Event) (bytes : List ℕ) → IsUnserving d (came event bytes)
event_unserving d (Datagram sender len at) bytes = tt
event_unserving d (Quiet at) bytes = tt

-- a turn ended before it
pub event_ends : (event : Event) (bytes : List ℕ) (P : List Record → Type 0) (past : List Record) → P past → AtTurnEndsBut 0 P past
    → AtTurnEndsBut 0 P (came event bytes ∷ past)
event_ends (Datagram sender len at) bytes P past now before = inl (now, before)
event_ends (Quiet at) bytes P past now before = inl (now, before)

-- ---- what is sent

module _ (d : Descriptor) where
  pub sent_none : (xs past : List Record) → AllByRecursion (Speaks d) xs → events (xs ++ past) ≡ events past
  sent_none [] past all = refl
  sent_none (x ∷ xs) past all = subst (λ (r : Record). events (r ∷ (xs ++ past)) ≡ events past) (sym all.0.1.is) (sent_none xs past all.1)

  speaks_unserving : (r : Record) → Speaks d r → IsUnserving d r
  speaks_unserving (Received at sender bytes) speaks = tt
  speaks_unserving (traffic.Quiet at) speaks = tt
  speaks_unserving (Sent moment receiver bytes) speaks = speaks

  pub sent_unserving : (xs past : List Record) → AllByRecursion (Speaks d) xs → AllByRecursion (IsUnserving d) past
      → AllByRecursion (IsUnserving d) (xs ++ past)
  sent_unserving [] past all before = before
  sent_unserving (x ∷ xs) past all before = (speaks_unserving x all.0, sent_unserving xs past all.1 before)

  -- no turn ends with it
  pub sent_ends : (P : List Record → Type 0) (xs past : List Record) → AllByRecursion (Speaks d) xs → AtTurnEndsBut 0 P past
      → AtTurnEndsBut 0 P (xs ++ past)
  sent_ends P [] past all before = before
  sent_ends P (x ∷ xs) past all before = subst (λ (r : Record). AtTurnEndsBut 0 P (r ∷ (xs ++ past))) (sym all.0.1.is) (sent_ends P xs past all.1 before)

  sent_silent : (name : SwarmName) (moment : ℕ) (receiver : traffic.Address) (bytes : List ℕ) (before : List Record) (e : Descriptor)
      → TellsPlainly name (Sent moment receiver bytes) before e → ⊥
  sent_silent name moment receiver bytes before e t = false≢true t.comes

  -- it tells no size
  pub sent_misses : (name : SwarmName) (xs past : List Record) → AllByRecursion (Speaks d) xs → TellsNone name past → TellsNone name (xs ++ past)
  sent_misses name [] past all before = before
  sent_misses name (x ∷ xs) past all before = (
    λ e t. sent_silent name all.0.0 all.0.1.receiver all.0.1.bytes (xs ++ past) e
        (subst (λ (r : Record). TellsPlainly name r (xs ++ past) e) all.0.1.is t),
    sent_misses name xs past all.1 before,
  )

-- ---- the addresses

pub dialled_on : (d : Descriptor) (dial : List Address) (front back : List Record) → AreDialled d dial front → AreDialled d dial (front ++ back)
dialled_on d [] front back all = tt
dialled_on d (a ∷ dial) front back all = (
  list_any-append (dials d (address_of a)) front back ∙ ap (λ (x : Bool). x || list_any (dials d (address_of a)) back) all.0,
  dialled_on d dial front back all.1,
)

-- records came and went behind the first turn
pub dials_further : (d : Descriptor) (dial : List Address) (newer turned : List Record) → DialsFirst d dial turned → DialsFirst d dial (newer ++ turned)
dials_further d dial newer turned x = record {
  first = x.first;
  rest = newer ++ x.rest;
  split = ap (λ (rs : List Record). newer ++ rs) x.split ∙ sym (append_assoc newer x.rest x.first);
  one = x.one;
  dialled = x.dialled;
}

-- ---- no record

none_some : (n : ℕ) → None ≡ Some n → ⊥
none_some n is = cc

pub asks_none : (d : Descriptor) → AsksAtEnds d []
asks_none d = (λ life dialled plain unchoked chunk offers. absurd (none_some chunk offers), tt)
