-- What messages that come leave as it is: the channels, who has an upload slot, and where CHOKE or UNCHOKE is to be sent.
use Rattle.std.proofs.Common.{◌≡◌, ⊎_elim, ℕ, ◌<◌, ◌≤◌, Option, Some, None, List, [], ◌∷◌, refl, sym, ◌∙◌, ap}
use Rattle.std.specs.Prelude.{slice_get}
use Rattle.std.proofs.Math.ListN.{set}
use Rattle.std.proofs.lemmas.Bool.{cases_Bool, cases_eq, cases_lt}
use Rattle.pp_terms.specs.format.Descriptor.{chunks_of}
use Rattle.pp_terms.specs.format.Messages.{Message, Data, Ack, Have, Integrity, Request, Cancel, Choke, PexReq, Pex4, Pex6}
use Rattle.pp_terms.specs.tree.Range.{Span}
use Rattle.pp_counts.specs.declared.note.Note.{Note}
use Rattle.pp_seat.specs.Lines.{inside}
use Rattle.pp_seat.specs.Seats.{SeatState}
use Rattle.pp_desk.specs.Hearing.{HearsPart, HearsRequest, HearsIntegrity, Hears}
use Rattle.pp_seats.specs.Hearing.{ChangesSeat}
use Rattle.pp_seats.specs.Standing.{SeatsState}
use Rattle.pp_seats.proofs.Lists.{get_set_there, get_set_other}
use Rattle.pp_peer.specs.declared.parts.Parts.{Parts}
use Rattle.pp_peer.specs.Messages.{is_proven_in, Heeds, TakesOther, TakesData, InTurn}
use Rattle.pp_core.specs.Remembering.{owes_in, owes_at}
use Rattle.pp_core.proofs.Paths.{heeded_beside, data_or_other}

-- ---- what is due on a seat

pub owes_set : (xs : List SeatState) (k : ℕ) (before after : SeatState) → slice_get xs k ≡ Some before → after.owes ≡ before.owes → (n : ℕ)
    → owes_at (set xs k after) n ≡ owes_at xs n
owes_set xs k before after there same n = ⊎_elim
    (λ (here : n ≡ k). ap (λ (m : ℕ). owes_at (set xs k after) m) here ∙ ap owes_in (get_set_there xs k after before there) ∙ same
    ∙ ap owes_in (sym there) ∙ ap (λ (m : ℕ). owes_at xs m) (sym here))
    (λ ne. ap owes_in (get_set_other xs k n after ne))
    (cases_eq n k)

-- ---- what stays

-- The channels, the moment, the swarm and the slots stay, and the same is due on each seat.
pub record KeepsTurns (old new : Parts) : Type 0 where
  pub table : new.seats.table ≡ old.seats.table
  pub moment : new.seats.moment ≡ old.seats.moment
  pub swarm : new.seats.descriptor ≡ old.seats.descriptor
  pub slots : new.slots ≡ old.slots
  pub owes : (n : ℕ) → owes_at new.seats.seats n ≡ owes_at old.seats.seats n

pub keeps_by : (old new : Parts) → new.seats ≡ old.seats → new.slots ≡ old.slots → KeepsTurns old new
keeps_by old new seats slots = record {
  table = ap (λ (p : SeatsState). p.table) seats;
  moment = ap (λ (p : SeatsState). p.moment) seats;
  swarm = ap (λ (p : SeatsState). p.descriptor) seats;
  slots = slots;
  owes = λ n. ap (λ (p : SeatsState). owes_at p.seats n) seats;
}

keeps_same : (old new : Parts) → new ≡ old → KeepsTurns old new
keeps_same old new same = keeps_by old new (ap (λ (p : Parts). p.seats) same) (ap (λ (p : Parts). p.slots) same)

pub keeps_twice : (a b c : Parts) → KeepsTurns a b → KeepsTurns b c → KeepsTurns a c
keeps_twice a b c one two = record {
  table = two.table ∙ one.table;
  moment = two.moment ∙ one.moment;
  swarm = two.swarm ∙ one.swarm;
  slots = two.slots ∙ one.slots;
  owes = λ n. two.owes n ∙ one.owes n;
}

-- where one seat changes and owes the same
keeps_changed : (seat : ℕ) (P : SeatState → SeatState → Type 0) (old new : Parts) → (c : ChangesSeat seat P old.seats new.seats)
    → c.after.owes ≡ c.before.owes → new.slots ≡ old.slots → KeepsTurns old new
keeps_changed seat P old new c same slots = record {
  table = ap (λ (p : SeatsState). p.table) c.is;
  moment = ap (λ (p : SeatsState). p.moment) c.is;
  swarm = ap (λ (p : SeatsState). p.descriptor) c.is;
  slots = slots;
  owes = λ n. ap (λ (p : SeatsState). owes_at p.seats n) c.is ∙ owes_set old.seats.seats seat c.before c.after c.there same n;
}

-- ---- one message

part_owes : (span : Span) (hears : Span → Type 0) (noted : Option Note) (before after : SeatState) → HearsPart span hears noted before after
    → ((range : Span) → hears range → after.owes ≡ before.owes) → after.owes ≡ before.owes
part_owes span hears noted before after h each = of (inside before.told.chunks span) refl
  where
    of : (o : Option Span) → inside before.told.chunks span ≡ o → after.owes ≡ before.owes
    of None e = ap (λ (s : SeatState). s.owes) (h.outside e).1
    of (Some range) e = each range (h.part range e)

claimed_owes : (range : Span) (digest : List ℕ) (noted : Option Note) (before after : SeatState)
    → HearsIntegrity range digest noted before after → after.owes ≡ before.owes
claimed_owes range digest noted before after h = ⊎_elim
    (λ proven. ⊎_elim (λ claimed. ap (λ (s : SeatState). s.owes) claimed.exact) (λ none. ap (λ (s : SeatState). s.owes) none.same) (h.proven proven))
    (λ unproven. ap (λ (s : SeatState). s.owes) (h.unproven unproven).1)
    (cases_Bool before.proven)

asked_owes : (range : Span) (noted : Option Note) (before after : SeatState) → HearsRequest range noted before after → after.owes ≡ before.owes
asked_owes range noted before after h = ⊎_elim
    (λ slot. ⊎_elim (λ listed. ap (λ (s : SeatState). s.owes) listed.rest) (λ full. ap (λ (s : SeatState). s.owes) full.same) (h.slot slot))
    (λ none. ap (λ (s : SeatState). s.owes) (h.choked none).1)
    (cases_Bool before.slot)

heard_owes : (now : ℕ) (m : Message) (noted : Option Note) (before after : SeatState) → Hears now m noted before after → after.owes ≡ before.owes
heard_owes now (Data chunk sent_at bytes) noted before after h = absurd h
heard_owes now (Ack span delay) noted before after h =
    part_owes span _ noted before after h (λ range part. ap (λ (s : SeatState). s.owes) part.rest)
heard_owes now (Have span) noted before after h =
    part_owes span _ noted before after h (λ range part. ap (λ (s : SeatState). s.owes) part.rest)
heard_owes now (Integrity span digest) noted before after h =
    part_owes span _ noted before after h (λ range part. claimed_owes range digest noted before after part)
heard_owes now (Request span) noted before after h =
    part_owes span _ noted before after h (λ range part. asked_owes range noted before after part)
heard_owes now (Cancel span) noted before after h =
    part_owes span _ noted before after h (λ range part. ap (λ (s : SeatState). s.owes) part.exact)
heard_owes now _ noted before after h = ap (λ (s : SeatState). s.owes) h.1

heeded_slots : (seat : ℕ) (m : Message) (old new : Parts) → Heeds seat m old new → new.slots ≡ old.slots
heeded_slots seat (Have span) old new h = ap (λ (p : Parts). p.slots) h.1
heeded_slots seat Choke old new h = ap (λ (p : Parts). p.slots) h.1
heeded_slots seat (Pex4 address port) old new h = ap (λ (p : Parts). p.slots) h
heeded_slots seat PexReq old new h = ap (λ (p : Parts). p.slots) h
heeded_slots seat (Pex6 address port) old new h = ap (λ (p : Parts). p.slots) h
heeded_slots seat _ old new h = ap (λ (p : Parts). p.slots) h

other_keeps : (seat : ℕ) (m : Message) (old new : Parts) → TakesOther seat m old new → KeepsTurns old new
other_keeps seat m old new t =
    keeps_twice old t.mid new
    (keeps_by old t.mid (heeded_beside seat m old t.mid t.heeds).seats (heeded_slots seat m old t.mid t.heeds))
    (keeps_changed seat (Hears t.mid.seats.moment m t.noted) t.mid new t.heard
    (heard_owes t.mid.seats.moment m t.noted t.heard.before t.heard.after t.heard.changes)
    (ap (λ (p : Parts). p.slots) t.rest))

data_keeps : (seat chunk sent_at : ℕ) (bytes : List ℕ) (old new : Parts) → TakesData seat chunk sent_at bytes old new → KeepsTurns old new
data_keeps seat chunk sent_at bytes old new t =
    keeps_twice old t.mid new
    (keeps_changed seat _ old t.mid t.ends.answered (ap (λ (s : SeatState). s.owes) t.ends.answered.changes.rest)
    (ap (λ (p : Parts). p.slots) t.ends.rest))
    (⊎_elim
    (λ (lt : chunk < chunks_of t.mid.holding.store.descriptor). ⊎_elim
    (λ proven. keeps_by t.mid new (ap (λ (p : Parts). p.seats) (t.judged lt proven).rest) (ap (λ (p : Parts). p.slots) (t.judged lt proven).rest))
    (λ no. keeps_same t.mid new (t.unproven lt no))
    (cases_Bool (is_proven_in (slice_get t.mid.seats.seats seat))))
    (λ (le : chunks_of t.mid.holding.store.descriptor ≤ chunk).
    keeps_by t.mid new (ap (λ (p : Parts). p.seats) (t.outside le)) (ap (λ (p : Parts). p.slots) (t.outside le)))
    (cases_lt chunk (chunks_of t.mid.holding.store.descriptor)))

-- ---- messages one after the other

pub turn_keeps : (seat : ℕ) (ms : List Message) (old new : Parts) → InTurn seat ms old new → KeepsTurns old new
turn_keeps seat [] old new t = keeps_same old new t
turn_keeps seat (m ∷ ms) old new t = keeps_twice old t.0 new
    (data_or_other (KeepsTurns old t.0) seat m old t.0 t.1
    (λ chunk sent_at bytes does. data_keeps seat chunk sent_at bytes old t.0 does)
    (λ does. other_keeps seat m old t.0 does))
    (turn_keeps seat ms t.0 new t.2)
