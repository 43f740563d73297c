-- That the size is learned exactly where an event brings what tells it.
use Rattle.std.proofs.Common.{◌≡◌, ℕ, ◌≤◌, Bool, true, false, Option, Some, None, List, ◌∷◌, length, take, max, refl, sym, ◌∙◌, ap, subst, arith}
use Rattle.std.specs.Prelude.{◌↔◌}
use Rattle.std.specs.Int.{w32, from_be_bytes}
use Rattle.std.proofs.lemmas.Bool.{false≢true}
use Rattle.std.proofs.lemmas.Option.{same_Some}
use Rattle.pp_terms.specs.format.Descriptor.{Descriptor}
use Rattle.pp_terms.specs.format.Messages.{Message, Messages, WireKind}
use Rattle.pp_traffic.specs.Life.{fits, begins}
use Rattle.pp_outside.specs.declared.link.Address.{Address}
use Rattle.pp_outside.specs.declared.link.Event.{Event}
use Rattle.pp_outside.specs.declared.link.Event.TheVariants.{Datagram, Quiet}
use Rattle.pp_channels.specs.Seats.{Seats, channel_at}
use Rattle.pp_counts.specs.declared.counts.Counts.{Counts}
use Rattle.pp_lives.specs.Arriving.{Arrives, Numbered, IsOwn, contents, is_faulty, begins_faulty, is_given_up, is_waiting_at}
use Rattle.pp_lives.specs.declared.arriving.Arrival.{Arrival}
use Rattle.pp_lives.specs.declared.arriving.Arrival.TheVariants as arrivals
use Rattle.pp_targets.specs.Names.{name_of}
use Rattle.pp_learner.specs.Standing.{stand_in}
use Rattle.pp_learner.specs.Absorbing.{is_for_zero, TellsBy, TakesArrival, Absorbs, Learns, LearnsBy, after_wait, after_datagram}
use Rattle.pp_learner.specs.declared.parts.Parts.{Parts}
use Rattle.pp_learner.proofs.Arrivals.{other_number}

-- ---- a datagram whose messages are read means one thing

-- a datagram that begins with a message has no fault in its first one
not_faulty : (m : Messages) (first : Message) (rest : List Message) → m.read ≡ first ∷ rest → is_faulty m ≡ false
not_faulty m first rest is = ap (begins_faulty m.fault) is ∙ by m.fault
  where
    by : (fault : Option (ℕ × WireKind)) → begins_faulty fault (first ∷ rest) ≡ false
    by None = refl
    by (Some (place, kind)) = refl

module _ (d : Descriptor) (t : Seats) (number : ℕ) (sender : Address) (now : ℕ) (bytes : List ℕ) (x y : Seats) (k : ℕ) where
  -- what was heard on a seat isn't awaited there
  heard_apart : (b : Arrival) → (o : IsOwn d t number sender now bytes (arrivals.Heard k) x) (p : IsOwn d t number sender now bytes b y)
      → is_waiting_at (channel_at t p.seat) ≡ true → ⊥
  heard_apart b o p waits = false≢true (sym o.does.1 ∙ ap (λ (s : ℕ). is_waiting_at (channel_at t s)) (same_Some o.seat p.seat (sym o.found ∙ p.found)) ∙ waits)

  heard_one : (b : Arrival) → IsOwn d t number sender now bytes (arrivals.Heard k) x → Numbered d t number sender now bytes b y → arrivals.Heard k ≡ b
  heard_one arrivals.NoChannel o p = let found = o.found in let none = p.0 in absurd cc
  heard_one (arrivals.Heard j) o p = ap arrivals.Heard (o.does.0 ∙ same_Some o.seat p.seat (sym o.found ∙ p.found) ∙ sym p.does.0)
  heard_one arrivals.Short o p = absurd (heard_apart arrivals.Short o p p.does.0)
  heard_one arrivals.NoGreeting o p = absurd (heard_apart arrivals.NoGreeting o p p.does.0)
  heard_one arrivals.Unwelcome o p = absurd (heard_apart arrivals.Unwelcome o p p.does.0)
  heard_one (arrivals.Again j) o p = absurd (heard_apart (arrivals.Again j) o p p.does.0)
  heard_one (arrivals.Late j) o p = absurd (heard_apart (arrivals.Late j) o p p.does.0)
  heard_one arrivals.Unseated o p = absurd (heard_apart arrivals.Unseated o p p.does.0)
  heard_one (arrivals.Opened j next) o p = absurd (heard_apart (arrivals.Opened j next) o p p.does.0)
  heard_one (arrivals.NoReply j) o p = absurd (heard_apart (arrivals.NoReply j) o p p.does.0)
  heard_one (arrivals.Cut j) o p = absurd (heard_apart (arrivals.Cut j) o p p.does.0)
  heard_one (arrivals.Differs j) o p = absurd (heard_apart (arrivals.Differs j) o p p.does.0)
  heard_one (arrivals.Given j) o p = absurd (heard_apart (arrivals.Given j) o p p.does.0)
  heard_one (arrivals.Replied j) o p = absurd (heard_apart (arrivals.Replied j) o p p.does.0)

  replied_apart : (b : Arrival) → (o : IsOwn d t number sender now bytes (arrivals.Replied k) x) (p : IsOwn d t number sender now bytes b y)
      → is_waiting_at (channel_at t p.seat) ≡ false → ⊥
  replied_apart b o p waits = false≢true (sym waits ∙ ap (λ (s : ℕ). is_waiting_at (channel_at t s)) (sym (same_Some o.seat p.seat (sym o.found ∙ p.found))) ∙ o.does.0)

  replied_one : (b : Arrival) → IsOwn d t number sender now bytes (arrivals.Replied k) x → Numbered d t number sender now bytes b y → arrivals.Replied k ≡ b
  replied_one arrivals.NoChannel o p = let found = o.found in let none = p.0 in absurd cc
  replied_one (arrivals.Heard j) o p = absurd (replied_apart (arrivals.Heard j) o p p.does.1)
  replied_one (arrivals.NoReply j) o p = absurd (false≢true (sym p.does.1.2 ∙ ap begins o.does.1.first))
  replied_one (arrivals.Cut j) o p = absurd (false≢true (sym (not_faulty (contents d bytes) _ o.does.1.rest o.does.1.first) ∙ p.does.1.1))
  replied_one (arrivals.Differs j) o p =
      let one = o.does.1.first in
      let other = p.does.1.first in
      let same : p.does.1.options ≡ o.does.1.options = cc in
      absurd (false≢true (sym p.does.1.does.1 ∙ ap (fits d true) same ∙ o.does.1.does.1))
  replied_one (arrivals.Given j) o p =
      let one = o.does.1.first in
      let other = p.does.1.first in
      let same : o.does.1.source ≡ p.does.1.source = cc in
      absurd (false≢true (sym o.does.1.does.2 ∙ ap (is_given_up t o.seat sender) same
      ∙ ap (λ (s : ℕ). is_given_up t s sender p.does.1.source) (same_Some o.seat p.seat (sym o.found ∙ p.found)) ∙ p.does.1.does.2))
  replied_one (arrivals.Replied j) o p = ap arrivals.Replied (o.does.1.does.0 ∙ same_Some o.seat p.seat (sym o.found ∙ p.found) ∙ sym p.does.1.does.0)
  replied_one arrivals.Short o p = absurd p.does.1.does
  replied_one arrivals.NoGreeting o p = absurd p.does.1.does
  replied_one arrivals.Unwelcome o p = absurd p.does.1.does
  replied_one (arrivals.Again j) o p = absurd p.does.1.does
  replied_one (arrivals.Late j) o p = absurd p.does.1.does
  replied_one arrivals.Unseated o p = absurd p.does.1.does
  replied_one (arrivals.Opened j next) o p = absurd p.does.1.does

-- messages are read on a channel
abbrev IsReading : Arrival → Type 0
IsReading (arrivals.Replied seat) = Unit {0}
IsReading (arrivals.Heard seat) = Unit {0}
IsReading _ = ⊥

numbered_is : (d : Descriptor) (t : Seats) (sender : Address) (now : ℕ) (bytes : List ℕ) (b : Arrival) (y : Seats) → is_for_zero bytes ≡ false → 4 ≤ length bytes
    → Arrives d t sender now bytes b y → Numbered d t (from_be_bytes w32 (take 4 bytes)) sender now bytes b y
numbered_is d t sender now bytes arrivals.Short y e long g = let short = g.0 in absurd (omega (arith, long, short))
numbered_is d t sender now bytes arrivals.NoGreeting y e long g = g.other (other_number bytes e long)
numbered_is d t sender now bytes arrivals.Unwelcome y e long g = g.other (other_number bytes e long)
numbered_is d t sender now bytes (arrivals.Again j) y e long g = g.other (other_number bytes e long)
numbered_is d t sender now bytes (arrivals.Late j) y e long g = g.other (other_number bytes e long)
numbered_is d t sender now bytes arrivals.Unseated y e long g = g.other (other_number bytes e long)
numbered_is d t sender now bytes (arrivals.Opened j next) y e long g = g.other (other_number bytes e long)
numbered_is d t sender now bytes arrivals.NoChannel y e long g = g.other (other_number bytes e long)
numbered_is d t sender now bytes (arrivals.NoReply j) y e long g = g.other (other_number bytes e long)
numbered_is d t sender now bytes (arrivals.Cut j) y e long g = g.other (other_number bytes e long)
numbered_is d t sender now bytes (arrivals.Differs j) y e long g = g.other (other_number bytes e long)
numbered_is d t sender now bytes (arrivals.Given j) y e long g = g.other (other_number bytes e long)
numbered_is d t sender now bytes (arrivals.Replied j) y e long g = g.other (other_number bytes e long)
numbered_is d t sender now bytes (arrivals.Heard j) y e long g = g.other (other_number bytes e long)

one_arrival : (d : Descriptor) (t : Seats) (sender : Address) (now : ℕ) (bytes : List ℕ) (a b : Arrival) (x y : Seats) → is_for_zero bytes ≡ false → IsReading a
    → Arrives d t sender now bytes a x → Arrives d t sender now bytes b y → a ≡ b
one_arrival d t sender now bytes (arrivals.Replied k) b x y e reading h g =
    replied_one d t (from_be_bytes w32 (take 4 bytes)) sender now bytes x y k b (h.other (other_number bytes e h.long)) (numbered_is d t sender now bytes b y e h.long g)
one_arrival d t sender now bytes (arrivals.Heard k) b x y e reading h g =
    heard_one d t (from_be_bytes w32 (take 4 bytes)) sender now bytes x y k b (h.other (other_number bytes e h.long)) (numbered_is d t sender now bytes b y e h.long g)
one_arrival d t sender now bytes arrivals.Short b x y e reading h g = absurd reading
one_arrival d t sender now bytes arrivals.NoGreeting b x y e reading h g = absurd reading
one_arrival d t sender now bytes arrivals.Unwelcome b x y e reading h g = absurd reading
one_arrival d t sender now bytes (arrivals.Again j) b x y e reading h g = absurd reading
one_arrival d t sender now bytes (arrivals.Late j) b x y e reading h g = absurd reading
one_arrival d t sender now bytes arrivals.Unseated b x y e reading h g = absurd reading
one_arrival d t sender now bytes (arrivals.Opened j next) b x y e reading h g = absurd reading
one_arrival d t sender now bytes arrivals.NoChannel b x y e reading h g = absurd reading
one_arrival d t sender now bytes (arrivals.NoReply j) b x y e reading h g = absurd reading
one_arrival d t sender now bytes (arrivals.Cut j) b x y e reading h g = absurd reading
one_arrival d t sender now bytes (arrivals.Differs j) b x y e reading h g = absurd reading
one_arrival d t sender now bytes (arrivals.Given j) b x y e reading h g = absurd reading

-- ---- what is told

tells_reads : (a : Arrival) (bytes : List ℕ) (p : Parts) (e : Descriptor) → TellsBy a bytes p e → IsReading a
tells_reads arrivals.Short bytes p e t = absurd t
tells_reads arrivals.NoGreeting bytes p e t = absurd t
tells_reads arrivals.Unwelcome bytes p e t = absurd t
tells_reads (arrivals.Again j) bytes p e t = absurd t
tells_reads (arrivals.Late j) bytes p e t = absurd t
tells_reads arrivals.Unseated bytes p e t = absurd t
tells_reads (arrivals.Opened j next) bytes p e t = absurd t
tells_reads arrivals.NoChannel bytes p e t = absurd t
tells_reads (arrivals.NoReply j) bytes p e t = absurd t
tells_reads (arrivals.Cut j) bytes p e t = absurd t
tells_reads (arrivals.Differs j) bytes p e t = absurd t
tells_reads (arrivals.Given j) bytes p e t = absurd t
tells_reads (arrivals.Replied j) bytes p e t = tt
tells_reads (arrivals.Heard j) bytes p e t = tt

-- neither the moment nor the counts tell anything
tells_moved : (a : Arrival) (bytes : List ℕ) (p : Parts) (moment : ℕ) (counts : Counts) (e : Descriptor)
    → TellsBy a bytes (record p { moment = moment; counts = counts }) e ↔ TellsBy a bytes p e
tells_moved arrivals.Short bytes p moment counts e = (λ t. t, λ t. t)
tells_moved arrivals.NoGreeting bytes p moment counts e = (λ t. t, λ t. t)
tells_moved arrivals.Unwelcome bytes p moment counts e = (λ t. t, λ t. t)
tells_moved (arrivals.Again j) bytes p moment counts e = (λ t. t, λ t. t)
tells_moved (arrivals.Late j) bytes p moment counts e = (λ t. t, λ t. t)
tells_moved arrivals.Unseated bytes p moment counts e = (λ t. t, λ t. t)
tells_moved (arrivals.Opened j next) bytes p moment counts e = (λ t. t, λ t. t)
tells_moved arrivals.NoChannel bytes p moment counts e = (λ t. t, λ t. t)
tells_moved (arrivals.NoReply j) bytes p moment counts e = (λ t. t, λ t. t)
tells_moved (arrivals.Cut j) bytes p moment counts e = (λ t. t, λ t. t)
tells_moved (arrivals.Differs j) bytes p moment counts e = (λ t. t, λ t. t)
tells_moved (arrivals.Given j) bytes p moment counts e = (λ t. t, λ t. t)
tells_moved (arrivals.Replied j) bytes p moment counts e = (λ t. t, λ t. t)
tells_moved (arrivals.Heard j) bytes p moment counts e = (λ t. t, λ t. t)

arrived_learns : (sender : Address) (bytes : List ℕ) (at : ℕ) (answer : Option Descriptor) (old new : Parts) (e : Descriptor) → is_for_zero bytes ≡ false
    → TakesArrival sender bytes answer (after_datagram (after_wait at old)) new → (answer ≡ Some e) ↔ Learns sender bytes at old e
arrived_learns sender bytes at answer old new e other h = (
  λ says. record {
    other = other;
    arrival = h.arrival;
    table = h.table;
    arrives = h.arrives;
    proven = h.proven;
    tells = (tells_moved h.arrival bytes old _ _ e).0 ((h.learned e).0 says);
  },
  λ l. (h.learned e).1 ((tells_moved h.arrival bytes old _ _ e).1
      (subst (λ (a : Arrival). TellsBy a bytes old e)
      (one_arrival (stand_in (name_of old.name)) old.lives sender (max at old.moment) bytes l.arrival h.arrival l.table h.table other
      (tells_reads l.arrival bytes old e l.tells) l.arrives h.arrives) l.tells)),
)

pub absorb_learns : (event : Event) (bytes : List ℕ) (answer : Option Descriptor) (old new : Parts) (e : Descriptor) → Absorbs event bytes answer old new
    → (answer ≡ Some e) ↔ LearnsBy event bytes old e
absorb_learns (Quiet at) bytes answer old new e h = (λ says. let none = h.0 in absurd cc, λ l. absurd l)
absorb_learns (Datagram sender len at) bytes answer old new e h = by (is_for_zero bytes) refl
  where
    by : (b : Bool) → is_for_zero bytes ≡ b → (answer ≡ Some e) ↔ Learns sender bytes at old e
    by true zero = (λ says. let none = (h.zero zero).none in absurd cc, λ l. absurd (false≢true (sym l.other ∙ zero)))
    by false other = arrived_learns sender bytes at answer old new e other (h.other other)
