-- When datagrams last went stays known while something comes.
use Rattle.std.proofs.Common.{◌≡◌, ◌≢◌, ◌⊎◌, inl, inr, ⊎_elim, ℕ, zero, suc, ◌<◌, ◌≤◌, Bool, true, false, Option, Some, None, List, [], ◌∷◌, refl, sym, ◌∙◌, ap, subst}
use Rattle.std.specs.Prelude.{option_map, slice_get, slice_set}
use Rattle.std.specs.Int.{w32, from_be_bytes}
use Rattle.std.proofs.Math.ListN.{set, take}
use Rattle.std.proofs.lemmas.Bool.{cases_eq, cases_Bool, cases_lt, or_right, false≢true}
use Rattle.std.proofs.lemmas.Option.{same_Some}
use Rattle.pp_terms.specs.format.Descriptor.{Descriptor, chunks_of}
use Rattle.pp_terms.specs.format.Messages.{Message}
use Rattle.pp_terms.specs.format.Traffic.{Record}
use Rattle.pp_traffic.specs.Life.{closes}
use Rattle.pp_outside.specs.declared.link.Address.{Address}
use Rattle.pp_outside.specs.declared.link.Event.{Event}
use Rattle.pp_outside.specs.declared.link.Event.TheVariants as events
use Rattle.pp_outside.specs.Outside.{address_of}
use Rattle.pp_channels.specs.Seats.{Seats, at_seat, channel_at, changed, closed, after_drop, answered, free_seat, is_begun, unreplied, with_channel, with_channel_at}
use Rattle.pp_channels.specs.declared.channel.Channel.{Channel}
use Rattle.pp_channels.specs.declared.channel.State.TheVariants.{Proven}
use Rattle.pp_lives.specs.Arriving.{is_waiting_at, Arrives, IsNumbered, Greets, Numbered}
use Rattle.pp_lives.specs.Reading.{is_waiting}
use Rattle.pp_lives.specs.declared.arriving.Arrival.{Arrival}
use Rattle.pp_lives.specs.declared.arriving.Arrival.TheVariants as arrivals
use Rattle.pp_lives.proofs.Edits.{still_begun}
use Rattle.pp_seats.specs.Standing.{SeatsState}
use Rattle.pp_peer.specs.declared.parts.Parts.{Parts}
use Rattle.pp_peer.specs.Greeting.{StaysBut}
use Rattle.pp_peer.specs.Events.{HearsArrival, HearsProven, TakesEvent, Absorbs}
use Rattle.pp_peer.specs.Messages.{is_proven_in, TakesData, TakesOther, InTurn, before_close, ReadsAll}
use Rattle.pp_peer.specs.Taking.{read_at}
use Rattle.pp_core.proofs.Before.{closed_there, drop_in, made_there}
use Rattle.pp_core.proofs.Fars.{set_free}
use Rattle.pp_core.proofs.Kept.{changed_there}
use Rattle.pp_core.proofs.Paths.{heeded_beside, data_or_other}
use Rattle.pp_core.proofs.Rooms.{at_changed}
use Rattle.pp_core.specs.Remembering.{wrote_from, KeepsWrote}

-- ---- a channel

-- A channel on which this peer's handshake was sent was there before, and all of it stays that says when a datagram last went where.
abbrev pub Wrote : Option Channel → Option Channel → Type 0
Wrote o p = (c : Channel) → p ≡ Some c → is_begun c.opening ≡ true → (e : Channel) × (o ≡ Some e) × (is_begun e.opening ≡ true)
    × (e.address ≡ c.address) × (e.local ≡ c.local) × (e.wrote ≡ c.wrote) × ((e.remote ≡ None) ⊎ (e.remote ≡ c.remote))

wrote_same : (o p : Option Channel) → p ≡ o → Wrote o p
wrote_same o p same c is begun = (c, sym same ∙ is, begun, refl, refl, refl, inr refl)

wrote_gone : (o p : Option Channel) → p ≡ None → Wrote o p
wrote_gone o p none c is begun = let x : None ≡ Some c = sym none ∙ is in absurd cc

wrote_twice : (o p q : Option Channel) → Wrote o p → Wrote p q → Wrote o q
wrote_twice o p q one two c is begun =
    let late = two c is begun in
    let early = one late.0 late.1 late.2 in (
      early.0,
      early.1,
      early.2,
      early.3 ∙ late.3,
      early.4 ∙ late.4,
      early.5 ∙ late.5,
      ⊎_elim (λ none. inl none) (λ same. ⊎_elim (λ none. inl (same ∙ none)) (λ e. inr (same ∙ e)) late.6) early.6,
    )

-- A change that leaves so much of a channel.
record KeepsWriting (f : Channel → Channel) (c : Channel) : Type 0 where
  begun : is_begun (f c).opening ≡ is_begun c.opening
  address : (f c).address ≡ c.address
  local : (f c).local ≡ c.local
  wrote : (f c).wrote ≡ c.wrote
  remote : (c.remote ≡ None) ⊎ ((f c).remote ≡ c.remote)

wrote_mapped : (f : Channel → Channel) (o : Option Channel) → ((c : Channel) → o ≡ Some c → KeepsWriting f c) → Wrote o (option_map f o)
wrote_mapped f None keeps = λ c is begun. let x : None ≡ Some c = is in absurd cc
wrote_mapped f (Some e) keeps = λ c is begun.
    let same = same_Some (f e) c is in
    let k = keeps e refl in (
      e,
      refl,
      sym k.begun ∙ ap (λ (x : Channel). is_begun x.opening) same ∙ begun,
      sym k.address ∙ ap (λ (x : Channel). x.address) same,
      sym k.local ∙ ap (λ (x : Channel). x.local) same,
      sym k.wrote ∙ ap (λ (x : Channel). x.wrote) same,
      ⊎_elim (λ none. inl none) (λ stays. inr (sym stays ∙ ap (λ (x : Channel). x.remote) same)) k.remote,
    )

-- ---- all channels

abbrev pub AllWrote : Seats → Seats → Type 0
AllWrote t new = (n : ℕ) → Wrote (channel_at t n) (channel_at new n)

all_same : (t new : Seats) → new ≡ t → AllWrote t new
all_same t new same n = wrote_same (channel_at t n) (channel_at new n) (ap (λ (x : Seats). channel_at x n) same)

all_twice : (a b c : Seats) → AllWrote a b → AllWrote b c → AllWrote a c
all_twice a b c one two n = wrote_twice (channel_at a n) (channel_at b n) (channel_at c n) (one n) (two n)

all_on : (t mid new : Seats) → new ≡ mid → AllWrote t mid → AllWrote t new
all_on t mid new same all = subst (λ (x : Seats). AllWrote t x) (sym same) all

all_changed : (t : Seats) (k : ℕ) (f : Channel → Channel) → ((c : Channel) → channel_at t k ≡ Some c → KeepsWriting f c)
    → AllWrote t (changed t k f)
all_changed t k f keeps n = ⊎_elim
    (λ (here : n ≡ k). subst (λ (m : ℕ). Wrote (channel_at t m) (channel_at (changed t k f) m)) (sym here)
    (subst (λ (o : Option Channel). Wrote (channel_at t k) o) (sym (at_changed t.channels k f)) (wrote_mapped f (channel_at t k) keeps)))
    (λ (ne : n ≢ k). wrote_same (channel_at t n) (channel_at (changed t k f) n) (changed_there t k n f ne))
    (cases_eq n k)

stays_wrote : (o p : Option Channel) → StaysBut o p → Wrote o p
stays_wrote None p s = wrote_same None p s
stays_wrote (Some e) p s = λ c is begun.
    let same = same_Some (record e { shadowed = s.0 }) c (sym s.1 ∙ is) in (
      e,
      refl,
      ap (λ (x : Channel). is_begun x.opening) same ∙ begun,
      ap (λ (x : Channel). x.address) same,
      ap (λ (x : Channel). x.local) same,
      ap (λ (x : Channel). x.wrote) same,
      inr (ap (λ (x : Channel). x.remote) same),
    )

all_closed : (t : Seats) (k : ℕ) → AllWrote t (closed t k)
all_closed t k n = ⊎_elim
    (λ (here : n ≡ k). subst (λ (m : ℕ). Wrote (channel_at t m) (channel_at (closed t k) m)) (sym here)
    (wrote_gone (channel_at t k) (channel_at (closed t k) k)
    (drop_in (channel_at t k) (slice_set t.channels k None) k ∙ ap (after_drop (channel_at t k)) (set_free t.channels k))))
    (λ (ne : n ≢ k). stays_wrote (channel_at t n) (channel_at (closed t k) n) (closed_there t k n ne))
    (cases_eq n k)

pub set_made : (xs : List (Option Channel)) (k : ℕ) (x c : Channel) → at_seat (set xs k (Some x)) k ≡ Some c → c ≡ x
set_made [] k x c e = let none : None ≡ Some c = e in absurd cc
set_made (y ∷ xs) zero x c e = sym (same_Some x c e)
set_made (y ∷ xs) (suc k) x c e = set_made xs k x c e

all_opened : (t : Seats) (sender : Address) (source now seat : ℕ) → free_seat t ≡ Some seat → AllWrote t (with_channel (answered sender source now) t)
all_opened t sender source now seat free n = ⊎_elim
    (λ (here : n ≡ seat). λ c is begun.
    let made = set_made t.channels seat _ c (ap (λ (o : Option ℕ). channel_at (with_channel_at o (answered sender source now) t) seat) (sym free)
    ∙ ap (λ (m : ℕ). channel_at (with_channel (answered sender source now) t) m) (sym here) ∙ is) in
    absurd (false≢true (sym (ap (λ (x : Channel). is_begun x.opening) made) ∙ begun)))
    (λ (ne : n ≢ seat). wrote_same (channel_at t n) (channel_at (with_channel (answered sender source now) t) n)
    (ap (λ (o : Option ℕ). channel_at (with_channel_at o (answered sender source now) t) n) free
    ∙ made_there t seat n (answered sender source now) ne))
    (cases_eq n seat)

-- ---- what comes

again_keeps : (c : Channel) → KeepsWriting (λ x. record x { opening = unreplied x.opening }) c
again_keeps c = record { begun = still_begun c.opening; address = refl; local = refl; wrote = refl; remote = inr refl }

heard_keeps : (now : ℕ) (c : Channel) → KeepsWriting (λ x. record x { heard = now }) c
heard_keeps now c = record { begun = refl; address = refl; local = refl; wrote = refl; remote = inr refl }

proven_keeps : (c : Channel) → KeepsWriting (λ x. record x { state = Proven }) c
proven_keeps c = record { begun = refl; address = refl; local = refl; wrote = refl; remote = inr refl }

replied_keeps : (source : ℕ) (c : Channel) → c.remote ≡ None → KeepsWriting (λ x. record x { remote = Some source; state = Proven }) c
replied_keeps source c none = record { begun = refl; address = refl; local = refl; wrote = refl; remote = inl none }

-- while the reply is awaited the other peer's number isn't known
abbrev pub AwaitsNumber : Seats → Type 0
AwaitsNumber t = (seat : ℕ) (c : Channel) → channel_at t seat ≡ Some c → is_waiting c ≡ true → c.remote ≡ None

waits_there : (t : Seats) (seat : ℕ) → is_waiting_at (channel_at t seat) ≡ true → (c : Channel) → channel_at t seat ≡ Some c → is_waiting c ≡ true
waits_there t seat waits c there = ap is_waiting_at (sym there) ∙ waits

module _ (d : Descriptor) (t : Seats) (sender : Address) (now : ℕ) (bytes : List ℕ) (new : Seats) (unknown : AwaitsNumber t) where
  greets_wrote : (result : Arrival) → Greets d t sender now bytes result new → AllWrote t new
  greets_wrote arrivals.NoGreeting h = all_same t new h.2
  greets_wrote arrivals.Unwelcome h = all_same t new h.1
  greets_wrote arrivals.Unseated h = all_same t new h.does.2
  greets_wrote (arrivals.Opened seat next) h = all_on t _ new h.does.3 (all_opened t sender h.source now seat h.does.1)
  greets_wrote (arrivals.Again seat) h =
      all_on t _ new h.does.2.2 (all_changed t h.does.0 (λ c. record c { opening = unreplied c.opening }) (λ c there. again_keeps c))
  greets_wrote (arrivals.Late seat) h = all_same t new h.does.2.2
  greets_wrote arrivals.Short h = absurd h.does.2
  greets_wrote arrivals.NoChannel h = absurd h.does.2
  greets_wrote (arrivals.NoReply seat) h = absurd h.does.2
  greets_wrote (arrivals.Cut seat) h = absurd h.does.2
  greets_wrote (arrivals.Differs seat) h = absurd h.does.2
  greets_wrote (arrivals.Given seat) h = absurd h.does.2
  greets_wrote (arrivals.Replied seat) h = absurd h.does.2
  greets_wrote (arrivals.Heard seat) h = absurd h.does.2

  then_heard : (mid : Seats) (seat : ℕ) → new ≡ changed mid seat (λ c. record c { heard = now }) → AllWrote t mid → AllWrote t new
  then_heard mid seat is all = all_on t _ new is
      (all_twice t mid (changed mid seat (λ c. record c { heard = now })) all
      (all_changed mid seat (λ c. record c { heard = now }) (λ c there. heard_keeps now c)))

  numbered_wrote : (number : ℕ) (result : Arrival) → Numbered d t number sender now bytes result new → AllWrote t new
  numbered_wrote number arrivals.NoChannel h = all_same t new h.1
  numbered_wrote number (arrivals.Heard seat) h =
      then_heard (changed t h.seat (λ c. record c { state = Proven })) h.seat h.does.2
      (all_changed t h.seat (λ c. record c { state = Proven }) (λ c there. proven_keeps c))
  numbered_wrote number (arrivals.NoReply seat) h = all_same t new h.does.1.3
  numbered_wrote number (arrivals.Cut seat) h = all_same t new h.does.1.2
  numbered_wrote number (arrivals.Differs seat) h = all_on t _ new h.does.1.does.2 (all_closed t h.seat)
  numbered_wrote number (arrivals.Given seat) h = all_on t _ new h.does.1.does.3 (all_closed t h.seat)
  numbered_wrote number (arrivals.Replied seat) h =
      let source = h.does.1.source in
      then_heard (changed t h.seat (λ c. record c { remote = Some source; state = Proven })) h.seat h.does.1.does.3
      (all_changed t h.seat (λ c. record c { remote = Some source; state = Proven })
      (λ c there. replied_keeps source c (unknown h.seat c there (waits_there t h.seat h.does.0 c there))))
  numbered_wrote number arrivals.Short h = absurd h.does.1.does
  numbered_wrote number arrivals.NoGreeting h = absurd h.does.1.does
  numbered_wrote number arrivals.Unwelcome h = absurd h.does.1.does
  numbered_wrote number arrivals.Unseated h = absurd h.does.1.does
  numbered_wrote number (arrivals.Opened seat next) h = absurd h.does.1.does
  numbered_wrote number (arrivals.Again seat) h = absurd h.does.1.does
  numbered_wrote number (arrivals.Late seat) h = absurd h.does.1.does

  any_wrote : (result : Arrival) → IsNumbered d t sender now bytes result new → AllWrote t new
  any_wrote result h = ⊎_elim
      (λ here. greets_wrote result (h.zero here))
      (λ apart. numbered_wrote (from_be_bytes w32 (take 4 bytes)) result (h.other apart))
      (cases_eq (from_be_bytes w32 (take 4 bytes)) 0)

  arrives_wrote : (result : Arrival) → Arrives d t sender now bytes result new → AllWrote t new
  arrives_wrote arrivals.Short h = all_same t new h.1
  arrives_wrote arrivals.NoGreeting h = any_wrote arrivals.NoGreeting h
  arrives_wrote arrivals.Unwelcome h = any_wrote arrivals.Unwelcome h
  arrives_wrote arrivals.Unseated h = any_wrote arrivals.Unseated h
  arrives_wrote (arrivals.Opened seat next) h = any_wrote (arrivals.Opened seat next) h
  arrives_wrote (arrivals.Again seat) h = any_wrote (arrivals.Again seat) h
  arrives_wrote (arrivals.Late seat) h = any_wrote (arrivals.Late seat) h
  arrives_wrote arrivals.NoChannel h = any_wrote arrivals.NoChannel h
  arrives_wrote (arrivals.NoReply seat) h = any_wrote (arrivals.NoReply seat) h
  arrives_wrote (arrivals.Cut seat) h = any_wrote (arrivals.Cut seat) h
  arrives_wrote (arrivals.Differs seat) h = any_wrote (arrivals.Differs seat) h
  arrives_wrote (arrivals.Given seat) h = any_wrote (arrivals.Given seat) h
  arrives_wrote (arrivals.Replied seat) h = any_wrote (arrivals.Replied seat) h
  arrives_wrote (arrivals.Heard seat) h = any_wrote (arrivals.Heard seat) h

-- ---- messages

other_table : (seat : ℕ) (m : Message) (old new : Parts) → TakesOther seat m old new → new.seats.table ≡ old.seats.table
other_table seat m old new t = ap (λ (x : SeatsState). x.table) t.heard.is
    ∙ ap (λ (x : SeatsState). x.table) (heeded_beside seat m old t.mid t.heeds).seats

data_table : (seat chunk sent_at : ℕ) (bytes : List ℕ) (old new : Parts) → TakesData seat chunk sent_at bytes old new
    → new.seats.table ≡ old.seats.table
data_table seat chunk sent_at bytes old new t = ⊎_elim
    (λ (lt : chunk < chunks_of t.mid.holding.store.descriptor). ⊎_elim
    (λ proven. ap (λ (p : Parts). p.seats.table) (t.judged lt proven).rest)
    (λ no. ap (λ (p : Parts). p.seats.table) (t.unproven lt no))
    (cases_Bool (is_proven_in (slice_get t.mid.seats.seats seat))))
    (λ (le : chunks_of t.mid.holding.store.descriptor ≤ chunk). ap (λ (p : Parts). p.seats.table) (t.outside le))
    (cases_lt chunk (chunks_of t.mid.holding.store.descriptor))
    ∙ ap (λ (x : SeatsState). x.table) t.ends.answered.is

turn_table : (seat : ℕ) (ms : List Message) (old new : Parts) → InTurn seat ms old new → new.seats.table ≡ old.seats.table
turn_table seat [] old new t = ap (λ (p : Parts). p.seats.table) t
turn_table seat (m ∷ ms) old new t = turn_table seat ms t.0 new t.2
    ∙ data_or_other (t.0.seats.table ≡ old.seats.table) seat m old t.0 t.1
    (λ chunk sent_at bytes does. data_table seat chunk sent_at bytes old t.0 does)
    (λ does. other_table seat m old t.0 does)

reads_wrote : (seat : ℕ) (d : Descriptor) (bytes : List ℕ) (start : ℕ) (old new : Parts) → ReadsAll seat d bytes start old new
    → AllWrote old.seats.table new.seats.table
reads_wrote seat d bytes start old new r = ⊎_elim
    (λ shut.
    let c = r.shuts shut in
    all_on old.seats.table (closed old.seats.table seat) new.seats.table
    (ap (λ (x : SeatsState). x.table) c.forgets.is ∙ ap (λ (t : Seats). closed t seat) middle) (all_closed old.seats.table seat))
    (λ stays. all_same old.seats.table new.seats.table (ap (λ (p : Parts). p.seats.table) (r.stays stays) ∙ middle))
    (cases_Bool (closes (read_at d bytes start)))
  where
    middle : r.mid.seats.table ≡ old.seats.table
    middle = turn_table seat (before_close (read_at d bytes start)) old r.mid r.in_turn

proven_wrote : (sender : Address) (bare : Bool) (seat : ℕ) (bytes : List ℕ) (old new : Parts) → HearsProven sender bare seat bytes old new
    → AllWrote old.seats.table new.seats.table
proven_wrote sender bare seat bytes old new p =
    subst (λ (t : Seats). AllWrote t new.seats.table) (ap (λ (x : Parts). x.seats.table) p.hears.rest)
    (reads_wrote seat p.mid.seats.descriptor bytes 4 p.mid new p.reads)

same_table : (old new : Parts) → new ≡ old → AllWrote old.seats.table new.seats.table
same_table old new is = all_same old.seats.table new.seats.table (ap (λ (p : Parts). p.seats.table) is)

arrival_wrote : (a : Arrival) (sender : Address) (bytes : List ℕ) (slot : Bool) (old new : Parts) → HearsArrival a sender bytes slot old new
    → AllWrote old.seats.table new.seats.table
arrival_wrote (arrivals.Opened seat next) sender bytes slot old new r = reads_wrote seat old.seats.descriptor bytes next _ new r
arrival_wrote (arrivals.Replied seat) sender bytes slot old new r = proven_wrote sender false seat bytes _ new r
arrival_wrote (arrivals.Heard seat) sender bytes slot old new r = proven_wrote sender _ seat bytes _ new r
arrival_wrote arrivals.Short sender bytes slot old new r = same_table old new r
arrival_wrote arrivals.NoGreeting sender bytes slot old new r = same_table old new r
arrival_wrote arrivals.Unwelcome sender bytes slot old new r = same_table old new r
arrival_wrote arrivals.Unseated sender bytes slot old new r = same_table old new r
arrival_wrote (arrivals.Again seat) sender bytes slot old new r = same_table old new r
arrival_wrote (arrivals.Late seat) sender bytes slot old new r = same_table old new r
arrival_wrote arrivals.NoChannel sender bytes slot old new r = same_table old new r
arrival_wrote (arrivals.NoReply seat) sender bytes slot old new r = same_table old new r
arrival_wrote (arrivals.Cut seat) sender bytes slot old new r = same_table old new r
arrival_wrote (arrivals.Differs seat) sender bytes slot old new r = same_table old new r
arrival_wrote (arrivals.Given seat) sender bytes slot old new r = same_table old new r

-- ---- an event

pub event_wrote : (e : Event) (bytes : List ℕ) (old new : Parts) → AwaitsNumber old.seats.table → TakesEvent e bytes old new
    → AllWrote old.seats.table new.seats.table
event_wrote (events.Datagram sender len at) bytes old new unknown t =
    all_twice old.seats.table t.mid.seats.table new.seats.table
    (arrives_wrote old.seats.descriptor old.seats.table sender t.mid.seats.moment bytes t.mid.seats.table unknown t.arrival t.arrives)
    (arrival_wrote t.arrival sender bytes t.slot t.mid new t.hears)
event_wrote (events.Quiet at) bytes old new unknown t =
    all_same old.seats.table new.seats.table (ap (λ (p : Parts). p.seats.table) t)

-- When datagrams last went is kept while something comes.
pub absorbs_wrote : (e : Event) (bytes : List ℕ) (old new : Parts) → Absorbs e bytes old new → AwaitsNumber old.seats.table
    → (d : Descriptor) (r : Record) (past : List Record) → KeepsWrote d old past → KeepsWrote d new (r ∷ past)
absorbs_wrote e bytes old new a unknown d r past keeps n c life there begun address local remote =
    let w = event_wrote e bytes old a.mid unknown a.takes n c (ap (λ (p : Parts). channel_at p.seats.table n) (sym a.rest) ∙ there) begun in
    or_right _ (wrote_from d life c.wrote past)
    (subst (λ (m : ℕ). wrote_from d life m past ≡ true) w.5
    (keeps n w.0 life w.1 w.2 (address ∙ ap address_of (sym w.3)) (local ∙ sym w.4)
    (⊎_elim (λ none. inl none)
    (λ same. ⊎_elim (λ none. inl (same ∙ none)) (λ is. inr (same ∙ is)) remote)
    w.6)))
