-- What a flush asks for, from its begin to its end.
use Rattle.std.proofs.Common.{◌≡◌, ◌⊎◌, inl, inr, ⊎_elim, ℕ, zero, suc, ◌<◌, Bool, true, false, Option, Some, None, List, [], ◌∷◌, length, refl, sym, ◌∙◌, ap, subst, arith}
use Rattle.std.specs.Prelude.{MatchBool, nat_lt, slice_index_or, is_some, slice_get}
use Rattle.std.proofs.lemmas.Bool.{cases_Bool, both_ways, false≢true, or_left}
use Rattle.pp_terms.specs.Count.{HasRisen}
use Rattle.pp_terms.specs.disk.Disk.{DiskState}
use Rattle.pp_terms.specs.format.Traffic.{Record, LinkState}
use Rattle.pp_terms.proofs.Risings.{risen_more, risen_less}
use Rattle.pp_requests.specs.declared.asking.Asking.{Asking}
use Rattle.pp_avail.specs.declared.ranker.Rank.{Rank}
use Rattle.pp_requests.specs.Moments.{entry_of}
use Rattle.pp_requests.proofs.Chunks.{asked_some}
use Rattle.pp_outside.specs.declared.link.Address.{Address}
use Rattle.pp_promises.specs.Batches.{is_pending}
use Rattle.pp_store.specs.Store.{is_committed}
use Rattle.pp_channels.specs.Seats.{used_of}
use Rattle.pp_holding.specs.Holding.{HoldingState, batch_of}
use Rattle.pp_fetching.specs.Fetching.{FetchState}
use Rattle.pp_fetching.specs.Owners.{awaits}
use Rattle.pp_seat.specs.Seats.{SeatState}
use Rattle.pp_seats.specs.Standing.{SeatsState}
use Rattle.pp_peer.specs.declared.dialling.Dial.{Dial}
use Rattle.pp_peer.specs.declared.dialling.DialState.{DialState}
use Rattle.pp_peer.specs.declared.parts.Parts.{Parts}
use Rattle.pp_peer.specs.Standing.{Beginning, own_at, own_in, StandsFor}
use Rattle.pp_peer.specs.Flushing.{Scene, Flushes}
use Rattle.pp_peer.specs.Greeting.{IsSpent, LetsGoAt, Drops}
use Rattle.pp_peer.specs.Dialling.{Tries, has_channel, is_due, after_dial, noticed, StepsDial, DialsEach, with_queue, DialsSuggested}
use Rattle.pp_peer.specs.declared.dialling.DialState.TheVariants.{Seated}
use Rattle.pp_peer.specs.Sending.{SendsAll}
use Rattle.pp_peer.proofs.Dialled.{IsDialling, all_dialling}
use Rattle.pp_core.specs.Having.{HasJust, HasHeld}
use Rattle.pp_core.specs.Asking.{AwaitsUncommitted, GoesBefore, Asks}
use Rattle.pp_core.specs.Peers.{PeerState}
use Rattle.pp_core.specs.Turning.{scene, without_tickets, Sends}
use Rattle.pp_core.proofs.Keeping.{flush_goes}
use Rattle.pp_core.proofs.Having.{had_of, wanted_had}
use Rattle.pp_core.proofs.Asking.{HadAll}
use Rattle.pp_core.proofs.Rooms.{most_at, Alike, slots_alike, IsOwned}
use Rattle.pp_core.proofs.Turned.{owned_alike, TurnedBelow, turned_below}

-- ---- dials leave what is kept of the seats

tries_messages : (to : Address) (sent : Option Bool) (a b : Scene) → Tries to sent a b → b.parts.seats.seats ≡ a.parts.seats.seats
tries_messages to None a b t = ap (λ (p : Parts). p.seats.seats) t.1.same
tries_messages to (Some sent) a b t = ap (λ (p : SeatsState). p.seats) t.1.dials.is

step_messages : (dial : Dial) (state : DialState) (a b : Scene) → StepsDial dial state a b → b.parts.seats.seats ≡ a.parts.seats.seats
step_messages dial state a b step = of (has_channel a.parts dial.address) (is_due a.parts.seats.moment dial.state) step
  where
    of : (x y : Bool)
        → MatchBool x ((b ≡ a) × (state ≡ Seated))
        (MatchBool y ((sent : Option Bool) × Tries dial.address sent a b × (state ≡ after_dial a.parts.seats.moment dial.state sent))
        ((b ≡ a) × (state ≡ noticed a.parts.seats.moment dial.state)))
        → b.parts.seats.seats ≡ a.parts.seats.seats
    of true y h = ap (λ (s : Scene). s.parts.seats.seats) h.0
    of false true h = tries_messages dial.address h.0 a b h.1
    of false false h = ap (λ (s : Scene). s.parts.seats.seats) h.0

each_messages : (dials lefts : List Dial) (a c : Scene) → DialsEach dials lefts a c → c.parts.seats.seats ≡ a.parts.seats.seats
each_messages [] [] a c h = ap (λ (s : Scene). s.parts.seats.seats) h
each_messages [] (left ∷ lefts) a c h = absurd h
each_messages (dial ∷ dials) [] a c h = absurd h
each_messages (dial ∷ dials) (left ∷ lefts) a c h = each_messages dials lefts h.0 c h.3 ∙ step_messages dial left.state a h.0 h.2

suggested_messages : (queue : List Address) (a c : Scene) → DialsSuggested queue a c → c.parts.seats.seats ≡ a.parts.seats.seats
suggested_messages [] a c h = ap (λ (s : Scene). s.parts.seats.seats) h
suggested_messages (address ∷ queue) a c h = of (nat_lt (used_of a.parts.seats.table) 32) h (λ mid m. suggested_messages queue mid c m)
  where
    of : (b : Bool) → MatchBool b ((sent : Option Bool) × (mid : Scene) × Tries address sent (with_queue queue a) mid × DialsSuggested queue mid c)
        (c ≡ a)
        → ((mid : Scene) → DialsSuggested queue mid c → c.parts.seats.seats ≡ mid.parts.seats.seats)
        → c.parts.seats.seats ≡ a.parts.seats.seats
    of true h more = more h.1 h.3 ∙ tries_messages address h.0 (with_queue queue a) h.1 h.2
    of false h more = ap (λ (s : Scene). s.parts.seats.seats) h

-- ---- what is awaited when the seats' turns begin

pub lets_go : (now : ℕ) (o n : Option SeatState) → LetsGoAt now o n → (i : ℕ) → awaits (own_at n) i ≡ true → awaits (own_at o) i ≡ true
lets_go now None n h i e = absurd (false≢true (ap (λ (x : Option SeatState). awaits (own_at x) i) (sym h) ∙ e))
lets_go now (Some old) n h i e = of (h.2.own i)
  where
    left : awaits (h.0).own i ≡ true
    left = ap (λ (x : Option SeatState). awaits (own_at x) i) (sym h.1) ∙ e

    there : is_some (entry_of (h.0).own i) ≡ true
    there = sym (asked_some (h.0).own i) ∙ left

    of : (entry_of (h.0).own i ≡ entry_of old.own i) ⊎ (IsSpent now (entry_of old.own i) × (entry_of (h.0).own i ≡ None)) → awaits old.own i ≡ true
    of (inl same) = asked_some old.own i ∙ ap (λ (x : Option Asking). is_some x) (sym same) ∙ there
    of (inr gone) = absurd (false≢true (ap (λ (x : Option Asking). is_some x) (sym gone.1) ∙ there))

dropped_awaits : (n : ℕ) (old new : Parts) → Drops old new → n < 64 → (i : ℕ) → awaits (own_in new.seats.seats n) i ≡ true
    → awaits (own_in old.seats.seats n) i ≡ true
dropped_awaits n old new d lt i e = ⊎_elim
    (λ kept. ap (λ (x : Option SeatState). awaits (own_at x) i) (sym kept.messages) ∙ e)
    (λ over. absurd (false≢true (ap (λ (xs : List Asking). awaits xs i) (sym over.1.own) ∙ e)))
    (d.each n lt)

-- ---- what is had when they begin

pub in_set : (xs : List Bool) (i : ℕ) → slice_index_or xs i false ≡ true → i < length xs
in_set [] i e = absurd (false≢true e)
in_set (x ∷ xs) zero e = omega arith
in_set (x ∷ xs) (suc i) e = (let lt = in_set xs i e in omega (arith, lt))

had_all : (p : Parts) → HasHeld p → HadAll (had_of p.fetching) (is_committed p.holding.store)
had_all p h = of p.fetching h
  where
    of : (o : Option FetchState) → ((f : FetchState) → o ≡ Some f → HasJust f.want.had (batch_of p.holding))
        → HadAll (had_of o) (is_committed p.holding.store)
    of None h = tt
    of (Some f) h = λ i at.
        let just = h f refl in
        just.each i (let lt = in_set p.holding.store.committed i at in let size = just.size in omega (arith, lt, size))
        ∙ or_left (is_committed p.holding.store i) (is_pending (batch_of p.holding) i) at

-- ---- the whole

-- the course of a flush
pub flush_course : (refused : ℕ) (old new : PeerState) (mid : Parts) (link later : LinkState) (disk left : DiskState)
    → SendsAll old.dials new.dials old.speaker new.speaker refused (scene old.parts link disk) (scene mid later left)
    → Flushes refused (scene old.parts link disk) (scene mid later left) → new.parts ≡ without_tickets mid
    → Sends refused old new link later disk left
flush_course refused old new mid link later disk left s f is =
    record { sent = mid; sends = s; flushes = f; goes = flush_goes refused old new mid link later disk left f is; rest = is }

pub flush_asks : (refused : ℕ) (old new : PeerState) (link later : LinkState) (disk left : DiskState) → Sends refused old new link later disk left
    → HasHeld old.parts → (x : Beginning) (most : ℕ) (past : List Record) → StandsFor x most old.parts past → Asks old new link later disk left
flush_asks refused old new link later disk left course held x most past stands = record {
  refused = refused;
  course = course;
  asks = λ n lt free room. ⊎_elim
      (λ none. inl (λ f e. none f (sym fetching ∙ e)))
      (λ r. inr (risen r))
      (t.done n lt owned had (uncommitted n lt free) (record {
        far = room.far;
        is_far = room.is_far;
        begun = room.begun;
        few = (let few = room.few in let same = ap (λ (o : Option SeatState). length (own_at o)) room.there in let most = ap most_at room.there in
            omega (arith, few, same, most));
      }));
  orders = λ n lt f e i j now was is. ⊎_elim
      (λ goes. inl (subst (λ (order : Rank). GoesBefore order f.offers i j) s.speaks.order goes))
      (λ r. inr (risen r))
      (t.orders n lt owned had f e i j now (unawaited n lt i was) is);
  fetching = fetching;
}
  where
    s : SendsAll old.dials new.dials old.speaker new.speaker refused (scene old.parts link disk) (scene course.sent later left)
    s = course.sends

    fetching : new.parts.fetching ≡ s.said.parts.fetching
    fetching = ap (λ (p : Parts). p.fetching) course.rest ∙ ap (λ (p : Parts). p.fetching) s.only

    start : Scene
    start = scene s.given link disk

    dialling : IsDialling start s.dialled
    dialling = all_dialling old.dials new.dials start s.dials_all.0 s.dialled s.dials_all.1 s.dials_all.2

    messages : s.dialled.parts.seats.seats ≡ s.given.seats.seats
    messages = suggested_messages s.dials_all.0.parts.pex.queue s.dials_all.0 s.dialled s.dials_all.2
        ∙ each_messages old.dials new.dials start s.dials_all.0 s.dials_all.1

    slots : Alike s.dialled.parts s.turned
    slots = slots_alike s.dialled.parts s.turned s.turns

    t : TurnedBelow s.speaks.gathered new.speaker 64 (record s.dialled { parts = s.turned }) s.said
    t = turned_below 64 s.unsaid s.speaks.gathered new.speaker (record s.dialled { parts = s.turned }) s.said s.speaks.turns

    given_stands : StandsFor x most s.given past
    given_stands = s.gives_up.stands x most past (s.drops.stands x most past stands)

    own : (n : ℕ) → own_in s.turned.seats.seats n ≡ own_in s.given.seats.seats n
    own n = slots.own n ∙ ap (λ (xs : List SeatState). own_in xs n) messages

    same_fetching : s.turned.fetching ≡ s.given.fetching
    same_fetching = slots.fetching ∙ ap (λ (p : Parts). p.fetching) dialling.only

    owned : IsOwned s.turned
    owned = owned_alike s.given s.turned own same_fetching given_stands.fetches.owned

    holding : s.turned.holding ≡ old.parts.holding
    holding = slots.holding ∙ dialling.flushes.holding ∙ ap (λ (p : Parts). p.holding) s.gives_up.rest ∙ ap (λ (p : Parts). p.holding) s.drops.rest

    had : HadAll (had_of s.turned.fetching) (is_committed s.turned.holding.store)
    had = subst (λ (h : HoldingState). HadAll (had_of s.turned.fetching) (is_committed h.store)) (sym holding)
        (subst (λ (o : Option (List Bool)). HadAll o (is_committed old.parts.holding.store))
        (sym (ap had_of same_fetching ∙ wanted_had s.given.fetching s.dropped.fetching s.gives_up.wanted
        ∙ wanted_had s.dropped.fetching old.parts.fetching s.drops.wanted))
        (had_all old.parts held))

    before : (n : ℕ) → n < 64 → (i : ℕ) → awaits (own_in s.turned.seats.seats n) i ≡ true → awaits (own_in old.parts.seats.seats n) i ≡ true
    before n lt i e = dropped_awaits n old.parts s.dropped s.drops lt i
        (lets_go s.dropped.seats.moment (slice_get s.dropped.seats.seats n) (slice_get s.given.seats.seats n) (s.gives_up.each n) i
        (ap (λ (xs : List Asking). awaits xs i) (sym (own n)) ∙ e))

    uncommitted : (n : ℕ) → n < 64 → AwaitsUncommitted n old.parts → AwaitsUncommitted n s.turned
    uncommitted n lt free i e = ap (λ (h : HoldingState). is_committed h.store i) holding ∙ free i (before n lt i e)

    unawaited : (n : ℕ) → n < 64 → (i : ℕ) → awaits (own_in old.parts.seats.seats n) i ≡ false → awaits (own_in s.turned.seats.seats n) i ≡ false
    unawaited n lt i e = ⊎_elim (λ now. absurd (both_ways (awaits (own_in old.parts.seats.seats n) i) e (before n lt i now))) (λ free. free)
        (cases_Bool (awaits (own_in s.turned.seats.seats n) i))

    risen : HasRisen s.dialled.link.faults s.said.link.faults → HasRisen link.faults later.faults
    risen r = risen_more link.faults s.said.link.faults later.faults s.serves.flushes.later
        (risen_less link.faults s.dialled.link.faults s.said.link.faults dialling.flushes.later r)
