-- What a seat's turn leaves of the others, and what it asks for on its own channel.
use Rattle.std.proofs.Common.{◌≡◌, ◌≢◌, ◌⊎◌, inl, inr, ⊎_elim, ℕ, zero, suc, ◌+◌, ◌<◌, ◌≤◌, Bool, true, false, cond, ◌&&◌, Option, Some, None, option_map, List, [], ◌∷◌, length, refl, sym, ◌∙◌, ap, subst, arith}
use Rattle.std.specs.Prelude.{slice_get, slice_index_or, nat_lt, is_some}
use Rattle.std.proofs.Math.ListN.{set}
use Rattle.std.proofs.lemmas.Bool.{cases_Bool, cases_eq, false≢true, both_ways, and_parts, or_left}
use Rattle.std.proofs.lemmas.List.{get_or-set_other}
use Rattle.std.proofs.lemmas.Option.{same_Some}
use Rattle.pp_terms.specs.Count.{HasRisen}
use Rattle.pp_terms.specs.disk.Disk.{moment_of}
use Rattle.pp_terms.specs.format.Traffic.{LinkState}
use Rattle.pp_terms.specs.tree.Range.{Span, within, has, IsRunsFrom}
use Rattle.pp_wanting.specs.Wants.{is_for}
use Rattle.pp_ranges.specs.Edits.{number_count}
use Rattle.pp_requests.specs.declared.asking.Asking.{Asking}
use Rattle.pp_requests.specs.Moments.{asked_at}
use Rattle.pp_channels.specs.declared.channel.Channel.{Channel}
use Rattle.pp_channels.specs.declared.channel.Opening.{Opening}
use Rattle.pp_channels.specs.declared.channel.Opening.TheVariants.{Dialled, Answered}
use Rattle.pp_channels.specs.Seats.{Seats, at_seat, channel_at, changed, is_dialled, with_handshake}
use Rattle.pp_channels.specs.Timing.{is_greeted}
use Rattle.pp_lives.specs.Fars.{far_of}
use Rattle.pp_lives.specs.Reading.{is_waiting}
use Rattle.pp_lives.specs.Sending.{with_datagram}
use Rattle.pp_lives.specs.declared.lives.Far.{Far}
use Rattle.pp_store.specs.Store.{is_committed}
use Rattle.pp_holding.specs.Holding.{HoldingState}
use Rattle.pp_fetching.specs.Fetching.{FetchState}
use Rattle.pp_fetching.specs.Owners.{awaits, AreOwned}
use Rattle.pp_seat.specs.Seats.{SeatState}
use Rattle.pp_desk.specs.declared.steps.Delivered.{Delivered}
use Rattle.pp_desk.specs.Delivers.{Way, At, none_delivered, GoesIf, Goes}
use Rattle.pp_desk.proofs.Following.{link_carries}
use Rattle.pp_draft.specs.declared.note.Note.{Note}
use Rattle.pp_seats.specs.Standing.{SeatsState}
use Rattle.pp_seats.specs.Sending.{requested, FitAll, way_of, with_sent, opening_at, Speaks}
use Rattle.pp_seats.specs.Turning.{Turns}
use Rattle.pp_seats.proofs.Lists.{get_set_there, get_set_other}
use Rattle.pp_agenda.specs.Laws.{are_cancelling}
use Rattle.pp_agenda.proofs.Agreeing.{exchanges_all, cancels_all}
use Rattle.pp_agenda.proofs.Telling.{ends_within}
use Rattle.pp_peer.specs.declared.parts.Parts.{Parts}
use Rattle.pp_peer.specs.declared.speaking.Speaker.{Speaker}
use Rattle.pp_peer.specs.Standing.{own_at, own_in, asked_of}
use Rattle.pp_peer.specs.Flushing.{Scene}
use Rattle.pp_peer.specs.Greeting.{IsGreeted}
use Rattle.pp_peer.specs.Slotting.{GrantsInTurn, TurnsLongest, TurnsNone, TurnsSlots}
use Rattle.pp_promises.specs.OwnSide.{most_asked}
use Rattle.pp_seat.specs.Own.{room_of}
use Rattle.pp_peer.specs.Speaking.{SetsBack, SetsBackTo, may_ask, most_of, PicksFrom, SettlesIn, SpeaksTo, AttendsTo}
use Rattle.pp_peer.proofs.Asked.{Grown}
use Rattle.pp_peer.proofs.Owning.{room_fits, picks_are_fit, noted_after, owned_after}
use Rattle.pp_peer.proofs.Went.{went_by, own_by}
use Rattle.pp_core.specs.Asking.{AwaitsUncommitted, OffersNone, GoesBefore}
use Rattle.pp_core.proofs.Having.{had_of}
use Rattle.pp_core.proofs.Asking.{Less, HadAll, lessened, none_left, left_behind}
use Rattle.pp_core.proofs.Awaiting.{IsAsked, goes_asked, agenda_first, none_cancelled}

-- ---- what is kept of a seat

-- how many chunks may be awaited there
abbrev pub most_at : Option SeatState → ℕ
most_at None = 0
most_at (Some s) = most_of s

-- where some may be, something may be asked for
pub may_where_some : (s : SeatState) (n : ℕ) → n < most_of s → may_ask s ≡ true
may_where_some s n lt = of (may_ask s) refl lt
  where
    of : (b : Bool) → may_ask s ≡ b → n < cond b (most_asked s.stopped) 0 → may_ask s ≡ true
    of true is less = is
    of false is less = absurd (omega arith)

pub most_where_may : (s : SeatState) → may_ask s ≡ true → most_of s ≡ most_asked s.stopped
most_where_may s may = ap (λ (b : Bool). cond b (most_asked s.stopped) 0) may

abbrev pub most_in : List SeatState → ℕ → ℕ
most_in list seat = most_at (slice_get list seat)

-- What is read of a seat stays, where the one that changes reads the same.
pub at_set : {X : Type 0} (g : Option SeatState → X) (xs : List SeatState) (k : ℕ) (before after : SeatState) → slice_get xs k ≡ Some before
    → g (Some after) ≡ g (Some before) → (n : ℕ) → g (slice_get (set xs k after) n) ≡ g (slice_get xs n)
at_set g xs k before after there same n = ⊎_elim
    (λ (here : n ≡ k). ap (λ (m : ℕ). g (slice_get (set xs k after) m)) here ∙ ap g (get_set_there xs k after before there) ∙ same
    ∙ ap g (sym there) ∙ ap (λ (m : ℕ). g (slice_get xs m)) (sym here))
    (λ ne. ap g (get_set_other xs k n after ne))
    (cases_eq n k)

-- The channels, what is held and fetched, and what is awaited and may be asked for on each seat stay.
pub record Alike (p q : Parts) : Type 0 where
  pub table : q.seats.table ≡ p.seats.table
  pub own : (n : ℕ) → own_in q.seats.seats n ≡ own_in p.seats.seats n
  pub may : (n : ℕ) → most_in q.seats.seats n ≡ most_in p.seats.seats n
  pub holding : q.holding ≡ p.holding
  pub fetching : q.fetching ≡ p.fetching

alike_none : (p : Parts) → Alike p p
alike_none p = record { table = refl; own = λ n. refl; may = λ n. refl; holding = refl; fetching = refl }

pub alike_same : (p q : Parts) → q ≡ p → Alike p q
alike_same p q e = subst (λ (x : Parts). Alike p x) (sym e) (alike_none p)

pub alike_twice : (a b c : Parts) → Alike a b → Alike b c → Alike a c
alike_twice a b c one two = record {
  table = two.table ∙ one.table;
  own = λ n. two.own n ∙ one.own n;
  may = λ n. two.may n ∙ one.may n;
  holding = two.holding ∙ one.holding;
  fetching = two.fetching ∙ one.fetching;
}

-- where one seat changes that reads the same
alike_set : (p q : Parts) (k : ℕ) (before after : SeatState) → slice_get p.seats.seats k ≡ Some before → after.own ≡ before.own
    → most_of after ≡ most_of before
    → q.seats ≡ record p.seats { seats = set p.seats.seats k after } → q.holding ≡ p.holding → q.fetching ≡ p.fetching → Alike p q
alike_set p q k before after there own may is holding fetching = record {
  table = ap (λ (s : SeatsState). s.table) is;
  own = λ n. ap (λ (s : SeatsState). own_in s.seats n) is ∙ at_set own_at p.seats.seats k before after there own n;
  may = λ n. ap (λ (s : SeatsState). most_in s.seats n) is ∙ at_set most_at p.seats.seats k before after there may n;
  holding = holding;
  fetching = fetching;
}

pub back_alike : (seat : ℕ) (greets : Bool) (news : List Span) (old new : Parts) → SetsBack seat greets news old new → Alike old new
back_alike seat greets news old new s = of s.known.proven greets news s.sets
  where
    of : (is_proven does : Bool) (xs : List Span) → SetsBackTo is_proven does xs seat old new → Alike old new
    of true does xs h = alike_same old new h
    of false true xs h = alike_set old new seat h.0.before h.0.after h.0.there (ap (λ (k : SeatState). k.own) h.0.exact) (ap most_of h.0.exact) h.0.is
        (ap (λ (p : Parts). p.holding) h.1) (ap (λ (p : Parts). p.fetching) h.1)
    of false false [] h = alike_same old new h
    of false false (x ∷ xs) h =
        alike_set old new seat h.0.before h.0.after h.0.there (ap (λ (k : SeatState). k.own) h.0.exact) (ap most_of h.0.exact) h.0.is
        (ap (λ (p : Parts). p.holding) h.1) (ap (λ (p : Parts). p.fetching) h.1)

turns_alike : (seat : ℕ) (old new : Parts) → Turns seat old.seats new.seats → new.holding ≡ old.holding → new.fetching ≡ old.fetching → Alike old new
turns_alike seat old new t holding fetching =
    alike_set old new seat t.before t.after t.there (ap (λ (k : SeatState). k.own) t.exact) (ap most_of t.exact) t.is holding fetching

grants_alike : (seats : List ℕ) (old new : Parts) → GrantsInTurn seats old new → Alike old new
grants_alike [] old new g = alike_same old new g.0
grants_alike (seat ∷ seats) old new g = alike_twice old g.0 new
    (turns_alike seat old g.0 g.1.turns (ap (λ (p : Parts). p.holding) g.1.rest) (ap (λ (p : Parts). p.fetching) g.1.rest))
    (grants_alike seats g.0 new g.2)

pub slots_alike : (old new : Parts) → TurnsSlots old new → Alike old new
slots_alike old new t = alike_twice old t.mid new (first t.turned) (grants_alike t.grants.0 t.mid new t.grants.1)
  where
    first : TurnsLongest old t.mid ⊎ TurnsNone old t.mid → Alike old t.mid
    first (inl l) = turns_alike l.seat old t.mid l.turns (ap (λ (p : Parts). p.holding) l.rest) (ap (λ (p : Parts). p.fetching) l.rest)
    first (inr n) = alike_same old t.mid n.same

pub attends_alike : (seat : ℕ) (does : Bool) (old new : Parts) → AttendsTo does seat old new → Alike old new
attends_alike seat true old new g =
    let a = grants_alike g.0 _ new g.1 in record { table = a.table; own = a.own; may = a.may; holding = a.holding; fetching = a.fetching }
attends_alike seat false old new e = alike_same old new e

-- ---- the other seats

-- No other seat's channel changed, nor what is awaited or may be asked for there; and what is held stays.
pub record Elsewhere (k : ℕ) (p q : Parts) : Type 0 where
  pub channels : (n : ℕ) → n ≢ k → channel_at q.seats.table n ≡ channel_at p.seats.table n
  pub own : (n : ℕ) → n ≢ k → own_in q.seats.seats n ≡ own_in p.seats.seats n
  pub may : (n : ℕ) → n ≢ k → most_in q.seats.seats n ≡ most_in p.seats.seats n
  pub holding : q.holding ≡ p.holding

pub alike_elsewhere : (k : ℕ) (p q : Parts) → Alike p q → Elsewhere k p q
alike_elsewhere k p q a = record {
  channels = λ n ne. ap (λ (t : Seats). channel_at t n) a.table;
  own = λ n ne. a.own n;
  may = λ n ne. a.may n;
  holding = a.holding;
}

pub elsewhere_twice : (k : ℕ) (a b c : Parts) → Elsewhere k a b → Elsewhere k b c → Elsewhere k a c
elsewhere_twice k a b c one two = record {
  channels = λ n ne. two.channels n ne ∙ one.channels n ne;
  own = λ n ne. two.own n ne ∙ one.own n ne;
  may = λ n ne. two.may n ne ∙ one.may n ne;
  holding = two.holding ∙ one.holding;
}

changed_other : (t : Seats) (k : ℕ) (f : Channel → Channel) (n : ℕ) → n ≢ k → channel_at (changed t k f) n ≡ channel_at t n
changed_other t k f n ne = get_or-set_other t.channels k n (option_map f (channel_at t k)) None ne

datagram_other : (t : Seats) (k : ℕ) (opens : Bool) (now n : ℕ) → n ≢ k → channel_at (with_datagram t k opens now) n ≡ channel_at t n
datagram_other t k true now n ne =
    changed_other (changed t k (λ c. record c { wrote = now })) k (λ c. record c { opening = with_handshake c.opening }) n ne
    ∙ changed_other t k (λ c. record c { wrote = now }) n ne
datagram_other t k false now n ne = changed_other t k (λ c. record c { wrote = now }) n ne

sent_other : (t : Seats) (k : ℕ) (opens : Bool) (sent now n : ℕ) → n ≢ k → channel_at (with_sent t k opens sent now) n ≡ channel_at t n
sent_other t k opens sent now n ne = of (nat_lt 0 sent)
  where
    of : (b : Bool) → channel_at (cond b (with_datagram t k opens now) t) n ≡ channel_at t n
    of true = datagram_other t k opens now n ne
    of false = refl

pub greets_elsewhere : (k moment : ℕ) (sent : Bool) (old new : Parts) (link later : LinkState) → IsGreeted k moment sent old new link later
    → Elsewhere k old new
greets_elsewhere k moment true old new link later g = record {
  channels = λ n ne. ap (λ (s : SeatsState). channel_at s.table n) g.greets.is ∙ datagram_other old.seats.table k true old.seats.moment n ne;
  own = λ n ne. ap (λ (s : SeatsState). own_in s.seats n) g.greets.is;
  may = λ n ne. ap (λ (s : SeatsState). most_in s.seats n) g.greets.is;
  holding = ap (λ (p : Parts). p.holding) g.rest;
}
greets_elsewhere k moment false old new link later (inl r) = alike_elsewhere k old new (record {
  table = ap (λ (p : Parts). p.seats.table) r.rest;
  own = λ n. ap (λ (p : Parts). own_in p.seats.seats n) r.rest;
  may = λ n. ap (λ (p : Parts). most_in p.seats.seats n) r.rest;
  holding = ap (λ (p : Parts). p.holding) r.rest;
  fetching = ap (λ (p : Parts). p.fetching) r.rest;
})
greets_elsewhere k moment false old new link later (inr n) = alike_elsewhere k old new (alike_same old new n.same)

pub greets_own : (k moment : ℕ) (sent : Bool) (old new : Parts) (link later : LinkState) → IsGreeted k moment sent old new link later → (n : ℕ)
    → own_in new.seats.seats n ≡ own_in old.seats.seats n
greets_own k moment true old new link later g n = ap (λ (s : SeatsState). own_in s.seats n) g.greets.is
greets_own k moment false old new link later (inl r) n = ap (λ (p : Parts). own_in p.seats.seats n) r.rest
greets_own k moment false old new link later (inr i) n = ap (λ (p : Parts). own_in p.seats.seats n) i.same

pub greets_fetching : (k moment : ℕ) (sent : Bool) (old new : Parts) (link later : LinkState) → IsGreeted k moment sent old new link later
    → new.fetching ≡ old.fetching
greets_fetching k moment true old new link later g = ap (λ (p : Parts). p.fetching) g.rest
greets_fetching k moment false old new link later (inl r) = ap (λ (p : Parts). p.fetching) r.rest
greets_fetching k moment false old new link later (inr i) = ap (λ (p : Parts). p.fetching) i.same

pub greets_faults : (k moment : ℕ) (sent : Bool) (old new : Parts) (link later : LinkState) → IsGreeted k moment sent old new link later
    → link.faults ≤ later.faults
greets_faults k moment true old new link later g = g.greets.sends.later
greets_faults k moment false old new link later (inl r) = r.refuses.grows
greets_faults k moment false old new link later (inr i) = (let same = ap (λ (l : LinkState). l.faults) i.link_same in omega (arith, same))

-- ---- a channel whose other peer isn't known

pub at_changed : (xs : List (Option Channel)) (k : ℕ) (f : Channel → Channel)
    → at_seat (set xs k (option_map f (at_seat xs k))) k ≡ option_map f (at_seat xs k)
at_changed [] k f = refl
at_changed (x ∷ xs) zero f = refl
at_changed (x ∷ xs) (suc k) f = at_changed xs k f

handshake_dialled : (o : Opening) → is_dialled (with_handshake o) ≡ is_dialled o
handshake_dialled (Dialled handshakes) = refl
handshake_dialled (Answered at) = refl

unknown_still : (f : Channel → Channel) → ((c : Channel) → is_waiting (f c) ≡ is_waiting c) → (o : Option Channel) → far_of o ≡ None
    → far_of (option_map f o) ≡ None
unknown_still f same None e = refl
unknown_still f same (Some c) e = of (is_waiting c) _ e (is_waiting (f c)) _ (same c)
  where
    of : (b : Bool) (x : Far) → cond b None (Some x) ≡ None → (d : Bool) (y : Far) → d ≡ b → cond d None (Some y) ≡ None
    of true x e true y is = refl
    of true x e false y is = absurd (false≢true is)
    of false x e d y is = absurd cc

pub greets_unknown : (k moment : ℕ) (sent : Bool) (old new : Parts) (link later : LinkState) → IsGreeted k moment sent old new link later
    → far_of (channel_at old.seats.table k) ≡ None → far_of (channel_at new.seats.table k) ≡ None
greets_unknown k moment true old new link later g none =
    ap (λ (s : SeatsState). far_of (channel_at s.table k)) g.greets.is
    ∙ ap far_of (at_changed _ k (λ c. record c { opening = with_handshake c.opening }))
    ∙ unknown_still (λ c. record c { opening = with_handshake c.opening })
    (λ c. ap (λ (b : Bool). b && is_greeted c.state) (handshake_dialled c.opening)) _
    (ap far_of (at_changed old.seats.table.channels k (λ c. record c { wrote = old.seats.moment }))
    ∙ unknown_still (λ c. record c { wrote = old.seats.moment }) (λ c. refl) (channel_at old.seats.table k) none)
greets_unknown k moment false old new link later (inl r) none = ap (λ (p : Parts). far_of (channel_at p.seats.table k)) r.rest ∙ none
greets_unknown k moment false old new link later (inr i) none = ap (λ (p : Parts). far_of (channel_at p.seats.table k)) i.same ∙ none

-- ---- what is said on a channel

-- the link's count rises where a datagram was refused
pub goes_risen : (opening : Option ℕ) (w : Way) (notes : List Note) (old new : At) → Goes opening w notes old new → old.so_far ≡ none_delivered
    → 0 < new.so_far.refused
    → HasRisen old.link.faults new.link.faults
goes_risen None w notes old new g none some =
    (link_carries w g.batches old new g.each).risen (let zero_is = ap (λ (d : Delivered). d.refused) none in omega (arith, zero_is, some))
goes_risen (Some source) w notes old new g none some = by g.0 g.1
  where
    by : (taken : Bool) → GoesIf taken source w notes old new → HasRisen old.link.faults new.link.faults
    by true h = (link_carries w h.delivers.batches old new h.delivers.each).risen
        (let zero_is = ap (λ (d : Delivered). d.refused) none in omega (arith, zero_is, some))
    by false h = h.goes.outcome.1

-- What is asked for is what the seats wait for, each chunk on one seat.
abbrev pub IsOwned : Parts → Type 0
IsOwned p = AreOwned (asked_of p.fetching) (own_in p.seats.seats)

no_runs : (from : ℕ) (xs : List Span) → IsRunsFrom from xs → ((i : ℕ) → has xs i ≡ false) → xs ≡ []
no_runs from [] runs none = refl
no_runs from (x ∷ xs) runs none =
    absurd (both_ways (has (x ∷ xs) x.last) (none x.last) (or_left (within x x.last) (has xs x.last) (ends_within x runs.1)))

-- More may be asked for on the channel of a seat, by what is read of it.
pub record Room (k : ℕ) (p : Parts) : Type 0 where
  pub far : Far
  pub is_far : far_of (channel_at p.seats.table k) ≡ Some far
  pub begun : far.begun ≡ true
  pub few : length (own_in p.seats.seats k) < most_in p.seats.seats k

module _ (k : ℕ) (far : Far) (greets : Bool) (refused : ℕ) (speaker left : Speaker) (a b : Scene)
    (s : SpeaksTo (record { seat = k; far = far; greets = greets }) refused speaker left a b) where
  abbrev sp : Speaks k left.agenda (moment_of a.disk.history) s.delivered s.picked.seats s.said.seats a.link b.link
  sp = s.says.speaks

  abbrev way : Way
  way = way_of s.picked.seats sp.far (moment_of a.disk.history)

  abbrev from : At
  from = record { seat = sp.before; link = a.link; so_far = none_delivered }

  abbrev to : At
  to = record { seat = sp.after; link = b.link; so_far = s.delivered }

  seats_1 : s.picked.seats ≡ a.parts.seats
  seats_1 = ap (λ (p : Parts). p.seats) s.are_picked.rest

  seats_3 : b.parts.seats ≡ s.said.seats
  seats_3 = ap (λ (p : Parts). p.seats) s.settles.rest

  holding_1 : s.picked.holding ≡ a.parts.holding
  holding_1 = ap (λ (p : Parts). p.holding) s.are_picked.rest

  pub spoke_holding : b.parts.holding ≡ a.parts.holding
  spoke_holding = ap (λ (p : Parts). p.holding) s.settles.rest ∙ ap (λ (p : Parts). p.holding) s.says.rest ∙ holding_1

  -- the same seat by its three names
  known_is : sp.before ≡ s.fills.known
  known_is = same_Some sp.before s.fills.known (sym sp.there ∙ s.fills.there)

  picked_is : sp.before ≡ s.are_picked.known
  picked_is = same_Some sp.before s.are_picked.known
      (sym sp.there ∙ ap (λ (x : SeatsState). slice_get x.seats k) seats_1 ∙ s.are_picked.there)

  own_before : own_in a.parts.seats.seats k ≡ sp.before.own
  own_before = ap (λ (x : SeatsState). own_in x.seats k) (sym seats_1) ∙ ap own_at sp.there

  messages : s.said.seats.seats ≡ set s.picked.seats.seats k sp.after
  messages = ap (λ (x : SeatsState). x.seats) sp.is

  read_after : {X : Type 0} (g : Option SeatState → X) → g (slice_get b.parts.seats.seats k) ≡ g (Some sp.after)
  read_after g = ap (λ (x : SeatsState). g (slice_get x.seats k)) seats_3 ∙ ap (λ (xs : List SeatState). g (slice_get xs k)) messages
      ∙ ap g (get_set_there s.picked.seats.seats k sp.after sp.before sp.there)

  read_other : {X : Type 0} (g : Option SeatState → X) (n : ℕ) → n ≢ k → g (slice_get b.parts.seats.seats n) ≡ g (slice_get a.parts.seats.seats n)
  read_other g n ne = ap (λ (x : SeatsState). g (slice_get x.seats n)) seats_3 ∙ ap (λ (xs : List SeatState). g (slice_get xs n)) messages
      ∙ ap g (get_set_other s.picked.seats.seats k n sp.after ne) ∙ ap (λ (x : SeatsState). g (slice_get x.seats n)) seats_1

  own_after : own_in b.parts.seats.seats k ≡ sp.after.own
  own_after = read_after own_at

  pub spoke_elsewhere : Elsewhere k a.parts b.parts
  spoke_elsewhere = record {
    channels = λ n ne. ap (λ (x : SeatsState). channel_at x.table n) (seats_3 ∙ sp.is)
        ∙ sent_other s.picked.seats.table k (is_some (opening_at s.picked.seats k)) s.delivered.sent s.picked.seats.moment n ne
        ∙ ap (λ (x : SeatsState). channel_at x.table n) seats_1;
    own = read_other own_at;
    may = read_other most_at;
    holding = spoke_holding;
  }

  pub spoke_faults : a.link.faults ≤ b.link.faults
  spoke_faults = (went_by (opening_at s.picked.seats k) way left.agenda from to refl sp.goes).later

  -- what was asked for, once more
  settled : SettlesIn (own_in b.parts.seats.seats k) s.picks s.cancels s.picked.fetching b.parts.fetching
  settled = subst (λ (x : SeatsState). SettlesIn (own_in x.seats k) s.picks s.cancels s.picked.fetching b.parts.fetching) (sym seats_3)
      (subst (λ (o : Option FetchState). SettlesIn (own_in s.said.seats.seats k) s.picks s.cancels o b.parts.fetching)
      (ap (λ (p : Parts). p.fetching) s.says.rest) s.settles.settles)

  cancelled : (i : ℕ) → has s.cancels i ≡ true → (awaits (own_in a.parts.seats.seats k) i ≡ true) × (is_committed a.parts.holding.store i ≡ true)
  cancelled i at =
      let parts = and_parts (awaits (own_in s.picked.seats.seats k) i) (is_committed s.picked.holding.store i) (sym (s.are_cancels.each i) ∙ at) in (
        ap (λ (x : SeatsState). awaits (own_in x.seats k) i) (sym seats_1) ∙ parts.0,
        ap (λ (h : HoldingState). is_committed h.store i) (sym holding_1) ∙ parts.1,
      )

  pub spoke_less : HadAll (had_of a.parts.fetching) (is_committed a.parts.holding.store) → Less a.parts.fetching b.parts.fetching
  spoke_less had = lessened (may_ask s.are_picked.known) speaker.order k s.are_picked.room s.picks s.cancels (own_in b.parts.seats.seats k)
      (is_committed a.parts.holding.store) a.parts.fetching s.picked.fetching b.parts.fetching s.are_picked.picks_from settled
      (λ i at. (cancelled i at).1) had

  -- ---- what the notes ask for

  requested_are : requested left.agenda ≡ cond sp.before.proven s.picks []
  requested_are = (exchanges_all s.fills.known s.fills.due left.agenda s.fills.agenda).asks
      ∙ ap (λ (x : SeatState). cond x.proven s.fills.due.requests.now []) (sym known_is)
      ∙ ap (λ (xs : List Span). cond sp.before.proven xs []) s.fills.asked_for

  picks_fit : IsOwned a.parts → FitAll s.picks sp.before.own
  picks_fit owned = subst (λ (own : List Asking). FitAll s.picks own) own_before
      (picks_are_fit (may_ask s.are_picked.known) speaker.order k s.are_picked.room s.picks a.parts.fetching s.picked.fetching
      (own_in a.parts.seats.seats) owned
      (subst (λ (own : List Asking). s.are_picked.room + length own ≤ 32) (sym (ap own_at s.are_picked.there))
      (room_fits s.are_picked.known.stopped s.are_picked.known.own s.are_picked.room s.are_picked.room_is s.are_picked.few)) s.are_picked.picks_from)

  fit : IsOwned a.parts → FitAll (requested left.agenda) sp.before.own
  fit owned = subst (λ (xs : List Span). FitAll xs sp.before.own) (sym requested_are) (of sp.before.proven)
    where
      of : (x : Bool) → FitAll (cond x s.picks []) sp.before.own
      of true = picks_fit owned
      of false = tt

  asks : (i : ℕ) → has (requested left.agenda) i ≡ true → has s.picks i ≡ true
  asks i at = of sp.before.proven (ap (λ (xs : List Span). has xs i) (sym requested_are) ∙ at)
    where
      of : (x : Bool) → has (cond x s.picks []) i ≡ true → has s.picks i ≡ true
      of true e = e
      of false e = absurd (false≢true e)

  both_true : (x y : Bool) → x ≡ true → y ≡ true → (x && y) ≡ true
  both_true x y ex ey = ap (λ (z : Bool). z && y) ex ∙ ey

  drops : (i : ℕ) → are_cancelling left.agenda i ≡ true → has s.cancels i ≡ true
  drops i at =
      let is = sym (cancels_all s.fills.known s.fills.due left.agenda s.fills.agenda i) ∙ at in
      let parts = and_parts (awaits s.fills.known.own i) (slice_index_or s.fills.due.committed.now i false)
      (and_parts s.fills.known.proven (awaits s.fills.known.own i && slice_index_or s.fills.due.committed.now i false) is).1 in
      s.are_cancels.each i ∙ both_true (awaits (own_in s.picked.seats.seats k) i) (is_committed s.picked.holding.store i)
      (ap (λ (own : List Asking). awaits own i) (ap own_at s.fills.there) ∙ parts.0)
      (ap (λ (xs : List Bool). slice_index_or xs i false) (sym s.fills.committed) ∙ parts.1)

  grown : IsOwned a.parts → Grown (λ i. has s.picks i ≡ true) (λ i. has s.cancels i ≡ true) [] sp.before.own sp.after.own
  grown owned = own_by (opening_at s.picked.seats k) way left.agenda from to sp.goes (λ i. has s.picks i ≡ true) (λ i. has s.cancels i ≡ true)
      (agenda_first s.fills.known s.fills.due left.agenda s.fills.agenda) (fit owned) asks drops

  pub spoke_owned : IsOwned a.parts → IsOwned b.parts
  spoke_owned owned =
      let g = grown owned in
      owned_after k s.picks s.cancels (asked_of a.parts.fetching) (asked_of b.parts.fetching) (own_in a.parts.seats.seats)
      (own_in b.parts.seats.seats) owned (record {
        elsewhere = read_other own_at;
        more_are = λ i e. ⊎_elim (λ was. inl (ap (λ (own : List Asking). awaits own i) own_before ∙ was)) (λ it. inr it)
            (g.more_are i (ap (λ (own : List Asking). awaits own i) (sym own_after) ∙ e));
        fewer_are = λ i e. ⊎_elim (λ is. inl (ap (λ (own : List Asking). awaits own i) own_after ∙ is)) (λ it. inr it)
            (g.fewer_are i (ap (λ (own : List Asking). awaits own i) (sym own_before) ∙ e));
        awaited = λ i at. (cancelled i at).0;
        noted = λ i. noted_after (may_ask s.are_picked.known) speaker.order k s.are_picked.room s.picks s.cancels (own_in b.parts.seats.seats k)
            a.parts.fetching s.picked.fetching b.parts.fetching i s.are_picked.picks_from settled;
      })

  -- ---- where nothing was refused

  asked : s.delivered.refused ≡ 0 → IsOwned a.parts → IsAsked left.agenda [] sp.before sp.after
  asked none owned = goes_asked (opening_at s.picked.seats k) way left.agenda from to sp.goes none
      (agenda_first s.fills.known s.fills.due left.agenda s.fills.agenda) (fit owned)

  no_cancels : AwaitsUncommitted k a.parts → (i : ℕ) → has s.cancels i ≡ false
  no_cancels free i = ⊎_elim
      (λ at. let c = cancelled i at in absurd (both_ways (is_committed a.parts.holding.store i) (free i c.0) c.1))
      (λ no. no) (cases_Bool (has s.cancels i))

  and_false : (x y : Bool) → y ≡ false → (x && y) ≡ false
  and_false true y e = e
  and_false false y e = refl

  agenda_cancels : AwaitsUncommitted k a.parts → s.fills.agenda.cancels ≡ []
  agenda_cancels free = no_runs 0 s.fills.agenda.cancels s.fills.agenda.runs
      (λ i. s.fills.agenda.cancelled i
      ∙ and_false s.fills.known.proven (is_some (asked_at s.fills.known.own i) && slice_index_or s.fills.due.committed.now i false) (idle i))
    where
      idle : (i : ℕ) → (awaits s.fills.known.own i && slice_index_or s.fills.due.committed.now i false) ≡ false
      idle i = ap (λ (own : List Asking). awaits own i && slice_index_or s.fills.due.committed.now i false) (sym (ap own_at s.fills.there))
          ∙ ap (λ (xs : List Bool). awaits (own_in s.picked.seats.seats k) i && slice_index_or xs i false) s.fills.committed
          ∙ sym (s.are_cancels.each i) ∙ no_cancels free i

  not_cancelling : AwaitsUncommitted k a.parts → (i : ℕ) → are_cancelling left.agenda i ≡ false
  not_cancelling free i =
      ⊎_elim (λ at. absurd (both_ways (has s.cancels i) (no_cancels free i) (drops i at))) (λ no. no) (cases_Bool (are_cancelling left.agenda i))

  pub spoke_none : s.delivered.refused ≡ 0 → IsOwned a.parts → AwaitsUncommitted k a.parts
      → length (own_in b.parts.seats.seats k) < most_in b.parts.seats.seats k → OffersNone k b.parts
  spoke_none none owned free few = none_left speaker.order k s.are_picked.room s.picks s.cancels (own_in b.parts.seats.seats k)
      a.parts.fetching s.picked.fetching b.parts.fetching picks_true settled awaited (no_cancels free) not_full
    where
      all : IsAsked left.agenda [] sp.before sp.after
      all = asked none owned

      most_same : most_in b.parts.seats.seats k ≡ most_of sp.before
      most_same = read_after most_at ∙ all.may

      may_before : may_ask sp.before ≡ true
      may_before = may_where_some sp.before (length (own_in b.parts.seats.seats k))
          (subst (λ (n : ℕ). length (own_in b.parts.seats.seats k) < n) most_same few)

      proven : sp.before.proven ≡ true
      proven = (and_parts sp.before.proven _ may_before).0

      are : requested left.agenda ≡ s.picks
      are = requested_are ∙ ap (λ (x : Bool). cond x s.picks []) proven

      picks_true : PicksFrom true speaker.order k s.are_picked.room s.picks a.parts.fetching s.picked.fetching
      picks_true = subst (λ (x : Bool). PicksFrom x speaker.order k s.are_picked.room s.picks a.parts.fetching s.picked.fetching)
          (sym (ap may_ask picked_is) ∙ may_before) s.are_picked.picks_from

      awaited : (i : ℕ) → has s.picks i ≡ true → awaits (own_in b.parts.seats.seats k) i ≡ true
      awaited i at = ap (λ (own : List Asking). awaits own i) own_after
          ∙ all.asked i (ap (λ (xs : List Span). has xs i) are ∙ at) (not_cancelling free i)

      not_full : number_count s.picks ≡ s.are_picked.room → ⊥
      not_full full =
          let many = all.many (none_cancelled s.fills.known s.fills.due left.agenda s.fills.agenda (agenda_cancels free)) in
          let count = ap number_count are in
          let is = s.are_picked.room_is ∙ sym (ap (λ (x : SeatState). room_of x.stopped x.own) picked_is) in
          let most = most_where_may sp.before may_before in
          let after = ap (λ (own : List Asking). length own) own_after in
          omega (arith, full, many, count, is, most, most_same, after, few)

  -- ---- in which order

  fit_absent : (xs : List Span) → FitAll xs sp.before.own → (i : ℕ) → has xs i ≡ true → awaits sp.before.own i ≡ false
  fit_absent [] f i at = absurd (false≢true at)
  fit_absent (x ∷ xs) f i at = ap (λ (o : Option ℕ). is_some o) (f.absent i at)

  none_picked : (may : Bool) → may ≡ false → PicksFrom may speaker.order k s.are_picked.room s.picks a.parts.fetching s.picked.fetching → s.picks ≡ []
  none_picked true e p = absurd (false≢true (sym e))
  none_picked false e p = p.0

  may_pick : (i : ℕ) → has s.picks i ≡ true → may_ask s.are_picked.known ≡ true
  may_pick i at = ⊎_elim (λ may. may)
      (λ not_may. absurd (false≢true
      (ap (λ (xs : List Span). has xs i) (sym (none_picked (may_ask s.are_picked.known) not_may s.are_picked.picks_from)) ∙ at)))
      (cases_Bool (may_ask s.are_picked.known))

  pub spoke_orders : s.delivered.refused ≡ 0 → IsOwned a.parts → HadAll (had_of a.parts.fetching) (is_committed a.parts.holding.store)
      → (f : FetchState) → b.parts.fetching ≡ Some f → (i j : ℕ) → awaits (own_in b.parts.seats.seats k) i ≡ true
      → awaits (own_in a.parts.seats.seats k) i ≡ false → is_for f.want f.offers k j ≡ true → GoesBefore speaker.order f.offers i j
  spoke_orders none owned had f e i j now before is =
      left_behind speaker.order k s.are_picked.room s.picks s.cancels (own_in b.parts.seats.seats k) (is_committed a.parts.holding.store)
      a.parts.fetching s.picked.fetching b.parts.fetching (picks_true (may_pick i at)) settled awaited (λ n c. (cancelled n c).1) had f e i j at is
    where
      at : has s.picks i ≡ true
      at = ⊎_elim
          (λ was. absurd (both_ways (awaits (own_in a.parts.seats.seats k) i) before (ap (λ (own : List Asking). awaits own i) own_before ∙ was)))
          (λ picked. picked)
          ((grown owned).more_are i (ap (λ (own : List Asking). awaits own i) (sym own_after) ∙ now))

      picks_true : may_ask s.are_picked.known ≡ true → PicksFrom true speaker.order k s.are_picked.room s.picks a.parts.fetching s.picked.fetching
      picks_true may = subst
          (λ (x : Bool). PicksFrom x speaker.order k s.are_picked.room s.picks a.parts.fetching s.picked.fetching) may s.are_picked.picks_from

      proven : sp.before.proven ≡ true
      proven = (and_parts sp.before.proven _ (ap may_ask picked_is ∙ may_pick i at)).0

      spared : (n : ℕ) → has s.picks n ≡ true → are_cancelling left.agenda n ≡ false
      spared n picked = ⊎_elim
          (λ c. absurd (both_ways (awaits sp.before.own n) (fit_absent s.picks (picks_fit owned) n picked)
          (ap (λ (own : List Asking). awaits own n) (sym own_before) ∙ (cancelled n (drops n c)).0)))
          (λ free. free)
          (cases_Bool (are_cancelling left.agenda n))

      awaited : (n : ℕ) → has s.picks n ≡ true → awaits (own_in b.parts.seats.seats k) n ≡ true
      awaited n picked = ap (λ (own : List Asking). awaits own n) own_after
          ∙ (asked none owned).asked n
          (ap (λ (xs : List Span). has xs n) (requested_are ∙ ap (λ (x : Bool). cond x s.picks []) proven) ∙ picked) (spared n picked)
