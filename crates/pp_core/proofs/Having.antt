-- What is had stays what is held, whatever comes and goes.
use Rattle.std.proofs.Common.{◌≡◌, ◌⊎◌, inl, inr, ⊎_elim, ℕ, ◌<◌, ◌≤◌, eqb, Bool, true, false, cond, ◌||◌, Option, Some, None, List, [], ◌∷◌, length, refl, sym, ◌∙◌, ap, subst, arith}
use Rattle.std.specs.Prelude.{slice_index_or, slice_get, option_map}
use Rattle.std.proofs.Math.Bool.{or-false}
use Rattle.std.proofs.Math.ListN.{set}
use Rattle.std.proofs.lemmas.Bool.{cases_eq, cases_lt, cases_Bool, eq-eqb, eqb-true}
use Rattle.std.proofs.lemmas.Option.{same_Some}
use Rattle.std.proofs.lemmas.List.{length-set, get_or-set_same, get_or-set_other}
use Rattle.std.proofs.lemmas.List.FromFn.{length-map-range_with_len, get_or-map-range_with_len}
use Rattle.pp_terms.specs.format.Descriptor.{Descriptor, chunks_of}
use Rattle.pp_terms.specs.format.Messages as plain
use Rattle.pp_terms.specs.format.Messages.{Message}
use Rattle.pp_terms.specs.tree.Range.{Span}
use Rattle.pp_traffic.specs.Life.{closes}
use Rattle.pp_promises.specs.Batches.{Batch, is_pending, is_in, is_full, committed_with, after_commit, after_put, is_due, after_puts, after_read}
use Rattle.pp_terms.specs.format.Traffic.{LinkState}
use Rattle.pp_avail.specs.declared.ranker.Rank.{Rank}
use Rattle.pp_outside.specs.declared.link.Address.{Address}
use Rattle.pp_outside.specs.declared.link.Event.{Event}
use Rattle.pp_outside.specs.declared.link.Event.TheVariants as events
use Rattle.pp_requests.specs.declared.asking.Asking.{Asking}
use Rattle.pp_lives.specs.declared.arriving.Arrival.{Arrival}
use Rattle.pp_lives.specs.declared.arriving.Arrival.TheVariants as arrivals
use Rattle.pp_store.specs.declared.admitting.Put.{Put}
use Rattle.pp_store.specs.declared.admitting.Put.TheVariants.{Stored, Held, Missing, Wrong, Length}
use Rattle.pp_store.specs.Store.{is_committed}
use Rattle.pp_holding.specs.Queue.{QueueState}
use Rattle.pp_holding.specs.Holding.{HoldingState, batch_from, batch_of, AreTied}
use Rattle.pp_holding.specs.Answers.{stored_by}
use Rattle.pp_wanting.specs.Wants.{WantState}
use Rattle.pp_fetching.specs.Fetching.{FetchState, without_request}
use Rattle.pp_lives.specs.declared.lives.Far.{Far}
use Rattle.pp_peer.specs.declared.parts.Parts.{Parts}
use Rattle.pp_peer.specs.declared.dialling.Dial.{Dial}
use Rattle.pp_peer.specs.declared.speaking.Speaker.{Speaker}
use Rattle.pp_peer.specs.Flushing.{Scene}
use Rattle.pp_peer.specs.Greeting.{IsGreeted, wanted_of, Releases}
use Rattle.pp_peer.specs.Messages.{is_proven_in, claims_in, ticket_of, Offers, GivesBackOf, Heeds, TakesOther, got_of, Puts, TakesData, Does, InTurn, before_close, ReadsAll}
use Rattle.pp_peer.specs.Taking.{read_at}
use Rattle.pp_peer.specs.Events.{HearsProven, HearsArrival, TakesDatagram, TakesEvent, Absorbs}
use Rattle.pp_peer.specs.Dialling.{DialsAll}
use Rattle.pp_peer.specs.Slotting.{GrantsInTurn, TurnsLongest, TurnsNone, TurnsSlots}
use Rattle.pp_peer.specs.Speaking.{SetsBack, SetsBackTo, PicksFrom, SettlesIn, SpeaksTo}
use Rattle.pp_peer.specs.Sending.{SendsAll}
use Rattle.pp_peer.proofs.Dialled.{all_dialling}
use Rattle.pp_core.specs.Peers.{PeerState}
use Rattle.pp_core.specs.Opening.{WantsIf, HasBegun}
use Rattle.pp_core.specs.Turning.{without_tickets}
use Rattle.pp_core.specs.Having.{HasJust, HasHeld}
use Rattle.pp_core.proofs.Rounds.{IsStepwise, turns_kept}

-- ---- the sets

-- which chunks are had; nothing of a peer that doesn't fetch
abbrev pub had_of : Option FetchState → Option (List Bool)
had_of None = None
had_of (Some f) = Some f.want.had

-- They are just those of a batch.
abbrev HasAll : Option (List Bool) → Batch → Type 0
HasAll None b = Unit {0}
HasAll (Some had) b = HasJust had b

has_all : (o : Option FetchState) (b : Batch) → ((f : FetchState) → o ≡ Some f → HasJust f.want.had b) → HasAll (had_of o) b
has_all None b h = tt
has_all (Some f) b h = h f refl

of_all : (o : Option FetchState) (b : Batch) → HasAll (had_of o) b → (f : FetchState) → o ≡ Some f → HasJust f.want.had b
of_all o b h f e = subst (λ (x : Option FetchState). HasAll (had_of x) b) e h

-- ---- what is pending is committed

is_committed_then : (b : Batch) (i : ℕ) → i < length b.committed → is_in (after_commit b) i ≡ is_in b i
is_committed_then b i lt = or-false (slice_index_or (committed_with b) i false)
    ∙ get_or-map-range_with_len (is_in b) 0 (length b.committed) i i false lt (omega arith)

just_committed : (had : List Bool) (b : Batch) → HasJust had b → HasJust had (after_commit b)
just_committed had b h = record {
  size = h.size ∙ sym (length-map-range_with_len (is_in b) 0 (length b.committed));
  each = λ i lt. h.each i lt ∙ sym (is_committed_then b i (let size = h.size in omega (arith, lt, size)));
}

just_maybe : (due : Bool) (had : List Bool) (b : Batch) → HasJust had b → HasJust had (cond due (after_commit b) b)
just_maybe true had b h = just_committed had b h
just_maybe false had b h = h

all_read : (is_quiet : Bool) (now : ℕ) (o : Option (List Bool)) (b : Batch) → HasAll o b → HasAll o (after_read is_quiet now b)
all_read is_quiet now None b h = tt
all_read is_quiet now (Some had) b h = just_maybe (is_due is_quiet now b) had b h

-- ---- one chunk more

or_swap : (c p : Bool) → (c || (true || p)) ≡ true
or_swap true p = refl
or_swap false p = refl

-- with one more that is pending
abbrev with_put : (chunk now : ℕ) → Batch → Batch
with_put chunk now b = record { committed = b.committed; pending = record { chunk = chunk; put_at = now } ∷ b.pending }

just_one : (chunk now : ℕ) (had : List Bool) (b : Batch) → HasJust had b → HasJust (set had chunk true) (with_put chunk now b)
just_one chunk now had b h = record {
  size = length-set had chunk true ∙ h.size;
  each = λ i lt. at i (let same = length-set had chunk true in omega (arith, lt, same)) (cases_eq i chunk);
}
  where
    apart : (i : ℕ) → (i ≡ chunk → ⊥) → eqb chunk i ≡ false
    apart i ne = ⊎_elim (λ e. absurd (ne (sym (eqb-true chunk i e)))) (λ e. e) (cases_Bool (eqb chunk i))

    at : (i : ℕ) → i < length had → (i ≡ chunk) ⊎ (i ≡ chunk → ⊥) → slice_index_or (set had chunk true) i false ≡ is_in (with_put chunk now b) i
    at i lt (inl here) = ap (λ (k : ℕ). slice_index_or (set had chunk true) k false) here
        ∙ get_or-set_same had chunk true false (omega (arith, lt, here))
        ∙ sym (ap (λ (x : Bool). slice_index_or b.committed i false || (x || is_pending b i)) (eq-eqb chunk i (sym here))
        ∙ or_swap (slice_index_or b.committed i false) (is_pending b i))
    at i lt (inr ne) = get_or-set_other had chunk i true false ne ∙ h.each i lt
        ∙ sym (ap (λ (x : Bool). slice_index_or b.committed i false || (x || is_pending b i)) (apart i ne))

just_put : (chunk now : ℕ) (had : List Bool) (b : Batch) → HasJust had b → HasJust (set had chunk true) (after_put chunk now b)
just_put chunk now had b h = just_maybe (is_full (with_put chunk now b)) (set had chunk true) (with_put chunk now b) (just_one chunk now had b h)

all_put : (put : Put) (chunk now : ℕ) (o : Option FetchState) (b : Batch) → HasAll (had_of o) b
    → HasAll (had_of (got_of put chunk o)) (after_puts (stored_by put chunk) now b)
all_put Stored chunk now None b h = tt
all_put Stored chunk now (Some f) b h = just_put chunk now f.want.had b h
all_put Held chunk now o b h = h
all_put (Missing node) chunk now o b h = h
all_put (Wrong node found kept) chunk now o b h = h
all_put (Length found want) chunk now o b h = h

-- ---- what a message does

-- What is had is held in these parts.
abbrev Has : Parts → Type 0
Has p = HasAll (had_of p.fetching) (batch_of p.holding)

-- Nothing more is had or held.
pub record KeepsHad (old new : Parts) : Type 0 where
  pub had : had_of new.fetching ≡ had_of old.fetching
  pub holding : new.holding ≡ old.holding

had_same : (old new : Parts) → KeepsHad old new → Has old → Has new
had_same old new k h =
    subst (λ (x : HoldingState). HasAll (had_of new.fetching) (batch_of x)) (sym k.holding)
    (subst (λ (x : Option (List Bool)). HasAll x (batch_of old.holding)) (sym k.had) h)

had_on : (mid new : Parts) (fetching : Option FetchState) → new.fetching ≡ mid.fetching → new.holding ≡ mid.holding → KeepsHad mid new
had_on mid new fetching f h = record { had = ap had_of f; holding = h }

offers_had : (seat : ℕ) (range : Option Span) (old new : Option FetchState) → Offers seat range old new → had_of new ≡ had_of old
offers_had seat None old new h = ap had_of h
offers_had seat (Some range) None new h = ap had_of h
offers_had seat (Some range) (Some old) new h = ap had_of h.1 ∙ ap (λ (f : FetchState). Some f.want.had) h.2.rest

gives_had : (own : List Asking) (old new : Option FetchState) → GivesBackOf own old new → had_of new ≡ had_of old
gives_had own None new h = ap had_of h
gives_had own (Some old) new h = ap had_of h.1 ∙ ap (λ (f : FetchState). Some f.want.had) h.2.rest

releases_had : (seat : ℕ) (own : List Asking) (old new : Option FetchState) → Releases seat own old new → had_of new ≡ had_of old
releases_had seat own None new h = ap had_of h
releases_had seat own (Some old) new h = ap had_of h.1 ∙ ap (λ (xs : List Bool). Some xs) h.2.had

waits_had : (was : Bool) (chunk : ℕ) (o : Option FetchState) → had_of (cond was (option_map (without_request chunk) o) o) ≡ had_of o
waits_had true chunk None = refl
waits_had true chunk (Some f) = refl
waits_had false chunk o = refl

had_none : (old new : Parts) → new ≡ old → KeepsHad old new
had_none old new e = record { had = ap (λ (p : Parts). had_of p.fetching) e; holding = ap (λ (p : Parts). p.holding) e }

heeds_had : (seat : ℕ) (m : Message) (old new : Parts) → Heeds seat m old new → KeepsHad old new
heeds_had seat (plain.Have span) old new h =
    record { had = offers_had seat _ old.fetching new.fetching h.0; holding = ap (λ (p : Parts). p.holding) h.1 }
heeds_had seat plain.Choke old new h = record { had = gives_had _ old.fetching new.fetching h.0; holding = ap (λ (p : Parts). p.holding) h.1 }
heeds_had seat plain.PexReq old new h = record { had = ap (λ (p : Parts). had_of p.fetching) h; holding = ap (λ (p : Parts). p.holding) h }
heeds_had seat (plain.Pex4 address port) old new h =
    record { had = ap (λ (p : Parts). had_of p.fetching) h; holding = ap (λ (p : Parts). p.holding) h }
heeds_had seat (plain.Pex6 address port) old new h =
    record { had = ap (λ (p : Parts). had_of p.fetching) h; holding = ap (λ (p : Parts). p.holding) h }
heeds_had seat (plain.Handshake source options) old new h = had_none old new h
heeds_had seat (plain.Data i sent_at bytes) old new h = had_none old new h
heeds_had seat (plain.Ack span delay) old new h = had_none old new h
heeds_had seat (plain.Integrity span digest) old new h = had_none old new h
heeds_had seat (plain.Request span) old new h = had_none old new h
heeds_had seat (plain.Cancel span) old new h = had_none old new h
heeds_had seat plain.Unchoke old new h = had_none old new h

other_has : (seat : ℕ) (m : Message) (old new : Parts) → TakesOther seat m old new → Has old → Has new
other_has seat m old new t h =
    had_same t.mid new (record { had = ap (λ (p : Parts). had_of p.fetching) t.rest; holding = ap (λ (p : Parts). p.holding) t.rest })
    (had_same old t.mid (heeds_had seat m old t.mid t.heeds) h)

data_has : (seat chunk sent_at : ℕ) (bytes : List ℕ) (old new : Parts) → TakesData seat chunk sent_at bytes old new → Has old → Has new
data_has seat chunk sent_at bytes old new t h = ⊎_elim
    (λ (lt : chunk < chunks_of t.mid.holding.store.descriptor). ⊎_elim
    (λ proven. puts (t.judged lt proven)) (λ no. had_same t.mid new (had_none t.mid new (t.unproven lt no)) middle)
    (cases_Bool (is_proven_in (slice_get t.mid.seats.seats seat))))
    (λ (le : chunks_of t.mid.holding.store.descriptor ≤ chunk). had_same t.mid new
    (record { had = ap (λ (p : Parts). had_of p.fetching) (t.outside le); holding = ap (λ (p : Parts). p.holding) (t.outside le) }) middle)
    (cases_lt chunk (chunks_of t.mid.holding.store.descriptor))
  where
    middle : Has t.mid
    middle = had_same old t.mid (record {
      had = ap (λ (p : Parts). had_of p.fetching) t.ends.rest ∙ waits_had t.ends.was chunk old.fetching;
      holding = ap (λ (p : Parts). p.holding) t.ends.rest;
    }) h

    puts : Puts (ticket_of seat chunk sent_at t.mid.seats.moment) bytes (claims_in (slice_get t.mid.seats.seats seat)) t.mid new → Has new
    puts p = subst (λ (b : Batch). HasAll (had_of new.fetching) b) (sym p.batch)
        (subst (λ (o : Option FetchState). HasAll (had_of o) (after_puts (stored_by p.put chunk) t.mid.seats.moment (batch_of t.mid.holding)))
        (sym (ap (λ (x : Parts). x.fetching) p.rest))
        (all_put p.put chunk t.mid.seats.moment t.mid.fetching (batch_of t.mid.holding) middle))

does_has : (seat : ℕ) (m : Message) (old new : Parts) → Does seat m old new → Has old → Has new
does_has seat (plain.Data i sent_at bytes) old new d h = data_has seat i sent_at bytes old new d h
does_has seat (plain.Have span) old new d h = other_has seat (plain.Have span) old new d h
does_has seat plain.Choke old new d h = other_has seat plain.Choke old new d h
does_has seat plain.PexReq old new d h = other_has seat plain.PexReq old new d h
does_has seat (plain.Pex4 address port) old new d h = other_has seat (plain.Pex4 address port) old new d h
does_has seat (plain.Pex6 address port) old new d h = other_has seat (plain.Pex6 address port) old new d h
does_has seat (plain.Handshake source options) old new d h = other_has seat (plain.Handshake source options) old new d h
does_has seat (plain.Ack span delay) old new d h = other_has seat (plain.Ack span delay) old new d h
does_has seat (plain.Integrity span digest) old new d h = other_has seat (plain.Integrity span digest) old new d h
does_has seat (plain.Request span) old new d h = other_has seat (plain.Request span) old new d h
does_has seat (plain.Cancel span) old new d h = other_has seat (plain.Cancel span) old new d h
does_has seat plain.Unchoke old new d h = other_has seat plain.Unchoke old new d h

turn_has : (seat : ℕ) (ms : List Message) (old new : Parts) → InTurn seat ms old new → Has old → Has new
turn_has seat [] old new t h = had_same old new (had_none old new t) h
turn_has seat (m ∷ ms) old new t h = turn_has seat ms t.0 new t.2 (does_has seat m old t.0 t.1 h)

reads_has : (seat : ℕ) (d : Descriptor) (bytes : List ℕ) (start : ℕ) (old new : Parts) → ReadsAll seat d bytes start old new → Has old → Has new
reads_has seat d bytes start old new r h = ⊎_elim
    (λ shut. let c = r.shuts shut in had_same r.mid new
    (record { had = releases_had seat _ r.mid.fetching new.fetching c.releases; holding = ap (λ (p : Parts). p.holding) c.rest }) middle)
    (λ stays. had_same r.mid new
    (record { had = ap (λ (p : Parts). had_of p.fetching) (r.stays stays); holding = ap (λ (p : Parts). p.holding) (r.stays stays) }) middle)
    (cases_Bool (closes (read_at d bytes start)))
  where
    middle : Has r.mid
    middle = turn_has seat (before_close (read_at d bytes start)) old r.mid r.in_turn h

proven_has : (sender : Address) (bare : Bool) (seat : ℕ) (bytes : List ℕ) (old new : Parts) → HearsProven sender bare seat bytes old new → Has old
    → Has new
proven_has sender bare seat bytes old new p h =
    reads_has seat p.mid.seats.descriptor bytes 4 p.mid new p.reads
    (had_same old p.mid (record { had = ap (λ (x : Parts). had_of x.fetching) p.hears.rest; holding = ap (λ (x : Parts). x.holding) p.hears.rest }) h)

arrival_has : (a : Arrival) (sender : Address) (bytes : List ℕ) (slot : Bool) (old new : Parts) → HearsArrival a sender bytes slot old new → Has old
    → Has new
arrival_has (arrivals.Opened seat next) sender bytes slot old new r h = reads_has seat old.seats.descriptor bytes next _ new r h
arrival_has (arrivals.Replied seat) sender bytes slot old new r h = proven_has sender false seat bytes _ new r h
arrival_has (arrivals.Heard seat) sender bytes slot old new r h = proven_has sender _ seat bytes old new r h
arrival_has arrivals.Short sender bytes slot old new r h = had_same old new (had_none old new r) h
arrival_has arrivals.NoGreeting sender bytes slot old new r h = had_same old new (had_none old new r) h
arrival_has arrivals.Unwelcome sender bytes slot old new r h = had_same old new (had_none old new r) h
arrival_has arrivals.Unseated sender bytes slot old new r h = had_same old new (had_none old new r) h
arrival_has (arrivals.Again seat) sender bytes slot old new r h = had_same old new (had_none old new r) h
arrival_has (arrivals.Late seat) sender bytes slot old new r h = had_same old new (had_none old new r) h
arrival_has arrivals.NoChannel sender bytes slot old new r h = had_same old new (had_none old new r) h
arrival_has (arrivals.NoReply seat) sender bytes slot old new r h = had_same old new (had_none old new r) h
arrival_has (arrivals.Cut seat) sender bytes slot old new r h = had_same old new (had_none old new r) h
arrival_has (arrivals.Differs seat) sender bytes slot old new r h = had_same old new (had_none old new r) h
arrival_has (arrivals.Given seat) sender bytes slot old new r h = had_same old new (had_none old new r) h

datagram_has : (sender : Address) (bytes : List ℕ) (at : ℕ) (old new : Parts) → TakesDatagram sender bytes at old new → Has old → Has new
datagram_has sender bytes at old new t h =
    arrival_has t.arrival sender bytes t.slot t.mid new t.hears
    (had_same old t.mid (record { had = ap (λ (p : Parts). had_of p.fetching) t.rest; holding = ap (λ (p : Parts). p.holding) t.rest }) h)

event_has : (e : Event) (bytes : List ℕ) (old new : Parts) → TakesEvent e bytes old new → Has old → Has new
event_has (events.Datagram sender len at) bytes old new t h = datagram_has sender bytes at _ new t h
event_has (events.Quiet at) bytes old new t h =
    had_same old new (record { had = ap (λ (p : Parts). had_of p.fetching) t; holding = ap (λ (p : Parts). p.holding) t }) h

-- An event leaves what is had what is held.
pub absorbs_held : (e : Event) (bytes : List ℕ) (old new : Parts) → Absorbs e bytes old new → HasHeld old → HasHeld new
absorbs_held e bytes old new a h =
    of_all new.fetching (batch_of new.holding)
    (subst (λ (b : Batch). HasAll (had_of new.fetching) b) (sym a.batch)
    (all_read _ a.mid.seats.moment (had_of new.fetching) (batch_of a.mid.holding)
    (subst (λ (o : Option FetchState). HasAll (had_of o) (batch_of a.mid.holding)) (sym (ap (λ (p : Parts). p.fetching) a.rest))
    (event_has e bytes old a.mid a.takes (has_all old.fetching (batch_of old.holding) h)))))

-- Where nothing more is had or held, so it stays.
pub keeps_held : (old new : Parts) → had_of new.fetching ≡ had_of old.fetching → batch_of new.holding ≡ batch_of old.holding → HasHeld old
    → HasHeld new
keeps_held old new had batch h =
    of_all new.fetching (batch_of new.holding)
    (subst (λ (b : Batch). HasAll (had_of new.fetching) b) (sym batch)
    (subst (λ (o : Option (List Bool)). HasAll o (batch_of old.holding)) (sym had) (has_all old.fetching (batch_of old.holding) h)))

-- ---- a flush

pub wanted_had : (a b : Option FetchState) → wanted_of a ≡ wanted_of b → had_of a ≡ had_of b
wanted_had a b e = sym (by a) ∙ ap (λ (o : Option WantState). option_map (λ (w : WantState). w.had) o) e ∙ by b
  where
    by : (o : Option FetchState) → option_map (λ (w : WantState). w.had) (wanted_of o) ≡ had_of o
    by None = refl
    by (Some f) = refl

-- The same chunks are had.
abbrev pub SameHad : Parts → Parts → Type 0
SameHad old new = had_of new.fetching ≡ had_of old.fetching

picks_had : (may : Bool) (order : Rank) (seat room : ℕ) (picks : List Span) (old new : Option FetchState)
    → PicksFrom may order seat room picks old new
    → had_of new ≡ had_of old
picks_had true order seat room picks (Some old) new p = ap had_of p.1 ∙ ap (λ (f : FetchState). Some f.want.had) p.3.rest
picks_had true order seat room picks None new p = ap had_of p.1
picks_had false order seat room picks old new p = ap had_of p.1

settles_had : (own : List Asking) (picks cancels : List Span) (old new : Option FetchState) → SettlesIn own picks cancels old new
    → had_of new ≡ had_of old
settles_had own picks cancels None new h = ap had_of h
settles_had own picks cancels (Some old) new h = ap had_of h.1 ∙ ap (λ (f : FetchState). Some f.want.had) h.2.rest

same_had : (old new : Parts) → new.fetching ≡ old.fetching → SameHad old new
same_had old new e = ap had_of e

greets_had : (seat moment : ℕ) (sent : Bool) (old new : Parts) (link later : LinkState) → IsGreeted seat moment sent old new link later
    → SameHad old new
greets_had seat moment true old new link later g = same_had old new (ap (λ (p : Parts). p.fetching) g.rest)
greets_had seat moment false old new link later (inl r) = same_had old new (ap (λ (p : Parts). p.fetching) r.rest)
greets_had seat moment false old new link later (inr n) = same_had old new (ap (λ (p : Parts). p.fetching) n.same)

back_had : (seat : ℕ) (greets : Bool) (news : List Span) (old new : Parts) → SetsBack seat greets news old new → SameHad old new
back_had seat greets news old new s = of s.known.proven greets news s.sets
  where
    of : (is_proven does : Bool) (xs : List Span) → SetsBackTo is_proven does xs seat old new → SameHad old new
    of true does xs h = same_had old new (ap (λ (p : Parts). p.fetching) h)
    of false true xs h = same_had old new (ap (λ (p : Parts). p.fetching) h.1)
    of false false [] h = same_had old new (ap (λ (p : Parts). p.fetching) h)
    of false false (x ∷ xs) h = same_had old new (ap (λ (p : Parts). p.fetching) h.1)

speaks_had : (seat : ℕ) (far : Far) (greets : Bool) (refused : ℕ) (speaker left : Speaker) (old new : Scene)
    → SpeaksTo (record { seat = seat; far = far; greets = greets }) refused speaker left old new
    → SameHad old.parts new.parts
speaks_had seat far greets refused speaker left old new s =
    settles_had _ s.picks s.cancels s.said.fetching new.parts.fetching s.settles.settles
    ∙ ap (λ (p : Parts). had_of p.fetching) s.says.rest
    ∙ picks_had _ speaker.order seat s.are_picked.room s.picks old.parts.fetching s.picked.fetching s.are_picked.picks_from

pub had_kept : IsStepwise SameHad
had_kept = record {
  none = λ p. refl;
  twice = λ a b c one two. two ∙ one;
  greets = greets_had;
  back = back_had;
  speaks = speaks_had;
  attends = λ seat turn old new a. same_had old new (ap (λ (p : Parts). p.fetching) a.keeps.rest);
}

grants_fetching : (seats : List ℕ) (old new : Parts) → GrantsInTurn seats old new → new.fetching ≡ old.fetching
grants_fetching [] old new g = ap (λ (p : Parts). p.fetching) g.0
grants_fetching (seat ∷ seats) old new g = grants_fetching seats g.0 new g.2 ∙ ap (λ (p : Parts). p.fetching) g.1.rest

pub slots_fetching : (old new : Parts) → TurnsSlots old new → new.fetching ≡ old.fetching
slots_fetching old new t = grants_fetching t.grants.0 t.mid new t.grants.1 ∙ first t.turned
  where
    first : TurnsLongest old t.mid ⊎ TurnsNone old t.mid → t.mid.fetching ≡ old.fetching
    first (inl l) = ap (λ (p : Parts). p.fetching) l.rest
    first (inr n) = ap (λ (p : Parts). p.fetching) n.same

pub dials_fetching : (dials lefts : List Dial) (a b : Scene) → DialsAll dials lefts a b → b.parts.fetching ≡ a.parts.fetching
dials_fetching dials lefts a b d = ap (λ (p : Parts). p.fetching) (all_dialling dials lefts a d.0 b d.1 d.2).only

pub sends_had : (dials lefts : List Dial) (speaker left : Speaker) (refused : ℕ) (a b : Scene) → SendsAll dials lefts speaker left refused a b
    → SameHad a.parts b.parts
sends_had dials lefts speaker left refused a b s =
    ap (λ (p : Parts). had_of p.fetching) s.only
    ∙ turns_kept SameHad had_kept 64 s.unsaid s.speaks.gathered left (record s.dialled { parts = s.turned }) s.said s.speaks.turns
    ∙ ap had_of (slots_fetching s.dialled.parts s.turned s.turns)
    ∙ ap had_of (dials_fetching dials lefts (record a { parts = s.given }) s.dialled s.dials_all)
    ∙ wanted_had s.given.fetching s.dropped.fetching s.gives_up.wanted
    ∙ wanted_had s.dropped.fetching a.parts.fetching s.drops.wanted

pub flush_held : (dials lefts : List Dial) (speaker left : Speaker) (refused : ℕ) (a b : Scene) (new : Parts)
    → SendsAll dials lefts speaker left refused a b
    → b.parts.holding ≡ a.parts.holding → new ≡ without_tickets b.parts → HasHeld a.parts → HasHeld new
flush_held dials lefts speaker left refused a b new s holding is =
    keeps_held a.parts new (ap (λ (p : Parts). had_of p.fetching) is ∙ sends_had dials lefts speaker left refused a b s)
    (ap (λ (p : Parts). batch_of p.holding) is ∙ ap batch_of holding)

-- ---- a peer that begins

-- Nothing is pending yet.
pub begun_held : (d : Descriptor) (random : List ℕ) (asks : Option Rank) (dial : List Address) (p : PeerState) → HasBegun d random asks dial p
    → AreTied p.parts.holding
    → HasHeld p.parts
begun_held d random asks dial p h tied f e = of asks h.fetching
  where
    none : (i : ℕ) → is_committed p.parts.holding.store i ≡ is_in (batch_of p.parts.holding) i
    none i = sym (or-false (is_committed p.parts.holding.store i))
        ∙ ap (λ (q : QueueState). is_in (batch_from p.parts.holding.store q.waiting) i) (sym h.holding.empty)

    of : (o : Option Rank) → WantsIf (chunks_of d) (is_committed p.parts.holding.store) o p.parts.fetching
        → HasJust f.want.had (batch_of p.parts.holding)
    of None w = let x : None ≡ Some f = sym w ∙ e in absurd cc
    of (Some order) w = subst (λ (g : FetchState). HasJust g.want.had (batch_of p.parts.holding)) (same_Some w.0 f (sym w.1 ∙ e)) (record {
      size = w.2.size ∙ ap chunks_of (sym h.holding.descriptor) ∙ sym tied.waits.committed_size;
      each = λ i lt. w.2.had_are i ∙ none i;
    })
