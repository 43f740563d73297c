-- Below which number chunks are asked for stays, whatever comes and goes.
use Rattle.std.proofs.Common.{◌≡◌, inl, inr, ⊎_elim, ℕ, ◌<◌, ◌≤◌, Bool, true, false, cond, Option, Some, None, List, [], ◌∷◌, Result, Ok, Err, OnOk, ◌∙◌, refl, sym, ap}
use Rattle.std.specs.Prelude.{slice_get, option_map}
use Rattle.std.proofs.lemmas.Bool.{cases_lt, cases_Bool}
use Rattle.pp_terms.specs.format.Descriptor.{Descriptor, chunks_of}
use Rattle.pp_terms.specs.format.Messages as plain
use Rattle.pp_terms.specs.format.Messages.{Message}
use Rattle.pp_terms.specs.format.Traffic.{LinkState}
use Rattle.pp_terms.specs.tree.Range.{Span}
use Rattle.pp_traffic.specs.Life.{closes}
use Rattle.pp_avail.specs.declared.ranker.Rank.{Rank}
use Rattle.pp_outside.specs.declared.link.Address.{Address}
use Rattle.pp_outside.specs.declared.link.Event.{Event}
use Rattle.pp_outside.specs.declared.link.Event.TheVariants as events
use Rattle.pp_requests.specs.declared.asking.Asking.{Asking}
use Rattle.pp_lives.specs.declared.arriving.Arrival.{Arrival}
use Rattle.pp_lives.specs.declared.arriving.Arrival.TheVariants as arrivals
use Rattle.pp_lives.specs.declared.lives.Far.{Far}
use Rattle.pp_store.specs.declared.admitting.Put.{Put}
use Rattle.pp_store.specs.declared.admitting.Put.TheVariants.{Stored, Held, Missing, Wrong, Length}
use Rattle.pp_wanting.specs.Wants.{WantState}
use Rattle.pp_fetching.specs.Fetching.{FetchState, without_request}
use Rattle.pp_peer.specs.declared.parts.Parts.{Parts}
use Rattle.pp_peer.specs.declared.dialling.Dial.{Dial}
use Rattle.pp_peer.specs.declared.speaking.Speaker.{Speaker}
use Rattle.pp_peer.specs.Flushing.{Scene}
use Rattle.pp_peer.specs.Greeting.{IsGreeted, wanted_of, Releases}
use Rattle.pp_peer.specs.Messages.{is_proven_in, Offers, GivesBackOf, Heeds, TakesOther, got_of, TakesData, Does, InTurn, before_close, ReadsAll}
use Rattle.pp_peer.specs.Taking.{read_at}
use Rattle.pp_peer.specs.Events.{HearsProven, HearsArrival, TakesEvent, Absorbs}
use Rattle.pp_peer.specs.Speaking.{SetsBack, SetsBackTo, PicksFrom, SettlesIn, SpeaksTo}
use Rattle.pp_peer.specs.Sending.{SendsAll}
use Rattle.pp_core.specs.Offering.{limit_of}
use Rattle.pp_core.proofs.Having.{slots_fetching, dials_fetching}
use Rattle.pp_core.proofs.Rounds.{IsStepwise, turns_kept}

-- The number is the same.
abbrev pub SameLimit : Parts → Parts → Type 0
SameLimit old new = limit_of new.fetching ≡ limit_of old.fetching

same_limit : (old new : Parts) → new.fetching ≡ old.fetching → SameLimit old new
same_limit old new e = ap limit_of e

-- ---- what a message does

offers_limit : (seat : ℕ) (range : Option Span) (old new : Option FetchState) → Offers seat range old new → limit_of new ≡ limit_of old
offers_limit seat None old new h = ap limit_of h
offers_limit seat (Some range) None new h = ap limit_of h
offers_limit seat (Some range) (Some old) new h = ap limit_of h.1 ∙ ap (λ (f : FetchState). Some f.want.limit) h.2.rest

gives_limit : (own : List Asking) (old new : Option FetchState) → GivesBackOf own old new → limit_of new ≡ limit_of old
gives_limit own None new h = ap limit_of h
gives_limit own (Some old) new h = ap limit_of h.1 ∙ ap (λ (f : FetchState). Some f.want.limit) h.2.rest

releases_limit : (seat : ℕ) (own : List Asking) (old new : Option FetchState) → Releases seat own old new → limit_of new ≡ limit_of old
releases_limit seat own None new h = ap limit_of h
releases_limit seat own (Some old) new h = ap limit_of h.1 ∙ ap (λ (n : ℕ). Some n) h.2.limit

waits_limit : (was : Bool) (chunk : ℕ) (o : Option FetchState) → limit_of (cond was (option_map (without_request chunk) o) o) ≡ limit_of o
waits_limit true chunk None = refl
waits_limit true chunk (Some f) = refl
waits_limit false chunk o = refl

got_limit : (put : Put) (chunk : ℕ) (o : Option FetchState) → limit_of (got_of put chunk o) ≡ limit_of o
got_limit Stored chunk None = refl
got_limit Stored chunk (Some f) = refl
got_limit Held chunk o = refl
got_limit (Missing node) chunk o = refl
got_limit (Wrong node found kept) chunk o = refl
got_limit (Length found want) chunk o = refl

heeds_limit : (seat : ℕ) (m : Message) (old new : Parts) → Heeds seat m old new → SameLimit old new
heeds_limit seat (plain.Have span) old new h = offers_limit seat _ old.fetching new.fetching h.0
heeds_limit seat plain.Choke old new h = gives_limit _ old.fetching new.fetching h.0
heeds_limit seat plain.PexReq old new h = ap (λ (p : Parts). limit_of p.fetching) h
heeds_limit seat (plain.Pex4 address port) old new h = ap (λ (p : Parts). limit_of p.fetching) h
heeds_limit seat (plain.Pex6 address port) old new h = ap (λ (p : Parts). limit_of p.fetching) h
heeds_limit seat (plain.Handshake source options) old new h = ap (λ (p : Parts). limit_of p.fetching) h
heeds_limit seat (plain.Data i sent_at bytes) old new h = ap (λ (p : Parts). limit_of p.fetching) h
heeds_limit seat (plain.Ack span delay) old new h = ap (λ (p : Parts). limit_of p.fetching) h
heeds_limit seat (plain.Integrity span digest) old new h = ap (λ (p : Parts). limit_of p.fetching) h
heeds_limit seat (plain.Request span) old new h = ap (λ (p : Parts). limit_of p.fetching) h
heeds_limit seat (plain.Cancel span) old new h = ap (λ (p : Parts). limit_of p.fetching) h
heeds_limit seat plain.Unchoke old new h = ap (λ (p : Parts). limit_of p.fetching) h

other_limit : (seat : ℕ) (m : Message) (old new : Parts) → TakesOther seat m old new → SameLimit old new
other_limit seat m old new t = ap (λ (p : Parts). limit_of p.fetching) t.rest ∙ heeds_limit seat m old t.mid t.heeds

data_limit : (seat chunk sent_at : ℕ) (bytes : List ℕ) (old new : Parts) → TakesData seat chunk sent_at bytes old new → SameLimit old new
data_limit seat chunk sent_at bytes old new t = ⊎_elim
    (λ (lt : chunk < chunks_of t.mid.holding.store.descriptor). ⊎_elim
    (λ proven. let p = t.judged lt proven in ap (λ (x : Parts). limit_of x.fetching) p.rest ∙ got_limit p.put chunk t.mid.fetching)
    (λ no. ap (λ (p : Parts). limit_of p.fetching) (t.unproven lt no))
    (cases_Bool (is_proven_in (slice_get t.mid.seats.seats seat))))
    (λ (le : chunks_of t.mid.holding.store.descriptor ≤ chunk). ap (λ (p : Parts). limit_of p.fetching) (t.outside le))
    (cases_lt chunk (chunks_of t.mid.holding.store.descriptor))
    ∙ ap (λ (p : Parts). limit_of p.fetching) t.ends.rest ∙ waits_limit t.ends.was chunk old.fetching

does_limit : (seat : ℕ) (m : Message) (old new : Parts) → Does seat m old new → SameLimit old new
does_limit seat (plain.Data i sent_at bytes) old new d = data_limit seat i sent_at bytes old new d
does_limit seat (plain.Have span) old new d = other_limit seat (plain.Have span) old new d
does_limit seat plain.Choke old new d = other_limit seat plain.Choke old new d
does_limit seat plain.PexReq old new d = other_limit seat plain.PexReq old new d
does_limit seat (plain.Pex4 address port) old new d = other_limit seat (plain.Pex4 address port) old new d
does_limit seat (plain.Pex6 address port) old new d = other_limit seat (plain.Pex6 address port) old new d
does_limit seat (plain.Handshake source options) old new d = other_limit seat (plain.Handshake source options) old new d
does_limit seat (plain.Ack span delay) old new d = other_limit seat (plain.Ack span delay) old new d
does_limit seat (plain.Integrity span digest) old new d = other_limit seat (plain.Integrity span digest) old new d
does_limit seat (plain.Request span) old new d = other_limit seat (plain.Request span) old new d
does_limit seat (plain.Cancel span) old new d = other_limit seat (plain.Cancel span) old new d
does_limit seat plain.Unchoke old new d = other_limit seat plain.Unchoke old new d

turn_limit : (seat : ℕ) (ms : List Message) (old new : Parts) → InTurn seat ms old new → SameLimit old new
turn_limit seat [] old new t = ap (λ (p : Parts). limit_of p.fetching) t
turn_limit seat (m ∷ ms) old new t = turn_limit seat ms t.0 new t.2 ∙ does_limit seat m old t.0 t.1

reads_limit : (seat : ℕ) (d : Descriptor) (bytes : List ℕ) (start : ℕ) (old new : Parts) → ReadsAll seat d bytes start old new → SameLimit old new
reads_limit seat d bytes start old new r = ⊎_elim
    (λ shut. releases_limit seat _ r.mid.fetching new.fetching (r.shuts shut).releases)
    (λ stays. ap (λ (p : Parts). limit_of p.fetching) (r.stays stays))
    (cases_Bool (closes (read_at d bytes start)))
    ∙ turn_limit seat (before_close (read_at d bytes start)) old r.mid r.in_turn

proven_limit : (sender : Address) (bare : Bool) (seat : ℕ) (bytes : List ℕ) (old new : Parts) → HearsProven sender bare seat bytes old new
    → SameLimit old new
proven_limit sender bare seat bytes old new p =
    reads_limit seat p.mid.seats.descriptor bytes 4 p.mid new p.reads ∙ ap (λ (x : Parts). limit_of x.fetching) p.hears.rest

arrival_limit : (a : Arrival) (sender : Address) (bytes : List ℕ) (slot : Bool) (old new : Parts) → HearsArrival a sender bytes slot old new
    → SameLimit old new
arrival_limit (arrivals.Opened seat next) sender bytes slot old new r = reads_limit seat old.seats.descriptor bytes next _ new r
arrival_limit (arrivals.Replied seat) sender bytes slot old new r = proven_limit sender false seat bytes _ new r
arrival_limit (arrivals.Heard seat) sender bytes slot old new r = proven_limit sender _ seat bytes old new r
arrival_limit arrivals.Short sender bytes slot old new r = ap (λ (p : Parts). limit_of p.fetching) r
arrival_limit arrivals.NoGreeting sender bytes slot old new r = ap (λ (p : Parts). limit_of p.fetching) r
arrival_limit arrivals.Unwelcome sender bytes slot old new r = ap (λ (p : Parts). limit_of p.fetching) r
arrival_limit arrivals.Unseated sender bytes slot old new r = ap (λ (p : Parts). limit_of p.fetching) r
arrival_limit (arrivals.Again seat) sender bytes slot old new r = ap (λ (p : Parts). limit_of p.fetching) r
arrival_limit (arrivals.Late seat) sender bytes slot old new r = ap (λ (p : Parts). limit_of p.fetching) r
arrival_limit arrivals.NoChannel sender bytes slot old new r = ap (λ (p : Parts). limit_of p.fetching) r
arrival_limit (arrivals.NoReply seat) sender bytes slot old new r = ap (λ (p : Parts). limit_of p.fetching) r
arrival_limit (arrivals.Cut seat) sender bytes slot old new r = ap (λ (p : Parts). limit_of p.fetching) r
arrival_limit (arrivals.Differs seat) sender bytes slot old new r = ap (λ (p : Parts). limit_of p.fetching) r
arrival_limit (arrivals.Given seat) sender bytes slot old new r = ap (λ (p : Parts). limit_of p.fetching) r

event_limit : (e : Event) (bytes : List ℕ) (old new : Parts) → TakesEvent e bytes old new → SameLimit old new
event_limit (events.Datagram sender len at) bytes old new t =
    arrival_limit t.arrival sender bytes t.slot t.mid new t.hears ∙ ap (λ (p : Parts). limit_of p.fetching) t.rest
event_limit (events.Quiet at) bytes old new t = ap (λ (p : Parts). limit_of p.fetching) t

pub absorbs_limit : (e : Event) (bytes : List ℕ) (old new : Parts) → Absorbs e bytes old new → SameLimit old new
absorbs_limit e bytes old new a = ap (λ (p : Parts). limit_of p.fetching) a.rest ∙ event_limit e bytes old a.mid a.takes

pub absorbs_on : {E : Type 0} (e : Event) (bytes : List ℕ) (old new : Parts) (result : Result (Unit {0}) E) → OnOk result (Absorbs e bytes old new)
    → OnOk result (SameLimit old new)
absorbs_on e bytes old new (Ok u) exact = absorbs_limit e bytes old new exact
absorbs_on e bytes old new (Err fault) exact = tt

-- ---- a flush

wanted_limit : (a b : Option FetchState) → wanted_of a ≡ wanted_of b → limit_of a ≡ limit_of b
wanted_limit a b e = sym (by a) ∙ ap (λ (o : Option WantState). option_map (λ (w : WantState). w.limit) o) e ∙ by b
  where
    by : (o : Option FetchState) → option_map (λ (w : WantState). w.limit) (wanted_of o) ≡ limit_of o
    by None = refl
    by (Some f) = refl

picks_limit : (may : Bool) (order : Rank) (seat room : ℕ) (picks : List Span) (old new : Option FetchState)
    → PicksFrom may order seat room picks old new
    → limit_of new ≡ limit_of old
picks_limit true order seat room picks (Some old) new p = ap limit_of p.1 ∙ ap (λ (f : FetchState). Some f.want.limit) p.3.rest
picks_limit true order seat room picks None new p = ap limit_of p.1
picks_limit false order seat room picks old new p = ap limit_of p.1

settles_limit : (own : List Asking) (picks cancels : List Span) (old new : Option FetchState) → SettlesIn own picks cancels old new
    → limit_of new ≡ limit_of old
settles_limit own picks cancels None new h = ap limit_of h
settles_limit own picks cancels (Some old) new h = ap limit_of h.1 ∙ ap (λ (f : FetchState). Some f.want.limit) h.2.rest

greets_limit : (seat moment : ℕ) (sent : Bool) (old new : Parts) (link later : LinkState) → IsGreeted seat moment sent old new link later
    → SameLimit old new
greets_limit seat moment true old new link later g = same_limit old new (ap (λ (p : Parts). p.fetching) g.rest)
greets_limit seat moment false old new link later (inl r) = same_limit old new (ap (λ (p : Parts). p.fetching) r.rest)
greets_limit seat moment false old new link later (inr n) = same_limit old new (ap (λ (p : Parts). p.fetching) n.same)

pub back_limit : (seat : ℕ) (greets : Bool) (news : List Span) (old new : Parts) → SetsBack seat greets news old new → SameLimit old new
back_limit seat greets news old new s = of s.known.proven greets news s.sets
  where
    of : (is_proven does : Bool) (xs : List Span) → SetsBackTo is_proven does xs seat old new → SameLimit old new
    of true does xs h = same_limit old new (ap (λ (p : Parts). p.fetching) h)
    of false true xs h = same_limit old new (ap (λ (p : Parts). p.fetching) h.1)
    of false false [] h = same_limit old new (ap (λ (p : Parts). p.fetching) h)
    of false false (x ∷ xs) h = same_limit old new (ap (λ (p : Parts). p.fetching) h.1)

speaks_limit : (seat : ℕ) (far : Far) (greets : Bool) (refused : ℕ) (speaker left : Speaker) (old new : Scene)
    → SpeaksTo (record { seat = seat; far = far; greets = greets }) refused speaker left old new
    → SameLimit old.parts new.parts
speaks_limit seat far greets refused speaker left old new s =
    settles_limit _ s.picks s.cancels s.said.fetching new.parts.fetching s.settles.settles
    ∙ ap (λ (p : Parts). limit_of p.fetching) s.says.rest
    ∙ picks_limit _ speaker.order seat s.are_picked.room s.picks old.parts.fetching s.picked.fetching s.are_picked.picks_from

pub limit_kept : IsStepwise SameLimit
limit_kept = record {
  none = λ p. refl;
  twice = λ a b c one two. two ∙ one;
  greets = greets_limit;
  back = back_limit;
  speaks = speaks_limit;
  attends = λ seat turn old new a. same_limit old new (ap (λ (p : Parts). p.fetching) a.keeps.rest);
}

-- up to where the seats have their turns
pub turned_limit : (dials lefts : List Dial) (speaker left : Speaker) (refused : ℕ) (a b : Scene) → (s : SendsAll dials lefts speaker left refused a b)
    → SameLimit a.parts s.turned
turned_limit dials lefts speaker left refused a b s =
    ap limit_of (slots_fetching s.dialled.parts s.turned s.turns)
    ∙ ap limit_of (dials_fetching dials lefts (record a { parts = s.given }) s.dialled s.dials_all)
    ∙ wanted_limit s.given.fetching s.dropped.fetching s.gives_up.wanted
    ∙ wanted_limit s.dropped.fetching a.parts.fetching s.drops.wanted

pub flush_limit : (dials lefts : List Dial) (speaker left : Speaker) (refused : ℕ) (a b : Scene) → SendsAll dials lefts speaker left refused a b
    → SameLimit a.parts b.parts
flush_limit dials lefts speaker left refused a b s =
    ap (λ (p : Parts). limit_of p.fetching) s.only
    ∙ turns_kept SameLimit limit_kept 64 s.unsaid s.speaks.gathered left (record s.dialled { parts = s.turned }) s.said s.speaks.turns
    ∙ turned_limit dials lefts speaker left refused a b s
