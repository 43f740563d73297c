-- A peer that doesn't fetch goes on so, whatever comes.
use Rattle.std.proofs.Common.{◌≡◌, ℕ, Bool, true, false, if◌then◌else◌, Option, Some, None, List, [], ◌∷◌, refl, ◌∙◌, ap, ⊎_elim}
use Rattle.std.specs.Prelude.{option_map, slice_get}
use Rattle.std.proofs.lemmas.Bool.{cases_Bool, cases_lt}
use Rattle.pp_terms.specs.format.Descriptor.{Descriptor, chunks_of}
use Rattle.pp_terms.specs.format.Messages.{Message, Handshake, Data, Ack, Have, Integrity, Pex4, PexReq, Request, Cancel, Choke, Unchoke, Pex6}
use Rattle.pp_terms.specs.tree.Range.{Span}
use Rattle.pp_traffic.specs.Life.{closes}
use Rattle.pp_requests.specs.declared.asking.Asking.{Asking}
use Rattle.pp_outside.specs.declared.link.Address.{Address}
use Rattle.pp_outside.specs.declared.link.Event.{Event}
use Rattle.pp_outside.specs.declared.link.Event.TheVariants.{Datagram, Quiet}
use Rattle.pp_store.specs.declared.admitting.Put.{Put}
use Rattle.pp_store.specs.declared.admitting.Put.TheVariants.{Stored, Held, Missing, Wrong, Length}
use Rattle.pp_lives.specs.declared.arriving.Arrival.{Arrival}
use Rattle.pp_lives.specs.declared.arriving.Arrival.TheVariants as arrivals
use Rattle.pp_fetching.specs.Fetching.{FetchState, without_request}
use Rattle.pp_seat.specs.Lines.{inside}
use Rattle.pp_peer.specs.declared.parts.Parts.{Parts}
use Rattle.pp_peer.specs.Greeting.{Releases}
use Rattle.pp_peer.specs.Standing.{own_in}
use Rattle.pp_peer.specs.Taking.{read_at}
use Rattle.pp_peer.specs.Messages.{Offers, GivesBackOf, Heeds, TakesOther, got_of, TakesData, is_proven_in, Does, InTurn, before_close, ReadsAll}
use Rattle.pp_peer.specs.Events.{HearsProven, HearsArrival, TakesEvent, Absorbs}

abbrev pub IsIdle : Parts → Type 0
IsIdle p = p.fetching ≡ None

same_idle : (old new : Parts) → new.fetching ≡ old.fetching → IsIdle old → IsIdle new
same_idle old new same idle = same ∙ idle

offers_idle : (seat : ℕ) (range : Option Span) (old new : Option FetchState) → old ≡ None → Offers seat range old new → new ≡ None
offers_idle seat None old new idle same = same ∙ idle
offers_idle seat (Some range) None new idle is = is
offers_idle seat (Some range) (Some f) new idle is = absurd (let never : Some f ≡ None = idle in cc)

gives_idle : (own : List Asking) (old new : Option FetchState) → old ≡ None → GivesBackOf own old new → new ≡ None
gives_idle own None new idle is = is
gives_idle own (Some f) new idle is = absurd (let never : Some f ≡ None = idle in cc)

releases_idle : (seat : ℕ) (own : List Asking) (old new : Option FetchState) → old ≡ None → Releases seat own old new → new ≡ None
releases_idle seat own None new idle is = is
releases_idle seat own (Some f) new idle is = absurd (let never : Some f ≡ None = idle in cc)

got_idle : (put : Put) (i : ℕ) (old : Option FetchState) → old ≡ None → got_of put i old ≡ None
got_idle put i (Some f) idle = absurd (let never : Some f ≡ None = idle in cc)
got_idle Stored i None idle = refl
got_idle Held i None idle = refl
got_idle (Missing node) i None idle = refl
got_idle (Wrong node found kept) i None idle = refl
got_idle (Length found want) i None idle = refl

heeds_idle : (seat : ℕ) (m : Message) (old new : Parts) → IsIdle old → Heeds seat m old new → IsIdle new
heeds_idle seat (Have span) old new idle is =
    offers_idle seat (inside (chunks_of old.holding.store.descriptor) span) old.fetching new.fetching idle is.0
heeds_idle seat Choke old new idle is = gives_idle (own_in old.seats.seats seat) old.fetching new.fetching idle is.0
heeds_idle seat PexReq old new idle is = ap (λ (p : Parts). p.fetching) is ∙ idle
heeds_idle seat (Pex4 address port) old new idle is = ap (λ (p : Parts). p.fetching) is ∙ idle
heeds_idle seat (Pex6 address port) old new idle is = ap (λ (p : Parts). p.fetching) is ∙ idle
heeds_idle seat (Handshake source options) old new idle is = ap (λ (p : Parts). p.fetching) is ∙ idle
heeds_idle seat (Data chunk sent_at bytes) old new idle is = ap (λ (p : Parts). p.fetching) is ∙ idle
heeds_idle seat (Ack span delay) old new idle is = ap (λ (p : Parts). p.fetching) is ∙ idle
heeds_idle seat (Integrity span digest) old new idle is = ap (λ (p : Parts). p.fetching) is ∙ idle
heeds_idle seat (Request span) old new idle is = ap (λ (p : Parts). p.fetching) is ∙ idle
heeds_idle seat (Cancel span) old new idle is = ap (λ (p : Parts). p.fetching) is ∙ idle
heeds_idle seat Unchoke old new idle is = ap (λ (p : Parts). p.fetching) is ∙ idle

other_idle : (seat : ℕ) (m : Message) (old new : Parts) → IsIdle old → TakesOther seat m old new → IsIdle new
other_idle seat m old new idle t = ap (λ (p : Parts). p.fetching) t.rest ∙ heeds_idle seat m old t.mid idle t.heeds

ends_idle : (was : Bool) (chunk : ℕ) (old : Option FetchState) → old ≡ None
    → (if was then option_map (without_request chunk) old else old) ≡ None
ends_idle was chunk (Some f) idle = absurd (let never : Some f ≡ None = idle in cc)
ends_idle true chunk None idle = refl
ends_idle false chunk None idle = refl

data_idle : (seat chunk sent_at : ℕ) (bytes : List ℕ) (old new : Parts) → IsIdle old → TakesData seat chunk sent_at bytes old new → IsIdle new
data_idle seat chunk sent_at bytes old new idle t =
    ⊎_elim
    (λ within. ⊎_elim
    (λ proven. let p = t.judged within proven in ap (λ (p : Parts). p.fetching) p.rest ∙ got_idle p.put chunk t.mid.fetching mid_idle)
    (λ unproven. ap (λ (p : Parts). p.fetching) (t.unproven within unproven) ∙ mid_idle)
    (cases_Bool (is_proven_in (slice_get t.mid.seats.seats seat))))
    (λ beyond. ap (λ (p : Parts). p.fetching) (t.outside beyond) ∙ mid_idle)
    (cases_lt chunk (chunks_of t.mid.holding.store.descriptor))
  where
    mid_idle : IsIdle t.mid
    mid_idle = ap (λ (p : Parts). p.fetching) t.ends.rest ∙ ends_idle t.ends.was chunk old.fetching idle

does_idle : (seat : ℕ) (m : Message) (old new : Parts) → IsIdle old → Does seat m old new → IsIdle new
does_idle seat (Data chunk sent_at bytes) old new idle is = data_idle seat chunk sent_at bytes old new idle is
does_idle seat (Have span) old new idle is = other_idle seat (Have span) old new idle is
does_idle seat Choke old new idle is = other_idle seat Choke old new idle is
does_idle seat PexReq old new idle is = other_idle seat PexReq old new idle is
does_idle seat (Pex4 address port) old new idle is = other_idle seat (Pex4 address port) old new idle is
does_idle seat (Pex6 address port) old new idle is = other_idle seat (Pex6 address port) old new idle is
does_idle seat (Handshake source options) old new idle is = other_idle seat (Handshake source options) old new idle is
does_idle seat (Ack span delay) old new idle is = other_idle seat (Ack span delay) old new idle is
does_idle seat (Integrity span digest) old new idle is = other_idle seat (Integrity span digest) old new idle is
does_idle seat (Request span) old new idle is = other_idle seat (Request span) old new idle is
does_idle seat (Cancel span) old new idle is = other_idle seat (Cancel span) old new idle is
does_idle seat Unchoke old new idle is = other_idle seat Unchoke old new idle is

in_turn_idle : (seat : ℕ) (ms : List Message) (old new : Parts) → IsIdle old → InTurn seat ms old new → IsIdle new
in_turn_idle seat [] old new idle is = ap (λ (p : Parts). p.fetching) is ∙ idle
in_turn_idle seat (m ∷ ms) old new idle is = in_turn_idle seat ms is.0 new (does_idle seat m old is.0 idle is.1) is.2

reads_idle : (seat : ℕ) (d : Descriptor) (bytes : List ℕ) (start : ℕ) (old new : Parts) → IsIdle old → ReadsAll seat d bytes start old new → IsIdle new
reads_idle seat d bytes start old new idle r =
    ⊎_elim
    (λ shut. let c = r.shuts shut in releases_idle seat (own_in r.mid.seats.seats seat) r.mid.fetching new.fetching mid_idle c.releases)
    (λ stays. ap (λ (p : Parts). p.fetching) (r.stays stays) ∙ mid_idle)
    (cases_Bool (closes (read_at d bytes start)))
  where
    mid_idle : IsIdle r.mid
    mid_idle = in_turn_idle seat (before_close (read_at d bytes start)) old r.mid idle r.in_turn

proven_idle : (sender : Address) (bare : Bool) (seat : ℕ) (bytes : List ℕ) (old new : Parts) → IsIdle old → HearsProven sender bare seat bytes old new → IsIdle new
proven_idle sender bare seat bytes old new idle h =
    reads_idle seat h.mid.seats.descriptor bytes 4 h.mid new (ap (λ (p : Parts). p.fetching) h.hears.rest ∙ idle) h.reads

arrival_idle : (arrival : Arrival) (sender : Address) (bytes : List ℕ) (slot : Bool) (old new : Parts) → IsIdle old
    → HearsArrival arrival sender bytes slot old new → IsIdle new
arrival_idle (arrivals.Opened seat next) sender bytes slot old new idle is = reads_idle seat _ bytes next _ new idle is
arrival_idle (arrivals.Replied seat) sender bytes slot old new idle is = proven_idle sender false seat bytes _ new idle is
arrival_idle (arrivals.Heard seat) sender bytes slot old new idle is = proven_idle sender _ seat bytes old new idle is
arrival_idle arrivals.Short sender bytes slot old new idle is = ap (λ (p : Parts). p.fetching) is ∙ idle
arrival_idle arrivals.NoGreeting sender bytes slot old new idle is = ap (λ (p : Parts). p.fetching) is ∙ idle
arrival_idle arrivals.Unwelcome sender bytes slot old new idle is = ap (λ (p : Parts). p.fetching) is ∙ idle
arrival_idle (arrivals.Again seat) sender bytes slot old new idle is = ap (λ (p : Parts). p.fetching) is ∙ idle
arrival_idle (arrivals.Late seat) sender bytes slot old new idle is = ap (λ (p : Parts). p.fetching) is ∙ idle
arrival_idle arrivals.Unseated sender bytes slot old new idle is = ap (λ (p : Parts). p.fetching) is ∙ idle
arrival_idle arrivals.NoChannel sender bytes slot old new idle is = ap (λ (p : Parts). p.fetching) is ∙ idle
arrival_idle (arrivals.NoReply seat) sender bytes slot old new idle is = ap (λ (p : Parts). p.fetching) is ∙ idle
arrival_idle (arrivals.Cut seat) sender bytes slot old new idle is = ap (λ (p : Parts). p.fetching) is ∙ idle
arrival_idle (arrivals.Differs seat) sender bytes slot old new idle is = ap (λ (p : Parts). p.fetching) is ∙ idle
arrival_idle (arrivals.Given seat) sender bytes slot old new idle is = ap (λ (p : Parts). p.fetching) is ∙ idle

event_idle : (event : Event) (bytes : List ℕ) (old new : Parts) → IsIdle old → TakesEvent event bytes old new → IsIdle new
event_idle (Datagram sender len at) bytes old new idle is =
    arrival_idle is.arrival sender bytes is.slot is.mid new (ap (λ (p : Parts). p.fetching) is.rest ∙ idle) is.hears
event_idle (Quiet at) bytes old new idle is = ap (λ (p : Parts). p.fetching) is ∙ idle

pub absorbs_idle : (event : Event) (bytes : List ℕ) (old new : Parts) → Absorbs event bytes old new → old.fetching ≡ None → new.fetching ≡ None
absorbs_idle event bytes old new a idle = ap (λ (p : Parts). p.fetching) a.rest ∙ event_idle event bytes old a.mid idle a.takes
