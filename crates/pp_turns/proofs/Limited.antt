-- What comes does the same to a peer that asks for chunks below another number: the number is read by a flush alone.
use Rattle.std.proofs.Common.{◌≡◌, ℕ, Bool, true, false, if◌then◌else◌, Option, Some, None, List, [], ◌∷◌, refl, ◌∙◌, ap}
use Rattle.std.specs.Prelude.{option_map}
use Rattle.pp_terms.specs.format.Descriptor.{Descriptor}
use Rattle.pp_terms.specs.format.Messages as plain
use Rattle.pp_terms.specs.format.Messages.{Message}
use Rattle.pp_terms.specs.tree.Claims.{Claim}
use Rattle.pp_terms.specs.tree.Range.{Span}
use Rattle.pp_outside.specs.declared.link.Address.{Address}
use Rattle.pp_outside.specs.declared.link.Event.{Event}
use Rattle.pp_outside.specs.declared.link.Event.TheVariants as events
use Rattle.pp_requests.specs.declared.asking.Asking.{Asking}
use Rattle.pp_lives.specs.declared.arriving.Arrival.{Arrival}
use Rattle.pp_lives.specs.declared.arriving.Arrival.TheVariants as arrivals
use Rattle.pp_holding.specs.declared.queue.Ticket.{Ticket}
use Rattle.pp_store.specs.declared.admitting.Put.{Put}
use Rattle.pp_store.specs.declared.admitting.Put.TheVariants.{Stored, Held, Missing, Wrong, Length}
use Rattle.pp_fetching.specs.Fetching.{FetchState, without_request}
use Rattle.pp_peer.specs.declared.parts.Parts.{Parts}
use Rattle.pp_counts.specs.Counts.{after_note}
use Rattle.pp_peer.specs.Taking.{note_of}
use Rattle.pp_peer.specs.Greeting.{Releases}
use Rattle.pp_peer.specs.Messages.{Offers, GivesBackOf, Heeds, TakesOther, got_of, Puts, TakesData, Does, InTurn, Shuts, ReadsAll}
use Rattle.pp_peer.specs.Events.{HearsProven, HearsArrival, TakesEvent, Absorbs}
use Rattle.pp_core.specs.Turning.{limited, with_limit}

module _ (limit : ℕ) where
  -- what is fetched, with another limit
  abbrev relimited : FetchState → FetchState
  relimited f = record f { want = record f.want { limit = limit } }

  -- ---- what a message does

  offers_to : (seat : ℕ) (range : Option Span) (old new : Option FetchState) → Offers seat range old new → Offers seat range (limited limit old) (limited limit new)
  offers_to seat None old new is = ap (limited limit) is
  offers_to seat (Some range) None new is = ap (limited limit) is
  offers_to seat (Some range) (Some old) new (left, is, offers) = (
    relimited left,
    ap (limited limit) is,
    record {
      rest = ap relimited offers.rest;
      chunks = offers.chunks;
      outside = λ far. ap relimited (offers.outside far);
      seats = offers.seats;
      deeds = offers.deeds;
    },
  )

  gives_to : (own : List Asking) (old new : Option FetchState) → GivesBackOf own old new → GivesBackOf own (limited limit old) (limited limit new)
  gives_to own None new is = ap (limited limit) is
  gives_to own (Some old) new (left, is, gives) = (relimited left, ap (limited limit) is, record { asked = gives.asked; rest = ap relimited gives.rest })

  releases_to : (seat : ℕ) (own : List Asking) (old new : Option FetchState) → Releases seat own old new → Releases seat own (limited limit old) (limited limit new)
  releases_to seat own None new is = ap (limited limit) is
  releases_to seat own (Some old) new (left, is, releases) =
      (relimited left, ap (limited limit) is, record { had = releases.had; limit = refl; asked = releases.asked; offers = releases.offers })

  waits_to : (was : Bool) (chunk : ℕ) (o : Option FetchState)
      → limited limit (if was then option_map (without_request chunk) o else o) ≡ (if was then option_map (without_request chunk) (limited limit o) else limited limit o)
  waits_to true chunk None = refl
  waits_to true chunk (Some f) = refl
  waits_to false chunk o = refl

  got_to : (put : Put) (chunk : ℕ) (o : Option FetchState) → limited limit (got_of put chunk o) ≡ got_of put chunk (limited limit o)
  got_to Stored chunk None = refl
  got_to Stored chunk (Some f) = refl
  got_to Held chunk o = refl
  got_to (Missing node) chunk o = refl
  got_to (Wrong node found kept) chunk o = refl
  got_to (Length found want) chunk o = refl

  heeds_to : (seat : ℕ) (m : Message) (old new : Parts) → Heeds seat m old new → Heeds seat m (with_limit limit old) (with_limit limit new)
  heeds_to seat (plain.Have span) old new h = (offers_to seat _ old.fetching new.fetching h.0, ap (with_limit limit) h.1)
  heeds_to seat plain.Choke old new h = (gives_to _ old.fetching new.fetching h.0, ap (with_limit limit) h.1)
  heeds_to seat plain.PexReq old new h = ap (with_limit limit) h
  heeds_to seat (plain.Pex4 address port) old new h = ap (with_limit limit) h
  heeds_to seat (plain.Pex6 address port) old new h = ap (with_limit limit) h
  heeds_to seat (plain.Handshake source options) old new h = ap (with_limit limit) h
  heeds_to seat (plain.Data i sent_at bytes) old new h = ap (with_limit limit) h
  heeds_to seat (plain.Ack span delay) old new h = ap (with_limit limit) h
  heeds_to seat (plain.Integrity span digest) old new h = ap (with_limit limit) h
  heeds_to seat (plain.Request span) old new h = ap (with_limit limit) h
  heeds_to seat (plain.Cancel span) old new h = ap (with_limit limit) h
  heeds_to seat plain.Unchoke old new h = ap (with_limit limit) h

  other_to : (seat : ℕ) (m : Message) (old new : Parts) → TakesOther seat m old new → TakesOther seat m (with_limit limit old) (with_limit limit new)
  other_to seat m old new t = record {
    mid = with_limit limit t.mid;
    heeds = heeds_to seat m old t.mid t.heeds;
    noted = t.noted;
    heard = t.heard;
    rest = ap (with_limit limit) t.rest;
  }

  puts_to : (ticket : Ticket) (bytes : List ℕ) (claims : List Claim) (old new : Parts) → Puts ticket bytes claims old new
      → Puts ticket bytes claims (with_limit limit old) (with_limit limit new)
  puts_to ticket bytes claims old new p = record {
    put = p.put;
    answer = p.answer;
    batch = p.batch;
    queue = p.queue;
    learned = p.learned;
    live = p.live;
    waits = p.waits;
    swarm = p.swarm;
    rooted = p.rooted;
    rest = ap (with_limit limit) p.rest
        ∙ ap (λ (o : Option FetchState). record old { holding = new.holding; fetching = o; counts = after_note (note_of p.put) old.counts }) (got_to p.put ticket.chunk old.fetching);
  }

  data_to : (seat chunk sent_at : ℕ) (bytes : List ℕ) (old new : Parts) → TakesData seat chunk sent_at bytes old new
      → TakesData seat chunk sent_at bytes (with_limit limit old) (with_limit limit new)
  data_to seat chunk sent_at bytes old new t = record {
    mid = with_limit limit t.mid;
    ends = record {
      was = t.ends.was;
      answered = t.ends.answered;
      rest = ap (with_limit limit) t.ends.rest ∙ ap (λ (o : Option FetchState). record old { seats = t.mid.seats; fetching = o }) (waits_to t.ends.was chunk old.fetching);
    };
    outside = λ far. ap (with_limit limit) (t.outside far);
    unproven = λ within not. ap (with_limit limit) (t.unproven within not);
    judged = λ within proven. puts_to _ bytes _ t.mid new (t.judged within proven);
  }

  does_to : (seat : ℕ) (m : Message) (old new : Parts) → Does seat m old new → Does seat m (with_limit limit old) (with_limit limit new)
  does_to seat (plain.Data i sent_at bytes) old new d = data_to seat i sent_at bytes old new d
  does_to seat (plain.Have span) old new d = other_to seat (plain.Have span) old new d
  does_to seat plain.Choke old new d = other_to seat plain.Choke old new d
  does_to seat plain.PexReq old new d = other_to seat plain.PexReq old new d
  does_to seat (plain.Pex4 address port) old new d = other_to seat (plain.Pex4 address port) old new d
  does_to seat (plain.Pex6 address port) old new d = other_to seat (plain.Pex6 address port) old new d
  does_to seat (plain.Handshake source options) old new d = other_to seat (plain.Handshake source options) old new d
  does_to seat (plain.Ack span delay) old new d = other_to seat (plain.Ack span delay) old new d
  does_to seat (plain.Integrity span digest) old new d = other_to seat (plain.Integrity span digest) old new d
  does_to seat (plain.Request span) old new d = other_to seat (plain.Request span) old new d
  does_to seat (plain.Cancel span) old new d = other_to seat (plain.Cancel span) old new d
  does_to seat plain.Unchoke old new d = other_to seat plain.Unchoke old new d

  turn_to : (seat : ℕ) (ms : List Message) (old new : Parts) → InTurn seat ms old new → InTurn seat ms (with_limit limit old) (with_limit limit new)
  turn_to seat [] old new is = ap (with_limit limit) is
  turn_to seat (m ∷ ms) old new (mid, does, more) = (with_limit limit mid, does_to seat m old mid does, turn_to seat ms mid new more)

  -- ---- a datagram

  shuts_to : (seat : ℕ) (old new : Parts) → Shuts seat old new → Shuts seat (with_limit limit old) (with_limit limit new)
  shuts_to seat old new s = record {
    forgets = s.forgets;
    releases = releases_to seat _ old.fetching new.fetching s.releases;
    rest = ap (with_limit limit) s.rest;
  }

  reads_to : (seat : ℕ) (d : Descriptor) (bytes : List ℕ) (start : ℕ) (old new : Parts) → ReadsAll seat d bytes start old new
      → ReadsAll seat d bytes start (with_limit limit old) (with_limit limit new)
  reads_to seat d bytes start old new r = record {
    mid = with_limit limit r.mid;
    in_turn = turn_to seat _ old r.mid r.in_turn;
    shuts = λ closes. shuts_to seat r.mid new (r.shuts closes);
    stays = λ goes. ap (with_limit limit) (r.stays goes);
  }

  proven_to : (sender : Address) (bare : Bool) (seat : ℕ) (bytes : List ℕ) (old new : Parts) → HearsProven sender bare seat bytes old new
      → HearsProven sender bare seat bytes (with_limit limit old) (with_limit limit new)
  proven_to sender bare seat bytes old new p = record {
    mid = with_limit limit p.mid;
    hears = record { heard = p.hears.heard; rest = ap (with_limit limit) p.hears.rest };
    reads = reads_to seat p.mid.seats.descriptor bytes 4 p.mid new p.reads;
  }

  arrival_to : (a : Arrival) (sender : Address) (bytes : List ℕ) (slot : Bool) (old new : Parts) → HearsArrival a sender bytes slot old new
      → HearsArrival a sender bytes slot (with_limit limit old) (with_limit limit new)
  arrival_to (arrivals.Opened seat next) sender bytes slot old new r = reads_to seat old.seats.descriptor bytes next _ new r
  arrival_to (arrivals.Replied seat) sender bytes slot old new r = proven_to sender false seat bytes _ new r
  arrival_to (arrivals.Heard seat) sender bytes slot old new r = proven_to sender _ seat bytes old new r
  arrival_to arrivals.Short sender bytes slot old new r = ap (with_limit limit) r
  arrival_to arrivals.NoGreeting sender bytes slot old new r = ap (with_limit limit) r
  arrival_to arrivals.Unwelcome sender bytes slot old new r = ap (with_limit limit) r
  arrival_to arrivals.Unseated sender bytes slot old new r = ap (with_limit limit) r
  arrival_to (arrivals.Again seat) sender bytes slot old new r = ap (with_limit limit) r
  arrival_to (arrivals.Late seat) sender bytes slot old new r = ap (with_limit limit) r
  arrival_to arrivals.NoChannel sender bytes slot old new r = ap (with_limit limit) r
  arrival_to (arrivals.NoReply seat) sender bytes slot old new r = ap (with_limit limit) r
  arrival_to (arrivals.Cut seat) sender bytes slot old new r = ap (with_limit limit) r
  arrival_to (arrivals.Differs seat) sender bytes slot old new r = ap (with_limit limit) r
  arrival_to (arrivals.Given seat) sender bytes slot old new r = ap (with_limit limit) r

  event_to : (event : Event) (bytes : List ℕ) (old new : Parts) → TakesEvent event bytes old new → TakesEvent event bytes (with_limit limit old) (with_limit limit new)
  event_to (events.Datagram sender len at) bytes old new t = record {
    arrival = t.arrival;
    slot = t.slot;
    free = t.free;
    mid = with_limit limit t.mid;
    moment = t.moment;
    swarm = t.swarm;
    arrives = t.arrives;
    makes = t.makes;
    rest = ap (with_limit limit) t.rest;
    hears = arrival_to t.arrival sender bytes t.slot t.mid new t.hears;
  }
  event_to (events.Quiet at) bytes old new is = ap (with_limit limit) is

  -- an event absorbed by a peer that asks below one limit is so with another
  pub absorbs_to : (event : Event) (bytes : List ℕ) (old new : Parts) → Absorbs event bytes old new → Absorbs event bytes (with_limit limit old) (with_limit limit new)
  absorbs_to event bytes old new a = record {
    mid = with_limit limit a.mid;
    takes = event_to event bytes old a.mid a.takes;
    batch = a.batch;
    queue = a.queue;
    book = a.book;
    live = a.live;
    waited = a.waited;
    waits = a.waits;
    rest = ap (with_limit limit) a.rest;
  }
