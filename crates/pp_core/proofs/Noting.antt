-- What a datagram's messages leave of the offers, and that each HAVE among them is noted.
use Rattle.std.proofs.Common.{◌≡◌, ◌≢◌, ⊎_elim, ℕ, ◌<◌, ◌≤◌, eqb, Bool, true, false, cond, not, ◌&&◌, Option, Some, None, option_map, List, [], ◌∷◌, ◌++◌, length, refl, sym, ◌∙◌, ap, subst, arith}
use Rattle.std.specs.Prelude.{is_some, slice_get}
use Rattle.std.specs.List.{list_any}
use Rattle.std.proofs.lemmas.Bool.{false≢true, both_ways, cases_Bool, cases_eq, cases_lt, eq-eqb, ne_eqb, and_from, or_cases, or_left, or_right}
use Rattle.std.proofs.lemmas.Option.{same_Some}
use Rattle.std.proofs.lemmas.List.{length-set}
use Rattle.pp_terms.specs.format.Descriptor.{Descriptor, chunks_of}
use Rattle.pp_terms.specs.format.Messages.{Message, Have, Pex4, PexReq, Choke, Pex6}
use Rattle.pp_terms.specs.tree.Range.{Span, within}
use Rattle.pp_traffic.specs.Life.{closes}
use Rattle.pp_promises.specs.OwnSide.{has_in}
use Rattle.pp_requests.specs.declared.asking.Asking.{Asking}
use Rattle.pp_avail.specs.Offers as offers
use Rattle.pp_store.specs.declared.admitting.Put.{Put}
use Rattle.pp_store.specs.declared.admitting.Put.TheVariants.{Stored, Held, Missing, Wrong, Length}
use Rattle.pp_channels.specs.Seats.{Seats, channel_at, closed, after_drop}
use Rattle.pp_channels.specs.declared.channel.Channel.{Channel}
use Rattle.pp_fetching.specs.Fetching.{FetchState, without_request}
use Rattle.pp_seat.specs.Lines.{inside}
use Rattle.pp_seat.proofs.Spans.{part_of, part_within, out_within}
use Rattle.pp_seats.specs.Standing.{SeatsState}
use Rattle.pp_peer.specs.declared.parts.Parts.{Parts}
use Rattle.pp_peer.specs.Greeting.{Releases, offers_of}
use Rattle.pp_peer.specs.Messages.{is_proven_in, OffersIn, Offers, GivesBackOf, Heeds, TakesOther, got_of, TakesData, Does, InTurn, before_close, ReadsAll}
use Rattle.pp_peer.specs.Standing.{size_of}
use Rattle.pp_peer.specs.Taking.{read_at}
use Rattle.pp_core.proofs.Before.{drop_in}
use Rattle.pp_core.proofs.Fars.{set_free}
use Rattle.pp_core.proofs.Paths.{data_or_other}
use Rattle.pp_core.proofs.Proven.{front_heard}
use Rattle.pp_core.proofs.Staying.{AllCame, came_same, came_twice, came_on, came_closed}

-- ---- offers that grow

-- What is fetched stays of its size, and no seat offers less.
pub record OffersGrow (o p : Option FetchState) : Type 0 where
  pub size : size_of p ≡ size_of o
  pub each : (seat i : ℕ) → offers_of o seat i ≡ true → offers_of p seat i ≡ true

grow_same : (o p : Option FetchState) → p ≡ o → OffersGrow o p
grow_same o p same = subst (λ (x : Option FetchState). OffersGrow o x) (sym same) (record { size = refl; each = λ seat i is. is })

grow_twice : (a b c : Option FetchState) → OffersGrow a b → OffersGrow b c → OffersGrow a c
grow_twice a b c one two = record { size = two.size ∙ one.size; each = λ seat i is. two.each seat i (one.each seat i is) }

-- where a peer fetches, it goes on
pub size_some : (o p : Option FetchState) → size_of p ≡ size_of o → is_some p ≡ is_some o
size_some None None e = refl
size_some None (Some f) e = absurd cc
size_some (Some f) None e = absurd cc
size_some (Some f) (Some g) e = refl

-- ---- a HAVE

offers_in : (seat : ℕ) (range : Span) (f left : FetchState) → OffersIn seat range f left → OffersGrow (Some f) (Some left)
offers_in seat range f left o = record {
  size = ap (λ (x : FetchState). Some (length x.want.had)) o.rest;
  each = λ s i is. ⊎_elim
      (λ (within_it : range.last < length f.want.had).
      o.seats within_it s i ∙ or_left (offers.has f.offers s i) (eqb s seat && within range i) is)
      (λ (out : length f.want.had ≤ range.last). ap (λ (x : FetchState). offers.has x.offers s i) (o.outside out) ∙ is)
      (cases_lt range.last (length f.want.had));
}

have_grows : (seat : ℕ) (o : Option Span) (old new : Option FetchState) → Offers seat o old new → OffersGrow old new
have_grows seat None old new h = grow_same old new h
have_grows seat (Some range) None new h = grow_same None new h
have_grows seat (Some range) (Some f) new h =
    subst (λ (x : Option FetchState). OffersGrow (Some f) x) (sym h.1) (offers_in seat range f h.0 h.2)

-- Each chunk of the content that a HAVE names is noted.
have_noted : (chunks seat : ℕ) (span : Span) (o : Option Span) (old new : Option FetchState) → inside chunks span ≡ o → Offers seat o old new
    → size_of old ≡ Some chunks → (i : ℕ) → i < chunks → within span i ≡ true → offers_of new seat i ≡ true
have_noted chunks seat span None old new cut h size i low is = absurd (both_ways (within span i) (out_within chunks span i cut low) is)
have_noted chunks seat span (Some range) None new cut h size i low is = absurd cc
have_noted chunks seat span (Some range) (Some f) new cut h size i low is =
    let part = part_of chunks span range cut in
    let many : length f.want.had ≡ chunks = same_Some (length f.want.had) chunks size in
    let last = part.last in
    let below : range.last < length f.want.had = omega (arith, many, last, low) in
    ap (λ (x : Option FetchState). offers_of x seat i) h.1 ∙ h.2.seats below seat i
    ∙ or_right (offers.has f.offers seat i) (eqb seat seat && within range i)
    (and_from (eqb seat seat) (within range i) (eq-eqb seat seat refl) (part_within chunks span range i part low ∙ is))

-- ---- other messages

back_grows : (own : List Asking) (old new : Option FetchState) → GivesBackOf own old new → OffersGrow old new
back_grows own None new h = grow_same None new h
back_grows own (Some f) new h = subst (λ (x : Option FetchState). OffersGrow (Some f) x) (sym h.1)
    (subst (λ (x : FetchState). OffersGrow (Some f) (Some x)) (sym h.2.rest) (record { size = refl; each = λ seat i is. is }))

-- What of a peer the offers depend on.
pub record Grows (old new : Parts) : Type 0 where
  pub offers : OffersGrow old.fetching new.fetching
  pub swarm : new.holding.store.descriptor ≡ old.holding.store.descriptor
  pub table : new.seats.table ≡ old.seats.table

grows_none : (old new : Parts) → new.fetching ≡ old.fetching → new.holding.store.descriptor ≡ old.holding.store.descriptor
    → new.seats.table ≡ old.seats.table → Grows old new
grows_none old new fetching swarm table =
    record { offers = grow_same old.fetching new.fetching fetching; swarm = swarm; table = table }

pub grows_same : (old new : Parts) → new ≡ old → Grows old new
grows_same old new same = grows_none old new (ap (λ (p : Parts). p.fetching) same) (ap (λ (p : Parts). p.holding.store.descriptor) same)
    (ap (λ (p : Parts). p.seats.table) same)

pub grows_twice : (a b c : Parts) → Grows a b → Grows b c → Grows a c
grows_twice a b c one two = record {
  offers = grow_twice a.fetching b.fetching c.fetching one.offers two.offers;
  swarm = two.swarm ∙ one.swarm;
  table = two.table ∙ one.table;
}

heeds_grow : (seat : ℕ) (m : Message) (old mid : Parts) → Heeds seat m old mid → Grows old mid
heeds_grow seat (Have span) old mid h = record {
  offers = have_grows seat (inside (chunks_of old.holding.store.descriptor) span) old.fetching mid.fetching h.0;
  swarm = ap (λ (p : Parts). p.holding.store.descriptor) h.1;
  table = ap (λ (p : Parts). p.seats.table) h.1;
}
heeds_grow seat Choke old mid h = record {
  offers = back_grows _ old.fetching mid.fetching h.0;
  swarm = ap (λ (p : Parts). p.holding.store.descriptor) h.1;
  table = ap (λ (p : Parts). p.seats.table) h.1;
}
heeds_grow seat PexReq old mid h =
    grows_none old mid (ap (λ (p : Parts). p.fetching) h) (ap (λ (p : Parts). p.holding.store.descriptor) h) (ap (λ (p : Parts). p.seats.table) h)
heeds_grow seat (Pex4 address port) old mid h =
    grows_none old mid (ap (λ (p : Parts). p.fetching) h) (ap (λ (p : Parts). p.holding.store.descriptor) h) (ap (λ (p : Parts). p.seats.table) h)
heeds_grow seat (Pex6 address port) old mid h =
    grows_none old mid (ap (λ (p : Parts). p.fetching) h) (ap (λ (p : Parts). p.holding.store.descriptor) h) (ap (λ (p : Parts). p.seats.table) h)
heeds_grow seat _ old mid h = grows_same old mid h

other_rest : (seat : ℕ) (m : Message) (old new : Parts) → (t : TakesOther seat m old new) → Grows t.mid new
other_rest seat m old new t =
    grows_none t.mid new (ap (λ (p : Parts). p.fetching) t.rest) (ap (λ (p : Parts). p.holding.store.descriptor) t.rest)
    (ap (λ (x : SeatsState). x.table) t.heard.is)

other_grows : (seat : ℕ) (m : Message) (old new : Parts) → TakesOther seat m old new → Grows old new
other_grows seat m old new t = grows_twice old t.mid new (heeds_grow seat m old t.mid t.heeds) (other_rest seat m old new t)

mapped_grows : (f : FetchState → FetchState) → ((s : FetchState) → OffersGrow (Some s) (Some (f s))) → (o : Option FetchState)
    → OffersGrow o (option_map f o)
mapped_grows f each None = grow_same None None refl
mapped_grows f each (Some s) = each s

got_grows : (put : Put) (i : ℕ) (o : Option FetchState) → OffersGrow o (got_of put i o)
got_grows Stored i o = mapped_grows _ (λ s. record { size = ap (λ (n : ℕ). Some n) (length-set s.want.had i true); each = λ seat k is. is }) o
got_grows Held i o = grow_same o o refl
got_grows (Missing node) i o = grow_same o o refl
got_grows (Wrong node found kept) i o = grow_same o o refl
got_grows (Length found want) i o = grow_same o o refl

waited_grows : (was : Bool) (chunk : ℕ) (o : Option FetchState) → OffersGrow o (cond was (option_map (without_request chunk) o) o)
waited_grows true chunk o = mapped_grows (without_request chunk) (λ s. record { size = refl; each = λ seat i is. is }) o
waited_grows false chunk o = grow_same o o refl

data_grows : (seat chunk sent_at : ℕ) (bytes : List ℕ) (old new : Parts) → TakesData seat chunk sent_at bytes old new → Grows old new
data_grows seat chunk sent_at bytes old new t = grows_twice old t.mid new first (⊎_elim
    (λ (lt : chunk < chunks_of t.mid.holding.store.descriptor). ⊎_elim
    (λ proven.
    let puts = t.judged lt proven in
    record {
      offers = subst (λ (x : Option FetchState). OffersGrow t.mid.fetching x) (sym (ap (λ (p : Parts). p.fetching) puts.rest))
          (got_grows puts.put chunk t.mid.fetching);
      swarm = puts.swarm;
      table = ap (λ (p : Parts). p.seats.table) puts.rest;
    })
    (λ unproven. grows_same t.mid new (t.unproven lt unproven))
    (cases_Bool (is_proven_in (slice_get t.mid.seats.seats seat))))
    (λ (le : chunks_of t.mid.holding.store.descriptor ≤ chunk).
    grows_none t.mid new (ap (λ (p : Parts). p.fetching) (t.outside le)) (ap (λ (p : Parts). p.holding.store.descriptor) (t.outside le))
    (ap (λ (p : Parts). p.seats.table) (t.outside le)))
    (cases_lt chunk (chunks_of t.mid.holding.store.descriptor)))
  where
    first : Grows old t.mid
    first = record {
      offers = subst (λ (x : Option FetchState). OffersGrow old.fetching x) (sym (ap (λ (p : Parts). p.fetching) t.ends.rest))
          (waited_grows t.ends.was chunk old.fetching);
      swarm = ap (λ (p : Parts). p.holding.store.descriptor) t.ends.rest;
      table = ap (λ (x : SeatsState). x.table) t.ends.answered.is;
    }

does_grow : (seat : ℕ) (m : Message) (old new : Parts) → Does seat m old new → Grows old new
does_grow seat m old new does = data_or_other (Grows old new) seat m old new does
    (λ chunk sent_at bytes t. data_grows seat chunk sent_at bytes old new t)
    (λ t. other_grows seat m old new t)

-- ---- all messages of a datagram

turn_grows : (seat : ℕ) (ms : List Message) (old new : Parts) → InTurn seat ms old new → Grows old new
turn_grows seat [] old new t = grows_same old new t
turn_grows seat (m ∷ ms) old new t = grows_twice old t.0 new (does_grow seat m old t.0 t.1) (turn_grows seat ms t.0 new t.2)

-- The peer fetches a content of so many chunks.
pub record IsFetching (chunks : ℕ) (p : Parts) : Type 0 where
  pub size : size_of p.fetching ≡ Some chunks
  pub swarm : chunks_of p.holding.store.descriptor ≡ chunks

pub fetching_on : (chunks : ℕ) (old new : Parts) → Grows old new → IsFetching chunks old → IsFetching chunks new
fetching_on chunks old new g f = record { size = g.offers.size ∙ f.size; swarm = ap chunks_of g.swarm ∙ f.swarm }

one_noted : (chunks seat i : ℕ) (m : Message) (old new : Parts) → Does seat m old new → IsFetching chunks old → i < chunks → has_in i m ≡ true
    → offers_of new.fetching seat i ≡ true
one_noted chunks seat i (Have span) old new does f low is =
    (other_rest seat (Have span) old new does).offers.each seat i
    (have_noted chunks seat span (inside (chunks_of old.holding.store.descriptor) span) old.fetching does.mid.fetching
    (ap (λ (n : ℕ). inside n span) (sym f.swarm)) does.heeds.0 f.size i low is)
one_noted chunks seat i m old new does f low is = absurd (false≢true is)

-- Each chunk that one of the messages offers is noted.
pub turn_noted : (chunks seat i : ℕ) (ms : List Message) (old new : Parts) → InTurn seat ms old new → IsFetching chunks old → i < chunks
    → list_any (has_in i) ms ≡ true → offers_of new.fetching seat i ≡ true
turn_noted chunks seat i [] old new t f low is = absurd (false≢true is)
turn_noted chunks seat i (m ∷ ms) old new t f low is = ⊎_elim
    (λ here. (turn_grows seat ms t.0 new t.2).offers.each seat i (one_noted chunks seat i m old t.0 t.1 f low here))
    (λ behind. turn_noted chunks seat i ms t.0 new t.2 (fetching_on chunks old t.0 (does_grow seat m old t.0 t.1) f) low behind)
    (or_cases (has_in i m) (list_any (has_in i) ms) is)

-- ---- a datagram's messages, up to one that closes

-- The peer goes on fetching, and each seat that has a channel offers what it offered.
pub record GrowsOn (old new : Parts) : Type 0 where
  pub size : size_of new.fetching ≡ size_of old.fetching
  pub came : AllCame old.seats.table new.seats.table
  pub each : (seat i : ℕ) (c : Channel) → channel_at new.seats.table seat ≡ Some c → offers_of old.fetching seat i ≡ true
      → offers_of new.fetching seat i ≡ true

pub grows_on : (old new : Parts) → Grows old new → GrowsOn old new
grows_on old new g = record {
  size = g.offers.size;
  came = came_same old.seats.table new.seats.table g.table;
  each = λ seat i c there is. g.offers.each seat i is;
}

pub on_same : (old mid new : Parts) → mid.fetching ≡ old.fetching → mid.seats.table ≡ old.seats.table → GrowsOn mid new → GrowsOn old new
on_same old mid new fetching table g = record {
  size = g.size ∙ ap size_of fetching;
  came = subst (λ (t : Seats). AllCame t new.seats.table) table g.came;
  each = λ seat i c there is. g.each seat i c there (ap (λ (o : Option FetchState). offers_of o seat i) fetching ∙ is);
}

released : (seat : ℕ) (own : List Asking) (old new : Option FetchState) → Releases seat own old new → (other i : ℕ) → other ≢ seat
    → offers_of old other i ≡ true → offers_of new other i ≡ true
released seat own None new r other i ne is = absurd (false≢true is)
released seat own (Some f) new r other i ne is =
    ap (λ (o : Option FetchState). offers_of o other i) r.1 ∙ r.2.offers other i
    ∙ and_from (not (eqb other seat)) (offers.has f.offers other i) (ap not (ne_eqb other seat ne)) is

released_size : (seat : ℕ) (own : List Asking) (old new : Option FetchState) → Releases seat own old new → size_of new ≡ size_of old
released_size seat own None new r = ap size_of r
released_size seat own (Some f) new r = ap size_of r.1 ∙ ap (λ (xs : List Bool). Some (length xs)) r.2.had

closed_none : (t : Seats) (k : ℕ) → channel_at (closed t k) k ≡ None
closed_none t k = drop_in (channel_at t k) _ k ∙ ap (after_drop (channel_at t k)) (set_free t.channels k)

pub reads_grow : (seat : ℕ) (d : Descriptor) (bytes : List ℕ) (start : ℕ) (old new : Parts) → ReadsAll seat d bytes start old new → GrowsOn old new
reads_grow seat d bytes start old new r = ⊎_elim
    (λ shut.
    let c = r.shuts shut in
    record {
      size = released_size seat _ r.mid.fetching new.fetching c.releases ∙ turn.offers.size;
      came = came_twice old.seats.table r.mid.seats.table new.seats.table (came_same old.seats.table r.mid.seats.table turn.table)
          (came_on r.mid.seats.table (closed r.mid.seats.table seat) new.seats.table (ap (λ (x : SeatsState). x.table) c.forgets.is)
          (came_closed r.mid.seats.table seat));
      each = λ other i e there is. ⊎_elim
          (λ (here : other ≡ seat).
          let gone : channel_at new.seats.table seat ≡ None = ap (λ (x : SeatsState). channel_at x.table seat) c.forgets.is
          ∙ closed_none r.mid.seats.table seat in
          let x : None ≡ Some e = sym gone ∙ ap (λ (n : ℕ). channel_at new.seats.table n) (sym here) ∙ there in absurd cc)
          (λ (ne : other ≢ seat). released seat _ r.mid.fetching new.fetching c.releases other i ne (turn.offers.each other i is))
          (cases_eq other seat);
    })
    (λ stays. grows_on old new (grows_twice old r.mid new turn
    (grows_none r.mid new (ap (λ (p : Parts). p.fetching) (r.stays stays)) (ap (λ (p : Parts). p.holding.store.descriptor) (r.stays stays))
    (ap (λ (p : Parts). p.seats.table) (r.stays stays)))))
    (cases_Bool (closes (read_at d bytes start)))
  where
    turn : Grows old r.mid
    turn = turn_grows seat (before_close (read_at d bytes start)) old r.mid r.in_turn

append_none : (ms : List Message) → ms ++ [] ≡ ms
append_none [] = refl
append_none (m ∷ ms) = ap (λ (xs : List Message). m ∷ xs) (append_none ms)

-- those that close nothing are all heard
pub all_heard : (ms : List Message) → closes ms ≡ false → before_close ms ≡ ms
all_heard ms e = ap before_close (sym (append_none ms)) ∙ front_heard ms [] e ∙ append_none ms

-- Where the channel is there afterwards, each chunk that one of the messages offers is noted.
pub reads_noted : (chunks seat i : ℕ) (d : Descriptor) (bytes : List ℕ) (start : ℕ) (old new : Parts) → ReadsAll seat d bytes start old new
    → IsFetching chunks old → i < chunks → (c : Channel) → channel_at new.seats.table seat ≡ Some c
    → list_any (has_in i) (read_at d bytes start) ≡ true → offers_of new.fetching seat i ≡ true
reads_noted chunks seat i d bytes start old new r f low c there is = ⊎_elim
    (λ shut.
    let x : None ≡ Some c = sym (ap (λ (x : SeatsState). channel_at x.table seat) (r.shuts shut).forgets.is
    ∙ closed_none r.mid.seats.table seat) ∙ there in absurd cc)
    (λ stays. ap (λ (p : Parts). offers_of p.fetching seat i) (r.stays stays)
    ∙ turn_noted chunks seat i (before_close (read_at d bytes start)) old r.mid r.in_turn f low
    (ap (list_any (has_in i)) (all_heard (read_at d bytes start) stays) ∙ is))
    (cases_Bool (closes (read_at d bytes start)))
