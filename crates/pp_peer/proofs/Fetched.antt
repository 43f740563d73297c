-- What is asked for is what the seats wait for, whatever comes.
use Rattle.std.proofs.Common.{◌≡◌, ◌≢◌, ⊎_elim, ℕ, zero, suc, eqb, Bool, true, false, cond, not, ◌&&◌, Option, Some, None, option_map, List, [], ◌∷◌, map, refl, sym, ◌∙◌, ap, subst}
use Rattle.std.specs.Prelude.{slice_index_or, slice_set, if◌then◌else◌}
use Rattle.std.specs.List.{slice_get}
use Rattle.std.proofs.Math.ListN.{set}
use Rattle.std.proofs.lemmas.Bool.{cases_Bool, cases_eq, eq-eqb}
use Rattle.pp_requests.specs.declared.asking.Asking.{Asking}
use Rattle.pp_requests.specs.Moments.{asked_at, Changes}
use Rattle.std.proofs.lemmas.List.{get_or-set_other}
use Rattle.pp_terms.specs.format.Descriptor.{Descriptor, chunks_of}
use Rattle.pp_outside.specs.declared.link.Address.{Address}
use Rattle.pp_channels.specs.Seats.{Seats, channel_at, closed}
use Rattle.pp_lives.specs.Arriving.{Arrives}
use Rattle.pp_lives.specs.declared.arriving.Arrival.{Arrival}
use Rattle.pp_lives.specs.declared.arriving.Arrival.TheVariants as arrivals
use Rattle.pp_lives.specs.Fars.{far_of}
use Rattle.pp_fetching.specs.Fetching.{FetchState, without_request}
use Rattle.pp_fetching.specs.Owners.{awaits, AreOwned, SameElsewhere}
use Rattle.pp_fetching.proofs.Owners.{tie_stays}
use Rattle.pp_seat.specs.Seats.{SeatState}
use Rattle.pp_seats.proofs.Lists.{get_set_there, get_set_other}
use Rattle.pp_seats.specs.Hearing.{IsAnswered, Prepares, looked_up}
use Rattle.pp_terms.specs.format.Messages.{Message, Handshake, Data, Ack, Have, Integrity, Pex4, PexReq, Request, Cancel, Choke, Unchoke, Pex6}
use Rattle.pp_terms.specs.tree.Range.{Span}
use Rattle.pp_counts.specs.declared.note.Note.{Note}
use Rattle.pp_desk.specs.Hearing.{HearsPart, HearsRequest, HearsIntegrity, Hears}
use Rattle.pp_seat.specs.Lines.{inside}
use Rattle.pp_seats.specs.Standing.{SeatsState}
use Rattle.pp_peer.specs.declared.parts.Parts.{Parts}
use Rattle.pp_peer.specs.Messages.{Offers, GivesBackOf, Heeds}
use Rattle.pp_peer.proofs.Known.{FarStays, far_map, arrives_far, opens_far, replies_far}
use Rattle.pp_peer.specs.Standing.{own_at, own_in, asked_of, Fetches}

pub own_there : (xs : List SeatState) (k : ℕ) (before after : SeatState) → slice_get xs k ≡ Some before → own_in (set xs k after) k ≡ after.own
own_there xs k before after there = ap own_at (get_set_there xs k after before there)

pub own_before : (xs : List SeatState) (k : ℕ) (before : SeatState) → slice_get xs k ≡ Some before → own_in xs k ≡ before.own
own_before xs k before there = ap own_at there

pub own_elsewhere : (xs : List SeatState) (k : ℕ) (after : SeatState) → SameElsewhere k (own_in xs) (own_in (set xs k after))
own_elsewhere xs k after other ne = ap own_at (get_set_other xs k other after ne)

-- nothing is asked for at any chunk
none_asked : (own : List Asking) → ((i : ℕ) → asked_at own i ≡ None) → own ≡ []
none_asked [] f = refl
none_asked (x ∷ own) f = absurd (none_some (sym (f x.chunk) ∙ ap (λ (b : Bool). cond b (Some x.moment) (asked_at own x.chunk)) (eqb_same x.chunk)))
  where
    eqb_same : (n : ℕ) → eqb n n ≡ true
    eqb_same n = eq-eqb n n refl

    none_some : None ≡ Some x.moment → ⊥
    none_some e = cc

-- ---- one seat's own requests change

module _ (table : Seats) (xs : List SeatState) (k : ℕ) (before after : SeatState) (asked asked' : List Bool) (there : slice_get xs k ≡ Some before) where
  abbrev Tied : List Bool → List SeatState → Type 0
  Tied asked list = AreOwned asked (own_in list) × ((n : ℕ) → far_of (channel_at table n) ≡ None → own_in list n ≡ [])

  idle_on : (before.own ≡ [] → after.own ≡ []) → ((n : ℕ) → far_of (channel_at table n) ≡ None → own_in xs n ≡ [])
      → (n : ℕ) → far_of (channel_at table n) ≡ None → own_in (set xs k after) n ≡ []
  idle_on stays idle n far = ⊎_elim
      (λ (e : n ≡ k). ap (own_in (set xs k after)) e ∙ own_there xs k before after there
      ∙ stays (sym (own_before xs k before there) ∙ ap (own_in xs) (sym e) ∙ idle n far))
      (λ ne. own_elsewhere xs k after n ne ∙ idle n far)
      (cases_eq n k)

  changed_there : (i : ℕ) (was : Bool) → IsAnswered i was before after → Changes i None (own_in xs k) (own_in (set xs k after) k)
  changed_there i was a j = ap (λ (own : List Asking). asked_at own j) (own_there xs k before after there) ∙ a.taken j
      ∙ ap (λ (own : List Asking). cond (eqb i j) None (asked_at own j)) (sym (own_before xs k before there))

  none_after : (i : ℕ) (was : Bool) → IsAnswered i was before after → before.own ≡ [] → after.own ≡ []
  none_after i was a none = none_asked after.own (λ j. a.taken j ∙ ap (λ (own : List Asking). cond (eqb i j) None (asked_at own j)) none ∙ both_none (eqb i j))
    where
      both_none : (b : Bool) → cond b None (asked_at [] 0) ≡ None
      both_none true = refl
      both_none false = refl

  -- a chunk came that was awaited there, or not
  pub answered_tied : (i : ℕ) (was : Bool) → IsAnswered i was before after → asked' ≡ (if was then slice_set asked i false else asked) → Tied asked xs → Tied asked' (set xs k after)
  answered_tied i true a e t = (
    subst (λ (bs : List Bool). AreOwned bs (own_in (set xs k after))) (sym e)
        (tie_stays.answered k i asked (own_in xs) (own_in (set xs k after)) t.0 (own_elsewhere xs k after) (changed_there i true a)
        (ap (λ (own : List Asking). awaits own i) (own_before xs k before there) ∙ sym a.waited)),
    idle_on (none_after i true a) t.1,
  )
  answered_tied i false a e t = (
    subst (λ (bs : List Bool). AreOwned bs (own_in (set xs k after))) (sym e)
        (tie_stays.unawaited k i asked (own_in xs) (own_in (set xs k after)) t.0 (own_elsewhere xs k after) (changed_there i false a)
        (ap (λ (own : List Asking). awaits own i) (own_before xs k before there) ∙ sym a.waited)),
    idle_on (none_after i false a) t.1,
  )

  -- all that was awaited there was given back
  pub dropped_tied : after.own ≡ [] → ((i : ℕ) → slice_index_or asked' i false ≡ (slice_index_or asked i false && not (awaits (own_in xs k) i)))
      → Tied asked xs → Tied asked' (set xs k after)
  dropped_tied none gone t = (
    tie_stays.dropped k asked asked' (own_in xs) (own_in (set xs k after)) t.0 (own_elsewhere xs k after) (own_there xs k before after there ∙ none) gone,
    idle_on (λ e. none) t.1,
  )

  -- nothing changes
  pub same_tied : after.own ≡ before.own → asked' ≡ asked → Tied asked xs → Tied asked' (set xs k after)
  same_tied same e t = (
    tie_stays.same asked asked' (own_in xs) (own_in (set xs k after)) t.0
        (λ n i. ap (λ (own : List Asking). awaits own i) (⊎_elim
        (λ (here : n ≡ k). ap (own_in (set xs k after)) here ∙ own_there xs k before after there ∙ same ∙ sym (own_before xs k before there) ∙ ap (own_in xs) (sym here))
        (λ ne. own_elsewhere xs k after n ne) (cases_eq n k)))
        (λ i. ap (λ (bs : List Bool). slice_index_or bs i false) e),
    idle_on (λ none. same ∙ none) t.1,
  )

-- ---- what becomes of a peer's own requests

module _ (old new : Parts) (seat : ℕ) (before after : SeatState) (there : slice_get old.seats.seats seat ≡ Some before)
    (is : new.seats ≡ record old.seats { seats = set old.seats.seats seat after }) where
  from_tied : Tied old.seats.table old.seats.seats seat before after (asked_of old.fetching) (asked_of new.fetching) there
      (asked_of new.fetching) (set old.seats.seats seat after) → Fetches new
  from_tied t = record {
    owned = subst (λ (p : SeatsState). AreOwned (asked_of new.fetching) (own_in p.seats)) (sym is) t.0;
    idle = subst (λ (p : SeatsState). (n : ℕ) → far_of (channel_at p.table n) ≡ None → own_in p.seats n ≡ []) (sym is) t.1;
  }

  pub answered_fetches : (i : ℕ) (was : Bool) → IsAnswered i was before after
      → asked_of new.fetching ≡ (if was then slice_set (asked_of old.fetching) i false else asked_of old.fetching) → Fetches old → Fetches new
  answered_fetches i was a e f = from_tied (answered_tied old.seats.table old.seats.seats seat before after (asked_of old.fetching) (asked_of new.fetching) there i was a e (f.owned, f.idle))

  pub dropped_fetches : after.own ≡ [] → ((i : ℕ) → slice_index_or (asked_of new.fetching) i false
      ≡ (slice_index_or (asked_of old.fetching) i false && not (awaits (own_in old.seats.seats seat) i))) → Fetches old → Fetches new
  dropped_fetches none gone f = from_tied (dropped_tied old.seats.table old.seats.seats seat before after (asked_of old.fetching) (asked_of new.fetching) there none gone (f.owned, f.idle))

  pub same_fetches : after.own ≡ before.own → asked_of new.fetching ≡ asked_of old.fetching → Fetches old → Fetches new
  same_fetches same e f = from_tied (same_tied old.seats.table old.seats.seats seat before after (asked_of old.fetching) (asked_of new.fetching) there same e (f.owned, f.idle))

pub asked_without : (o : Option FetchState) (chunk : ℕ) → asked_of (option_map (without_request chunk) o) ≡ slice_set (asked_of o) chunk false
asked_without None chunk = refl
asked_without (Some f) chunk = refl

-- nothing that is asked for or waited for changes
pub fetches_alike : (old new : Parts) → new.seats ≡ old.seats → asked_of new.fetching ≡ asked_of old.fetching → Fetches old → Fetches new
fetches_alike old new same e f = record {
  owned = subst (λ (p : SeatsState). AreOwned (asked_of new.fetching) (own_in p.seats)) (sym same)
      (subst (λ (bs : List Bool). AreOwned bs (own_in old.seats.seats)) (sym e) f.owned);
  idle = subst (λ (p : SeatsState). (n : ℕ) → far_of (channel_at p.table n) ≡ None → own_in p.seats n ≡ []) (sym same) f.idle;
}

-- ---- which messages end own requests

part_own : (span : Span) (hears : Span → Type 0) (o : Option Note) (old new : SeatState) → HearsPart span hears o old new
    → ((range : Span) → hears range → new.own ≡ old.own) → new.own ≡ old.own
part_own span hears o old new h f = by_part (inside old.told.chunks span) refl
  where
    by_part : (p : Option Span) → inside old.told.chunks span ≡ p → new.own ≡ old.own
    by_part None e = ap (λ (s : SeatState). s.own) (h.outside e).1
    by_part (Some range) e = f range (h.part range e)

request_own : (range : Span) (o : Option Note) (old new : SeatState) → HearsRequest range o old new → new.own ≡ old.own
request_own range o old new h = ⊎_elim
    (λ e. ⊎_elim (λ l. ap (λ (s : SeatState). s.own) l.rest) (λ f. ap (λ (s : SeatState). s.own) f.same) (h.slot e))
    (λ e. ap (λ (s : SeatState). s.own) (h.choked e).1) (cases_Bool old.slot)

integrity_own : (range : Span) (digest : List ℕ) (o : Option Note) (old new : SeatState) → HearsIntegrity range digest o old new → new.own ≡ old.own
integrity_own range digest o old new h = ⊎_elim
    (λ e. ⊎_elim (λ l. ap (λ (s : SeatState). s.own) l.exact) (λ f. ap (λ (s : SeatState). s.own) f.same) (h.proven e))
    (λ e. ap (λ (s : SeatState). s.own) (h.unproven e).1) (cases_Bool old.proven)

pub offers_asked : (seat : ℕ) (range : Option Span) (old new : Option FetchState) → Offers seat range old new → asked_of new ≡ asked_of old
offers_asked seat None old new o = ap asked_of o
offers_asked seat (Some range) None new o = ap asked_of o
offers_asked seat (Some range) (Some old) new o = ap asked_of o.1 ∙ ap (λ (f : FetchState). f.want.asked) o.2.rest

pub given_back_asked : (own : List Asking) (old new : Option FetchState) → GivesBackOf own old new
    → (i : ℕ) → slice_index_or (asked_of new) i false ≡ (slice_index_or (asked_of old) i false && not (awaits own i))
given_back_asked own None new g i = ap (λ (o : Option FetchState). slice_index_or (asked_of o) i false) g
given_back_asked own (Some old) new g i = ap (λ (o : Option FetchState). slice_index_or (asked_of o) i false) g.1 ∙ g.2.asked i

-- A message is heard on a seat, and what it means is heeded.
pub heeded_fetches : (now : ℕ) (m : Message) (o : Option Note) (old mid new : Parts) (seat : ℕ) (before after : SeatState) → slice_get old.seats.seats seat ≡ Some before
    → new.seats ≡ record old.seats { seats = set old.seats.seats seat after } → new.fetching ≡ mid.fetching
    → Hears now m o before after → Heeds seat m old mid → Fetches old → Fetches new
heeded_fetches now m o old mid new seat before after there is same h e = by_message m h e
  where
    as_mid : asked_of mid.fetching ≡ asked_of old.fetching → asked_of new.fetching ≡ asked_of old.fetching
    as_mid e = ap asked_of same ∙ e

    same_mid : mid ≡ old → asked_of mid.fetching ≡ asked_of old.fetching
    same_mid e = ap (λ (p : Parts). asked_of p.fetching) e

    stays : after.own ≡ before.own → asked_of mid.fetching ≡ asked_of old.fetching → Fetches old → Fetches new
    stays own e = same_fetches old new seat before after there is own (as_mid e)

    by_message : (m : Message) → Hears now m o before after → Heeds seat m old mid → Fetches old → Fetches new
    by_message (Handshake source options) h e = stays (ap (λ (s : SeatState). s.own) h.1) (same_mid e)
    by_message (Data chunk sent_at bytes) h e = absurd h
    by_message (Ack span delay) h e = stays (part_own span _ o before after h (λ range a. ap (λ (s : SeatState). s.own) a.rest)) (same_mid e)
    by_message (Have span) h e = stays (part_own span _ o before after h (λ range a. ap (λ (s : SeatState). s.own) a.rest))
        (offers_asked seat (inside (chunks_of old.holding.store.descriptor) span) old.fetching mid.fetching e.0)
    by_message (Integrity span digest) h e = stays (part_own span _ o before after h (λ range a. integrity_own range digest o before after a)) (same_mid e)
    by_message (Pex4 address port) h e = stays (ap (λ (s : SeatState). s.own) h.1) (ap (λ (p : Parts). asked_of p.fetching) e)
    by_message PexReq h e = stays (ap (λ (s : SeatState). s.own) h.1) (ap (λ (p : Parts). asked_of p.fetching) e)
    by_message (Request span) h e = stays (part_own span _ o before after h (λ range a. request_own range o before after a)) (same_mid e)
    by_message (Cancel span) h e = stays (part_own span _ o before after h (λ range a. ap (λ (s : SeatState). s.own) a.exact)) (same_mid e)
    by_message Choke h e = dropped_fetches old new seat before after there is (ap (λ (s : SeatState). s.own) h.1)
        (λ i. ap (λ (f : Option FetchState). slice_index_or (asked_of f) i false) same
        ∙ given_back_asked (own_in old.seats.seats seat) old.fetching mid.fetching e.0 i)
    by_message Unchoke h e = stays (ap (λ (s : SeatState). s.own) h.1) (same_mid e)
    by_message (Pex6 address port) h e = stays (ap (λ (s : SeatState). s.own) h.1) (ap (λ (p : Parts). asked_of p.fetching) e)

-- ---- a channel that is dropped

far_others : (t : Seats) (k n : ℕ) → n ≢ k → far_of (channel_at (closed t k) n) ≡ far_of (channel_at t n)
far_others t k n ne = far_map (channel_at t k) (set t.channels k None) n ∙ ap far_of (get_or-set_other t.channels k n None None ne)

pub closed_fetches : (seat : ℕ) (old new : Parts) (before : SeatState) → slice_get old.seats.seats seat ≡ Some before
    → new.seats ≡ record old.seats { table = closed old.seats.table seat; seats = set old.seats.seats seat (record before { own = [] }) }
    → ((i : ℕ) → slice_index_or (asked_of new.fetching) i false ≡ (slice_index_or (asked_of old.fetching) i false && not (awaits (own_in old.seats.seats seat) i)))
    → Fetches old → Fetches new
closed_fetches seat old new before there is gone f = record {
  owned = subst (λ (p : SeatsState). AreOwned (asked_of new.fetching) (own_in p.seats)) (sym is)
      (tie_stays.dropped seat (asked_of old.fetching) (asked_of new.fetching) (own_in old.seats.seats) (own_in list) f.owned (own_elsewhere old.seats.seats seat after) none gone);
  idle = subst (λ (p : SeatsState). (n : ℕ) → far_of (channel_at p.table n) ≡ None → own_in p.seats n ≡ []) (sym is) (λ n far. ⊎_elim
      (λ (e : n ≡ seat). ap (own_in list) e ∙ none)
      (λ ne. own_elsewhere old.seats.seats seat after n ne ∙ f.idle n (sym (far_others old.seats.table seat n ne) ∙ far)) (cases_eq n seat));
}
  where
    after : SeatState
    after = record before { own = [] }

    list : List SeatState
    list = set old.seats.seats seat after

    none : own_in list seat ≡ []
    none = own_there old.seats.seats seat before after there

-- ---- a datagram that arrives

-- channels change, and no own requests
moved : (old new : Parts) → FarStays old.seats.table new.seats.table → ((n : ℕ) → own_in new.seats.seats n ≡ own_in old.seats.seats n)
    → new.fetching ≡ old.fetching → Fetches old → Fetches new
moved old new far own same f = record {
  owned = tie_stays.same (asked_of old.fetching) (asked_of new.fetching) (own_in old.seats.seats) (own_in new.seats.seats) f.owned
      (λ n i. ap (λ (xs : List Asking). awaits xs i) (own n)) (λ i. ap (λ (o : Option FetchState). slice_index_or (asked_of o) i false) same);
  idle = λ n none. own n ∙ f.idle n (far n none);
}

-- the peer looks up
looked_own : (now : ℕ) (xs : List SeatState) (n : ℕ) → own_in (map (looked_up now) xs) n ≡ own_in xs n
looked_own now [] n = refl
looked_own now (x ∷ xs) zero = refl
looked_own now (x ∷ xs) (suc n) = looked_own now xs n

pub looked_fetches : (now : ℕ) (old new : Parts) → new.seats ≡ record old.seats { seats = map (looked_up now) old.seats.seats } → new.fetching ≡ old.fetching → Fetches old → Fetches new
looked_fetches now old new is same f = moved old new (λ n far. ap (λ (s : SeatsState). far_of (channel_at s.table n)) (sym is) ∙ far)
    (λ n. ap (λ (s : SeatsState). own_in s.seats n) is ∙ looked_own now old.seats.seats n) same f

-- a channel begins on a seat on which nothing was waited for
begun_fetches : (seat : ℕ) (old new : Parts) (before after : SeatState) → far_of (channel_at old.seats.table seat) ≡ None → FarStays old.seats.table new.seats.table
    → slice_get old.seats.seats seat ≡ Some before → new.seats.seats ≡ set old.seats.seats seat after → after.own ≡ [] → new.fetching ≡ old.fetching → Fetches old → Fetches new
begun_fetches seat old new before after free far there is none same f = moved old new far
    (λ n. ap (λ (xs : List SeatState). own_in xs n) is ∙ ⊎_elim
    (λ (e : n ≡ seat). ap (own_in (set old.seats.seats seat after)) e ∙ own_there old.seats.seats seat before after there ∙ none
    ∙ sym (ap (own_in old.seats.seats) e ∙ f.idle seat free))
    (λ ne. own_elsewhere old.seats.seats seat after n ne) (cases_eq n seat)) same f

pub arrived_fetches : (d : Descriptor) (slot : Bool) (result : Arrival) (old new : Parts) (sender : Address) (now : ℕ) (bytes : List ℕ)
    → Arrives d old.seats.table sender now bytes result new.seats.table → Prepares d slot result (record new.seats { seats = old.seats.seats }) new.seats
    → new.fetching ≡ old.fetching → Fetches old → Fetches new
arrived_fetches d slot (arrivals.Opened seat next) old new sender now bytes a p same f =
    begun_fetches seat old new p.before p.after (opens_far d old.seats.table new.seats.table sender now seat next bytes a)
    (arrives_far d old.seats.table new.seats.table sender now bytes (arrivals.Opened seat next) a) p.there (ap (λ (s : SeatsState). s.seats) p.is) p.changes.fresh.own same f
arrived_fetches d slot (arrivals.Replied seat) old new sender now bytes a p same f =
    begun_fetches seat old new p.before p.after (replies_far d old.seats.table new.seats.table sender now seat bytes a)
    (arrives_far d old.seats.table new.seats.table sender now bytes (arrivals.Replied seat) a) p.there (ap (λ (s : SeatsState). s.seats) p.is)
    (ap (λ (s : SeatState). s.own) p.changes.shown.exact ∙ p.changes.begins.fresh.own) same f
arrived_fetches d slot (arrivals.Heard seat) old new sender now bytes a p same f =
    moved old new (arrives_far d old.seats.table new.seats.table sender now bytes (arrivals.Heard seat) a)
    (λ n. ap (λ (s : SeatsState). own_in s.seats n) p.is ∙ ⊎_elim
    (λ (e : n ≡ seat). ap (own_in (set old.seats.seats seat p.after)) e ∙ own_there old.seats.seats seat p.before p.after p.there
    ∙ ap (λ (s : SeatState). s.own) p.changes.exact ∙ sym (ap (own_in old.seats.seats) e ∙ own_before old.seats.seats seat p.before p.there))
    (λ ne. own_elsewhere old.seats.seats seat p.after n ne) (cases_eq n seat)) same f
arrived_fetches d slot arrivals.Short old new sender now bytes a p same f = moved old new (arrives_far d old.seats.table new.seats.table sender now bytes arrivals.Short a) (λ n. ap (λ (s : SeatsState). own_in s.seats n) p) same f
arrived_fetches d slot arrivals.NoGreeting old new sender now bytes a p same f = moved old new (arrives_far d old.seats.table new.seats.table sender now bytes arrivals.NoGreeting a) (λ n. ap (λ (s : SeatsState). own_in s.seats n) p) same f
arrived_fetches d slot arrivals.Unwelcome old new sender now bytes a p same f = moved old new (arrives_far d old.seats.table new.seats.table sender now bytes arrivals.Unwelcome a) (λ n. ap (λ (s : SeatsState). own_in s.seats n) p) same f
arrived_fetches d slot (arrivals.Again k) old new sender now bytes a p same f = moved old new (arrives_far d old.seats.table new.seats.table sender now bytes (arrivals.Again k) a) (λ n. ap (λ (s : SeatsState). own_in s.seats n) p) same f
arrived_fetches d slot (arrivals.Late k) old new sender now bytes a p same f = moved old new (arrives_far d old.seats.table new.seats.table sender now bytes (arrivals.Late k) a) (λ n. ap (λ (s : SeatsState). own_in s.seats n) p) same f
arrived_fetches d slot arrivals.Unseated old new sender now bytes a p same f = moved old new (arrives_far d old.seats.table new.seats.table sender now bytes arrivals.Unseated a) (λ n. ap (λ (s : SeatsState). own_in s.seats n) p) same f
arrived_fetches d slot arrivals.NoChannel old new sender now bytes a p same f = moved old new (arrives_far d old.seats.table new.seats.table sender now bytes arrivals.NoChannel a) (λ n. ap (λ (s : SeatsState). own_in s.seats n) p) same f
arrived_fetches d slot (arrivals.NoReply k) old new sender now bytes a p same f = moved old new (arrives_far d old.seats.table new.seats.table sender now bytes (arrivals.NoReply k) a) (λ n. ap (λ (s : SeatsState). own_in s.seats n) p) same f
arrived_fetches d slot (arrivals.Cut k) old new sender now bytes a p same f = moved old new (arrives_far d old.seats.table new.seats.table sender now bytes (arrivals.Cut k) a) (λ n. ap (λ (s : SeatsState). own_in s.seats n) p) same f
arrived_fetches d slot (arrivals.Differs k) old new sender now bytes a p same f = moved old new (arrives_far d old.seats.table new.seats.table sender now bytes (arrivals.Differs k) a) (λ n. ap (λ (s : SeatsState). own_in s.seats n) p) same f
arrived_fetches d slot (arrivals.Given k) old new sender now bytes a p same f = moved old new (arrives_far d old.seats.table new.seats.table sender now bytes (arrivals.Given k) a) (λ n. ap (λ (s : SeatsState). own_in s.seats n) p) same f
