-- A peer that has just begun stands for no traffic.
use Rattle.std.proofs.Common.{◌≡◌, ◌⊎◌, inl, inr, ⊎_elim, ℕ, ◌+◌, ◌<◌, ◌≤◌, nat_lt, Bool, true, false, ◌||◌, ◌&&◌, Option, Some, None, List, [], length, get_or, replicate, refl, sym, ◌∙◌, ap, subst, arith}
use Rattle.std.specs.List.{slice_get}
use Rattle.std.proofs.Math.ListN as lists
use Rattle.std.proofs.lemmas.List.{length-set, get_or-set_other, get_or_past}
use Rattle.std.proofs.lemmas.Grind.{get_or-set_at}
use Rattle.std.proofs.lemmas.Bool.{cases_Bool, cases_eq, lt-ltb, le-ltb, ltb-true, ltb-false, false≢true}
use Rattle.pp_terms.specs.format.Descriptor.{Descriptor, chunks_of}
use Rattle.pp_terms.proofs.Facts.{none_in}
use Rattle.std.proofs.lemmas.Option.{same_Some}
use Rattle.rand_chacha.specs.ChaCha.{of_seed}
use Rattle.pp_avail.specs.Offers.{Tells}
use Rattle.pp_avail.specs.declared.ranker.Rank.{Rank}
use Rattle.pp_counts.specs.declared.counts.Counts.{Counts}
use Rattle.pp_outside.specs.declared.link.Address.{Address}
use Rattle.pp_fetching.specs.Fetching.{FetchState}
use Rattle.pp_fetching.proofs.Owners.{tie_stays}
use Rattle.pp_store.specs.Store.{is_committed}
use Rattle.pp_holding.specs.Holding.{HoldingState, AreTied}
use Rattle.pp_holding.specs.Opening as holdings
use Rattle.pp_seat.specs.Seats.{SeatState}
use Rattle.pp_seats.specs.Standing.{SeatsState, Setting, AllFresh}
use Rattle.pp_seats.specs.Standing as seats
use Rattle.pp_seats.proofs.Firsts.{nothing_yet}
use Rattle.pp_peer.specs.declared.speaking.Speaker.{Speaker}
use Rattle.pp_peer.specs.Standing.{setting, own_at, own_in, asked_of, StandsFor}
use Rattle.pp_core.specs.declared.opening.Room.{Room}
use Rattle.pp_core.specs.Peers.{PeerState}
use Rattle.pp_core.specs.Opening.{HasNoChannel, Wants, WantsIf, HasFetching, NotesBelow, NotesIf, noted_one, IsSized, IsRoom, Begins, HasBegun, beginning}

-- ---- what is had

or_none : (b : Bool) → (b || false) ≡ b
or_none true = refl
or_none false = refl

or_any : (b : Bool) → (b || true) ≡ true
or_any true = refl
or_any false = refl

pub notes_none : (n : ℕ) (set : List Bool) (f : FetchState) → n ≡ 0 → NotesBelow n set f f
notes_none n set f zero_is = record {
  size = refl;
  had_are = λ i. sym (or_none (get_or f.want.had i false)) ∙ ap (λ (b : Bool). get_or f.want.had i false || (b && get_or set i false)) (sym (none i));
  rest = refl;
}
  where
    none : (i : ℕ) → nat_lt i n ≡ false
    none i = le-ltb i n (omega (arith, zero_is))

below_same : (k i : ℕ) → (k ≡ i → ⊥) → nat_lt k (i + 1) ≡ nat_lt k i
below_same k i ne = ⊎_elim
    (λ lt. lt-ltb k (i + 1) (omega (arith, lt)) ∙ sym (lt-ltb k i lt))
    (λ le. le-ltb k (i + 1) (above le) ∙ sym (le-ltb k i le))
    (nat_split k i)
  where
    above : i ≤ k → i + 1 ≤ k
    above le = grind (arith, le, ne)

    nat_split : (a b : ℕ) → (a < b) ⊎ (b ≤ a)
    nat_split a b = ⊎_elim (λ t. inl (ltb-true a b t)) (λ f. inr (ltb-false a b f)) (cases_Bool (nat_lt a b))

pub notes_more : (i n : ℕ) (set : List Bool) (f g h : FetchState) → n ≡ i + 1 → i < length f.want.had → NotesBelow i set f g → h ≡ noted_one i (get_or set i false) g
    → NotesBelow n set f h
notes_more i n set f g h next within b is = of (get_or set i false) refl is
  where
    at_next : (k : ℕ) → (k ≡ i) ⊎ (k ≡ i → ⊥) → (now : List Bool) → ((k ≡ i) → get_or now k false ≡ (get_or g.want.had k false || get_or set k false))
        → ((k ≡ i → ⊥) → get_or now k false ≡ get_or g.want.had k false)
        → get_or now k false ≡ (get_or f.want.had k false || (nat_lt k n && get_or set k false))
    at_next k (inl here) now same other = same here
        ∙ ap (λ (b : Bool). b || get_or set k false) (b.had_are k ∙ ap (λ (c : Bool). get_or f.want.had k false || (c && get_or set k false)) (le-ltb k i (omega (arith, here)))
        ∙ or_none (get_or f.want.had k false))
        ∙ ap (λ (c : Bool). get_or f.want.had k false || (c && get_or set k false)) (sym (lt-ltb k n (omega (arith, here, next))))
    at_next k (inr ne) now same other = other ne ∙ b.had_are k
        ∙ ap (λ (c : Bool). get_or f.want.had k false || (c && get_or set k false)) (sym (below_same k i ne) ∙ ap (nat_lt k) (sym next))

    of : (is_in : Bool) → get_or set i false ≡ is_in → h ≡ noted_one i is_in g → NotesBelow n set f h
    of true in_set e = subst (λ (x : FetchState). NotesBelow n set f x) (sym e) (record {
      size = length-set g.want.had i true ∙ b.size;
      had_are = λ k. at_next k (cases_eq k i) (lists.set g.want.had i true)
          (λ here. get_or-set_at g.want.had i k true false here (omega (arith, within, b.size))
          ∙ sym (ap (λ (c : Bool). get_or g.want.had k false || c) (ap (λ (m : ℕ). get_or set m false) here ∙ in_set) ∙ or_any (get_or g.want.had k false)))
          (λ ne. get_or-set_other g.want.had i k true false ne);
      rest = ap (λ (x : FetchState). record x { want = record x.want { had = lists.set g.want.had i true } }) b.rest;
    })
    of false out e = subst (λ (x : FetchState). NotesBelow n set f x) (sym e) (record {
      size = b.size;
      had_are = λ k. at_next k (cases_eq k i) g.want.had
          (λ here. sym (ap (λ (c : Bool). get_or g.want.had k false || c) (ap (λ (m : ℕ). get_or set m false) here ∙ out) ∙ or_none (get_or g.want.had k false)))
          (λ ne. refl);
      rest = b.rest;
    })

-- ---- the whole

wants_then : (chunks : ℕ) (set : List Bool) (f g : FetchState) → length set ≡ chunks → Wants chunks (λ i. false) f → NotesBelow (length f.want.had) set f g
    → Wants chunks (λ i. get_or set i false) g
wants_then chunks set f g size w n = record {
  size = n.size ∙ w.size;
  had_are = λ i. n.had_are i ∙ ap (λ (b : Bool). b || (nat_lt i (length f.want.had) && get_or set i false)) (w.had_are i) ∙ inside i (cases_Bool (nat_lt i (length f.want.had)));
  asked = ap (λ (x : FetchState). x.want.asked) n.rest ∙ w.asked;
  limit = ap (λ (x : FetchState). x.want.limit) n.rest ∙ w.limit;
  offers = (
    ap (λ (x : FetchState). x.offers.chunks) n.rest ∙ w.offers.0,
    subst (λ (x : FetchState). Tells [] x.offers) (sym n.rest) w.offers.1,
  );
}
  where
    inside : (i : ℕ) → (nat_lt i (length f.want.had) ≡ true) ⊎ (nat_lt i (length f.want.had) ≡ false)
        → (nat_lt i (length f.want.had) && get_or set i false) ≡ get_or set i false
    inside i (inl is_in) = ap (λ (b : Bool). b && get_or set i false) is_in
    inside i (inr is_out) = ap (λ (b : Bool). b && get_or set i false) is_out
        ∙ sym (get_or_past set i false (let a = w.size in omega (arith, a, size, ltb-false i (length f.want.had) is_out)))

has_fetching : (chunks : ℕ) (set : List Bool) (asks : Option Rank) (old new : Option FetchState) → length set ≡ chunks → HasFetching chunks asks old → NotesIf set old new
    → WantsIf chunks (λ i. get_or set i false) asks new
has_fetching chunks set None old new size h n = subst (λ (o : Option FetchState). NotesIf set o new) h n
has_fetching chunks set (Some order) old new size h n =
    let it : NotesIf set (Some h.0) new = subst (λ (o : Option FetchState). NotesIf set o new) h.1 n in
    (it.0, it.1, wants_then chunks set h.0 it.0 size h.2 it.2)

pub begun_of : (d : Descriptor) (random : List ℕ) (asks : Option Rank) (dial : List Address) (room : Room) (holding : HoldingState) (p : PeerState)
    → IsRoom d random asks dial room → holdings.HasBegun d holding → AreTied holding → Begins room holding p → HasBegun d random asks dial p
begun_of d random asks dial room holding p r h tied b = record {
  seats = subst (λ (s : SeatsState). HasNoChannel d random s) (sym b.seats) r.seats;
  holding = subst (λ (x : HoldingState). holdings.HasBegun d x) (sym b.holding_is) h;
  fetching = subst (λ (x : HoldingState). WantsIf (chunks_of d) (is_committed x.store) asks p.parts.fetching) (sym b.holding_is)
      (has_fetching (chunks_of d) holding.store.committed asks room.fetching p.parts.fetching (tied.waits.committed_size ∙ ap chunks_of h.descriptor) r.fetching b.fetching);
  slots = b.slots;
  pex = b.pex;
  questions = b.questions;
  to_prove = b.to_prove;
  supports = b.supports;
  counts = b.counts;
  order = ap (λ (s : Speaker). s.order) b.speaker ∙ r.order;
  dials = b.dials ∙ r.dials;
}

none_asked : (chunks : ℕ) (had : ℕ → Bool) (asks : Option Rank) (o : Option FetchState) → WantsIf chunks had asks o → (i : ℕ) → get_or (asked_of o) i false ≡ false
none_asked chunks had None o w i = ap (λ (x : Option FetchState). get_or (asked_of x) i false) w
none_asked chunks had (Some order) o w i = ap (λ (x : Option FetchState). get_or (asked_of x) i false) w.1 ∙ ap (λ (xs : List Bool). get_or xs i false) w.2.asked ∙ none_in chunks i

none_own : (list : List SeatState) → AllFresh list → (seat : ℕ) → own_in list seat ≡ []
none_own list fresh seat = of (slice_get list seat) refl
  where
    of : (o : Option SeatState) → slice_get list seat ≡ o → own_at (slice_get list seat) ≡ []
    of None e = ap own_at e
    of (Some s) e = ap own_at e ∙ (fresh seat s e).own

same_seats : (d : Descriptor) (random : List ℕ) (s : SeatsState) → (h : HasNoChannel d random s)
    → s ≡ record { descriptor = d; table = record { channels = replicate 64 None; numbers = of_seed random }; seats = s.seats; moment = 0 }
same_seats d random s h = ap (λ x. record { descriptor = x; table = s.table; seats = s.seats; moment = s.moment }) h.swarm
    ∙ ap (λ t. record { descriptor = d; table = t; seats = s.seats; moment = s.moment }) h.table
    ∙ ap (λ (m : ℕ). record { descriptor = d; table = record { channels = replicate 64 None; numbers = of_seed random }; seats = s.seats; moment = m }) h.moment

pub begun_stands : (d : Descriptor) (random : List ℕ) (asks : Option Rank) (dial : List Address) (p : PeerState) (moment : ℕ) → HasBegun d random asks dial p
    → StandsFor (beginning p moment) 0 p.parts []
begun_stands d random asks dial p moment h = record {
  ledger = record {
    swarm = refl;
    served = tt;
    plans = tt;
    announced = tt;
    tied = record { datagrams = ap (λ (c : Counts). c.datagrams) h.counts; short = ap (λ (c : Counts). c.short) h.counts; sent = ap (λ (c : Counts). c.sent) h.counts };
  };
  known_of = λ seat i. false;
  seats = subst (λ (s : SeatsState). seats.StandsFor (setting (beginning p moment) (λ seat i. false)) 0 s []) (sym (same_seats d random p.parts.seats h.seats))
      (subst (λ (x : Descriptor). seats.StandsFor (setting (beginning p moment) (λ seat i. false)) 0
      (record { descriptor = x; table = record { channels = replicate 64 None; numbers = of_seed random }; seats = p.parts.seats.seats; moment = 0 }) []) h.holding.descriptor
      (nothing_yet (setting (beginning p moment) (λ seat i. false)) p.parts.seats.seats (of_seed random)));
  holds = record { found = λ i e. e; announced = λ i e. absurd (false≢true e); known = λ seat i e. absurd (false≢true e) };
  fetches = record {
    owned = tie_stays.none (asked_of p.parts.fetching) (own_in p.parts.seats.seats) (none_asked (chunks_of d) (is_committed p.parts.holding.store) asks p.parts.fetching h.fetching)
        (none_own p.parts.seats.seats h.seats.fresh);
    idle = λ seat far. none_own p.parts.seats.seats h.seats.fresh seat;
  };
}

-- ---- how many chunks a fetching peer keeps of

pub sized_none : (chunks : ℕ) (asks : Option Rank) (o : Option FetchState) → HasFetching chunks asks o → IsSized chunks o
sized_none chunks None o h f e = let x : None ≡ Some f = sym h ∙ e in absurd cc
sized_none chunks (Some order) o h f e = ap (λ (x : FetchState). length x.want.had) (same_Some f h.0 (sym e ∙ h.1)) ∙ h.2.size

pub sized_on : (chunks : ℕ) (set : List Bool) (old new : Option FetchState) → NotesIf set old new → IsSized chunks old → IsSized chunks new
sized_on chunks set None new n s f e = let x : None ≡ Some f = sym n ∙ e in absurd cc
sized_on chunks set (Some g) new n s f e = ap (λ (x : FetchState). length x.want.had) (same_Some f n.0 (sym e ∙ n.1)) ∙ n.2.size ∙ s g refl

pub fetching_of : (chunks : ℕ) (asks : Option Rank) (f : FetchState) → (asks ≡ None → ⊥) → Wants chunks (λ i. false) f → HasFetching chunks asks (Some f)
fetching_of chunks None f some w = absurd (some refl)
fetching_of chunks (Some order) f some w = (f, refl, w)
