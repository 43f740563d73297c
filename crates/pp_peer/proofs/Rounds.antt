-- The chunks of one seat go out one after the other.
use Rattle.std.proofs.Common.{◌≡◌, ⊎_elim, inl, inr, ℕ, zero, suc, ◌+◌, ◌<◌, ◌≤◌, nat_lt, max, Bool, true, false, not, ◌&&◌, ◌||◌, Option, Some, None, List, [], ◌∷◌, ◌++◌, length, refl, sym, ◌∙◌, ap, subst, arith, ◌≢◌}
use Rattle.std.specs.Prelude.{slice_index_or}
use Rattle.std.specs.List.{slice_get}
use Rattle.std.proofs.Math.ListN.{set}
use Rattle.std.proofs.lemmas.Bool.{both_ways, cases_lt}
use Rattle.std.proofs.lemmas.Bool.Decides.{nat_tests}
use Rattle.std.proofs.Math.Bool.{and-false, and-or_distrib_left}
use Rattle.std.proofs.lemmas.List.{length-append}
use Rattle.pp_terms.specs.format.Traffic.{Record, LinkState}
use Rattle.pp_terms.specs.disk.Disk.{DiskState}
use Rattle.pp_terms.specs.tree.Book.{LookUp}
use Rattle.pp_terms.specs.format.Descriptor.{chunks_of}
use Rattle.pp_counts.specs.declared.counts.Counts.{Counts}
use Rattle.pp_lives.specs.declared.lives.Far.{Far}
use Rattle.pp_seats.specs.Sending.{IsSilent}
use Rattle.pp_terms.specs.tree.Range.{Span, within, has}
use Rattle.pp_tree.specs.Book.{entry}
use Rattle.pp_ranges.specs.Edits.{below, above, removed, without_below}
use Rattle.pp_ranges.proofs.Runs.{append_has}
use Rattle.pp_requests.specs.Lists.{IsLeast, without, chunk_count}
use Rattle.pp_store.specs.Store.{StoreState, is_committed}
use Rattle.pp_holding.specs.Holding.{HoldingState, AreTied}
use Rattle.pp_seat.specs.Seats.{SeatState}
use Rattle.pp_seats.specs.declared.serving.Served.{Served}
use Rattle.pp_seats.specs.declared.serving.Served.TheVariants as outcomes
use Rattle.pp_seats.specs.Standing.{SeatsState}
use Rattle.pp_seats.specs.Serving.{Serving, HasNothing}
use Rattle.pp_seats.proofs.Lists.{get_set_there}
use Rattle.pp_peer.specs.declared.parts.Parts.{Parts}
use Rattle.pp_peer.specs.Delivering.{ServesAlone, AreRefused}
use Rattle.pp_peer.specs.Flushing.{Scene, Flushes}
use Rattle.pp_peer.specs.Taking.{after_some}
use Rattle.pp_peer.specs.Serving.{counted, sent_of, given_up, most_sent, flying_in, flying_at, IsServed, OnlySeats, ServesSeat, ChangesOneSeat, ServesBelow}
use Rattle.pp_peer.proofs.Alone.{alone_none, alone_twice, served_alone, lost_none, lost_twice, served_lost}
use Rattle.pp_peer.proofs.Flushed.{flushes_none, flushes_twice, none_added, twice_added}
use Rattle.pp_peer.proofs.Chunks.{Rests, flushes_served, one_served}

-- ---- chunks that left a list

none_of : (a b : Bool) → (a || b) ≡ false → (a ≡ false) × (b ≡ false)
none_of true b e = absurd cc
none_of false b e = (refl, e)

cut_at : (n : ℕ) (x : Span) (i : ℕ) (b c : Bool) → nat_lt x.first n ≡ b → nat_lt n x.last ≡ c
    → let s : Span = record { first = n; last = n } in (has (below s x) i || has (above s x) i) ≡ (not (within s i) && within x i)
cut_at n x i true true p q = rw (p, q, below, above) (grind (arith, nat_tests))
cut_at n x i true false p q = rw (p, q, below, above) (grind (arith, nat_tests))
cut_at n x i false true p q = rw (p, q, below, above) (grind (arith, nat_tests))
cut_at n x i false false p q = rw (p, q, below, above) (grind (arith, nat_tests))

without_has : (n : ℕ) (xs : List Span) (i : ℕ) → has (without n xs) i ≡ (not (within (record { first = n; last = n }) i) && has xs i)
without_has n [] i = sym (and-false (not (within (record { first = n; last = n }) i)))
without_has n (x ∷ xs) i =
    let s : Span = record { first = n; last = n } in
    append_has (below s x ++ above s x) (removed s xs) i
    ∙ ap (λ (t : Bool). t || has (removed s xs) i) (append_has (below s x) (above s x) i ∙ cut_at n x i (nat_lt x.first n) (nat_lt n x.last) refl refl)
    ∙ ap (λ (t : Bool). (not (within s i) && within x i) || t) (without_has n xs i)
    ∙ sym (and-or_distrib_left (not (within s i)) (within x i) (has xs i))

without_none : (n : ℕ) (xs : List Span) (i : ℕ) → has xs i ≡ false → has (without n xs) i ≡ false
without_none n xs i e = without_has n xs i ∙ ap (λ (t : Bool). not (within (record { first = n; last = n }) i) && t) e
    ∙ and-false (not (within (record { first = n; last = n }) i))

one_within : (n : ℕ) → within (record { first = n; last = n }) n ≡ true
one_within n = grind (arith, nat_tests)

without_one : (n : ℕ) (xs : List Span) → has (without n xs) n ≡ false
without_one n xs = without_has n xs n ∙ ap (λ (t : Bool). not t && has xs n) (one_within n)

below_step : (n : ℕ) (x : Span) (xs : List Span) (i : ℕ) (b : Bool) → nat_lt x.last n ≡ b → within x i ≡ false → has xs i ≡ false
    → has (without_below n xs) i ≡ false → has (without_below n (x ∷ xs)) i ≡ false
below_step n x xs i true p outside none rest = rw (p, without_below) rest
below_step n x xs i false p outside none rest = rw (p, without_below) (ap (λ (t : Bool). t || has xs i) (narrow n x i outside) ∙ none)
  where
    narrow : (n : ℕ) (x : Span) (i : ℕ) → within x i ≡ false → within (record { first = max x.first n; last = x.last }) i ≡ false
    narrow n x i e = grind (arith, nat_tests)

below_none : (n : ℕ) (xs : List Span) (i : ℕ) → has xs i ≡ false → has (without_below n xs) i ≡ false
below_none n [] i e = refl
below_none n (x ∷ xs) i e =
    let both = none_of (within x i) (has xs i) e in
    below_step n x xs i (nat_lt x.last n) refl both.0 both.1 (below_none n xs i both.1)

-- ---- the list of a seat

abbrev pub list_at : Option SeatState → List Span
list_at None = []
list_at (Some s) = s.list

abbrev pub list_in : List SeatState → ℕ → List Span
list_in seats seat = list_at (slice_get seats seat)

-- no chunk below this one is on the list of the seat
abbrev pub NoneBelow : SeatsState → ℕ → ℕ → Type 0
NoneBelow p seat low = (i : ℕ) → i < low → has (list_in p.seats seat) i ≡ false

-- What a chunk that went, or didn't, leaves on the list: fewer chunks, and none below one that is greater by as many as were given up.
pub record Lessens (k : ℕ) (served : Served) (chunks : ℕ) (old new : SeatsState) : Type 0 where
  pub fewer : chunk_count (list_in new.seats k) < chunk_count (list_in old.seats k)
  pub more : (low : ℕ) → low ≤ chunks → NoneBelow old k low → (next : ℕ) × ((low + given_up served ≤ next) × ((next ≤ chunks) × NoneBelow new k next))

is_list : (list : List SeatState) (k : ℕ) (s : SeatState) → slice_get list k ≡ Some s → list_in list k ≡ s.list
is_list list k s there = ap list_at there

after_is : (old new : SeatsState) (k : ℕ) (before after : SeatState) → slice_get old.seats k ≡ Some before → new.seats ≡ set old.seats k after → list_in new.seats k ≡ after.list
after_is old new k before after there is = ap (λ (l : List SeatState). list_in l k) is ∙ is_list (set old.seats k after) k after (get_set_there old.seats k after before there)

-- a chunk that is committed is one of the content
is_content : (set : List Bool) (i : ℕ) → slice_index_or set i false ≡ true → i < length set
is_content [] i e = absurd cc
is_content (b ∷ bs) zero e = omega arith
is_content (b ∷ bs) (suc i) e = (let lt = is_content bs i e in omega (arith, lt))

fewer_on : (old new : SeatsState) (k : ℕ) (before after : SeatState) → slice_get old.seats k ≡ Some before → new.seats ≡ set old.seats k after
    → chunk_count after.list < chunk_count before.list → chunk_count (list_in new.seats k) < chunk_count (list_in old.seats k)
fewer_on old new k before after there is lt =
    subst (λ (l : List Span). chunk_count l < chunk_count (list_in old.seats k)) (sym (after_is old new k before after there is))
    (subst (λ (l : List Span). chunk_count after.list < chunk_count l) (sym (is_list old.seats k before there)) lt)

-- with no chunk given up
stays_low : (old new : SeatsState) (k low : ℕ) (before after : SeatState) → slice_get old.seats k ≡ Some before → new.seats ≡ set old.seats k after
    → ((i : ℕ) → has before.list i ≡ false → has after.list i ≡ false) → NoneBelow old k low → NoneBelow new k low
stays_low old new k low before after there is less none i lt =
    ap (λ (l : List Span). has l i) (after_is old new k before after there is)
    ∙ less i (ap (λ (l : List Span). has l i) (sym (is_list old.seats k before there)) ∙ none i lt)

-- with one
rises_low : (old new : SeatsState) (k low chunk : ℕ) (before after : SeatState) → slice_get old.seats k ≡ Some before → new.seats ≡ set old.seats k after
    → IsLeast before.list chunk → after.list ≡ without chunk before.list → NoneBelow new k (chunk + 1)
rises_low old new k low chunk before after there is least exact i lt =
    ap (λ (l : List Span). has l i) (after_is old new k before after there is ∙ exact)
    ∙ ⊎_elim (λ (less : i < chunk). without_none chunk before.list i (least.lesser i less))
    (λ (le : chunk ≤ i). let same : i ≡ chunk = omega (arith, lt, le) in
    ap (λ (n : ℕ). has (without chunk before.list) n) same ∙ without_one chunk before.list)
    (cases_lt i chunk)

-- the least chunk isn't below one below which there is none
not_below : (old : SeatsState) (k low chunk : ℕ) (before : SeatState) → slice_get old.seats k ≡ Some before → IsLeast before.list chunk → NoneBelow old k low → low ≤ chunk
not_below old k low chunk before there least none = ⊎_elim
    (λ (lt : chunk < low). absurd (both_ways _ (ap (λ (l : List Span). has l chunk) (sym (is_list old.seats k before there)) ∙ none chunk lt) least.listed))
    (λ (le : low ≤ chunk). le)
    (cases_lt chunk low)

-- Something became of a chunk.
abbrev pub IsMore : Served → Type 0
IsMore outcomes.Done = ⊥
IsMore outcomes.Passed = Unit {0}
IsMore outcomes.Sent = Unit {0}
IsMore outcomes.Refused = Unit {0}
IsMore (outcomes.Unread why) = Unit {0}

gives : (store : StoreState) (old new : SeatsState) (k chunk : ℕ) (before after : SeatState) → slice_get old.seats k ≡ Some before → new.seats ≡ set old.seats k after
    → IsLeast before.list chunk → after.list ≡ without chunk before.list → is_committed store chunk ≡ true → (low : ℕ) → NoneBelow old k low
    → (next : ℕ) × ((low + 1 ≤ next) × ((next ≤ length store.committed) × NoneBelow new k next))
gives store old new k chunk before after there is least exact committed low none =
    let le = not_below old k low chunk before there least none in
    let lt = is_content store.committed chunk committed in
    (chunk + 1, (omega (arith, le), (omega (arith, lt), rises_low old new k low chunk before after there is least exact)))

pub lessens : (k : ℕ) (served : Served) (b c : Scene) → Serving k b.parts.holding.store (entry b.parts.holding.book) served b.parts.seats c.parts.seats b.link c.link b.disk c.disk → IsMore served
    → Lessens k served (length b.parts.holding.store.committed) b.parts.seats c.parts.seats
lessens k outcomes.Done b c s more = absurd more
lessens k outcomes.Passed b c s more =
    let x = s.2 in
    let is = ap (λ (p : SeatsState). p.seats) x.is in
    record {
      fewer = fewer_on b.parts.seats c.parts.seats k x.before x.after x.may.there is x.fewer;
      more = λ low le none. (
        low,
        (
          omega arith,
          (
            le,
            stays_low b.parts.seats c.parts.seats k low x.before x.after x.may.there is
                (λ i e. ap (λ (y : SeatState). has y.list i) x.exact ∙ below_none x.end x.before.list i e) none,
          ),
        ),
      );
    }
lessens k outcomes.Sent b c s more =
    let is = ap (λ (p : SeatsState). p.seats) s.is in
    record {
      fewer = fewer_on b.parts.seats c.parts.seats k s.before s.after s.may.there is (let e = s.fewer in omega (arith, e));
      more = λ low le none. (
        low,
        (
          omega arith,
          (
            le,
            stays_low b.parts.seats c.parts.seats k low s.before s.after s.may.there is
                (λ i e. ap (λ (y : SeatState). has y.list i) s.exact ∙ without_none s.chunk s.before.list i e) none,
          ),
        ),
      );
    }
lessens k outcomes.Refused b c s more =
    let x = s.4 in
    let is = ap (λ (p : SeatsState). p.seats) x.is in
    record {
      fewer = fewer_on b.parts.seats c.parts.seats k x.before x.after x.may.there is (let e = x.fewer in omega (arith, e));
      more = λ low le none. gives b.parts.holding.store b.parts.seats c.parts.seats k s.0 x.before x.after x.may.there is x.may.next.least
          (ap (λ (y : SeatState). y.list) x.exact) x.committed low none;
    }
lessens k (outcomes.Unread why) b c s more =
    let x = s.4 in
    let is = ap (λ (p : SeatsState). p.seats) x.is in
    record {
      fewer = fewer_on b.parts.seats c.parts.seats k x.before x.after x.may.there is (let e = x.fewer in omega (arith, e));
      more = λ low le none. gives b.parts.holding.store b.parts.seats c.parts.seats k s.0 x.before x.after x.may.there is x.may.next.least
          (ap (λ (y : SeatState). y.list) x.exact) x.committed low none;
    }

-- ---- one after the other

-- so many fly on a seat that was changed, and more
flown : (old new : SeatsState) (k more : ℕ) (before after : SeatState) → slice_get old.seats k ≡ Some before → new.seats ≡ set old.seats k after
    → length after.window.entries ≡ length before.window.entries + more → flying_at old k + more ≤ flying_at new k
flown old new k more before after there is fly =
    let o = ap flying_in there in
    let n = ap flying_in (ap (λ (l : List SeatState). slice_get l k) is ∙ get_set_there old.seats k after before there) in
    omega (arith, o, n, fly)

-- A chunk that is sent flies, and none that flew lands.
flies : (k : ℕ) (served : Served) (store : StoreState) (book : LookUp) (old new : SeatsState) (link later : LinkState) (disk left : DiskState)
    → Serving k store book served old new link later disk left → flying_at old k + sent_of served ≤ flying_at new k
flies k outcomes.Done store book old new link later disk left s = let e = ap (λ (p : SeatsState). flying_at p k) s.0 in omega (arith, e)
flies k outcomes.Passed store book old new link later disk left s =
    let x = s.2 in
    flown old new k 0 x.before x.after x.may.there (ap (λ (p : SeatsState). p.seats) x.is)
    (let e = ap (λ (y : SeatState). length y.window.entries) x.exact in omega (arith, e))
flies k outcomes.Sent store book old new link later disk left s =
    flown old new k 1 s.before s.after s.may.there (ap (λ (p : SeatsState). p.seats) s.is)
    (ap (λ (y : SeatState). length y.window.entries) s.exact ∙ length-append s.before.window.entries _)
flies k outcomes.Refused store book old new link later disk left s =
    let x = s.4 in
    flown old new k 0 x.before x.after x.may.there (ap (λ (p : SeatsState). p.seats) x.is)
    (let e = ap (λ (y : SeatState). length y.window.entries) x.exact in omega (arith, e))
flies k (outcomes.Unread why) store book old new link later disk left s =
    let x = s.4 in
    flown old new k 0 x.before x.after x.may.there (ap (λ (p : SeatsState). p.seats) x.is)
    (let e = ap (λ (y : SeatState). length y.window.entries) x.exact in omega (arith, e))

-- So many went, and so many were given up, on the seat.
pub record Goes (seat sent refused : ℕ) (old new : Scene) : Type 0 where
  pub flushes : Flushes refused old new
  pub many : sent ≤ flying_at new.parts.seats seat
  pub few : sent ≤ most_sent
  pub low : ℕ
  pub lost : refused ≤ low
  pub content : low ≤ chunks_of old.parts.holding.store.descriptor
  pub none : NoneBelow new.parts.seats seat low
  pub one : ChangesOneSeat seat old.parts.seats new.parts.seats
  pub alone : ServesAlone old.parts.seats new.parts.seats flushes.added
  pub counted : AreRefused refused old new

pub goes_none : (seat : ℕ) (a : Scene) → Goes seat 0 0 a a
goes_none seat a = record {
  flushes = flushes_none a;
  many = omega arith;
  few = omega arith;
  low = 0;
  lost = omega arith;
  content = omega arith;
  none = λ i lt. absurd (omega (arith, lt));
  one = record { far = λ other. refl; others = λ other ne. refl };
  alone = alone_none a.parts.seats a.parts.seats (flushes_none a).added refl (none_added a);
  counted = lost_none a;
}

one_twice : (seat : ℕ) (a b c : SeatsState) → ChangesOneSeat seat a b → ChangesOneSeat seat b c → ChangesOneSeat seat a c
one_twice seat a b c one two = record {
  far = λ other. two.far other ∙ one.far other;
  others = λ other ne. two.others other ne ∙ one.others other ne;
}

pub goes_more : (seat sent refused : ℕ) (served : Served) (a b c : Scene) → Goes seat sent refused a b → sent < most_sent
    → length b.parts.holding.store.committed ≡ chunks_of b.parts.holding.store.descriptor → Rests served b.parts c.parts
    → Serving seat b.parts.holding.store (entry b.parts.holding.book) served b.parts.seats c.parts.seats b.link c.link b.disk c.disk → IsMore served
    → Goes seat (sent + sent_of served) (refused + given_up served) a c
goes_more seat sent refused served a b c g room whole rests s more =
    let f = flushes_served seat served b.parts c.parts b.link c.link b.disk c.disk rests s in
    let l = (lessens seat served b c s more).more g.low
    (subst (λ (n : ℕ). g.low ≤ n) (sym (whole ∙ ap (λ (h : HoldingState). chunks_of h.store.descriptor) g.flushes.holding)) g.content) g.none in
    record {
      flushes = flushes_twice refused (given_up served) a b c g.flushes f;
      many = (let flown = flies seat served b.parts.holding.store (entry b.parts.holding.book) b.parts.seats c.parts.seats b.link c.link b.disk c.disk s in let m = g.many in omega (arith, flown, m));
      few = (let one = at_most_one served in omega (arith, room, one));
      low = l.0;
      lost = (let old = g.lost in let new = l.1.0 in omega (arith, old, new));
      content = subst (λ (n : ℕ). l.0 ≤ n) (whole ∙ ap (λ (h : HoldingState). chunks_of h.store.descriptor) g.flushes.holding) l.1.1.0;
      none = l.1.1.1;
      one = one_twice seat a.parts.seats b.parts.seats c.parts.seats g.one
          (one_served seat served b.parts.holding.store (entry b.parts.holding.book) b.parts.seats c.parts.seats b.link c.link b.disk c.disk s);
      alone = subst (λ (rs : List Record). ServesAlone a.parts.seats c.parts.seats rs) (sym (twice_added refused (given_up served) a b c g.flushes f))
          (alone_twice a.parts.seats b.parts.seats c.parts.seats g.flushes.added f.added g.alone
          (served_alone seat served b.parts c.parts b.link c.link b.disk c.disk rests s));
      counted = lost_twice refused (given_up served) a b c g.flushes f g.counted
          (served_lost seat served b.parts c.parts b.link c.link b.disk c.disk s);
    }
  where
    at_most_one : (o : Served) → sent_of o ≤ 1
    at_most_one outcomes.Done = omega arith
    at_most_one outcomes.Passed = omega arith
    at_most_one outcomes.Sent = omega arith
    at_most_one outcomes.Refused = omega arith
    at_most_one (outcomes.Unread why) = omega arith

-- Nothing may be sent any more.
goes_done : (seat sent refused : ℕ) (a b : Scene) → Goes seat sent refused a b → HasNothing b.parts.seats seat → ServesSeat seat refused a b
goes_done seat sent refused a b g none =
    record { flushes = g.flushes; ends = inl none; one = g.one; alone = g.alone; lost = g.counted }

pub goes_full : (seat sent refused : ℕ) (a b : Scene) → Goes seat sent refused a b → most_sent ≤ sent → ServesSeat seat refused a b
goes_full seat sent refused a b g full =
    record {
      flushes = g.flushes;
      ends = inr (let many = g.many in omega (arith, many, full));
      one = g.one;
      alone = g.alone;
      lost = g.counted;
    }

-- ---- in the words of the calls

pub only_twice : (a b c : Parts) → OnlySeats a b → OnlySeats b c → OnlySeats a c
only_twice a b c one two = two ∙ ap (λ (p : Parts). record p { seats = c.seats; counts = c.counts }) one

rests_of : (served : Served) (old new : Parts) → OnlySeats old new → new.counts ≡ after_some (counted served) old.counts → Rests served old new
rests_of served old new only counts = record {
  holding = ap (λ (p : Parts). p.holding) only;
  fetching = ap (λ (p : Parts). p.fetching) only;
  counts = counts;
}

pub goes_next : (seat sent refused more lost : ℕ) (served : Served) (a b c : Scene) → AreTied a.parts.holding → Goes seat sent refused a b × OnlySeats a.parts b.parts → sent < most_sent
    → Serving seat b.parts.holding.store (entry b.parts.holding.book) served b.parts.seats c.parts.seats b.link c.link b.disk c.disk
    → c.parts.counts ≡ after_some (counted served) b.parts.counts → OnlySeats b.parts c.parts → IsMore served → sent + sent_of served ≡ more → refused + given_up served ≡ lost
    → Goes seat more lost a c × OnlySeats a.parts c.parts
goes_next seat sent refused more lost served a b c tied g room s counts only is_more sum total = (
  subst (λ (m : ℕ). Goes seat m lost a c) sum (subst (λ (n : ℕ). Goes seat (sent + sent_of served) n a c) total
      (goes_more seat sent refused served a b c g.0 room
      (subst (λ (h : HoldingState). length h.store.committed ≡ chunks_of h.store.descriptor) (sym g.0.flushes.holding) tied.waits.committed_size)
      (rests_of served b.parts c.parts only counts) s is_more)),
  only_twice a.parts b.parts c.parts g.1 only,
)

same_scene : (a b : Scene) → b.parts ≡ a.parts → b.link ≡ a.link → b.disk ≡ a.disk → b ≡ a
same_scene a b p l d =
    ap (λ (x : Parts). record b { parts = x }) p ∙ ap (λ (x : LinkState). record { parts = a.parts; link = x; disk = b.disk }) l
    ∙ ap (λ (x : DiskState). record { parts = a.parts; link = a.link; disk = x }) d

pub goes_end : (seat sent refused : ℕ) (served : Served) (a b c : Scene) → Goes seat sent refused a b → served ≡ outcomes.Done
    → Serving seat b.parts.holding.store (entry b.parts.holding.book) served b.parts.seats c.parts.seats b.link c.link b.disk c.disk
    → c.parts.counts ≡ after_some (counted served) b.parts.counts → OnlySeats b.parts c.parts → ServesSeat seat refused a c
goes_end seat sent refused outcomes.Done a b c g e s counts only =
    let parts : c.parts ≡ b.parts = only ∙ ap (λ (p : SeatsState). record b.parts { seats = p; counts = c.parts.counts }) s.0
    ∙ ap (λ (k : Counts). record b.parts { counts = k }) counts in
    subst (λ (x : Scene). ServesSeat seat refused a x) (sym (same_scene b c parts s.1 s.2)) (goes_done seat sent refused a b g s.3)
goes_end seat sent refused outcomes.Passed a b c g e s counts only = absurd cc
goes_end seat sent refused outcomes.Sent a b c g e s counts only = absurd cc
goes_end seat sent refused outcomes.Refused a b c g e s counts only = absurd cc
goes_end seat sent refused (outcomes.Unread why) a b c g e s counts only = absurd cc

-- ---- seat after seat

pub seats_none : (a : Scene) → ServesBelow 0 0 a a
seats_none a = record {
  flushes = flushes_none a;
  ends = λ seat lt. absurd (omega (arith, lt));
  far = λ seat. refl;
  alone = alone_none a.parts.seats a.parts.seats (flushes_none a).added refl (none_added a);
  lost = lost_none a;
}

nothing_stays : (seat other : ℕ) (p q : SeatsState) → ChangesOneSeat seat p q → other ≢ seat → HasNothing p other → HasNothing q other
nothing_stays seat other p q one ne (inl silent) = inl (subst (λ (o : Option Far). IsSilent o) (sym (one.far other)) silent)
nothing_stays seat other p q one ne (inr h) = inr (h.0, one.others other ne ∙ h.1, h.2)

served_stays : (seat other : ℕ) (p q : SeatsState) → ChangesOneSeat seat p q → other ≢ seat → IsServed p other → IsServed q other
served_stays seat other p q one ne (inl none) = inl (nothing_stays seat other p q one ne none)
served_stays seat other p q one ne (inr full) = inr (subst (λ (o : Option SeatState). most_sent ≤ flying_in o) (sym (one.others other ne)) full)

pub seats_more : (seat refused more : ℕ) (a b c : Scene) → ServesBelow seat refused a b → ServesSeat seat more b c → ServesBelow (seat + 1) (refused + more) a c
seats_more seat refused more a b c s one = record {
  flushes = flushes_twice refused more a b c s.flushes one.flushes;
  ends = λ other lt. ⊎_elim
      (λ (less : other < seat). served_stays seat other b.parts.seats c.parts.seats one.one (λ e. absurd (omega (arith, less, e))) (s.ends other less))
      (λ (le : seat ≤ other). subst (λ (n : ℕ). IsServed c.parts.seats n) (sym (same other lt le)) one.ends)
      (cases_lt other seat);
  far = λ other. one.one.far other ∙ s.far other;
  alone = subst (λ (rs : List Record). ServesAlone a.parts.seats c.parts.seats rs) (sym (twice_added refused more a b c s.flushes one.flushes))
      (alone_twice a.parts.seats b.parts.seats c.parts.seats s.flushes.added one.flushes.added s.alone one.alone);
  lost = lost_twice refused more a b c s.flushes one.flushes s.lost one.lost;
}
  where
    same : (other : ℕ) → other < seat + 1 → seat ≤ other → other ≡ seat
    same other lt le = omega (arith, lt, le)

pub seats_all : (seats all refused : ℕ) (a b : Scene) → seats ≡ all → ServesBelow seats refused a b → ServesBelow all refused a b
seats_all seats all refused a b e s = subst (λ (n : ℕ). ServesBelow n refused a b) e s
