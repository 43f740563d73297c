-- What a turn comes to: what was due was sent, and the learner stands for it.
use Rattle.std.proofs.Common.{◌≡◌, ◌≢◌, ◌⊎◌, inl, inr, ⊎_elim, ℕ, zero, suc, ◌<◌, ◌≤◌, eqb, Bool, true, false, ◌||◌, Option, Some, None, List, [], ◌∷◌, ◌++◌, length, refl, sym, ◌∙◌, ap, subst, arith}
use Rattle.std.specs.Prelude.{IsSome, is_none, option_map, map, replicate, slice_get, slice_set}
use Rattle.std.specs.List.{AllByRecursion, list_any}
use Rattle.std.proofs.lemmas.Bool.{cases_Bool, cases_lt, eqb-true, eqb-false, false≢true, or_cases, or_right}
use Rattle.std.proofs.lemmas.List.{length-map}
use Rattle.std.proofs.lemmas.List.Folds.{list_any-append}
use Rattle.std.proofs.lemmas.List.Quantifiers.{position-Some}
use Rattle.std.proofs.lemmas.Option.{same_Some, slice_get-map, slice_get_within}
use Rattle.pp_terms.specs.Count.{HasRisen}
use Rattle.pp_terms.specs.format.Descriptor.{Descriptor}
use Rattle.pp_terms.specs.format.Traffic as traffic
use Rattle.pp_terms.specs.format.Traffic.{Record, GainsRecords}
use Rattle.pp_terms.proofs.Addressed.{same_is}
use Rattle.pp_terms.proofs.Risings.{risen_less, risen_more}
use Rattle.pp_promises.specs.Asked.{dials}
use Rattle.pp_outside.specs.Outside.{address_of}
use Rattle.pp_outside.specs.declared.link.Address.{Address}
use Rattle.pp_channels.specs.Seats.{Seats, AreSeats, at_seat, channel_at, changed, dialled, free_seat, has_address, with_handshake}
use Rattle.pp_channels.specs.Timing.{is_over}
use Rattle.pp_channels.specs.declared.channel.Channel.{Channel}
use Rattle.pp_channels.proofs.Seating.{none_free_full, none_there}
use Rattle.pp_lives.specs.Sending.{with_datagram}
use Rattle.pp_lives.proofs.Changing.{IsMade, changed_is, made_is}
use Rattle.pp_targets.specs.Names.{name_of}
use Rattle.pp_targets.specs.declared.target.SwarmName.{SwarmName}
use Rattle.pp_learner.specs.Dialling.{Dials, DialsAt, Drops, with_dial}
use Rattle.pp_learner.specs.Dials.{undialled}
use Rattle.pp_learner.specs.Following.{AreTallied, StandsFor}
use Rattle.pp_learner.specs.Laws.{AreDialled, FlushEnds, IsIdle, Speaks}
use Rattle.pp_learner.specs.Learners.{IsWhole, LearnerState}
use Rattle.pp_learner.specs.Sending.{EachBelow, Scene, SpeaksAt}
use Rattle.pp_learner.specs.Standing.{stand_in}
use Rattle.pp_learner.specs.declared.dials.Dial.{Dial}
use Rattle.pp_learner.proofs.Asked.{all_asked, turn_asked}
use Rattle.pp_learner.proofs.Dialing.{Became, became, dials_set}
use Rattle.pp_learner.proofs.Speaking.{Goes, drops_stand, each_goes, goes_none, goes_then, speak_goes}
use Rattle.pp_learner.proofs.Still.{over_there, sent_other}

-- ---- lists

-- an element other than the one that was set
get_other : (xs : List Dial) (i j : ℕ) (x : Dial) → j ≢ i → slice_get (slice_set xs i x) j ≡ slice_get xs j
get_other [] i j x ne = refl
get_other (z ∷ xs) zero zero x ne = absurd (ne refl)
get_other (z ∷ xs) zero (suc j) x ne = refl
get_other (z ∷ xs) (suc i) zero x ne = refl
get_other (z ∷ xs) (suc i) (suc j) x ne = get_other xs i j x (λ e. ne (ap suc e))

-- what holds of each element that is found
all_found : (P : Address → Type 0) (xs : List Address) → ((i : ℕ) (a : Address) → slice_get xs i ≡ Some a → P a) → AllByRecursion P xs
all_found P [] each = tt
all_found P (x ∷ xs) each = (each zero x refl, all_found P xs (λ i a is. each (suc i) a is))

-- a seat whose channel passes a test
any_there : (test : Option Channel → Bool) (xs : List (Option Channel)) → test None ≡ false → list_any test xs ≡ true
    → (k : ℕ) × (c : Channel) × (at_seat xs k ≡ Some c) × (test (Some c) ≡ true)
any_there test [] none is = absurd (false≢true is)
any_there test (None ∷ xs) none is =
    let rest : list_any test xs ≡ true = ap (λ (b : Bool). b || list_any test xs) (sym none) ∙ is in
    let x = any_there test xs none rest in
    (suc x.0, x.1, x.2, x.3)
any_there test (Some c ∷ xs) none is = ⊎_elim
    (λ here. (zero, c, refl, here))
    (λ later. let x = any_there test xs none later in (suc x.0, x.1, x.2, x.3))
    (or_cases (test (Some c)) (list_any test xs) is)

-- what was among the older records is among all
among : (test : Record → Bool) (more added : List Record) → list_any test added ≡ true → list_any test (more ++ added) ≡ true
among test more added is = list_any-append test more added ∙ or_right (list_any test more) (list_any test added) is

-- ---- addresses that are dialled one after the other

-- The first n addresses were dialled, and nothing is done yet for those behind them. Each channel is of an address that was dialled, and
-- is at one of the first n seats.
record AreDone (d : Descriptor) (dial : List Address) (n : ℕ) (p : LearnerState) (added : List Record) : Type 0 where
  later : (i : ℕ) → n ≤ i → slice_get p.dials i ≡ option_map undialled (slice_get dial i)
  free : (k : ℕ) → n ≤ k → channel_at p.lives k ≡ None
  each : (k : ℕ) (c : Channel) → channel_at p.lives k ≡ Some c → list_any (dials d (address_of c.address)) added ≡ true
  done : (i : ℕ) (a : Address) → i < n → slice_get dial i ≡ Some a → list_any (dials d (address_of a)) added ≡ true

done_more : (d : Descriptor) (dial : List Address) (n : ℕ) (p q : LearnerState) (more added : List Record) → AreDone d dial n p added
    → ((i : ℕ) → suc n ≤ i → slice_get q.dials i ≡ slice_get p.dials i)
    → ((k : ℕ) → suc n ≤ k → channel_at q.lives k ≡ None)
    → ((k : ℕ) (c : Channel) → channel_at q.lives k ≡ Some c → list_any (dials d (address_of c.address)) (more ++ added) ≡ true)
    → ((a : Address) → slice_get dial n ≡ Some a → list_any (dials d (address_of a)) (more ++ added) ≡ true)
    → AreDone d dial (suc n) q (more ++ added)
done_more d dial n p q more added x later free each own = record {
  later = λ i le. later i le ∙ x.later i (omega (arith, le));
  free = free;
  each = each;
  done = λ i a lt is. ⊎_elim
      (λ less. among (dials d (address_of a)) more added (x.done i a less is))
      (λ ge. let at : i ≡ n = omega (arith, lt, ge) in own a (ap (slice_get dial) (sym at) ∙ is))
      (cases_lt i n);
}

-- the address whose turn it is
own_address : (o : Option Address) (e : Dial) → option_map undialled o ≡ Some e → (a : Address) × (o ≡ Some a) × (e ≡ undialled a)
own_address None e is = absurd (let none : None ≡ Some e = is in cc)
own_address (Some a) e is = (a, refl, sym (same_Some (undialled a) e is))

-- there is a channel
abbrev IsThere : Option Channel → Type 0
IsThere None = ⊥
IsThere (Some c) = Unit {0}

used_there : (o : Option Channel) → IsSome o → IsThere o
used_there None used = absurd cc
used_there (Some c) used = tt

-- where no seat is free, each has a channel
full_there : (t : Seats) (k : ℕ) → AreSeats t.channels → free_seat t ≡ None → k < 64 → channel_at t k ≡ None → ⊥
full_there t k are none lt free =
    let full = (none_free_full t t.channels None are refl (sym none)).0 refl k lt in
    subst IsThere free (used_there (channel_at t k) full)

-- The steps until the first n addresses were looked at. Where the learner was idle, those are dialled, or the link refused something.
record Dialled (n : ℕ) (old new : Scene) (past : List Record) : Type 0 where
  goes : Goes old new past
  done : (dial : List Address) → length dial ≤ 16 → IsIdle dial old.parts
      → HasRisen old.link.faults new.link.faults ⊎ AreDone (stand_in (name_of old.parts.name)) dial n new.parts goes.on.added

dialled_none : (old new : Scene) (past : List Record) → new ≡ old → IsWhole old.parts → StandsFor old.parts past → Dialled zero old new past
dialled_none old new past same whole s =
    let g = goes_none old new past same whole s in
    record {
      goes = g;
      done = λ dial few idle.
          let dials_is : new.parts.dials ≡ map undialled dial = ap (λ (x : Scene). x.parts.dials) same ∙ idle.all in
          let free : (k : ℕ) → channel_at new.parts.lives k ≡ None =
          λ k. ap (λ (x : Scene). channel_at x.parts.lives k) same ∙ ap (λ (xs : List (Option Channel)). at_seat xs k) idle.free ∙ none_there 64 k in
          inr (record {
            later = λ i le. ap (λ (xs : List Dial). slice_get xs i) dials_is ∙ slice_get-map undialled dial i;
            free = λ k le. free k;
            each = λ k c there. absurd (none_some c (sym (free k) ∙ there));
            done = λ i a lt is. absurd (omega (arith, lt));
          });
    }
  where
    none_some : (c : Channel) → None ≡ Some c → ⊥
    none_some c is = cc

-- one address more, of a learner that stands for its traffic
module _ (d : Descriptor) (dial : List Address) (few : length dial ≤ 16) (n : ℕ) (moment : ℕ) (mid next new : Scene) (added more : List Record) (past : List Record)
    (s : StandsFor mid.parts past) (x : AreDone d dial n mid.parts added) (entry : Dial) (there : slice_get mid.parts.dials n ≡ Some entry) (from : Option ℕ)
    (is : new ≡ record next { parts = record next.parts { dials = slice_set next.parts.dials n (record entry { from = from }) } }) where
  own : (a : Address) × (slice_get dial n ≡ Some a) × (entry ≡ undialled a)
  own = own_address (slice_get dial n) entry (sym (x.later n (omega arith)) ∙ there)

  low : n < 64
  low = let lt = slice_get_within dial n own.0 own.1 in omega (arith, lt, few)

  own_is : (a : Address) → slice_get dial n ≡ Some a → a ≡ entry.address
  own_is a found = same_Some a own.0 (sym found ∙ own.1) ∙ sym (ap (λ (e : Dial). e.address) own.2)

  later_same : next.parts.dials ≡ mid.parts.dials → (i : ℕ) → suc n ≤ i → slice_get new.parts.dials i ≡ slice_get mid.parts.dials i
  later_same same i le = ap (λ (y : Scene). slice_get y.parts.dials i) is
      ∙ get_other next.parts.dials n i (record entry { from = from }) (λ e. absurd (omega (arith, le, e)))
      ∙ ap (λ (xs : List Dial). slice_get xs i) same

  lives_same : (k : ℕ) → channel_at new.parts.lives k ≡ channel_at next.parts.lives k
  lives_same k = ap (λ (y : Scene). channel_at y.parts.lives k) is

  -- nothing was done, since a channel has the address
  done_there : next ≡ mid → list_any (has_address entry.address) mid.parts.lives.channels ≡ true → AreDone d dial (suc n) new.parts (more ++ added)
  done_there same has =
      let at : (k : ℕ) → channel_at new.parts.lives k ≡ channel_at mid.parts.lives k = λ k. lives_same k ∙ ap (λ (y : Scene). channel_at y.parts.lives k) same in
      let found = any_there (has_address entry.address) mid.parts.lives.channels refl has in
      let address = same_is (address_of found.1.address) (address_of entry.address) found.3 in
      done_more d dial n mid.parts new.parts more added x
      (later_same (ap (λ (y : Scene). y.parts.dials) same))
      (λ k le. at k ∙ x.free k (omega (arith, le)))
      (λ k c also. among (dials d (address_of c.address)) more added (x.each k c (sym (at k) ∙ also)))
      (λ a found_a. among (dials d (address_of a)) more added
      (subst (λ (b : traffic.Address). list_any (dials d b) added ≡ true) (address ∙ ap address_of (sym (own_is a found_a))) (x.each found.0 found.1 found.2)))

  -- it is to be dialled at once
  at_once : entry.from ≡ Some 0
  at_once = ap (λ (e : Dial). e.from) own.2

  -- it was dialled
  done_sent : (y : Dials entry.address moment true mid next) → list_any (dials d (address_of entry.address)) more ≡ true → AreDone d dial (suc n) new.parts (more ++ added)
  done_sent y sent = done_more d dial n mid.parts new.parts more added x
      (later_same (ap (λ (p : LearnerState). p.dials) y.is))
      (λ k le. at k ∙ sent_other (with_dial entry.address mid.parts) y.seat k true mid.parts.moment (apart k le) ∙ made.change.others k (apart k le) ∙ x.free k (omega (arith, le)))
      (λ k c also. ⊎_elim
      (λ same. by_own c (sym (address_at c (ap (channel_at (with_datagram (with_dial entry.address mid.parts) y.seat true mid.parts.moment)) (sym (eqb-true k y.seat same)) ∙ sym (at k) ∙ also))))
      (λ ne. let other = eqb-false k y.seat ne in
      among (dials d (address_of c.address)) more added
      (x.each k c (sym (made.change.others k other) ∙ sym (sent_other (with_dial entry.address mid.parts) y.seat k true mid.parts.moment other) ∙ sym (at k) ∙ also)))
      (cases_Bool (eqb k y.seat)))
      (λ a found. subst (λ (b : Address). list_any (dials d (address_of b)) (more ++ added) ≡ true) (sym (own_is a found)) all)
    where
      at : (k : ℕ) → channel_at new.parts.lives k ≡ channel_at (with_datagram (with_dial entry.address mid.parts) y.seat true mid.parts.moment) k
      at k = lives_same k ∙ ap (λ (p : LearnerState). channel_at p.lives k) y.is

      made : IsMade mid.parts.lives (with_dial entry.address mid.parts) y.seat (dialled entry.address mid.parts.moment)
      made = made_is mid.parts.lives y.seat (dialled entry.address mid.parts.moment) (λ k. refl) s.standing.seated.are y.free

      all : list_any (dials d (address_of entry.address)) (more ++ added) ≡ true
      all = list_any-append (dials d (address_of entry.address)) more added ∙ ap (λ (b : Bool). b || list_any (dials d (address_of entry.address)) added) sent

      by_own : (c : Channel) → entry.address ≡ c.address → list_any (dials d (address_of c.address)) (more ++ added) ≡ true
      by_own c same = subst (λ (b : Address). list_any (dials d (address_of b)) (more ++ added) ≡ true) same all

      -- the free seat is the least one
      apart : (k : ℕ) → suc n ≤ k → k ≢ y.seat
      apart k le same = ⊎_elim
          (λ under. false≢true (sym ((position-Some is_none mid.parts.lives.channels y.seat None y.free).2 n under) ∙ ap is_none (x.free n (omega arith))))
          (λ over. omega (arith, over, le, same))
          (cases_lt n y.seat)

      address_at : (c : Channel) → channel_at (with_datagram (with_dial entry.address mid.parts) y.seat true mid.parts.moment) y.seat ≡ Some c → c.address ≡ entry.address
      address_at c also =
          let t = with_dial entry.address mid.parts in
          let e : Channel = dialled entry.address mid.parts.moment made.number in
          let once = changed_is (with_dial entry.address mid.parts) y.seat e (λ z. record z { wrote = mid.parts.moment }) made.change.there in
          let twice = changed_is (changed (with_dial entry.address mid.parts) y.seat (λ z. record z { wrote = mid.parts.moment })) y.seat
          (record e { wrote = mid.parts.moment }) (λ z. record z { opening = with_handshake z.opening }) once.there in
          ap (λ (z : Channel). z.address) (same_Some c _ (sym also ∙ twice.there))

module _ (n moment : ℕ) (old mid new : Scene) (past : List Record) (before : Dialled n old mid past) (x : DialsAt moment n mid new) where
  abbrev Result : List Address → List Record → Type 0
  Result dial more = HasRisen old.link.faults new.link.faults ⊎ AreDone (stand_in (name_of old.parts.name)) dial (suc n) new.parts (more ++ before.goes.on.added)

  named : (dial : List Address) (more : List Record) → AreDone (stand_in (name_of mid.parts.name)) dial (suc n) new.parts (more ++ before.goes.on.added) → Result dial more
  named dial more done = inr (subst (λ (name : SwarmName). AreDone (stand_in (name_of name)) dial (suc n) new.parts (more ++ before.goes.on.added)) before.goes.name done)

  by : (dial : List Address) → length dial ≤ 16 → (b : Became mid x.mid (before.goes.on.added ++ past) moment before.goes.whole before.goes.on.stands x.dial)
      → (h : Goes mid new (before.goes.on.added ++ past)) → h.on.added ≡ b.goes.on.added
      → AreDone (stand_in (name_of mid.parts.name)) dial n mid.parts before.goes.on.added → Result dial h.on.added
  by dial few b h same done = ⊎_elim
      (λ rests. ⊎_elim
      (λ has. named dial h.on.added (done_there (stand_in (name_of mid.parts.name)) dial few n moment mid x.mid new before.goes.on.added h.on.added
      (before.goes.on.added ++ past) before.goes.on.stands done x.dial x.there x.from x.is rests.0 has))
      (λ not. ⊎_elim
      (λ early. absurd (early (at_once (stand_in (name_of mid.parts.name)) dial few n moment mid x.mid new before.goes.on.added h.on.added
      (before.goes.on.added ++ past) before.goes.on.stands done x.dial x.there x.from x.is)))
      (λ full. absurd (full_there mid.parts.lives n before.goes.on.stands.standing.seated.are full
      (low (stand_in (name_of mid.parts.name)) dial few n moment mid x.mid new before.goes.on.added h.on.added
      (before.goes.on.added ++ past) before.goes.on.stands done x.dial x.there x.from x.is) (done.free n (omega arith))))
      not)
      rests.1)
      (λ does. ⊎_elim
      (λ risen. inl (risen_less old.link.faults mid.link.faults new.link.faults before.goes.alone.later
      (subst (λ (y : Scene). HasRisen mid.link.faults y.link.faults) (sym x.is) risen)))
      (λ sent. named dial h.on.added (done_sent (stand_in (name_of mid.parts.name)) dial few n moment mid x.mid new before.goes.on.added h.on.added
      (before.goes.on.added ++ past) before.goes.on.stands done x.dial x.there x.from x.is sent.0
      (ap (λ (xs : List Record). list_any (dials (stand_in (name_of mid.parts.name)) (address_of x.dial.address)) xs) same ∙ sent.1)))
      does)
      b.how

  dialled_more : Dialled (suc n) old new past
  dialled_more =
      let b = became mid x.mid (before.goes.on.added ++ past) moment before.goes.whole before.goes.on.stands x.dial x.from x.steps in
      let h = dials_set mid x.mid new (before.goes.on.added ++ past) (slice_set x.mid.parts.dials n (record x.dial { from = x.from })) x.is b.goes in
      record {
        goes = goes_then old mid new past before.goes h.0;
        done = λ dial few idle. ⊎_elim
            (λ risen. inl (risen_more old.link.faults mid.link.faults new.link.faults h.0.alone.later risen))
            (λ done. by dial few b h.0 h.1
            (subst (λ (name : SwarmName). AreDone (stand_in (name_of name)) dial n mid.parts before.goes.on.added) (sym before.goes.name) done))
            (before.done dial few idle);
      }

each_dialled : (n moment : ℕ) (old new : Scene) (past : List Record) → EachBelow n (DialsAt moment) old new → IsWhole old.parts → StandsFor old.parts past
    → Dialled n old new past
unfolding EachBelow
each_dialled zero moment old new past each whole s = dialled_none old new past each whole s
each_dialled (suc n) moment old new past each whole s =
    dialled_more n moment old each.0 new past (each_dialled n moment old each.0 past each.1 whole s) each.2

-- ---- a turn

-- an idle learner drops no channel
idle_drops : (now : ℕ) (seats : List ℕ) (old new : Seats) → old.channels ≡ replicate 64 None → Drops now seats old new → new ≡ old
idle_drops now [] old new free drops = drops.0
idle_drops now (seat ∷ seats) old new free drops =
    let none : channel_at old seat ≡ None = ap (λ (xs : List (Option Channel)). at_seat xs seat) free ∙ none_there 64 seat in
    absurd (false≢true (sym (ap (is_over now) none) ∙ over_there now old seat drops.0))

pub flush_ends : FlushEnds
flush_ends moment old new past whole f s =
    let first : Scene = record { parts = f.dropped; link = old.link } in
    let stands : StandsFor f.dropped past = subst (λ (p : LearnerState). StandsFor p past) (sym f.dropped_is) (drops_stand f.seats old.parts f.dropped.lives past f.drops s) in
    let kept : IsWhole f.dropped = subst IsWhole (sym f.dropped_is) (record { size = whole.size; swarm = whole.swarm; seats = whole.seats }) in
    let x = each_dialled (length old.parts.dials) moment first f.mid past f.dials kept stands in
    let y = each_goes 64 (SpeaksAt moment) (speak_goes moment) f.mid new (x.goes.on.added ++ past) f.speaks x.goes.whole x.goes.on.stands in
    let g = goes_then first f.mid new past x.goes y in
    let name : new.parts.name ≡ old.parts.name = g.name ∙ ap (λ (p : LearnerState). p.name) f.dropped_is in
    record {
      on = record {
        added = y.on.added ++ x.goes.on.added;
        gained = g.on.gained;
        stands = g.on.stands;
        tallies = λ refused a. g.on.tallies refused (subst (λ (p : LearnerState). AreTallied refused p.counts past) (sym f.dropped_is) a);
      };
      whole = y.whole;
      name = name;
      speaks = subst (λ (n : SwarmName). AllByRecursion (Speaks (stand_in (name_of n))) (y.on.added ++ x.goes.on.added)) (sym g.name) g.speaks;
      alone = g.alone;
      asks = ⊎_elim
          (λ risen. inl risen)
          (λ all. inr (all_asked new.parts ((y.on.added ++ x.goes.on.added) ++ past) g.on.stands all))
          (turn_asked moment old new whole f);
      dials = λ dial few idle. ⊎_elim
          (λ risen. inl (risen_more old.link.faults f.mid.link.faults new.link.faults y.alone.later risen))
          (λ done. inr (subst (λ (n : SwarmName). AreDialled (stand_in (name_of n)) dial (y.on.added ++ x.goes.on.added)) (sym g.name)
          (all_found (λ a. list_any (dials (stand_in (name_of f.dropped.name)) (address_of a)) (y.on.added ++ x.goes.on.added) ≡ true) dial
          (λ i a is.
          let lt = slice_get_within dial i a is in
          let count : length old.parts.dials ≡ length dial = ap (λ (xs : List Dial). length xs) idle.all ∙ length-map dial undialled in
          among (dials (stand_in (name_of f.dropped.name)) (address_of a)) y.on.added x.goes.on.added (done.done i a (omega (arith, lt, count)) is)))))
          (x.done dial few (record {
            free = ap (λ (t : Seats). t.channels) (idle_drops old.parts.moment f.seats old.parts.lives f.dropped.lives idle.free f.drops) ∙ idle.free;
            all = ap (λ (p : LearnerState). p.dials) f.dropped_is ∙ idle.all;
          }));
    }
