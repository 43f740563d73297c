-- Where nothing more may be asked for on the channel of a seat, whatever was cancelled there.
use Rattle.std.proofs.Common.{◌≡◌, ◌≢◌, ◌⊎◌, inl, inr, ⊎_elim, ℕ, zero, suc, ◌+◌, ◌-◌, ◌<◌, ◌≤◌, Bool, true, false, cond, not, ◌&&◌, ◌||◌, Option, Some, None, List, [], ◌∷◌, length, refl, sym, ◌∙◌, ap, subst, arith}
use Rattle.std.specs.Prelude.{nat_lt, slice_get, slice_index_or, is_some}
use Rattle.std.proofs.lemmas.Bool.{cases_Bool, cases_lt, false≢true, both_ways, and_parts, or_cases}
use Rattle.std.proofs.lemmas.Option.{same_Some}
use Rattle.pp_terms.specs.Count.{HasRisen}
use Rattle.pp_terms.specs.disk.Disk.{moment_of}
use Rattle.pp_terms.specs.tree.Range.{Span, has, IsRunsFrom}
use Rattle.pp_terms.proofs.Risings.{risen_more, risen_less}
use Rattle.pp_avail.specs.declared.ranker.Rank.{Rank}
use Rattle.pp_avail.specs.Offers as offers
use Rattle.pp_wanting.specs.Wants.{is_for}
use Rattle.pp_ranges.specs.Edits.{number_count}
use Rattle.pp_requests.specs.declared.asking.Asking.{Asking}
use Rattle.pp_requests.specs.Moments.{IsRisingFrom}
use Rattle.pp_channels.specs.Seats.{channel_at}
use Rattle.pp_lives.specs.Fars.{far_of}
use Rattle.pp_lives.specs.declared.lives.Far.{Far}
use Rattle.pp_store.specs.Store.{is_committed}
use Rattle.pp_holding.specs.Holding.{HoldingState}
use Rattle.pp_fetching.specs.Fetching.{FetchState, with_asked, with_request, IsNextOf, PicksInTurn}
use Rattle.pp_fetching.specs.Owners.{awaits}
use Rattle.pp_seat.specs.Seats.{SeatState}
use Rattle.pp_desk.specs.Delivers.{none_delivered}
use Rattle.pp_seats.specs.Standing.{SeatsState}
use Rattle.pp_seats.specs.Sending.{requested, FitAll, way_of, opening_at, Speaks}
use Rattle.pp_seats.proofs.Lists.{get_set_there}
use Rattle.pp_agenda.specs.Laws.{are_cancelling}
use Rattle.pp_agenda.proofs.Agreeing.{exchanges_all, cancels_all}
use Rattle.pp_peer.specs.declared.parts.Parts.{Parts}
use Rattle.pp_peer.specs.declared.speaking.Speaker.{Speaker}
use Rattle.pp_peer.specs.Standing.{own_at, own_in}
use Rattle.pp_peer.specs.Flushing.{Scene}
use Rattle.pp_seat.specs.Own.{room_of}
use Rattle.pp_peer.specs.Speaking.{may_ask, most_of, PicksFrom, SettlesIn, SpeaksTo, SpeaksOn, TurnsIf, TurnsTo, TurnsBelow}
use Rattle.pp_peer.proofs.Owning.{room_fits, picks_are_fit}
use Rattle.pp_core.specs.Asking.{OffersNone}
use Rattle.pp_core.proofs.Asking.{unasked, Less, HadAll}
use Rattle.pp_core.proofs.Awaiting.{IsAsked, goes_asked, agenda_first}
use Rattle.pp_core.proofs.Having.{had_of}
use Rattle.pp_core.proofs.Rooms.{most_at, may_where_some, most_where_may, most_in, IsOwned, Alike, back_alike, attends_alike, greets_unknown, goes_risen}
use Rattle.pp_core.proofs.Turned.{TurnedAt, turned_at, TurnedBelow, turned_below, owned_alike}

-- ---- the end of picking

picks_end : (order : Rank) (seat room : ℕ) (old : FetchState) (picks : List ℕ) (new : FetchState) → PicksInTurn order seat room old picks new
    → (length picks ≡ room) ⊎ IsNextOf order seat new None
picks_end order seat room old [] new p =
    ⊎_elim (λ full. inl (sym full)) (λ none. inr (subst (λ (f : FetchState). IsNextOf order seat f None) (sym p.0) none)) p.1
picks_end order seat room old (i ∷ picks) new p = ⊎_elim
    (λ full. inl (let lt = p.0 in omega (arith, lt, full))) (λ none. inr none)
    (picks_end order seat (room - 1) (with_request i old) picks new p.2)

gone_of : (pc w : Bool) → (true && not (pc && not w)) ≡ false → (pc ≡ true) × (w ≡ false)
gone_of true true e = absurd (false≢true (sym e))
gone_of true false e = (refl, refl)
gone_of false w e = absurd (false≢true (sym e))

-- a chunk may be asked for whatever is noted of others, where it isn't asked for
unasked_still : (f : FetchState) (asked : List Bool) (seat i : ℕ) → slice_index_or asked i false ≡ false → slice_index_or f.want.asked i false ≡ false
    → is_for (with_asked asked f).want (with_asked asked f).offers seat i ≡ is_for f.want f.offers seat i
unasked_still f asked seat i one two =
    ap (λ (b : Bool).
    (((nat_lt i (length f.want.had) && nat_lt i f.want.limit) && not (slice_index_or f.want.had i false)) && not b) && offers.has f.offers seat i)
    (one ∙ sym two)

-- Where all that was picked is awaited, and what was cancelled is had, nothing more is to be asked for, or as much was picked as there was
-- room for.
none_or_full : (order : Rank) (seat room : ℕ) (picks cancels : List Span) (own : List Asking) (committed : ℕ → Bool) (o m n : Option FetchState)
    → PicksFrom true order seat room picks o m → SettlesIn own picks cancels m n → ((i : ℕ) → has picks i ≡ true → awaits own i ≡ true)
    → ((i : ℕ) → has cancels i ≡ true → committed i ≡ true) → HadAll (had_of o) committed
    → (number_count picks ≡ room) ⊎ ((f : FetchState) → n ≡ Some f → (i : ℕ) → is_for f.want f.offers seat i ≡ false)
none_or_full order seat room picks cancels own committed None m n p s awaited dropped had = inr (λ f e i.
    let empty : SettlesIn own picks cancels None n = subst (λ (x : Option FetchState). SettlesIn own picks cancels x n) p.1 s in
    let x : None ≡ Some f = sym empty ∙ e in absurd cc)
none_or_full order seat room picks cancels own committed (Some old) m n p s awaited dropped had = ⊎_elim
    (λ full. inl (p.2.count ∙ full))
    (λ end. inr (λ f e i. ⊎_elim (λ is. absurd (both_ways (is_for p.0.want p.0.offers seat i) (end i) (there f e i is))) (λ none. none)
    (cases_Bool (is_for f.want f.offers seat i))))
    (picks_end order seat room old p.2.picks p.0 p.2.in_turn)
  where
    it : SettlesIn own picks cancels (Some p.0) n
    it = subst (λ (x : Option FetchState). SettlesIn own picks cancels x n) p.1 s

    there : (f : FetchState) → n ≡ Some f → (j : ℕ) → is_for f.want f.offers seat j ≡ true → is_for p.0.want p.0.offers seat j ≡ true
    there f e j is = of (cases_Bool (slice_index_or p.0.want.asked j false))
      where
        same : it.0 ≡ f
        same = same_Some it.0 f (sym it.1 ∙ e)

        is_left : f ≡ with_asked f.want.asked p.0
        is_left = subst (λ (x : FetchState). x ≡ with_asked x.want.asked p.0) same it.2.rest

        free : (slice_index_or f.want.had j false ≡ false) × (slice_index_or f.want.asked j false ≡ false)
        free = unasked f.want f.offers seat j is

        asked_is : (slice_index_or p.0.want.asked j false && not ((has picks j || has cancels j) && not (awaits own j))) ≡ false
        asked_is = sym (it.2.asked j) ∙ ap (λ (x : FetchState). slice_index_or x.want.asked j false) same ∙ free.1

        of : (slice_index_or p.0.want.asked j false ≡ true) ⊎ (slice_index_or p.0.want.asked j false ≡ false)
            → is_for p.0.want p.0.offers seat j ≡ true
        of (inr out) = sym (unasked_still p.0 f.want.asked seat j free.1 out)
            ∙ ap (λ (x : FetchState). is_for x.want x.offers seat j) (sym is_left) ∙ is
        of (inl was) =
            let left = gone_of (has picks j || has cancels j) (awaits own j)
            (ap (λ (b : Bool). b && not ((has picks j || has cancels j) && not (awaits own j))) (sym was) ∙ asked_is) in
            ⊎_elim
            (λ again. absurd (both_ways (awaits own j) left.1 (awaited j again)))
            (λ cancelled. absurd (both_ways (slice_index_or f.want.had j false) free.0
            (ap (λ (x : FetchState). slice_index_or x.want.had j false) is_left ∙ ap (λ (x : FetchState). slice_index_or x.want.had j false) p.3.rest
            ∙ had j (dropped j cancelled))))
            (or_cases (has picks j) (has cancels j) left.0)

-- ---- a seat's turn

-- As many chunks were picked for the channel of a seat as there was room for beside those that were awaited, each once. They are awaited
-- now.
pub record IsFull (k : ℕ) (a b : Parts) : Type 0 where
  pub picks : List Span
  pub runs : IsRunsFrom 0 picks
  pub awaited : (i : ℕ) → has picks i ≡ true → awaits (own_in b.seats.seats k) i ≡ true
  pub fresh : (i : ℕ) → has picks i ≡ true → awaits (own_in a.seats.seats k) i ≡ false
  pub rises : IsRisingFrom 0 (own_in a.seats.seats k)
  pub full : most_in b.seats.seats k ≤ length (own_in a.seats.seats k) + number_count picks

full_alike : (k : ℕ) (a c b e : Parts) → own_in c.seats.seats k ≡ own_in a.seats.seats k → most_in e.seats.seats k ≡ most_in b.seats.seats k
    → own_in e.seats.seats k ≡ own_in b.seats.seats k → IsFull k c b → IsFull k a e
full_alike k a c b e first most last f = record {
  picks = f.picks;
  runs = f.runs;
  awaited = λ i at. ap (λ (own : List Asking). awaits own i) last ∙ f.awaited i at;
  fresh = λ i at. ap (λ (own : List Asking). awaits own i) (sym first) ∙ f.fresh i at;
  rises = subst (λ (own : List Asking). IsRisingFrom 0 own) first f.rises;
  full = subst (λ (n : ℕ). n ≤ length (own_in a.seats.seats k) + number_count f.picks) (sym most)
      (subst (λ (own : List Asking). most_in b.seats.seats k ≤ length own + number_count f.picks) first f.full);
}

module _ (k : ℕ) (far : Far) (greets : Bool) (refused : ℕ) (speaker left : Speaker) (a b : Scene)
    (s : SpeaksTo (record { seat = k; far = far; greets = greets }) refused speaker left a b) (none : s.delivered.refused ≡ 0)
    (owned : IsOwned a.parts) where
  abbrev sp : Speaks k left.agenda (moment_of a.disk.history) s.delivered s.picked.seats s.said.seats a.link b.link
  sp = s.says.speaks

  seats_1 : s.picked.seats ≡ a.parts.seats
  seats_1 = ap (λ (p : Parts). p.seats) s.are_picked.rest

  seats_3 : b.parts.seats ≡ s.said.seats
  seats_3 = ap (λ (p : Parts). p.seats) s.settles.rest

  holding_1 : s.picked.holding ≡ a.parts.holding
  holding_1 = ap (λ (p : Parts). p.holding) s.are_picked.rest

  -- the same seat by its three names
  known_is : sp.before ≡ s.fills.known
  known_is = same_Some sp.before s.fills.known (sym sp.there ∙ s.fills.there)

  picked_is : sp.before ≡ s.are_picked.known
  picked_is = same_Some sp.before s.are_picked.known
      (sym sp.there ∙ ap (λ (x : SeatsState). slice_get x.seats k) seats_1 ∙ s.are_picked.there)

  read_before : {X : Type 0} (g : Option SeatState → X) → g (slice_get a.parts.seats.seats k) ≡ g (Some sp.before)
  read_before g = ap (λ (x : SeatsState). g (slice_get x.seats k)) (sym seats_1) ∙ ap g sp.there

  read_after : {X : Type 0} (g : Option SeatState → X) → g (slice_get b.parts.seats.seats k) ≡ g (Some sp.after)
  read_after g = ap (λ (x : SeatsState). g (slice_get x.seats k)) seats_3
      ∙ ap (λ (x : SeatsState). g (slice_get x.seats k)) sp.is
      ∙ ap g (get_set_there s.picked.seats.seats k sp.after sp.before sp.there)

  settled : SettlesIn (own_in b.parts.seats.seats k) s.picks s.cancels s.picked.fetching b.parts.fetching
  settled = subst (λ (x : SeatsState). SettlesIn (own_in x.seats k) s.picks s.cancels s.picked.fetching b.parts.fetching) (sym seats_3)
      (subst (λ (o : Option FetchState). SettlesIn (own_in s.said.seats.seats k) s.picks s.cancels o b.parts.fetching)
      (ap (λ (p : Parts). p.fetching) s.says.rest) s.settles.settles)

  cancelled : (i : ℕ) → has s.cancels i ≡ true → (awaits (own_in a.parts.seats.seats k) i ≡ true) × (is_committed a.parts.holding.store i ≡ true)
  cancelled i at =
      let parts = and_parts (awaits (own_in s.picked.seats.seats k) i) (is_committed s.picked.holding.store i) (sym (s.are_cancels.each i) ∙ at) in (
        ap (λ (x : SeatsState). awaits (own_in x.seats k) i) (sym seats_1) ∙ parts.0,
        ap (λ (h : HoldingState). is_committed h.store i) (sym holding_1) ∙ parts.1,
      )

  requested_are : requested left.agenda ≡ cond sp.before.proven s.picks []
  requested_are = (exchanges_all s.fills.known s.fills.due left.agenda s.fills.agenda).asks
      ∙ ap (λ (x : SeatState). cond x.proven s.fills.due.requests.now []) (sym known_is)
      ∙ ap (λ (xs : List Span). cond sp.before.proven xs []) s.fills.asked_for

  picks_fit : FitAll s.picks sp.before.own
  picks_fit = subst (λ (own : List Asking). FitAll s.picks own) (read_before own_at)
      (picks_are_fit (may_ask s.are_picked.known) speaker.order k s.are_picked.room s.picks a.parts.fetching s.picked.fetching
      (own_in a.parts.seats.seats) owned
      (subst (λ (own : List Asking). s.are_picked.room + length own ≤ 32) (sym (ap own_at s.are_picked.there))
      (room_fits s.are_picked.known.stopped s.are_picked.known.own s.are_picked.room s.are_picked.room_is s.are_picked.few)) s.are_picked.picks_from)

  fit : FitAll (requested left.agenda) sp.before.own
  fit = subst (λ (xs : List Span). FitAll xs sp.before.own) (sym requested_are) (of sp.before.proven)
    where
      of : (x : Bool) → FitAll (cond x s.picks []) sp.before.own
      of true = picks_fit
      of false = tt

  drops : (i : ℕ) → are_cancelling left.agenda i ≡ true → awaits sp.before.own i ≡ true
  drops i at =
      let is = sym (cancels_all s.fills.known s.fills.due left.agenda s.fills.agenda i) ∙ at in
      ap (λ (x : SeatState). awaits x.own i) known_is
      ∙ (and_parts (awaits s.fills.known.own i) (slice_index_or s.fills.due.committed.now i false)
      (and_parts s.fills.known.proven (awaits s.fills.known.own i && slice_index_or s.fills.due.committed.now i false) is).1).0

  asked : IsAsked left.agenda [] sp.before sp.after
  asked = goes_asked (opening_at s.picked.seats k) (way_of s.picked.seats sp.far (moment_of a.disk.history)) left.agenda
      (record { seat = sp.before; link = a.link; so_far = none_delivered })
      (record { seat = sp.after; link = b.link; so_far = s.delivered }) sp.goes none
      (agenda_first s.fills.known s.fills.due left.agenda s.fills.agenda) fit

  absent : (xs : List Span) → FitAll xs sp.before.own → (i : ℕ) → has xs i ≡ true → awaits sp.before.own i ≡ false
  absent [] f i at = absurd (false≢true at)
  absent (x ∷ xs) f i at = ap (λ (o : Option ℕ). is_some o) (f.absent i at)

  -- Where more may be asked for, nothing that the seat offers is left, or as much was picked as there was room for.
  spoke_full : HadAll (had_of a.parts.fetching) (is_committed a.parts.holding.store) → 0 < most_in b.parts.seats.seats k
      → OffersNone k b.parts ⊎ IsFull k a.parts b.parts
  spoke_full had may = ⊎_elim
      (λ full. inr (record {
        picks = s.picks;
        runs = runs_of (may_ask s.are_picked.known) s.are_picked.picks_from;
        awaited = awaited;
        fresh = λ i at. ap (λ (own : List Asking). awaits own i) (read_before own_at) ∙ absent s.picks picks_fit i at;
        rises = subst (λ (own : List Asking). IsRisingFrom 0 own) (sym (ap own_at s.are_picked.there)) s.are_picked.rises;
        full = (let is = s.are_picked.room_is ∙ sym (ap (λ (x : SeatState). room_of x.stopped x.own) picked_is) in
            let before = ap (λ (own : List Asking). length own) (read_before own_at) in
            let most = most_where_may sp.before may_before in
            omega (arith, full, is, before, most, most_same));
      }))
      (λ nothing. inl nothing)
      (none_or_full speaker.order k s.are_picked.room s.picks s.cancels (own_in b.parts.seats.seats k) (is_committed a.parts.holding.store)
      a.parts.fetching s.picked.fetching b.parts.fetching picks_true settled awaited (λ i at. (cancelled i at).1) had)
    where
      most_same : most_in b.parts.seats.seats k ≡ most_of sp.before
      most_same = read_after most_at ∙ asked.may

      may_before : may_ask sp.before ≡ true
      may_before = may_where_some sp.before 0 (subst (λ (n : ℕ). 0 < n) most_same may)

      proven : sp.before.proven ≡ true
      proven = (and_parts sp.before.proven _ may_before).0

      picks_true : PicksFrom true speaker.order k s.are_picked.room s.picks a.parts.fetching s.picked.fetching
      picks_true = subst (λ (x : Bool). PicksFrom x speaker.order k s.are_picked.room s.picks a.parts.fetching s.picked.fetching)
          (sym (ap may_ask picked_is) ∙ may_before) s.are_picked.picks_from

      spared : (i : ℕ) → has s.picks i ≡ true → are_cancelling left.agenda i ≡ false
      spared i at = ⊎_elim
          (λ c. absurd (both_ways (awaits sp.before.own i) (absent s.picks picks_fit i at) (drops i c)))
          (λ free. free)
          (cases_Bool (are_cancelling left.agenda i))

      awaited : (i : ℕ) → has s.picks i ≡ true → awaits (own_in b.parts.seats.seats k) i ≡ true
      awaited i at = ap (λ (own : List Asking). awaits own i) (read_after own_at)
          ∙ asked.asked i (ap (λ (xs : List Span). has xs i) (requested_are ∙ ap (λ (x : Bool). cond x s.picks []) proven) ∙ at) (spared i at)

      runs_of : (may : Bool) → PicksFrom may speaker.order k s.are_picked.room s.picks a.parts.fetching s.picked.fetching → IsRunsFrom 0 s.picks
      runs_of m p = of m a.parts.fetching p
        where
          of : (m : Bool) (o : Option FetchState) → PicksFrom m speaker.order k s.are_picked.room s.picks o s.picked.fetching → IsRunsFrom 0 s.picks
          of true None p = subst (λ (xs : List Span). IsRunsFrom 0 xs) (sym p.0) tt
          of true (Some f) p = p.3.runs
          of false o p = subst (λ (xs : List Span). IsRunsFrom 0 xs) (sym p.0) tt

-- Something may be asked for on the channel of a seat but for what is awaited there.
pub record MayAskAt (k : ℕ) (p : Parts) : Type 0 where
  pub far : Far
  pub is_far : far_of (channel_at p.seats.table k) ≡ Some far
  pub begun : far.begun ≡ true
  pub may : 0 < most_in p.seats.seats k

-- What the turn of a seat leaves there.
abbrev pub LeavesNone : ℕ → (start : Parts) → Scene → Scene → Type 0
LeavesNone k start a b = OffersNone k b.parts ⊎ (HasRisen a.link.faults b.link.faults ⊎ IsFull k start b.parts)

spoken_leaves : (k : ℕ) (far : Far) (greets : Bool) (refused : ℕ) (speaker left : Speaker) (a b : Scene)
    → SpeaksOn (record { seat = k; far = far; greets = greets }) refused speaker left a b → IsOwned a.parts
    → HadAll (had_of a.parts.fetching) (is_committed a.parts.holding.store) → MayAskAt k b.parts → LeavesNone k a.parts a b
spoken_leaves k far greets refused speaker left a b s owned had room = of (cases_lt 0 s.speaks.delivered.refused)
  where
    old : Scene
    old = record a { parts = s.back }

    mid : Scene
    mid = record b { parts = s.said }

    first : Alike a.parts s.back
    first = back_alike k greets speaker.news.ranges a.parts s.back s.sets_back

    last : Alike s.said b.parts
    last = attends_alike k _ s.said b.parts s.attends.attends

    had_back : HadAll (had_of s.back.fetching) (is_committed s.back.holding.store)
    had_back = subst (λ (h : HoldingState). HadAll (had_of s.back.fetching) (is_committed h.store)) (sym first.holding)
        (subst (λ (o : Option FetchState). HadAll (had_of o) (is_committed a.parts.holding.store)) (sym first.fetching) had)

    of : (0 < s.speaks.delivered.refused) ⊎ (s.speaks.delivered.refused ≤ 0) → LeavesNone k a.parts a b
    of (inl some) = inr (inl (goes_risen _ _ left.agenda _ _ s.speaks.says.speaks.goes refl some))
    of (inr none) = ⊎_elim
        (λ nothing. inl (λ f e. nothing f (sym last.fetching ∙ e)))
        (λ full. inr (inr (full_alike k a.parts s.back s.said b.parts (first.own k) (last.may k) (last.own k) full)))
        (spoke_full k far greets refused speaker left old mid s.speaks (omega (arith, none))
        (owned_alike a.parts s.back first.own first.fetching owned) had_back (subst (λ (n : ℕ). 0 < n) (last.may k) room.may))

turn_leaves : (k refused : ℕ) (speaker left : Speaker) (a b : Scene) → TurnsTo k refused speaker left a b → IsOwned a.parts
    → HadAll (had_of a.parts.fetching) (is_committed a.parts.holding.store) → MayAskAt k b.parts → LeavesNone k a.parts a b
turn_leaves k refused speaker left a b t owned had room = of (far_of (channel_at a.parts.seats.table k)) refl t
  where
    of : (o : Option Far) → far_of (channel_at a.parts.seats.table k) ≡ o → TurnsIf o k refused speaker left a b → LeavesNone k a.parts a b
    of None is g =
        let x : None ≡ Some room.far = sym (greets_unknown k _ g.greeted a.parts b.parts a.link b.link g.greets is) ∙ room.is_far in absurd cc
    of (Some far) is (inl n) =
        let same : room.far ≡ far = same_Some room.far far (sym room.is_far
        ∙ ap (λ (p : Parts). far_of (channel_at p.seats.table k)) n.silent.parts ∙ is) in
        absurd (both_ways far.begun n.begun (ap (λ (f : Far). f.begun) (sym same) ∙ room.begun))
    of (Some far) is (inr s) = spoken_leaves k far s.0 refused speaker left a b s.1 owned had room

-- ---- all seats

less_none : (n : ℕ) (p q : Parts) → Less p.fetching q.fetching → OffersNone n p → OffersNone n q
less_none n p q less none f e i =
    let was = less f e in
    ⊎_elim (λ is. absurd (both_ways (is_for (was.0).want (was.0).offers n i) (none was.0 was.1 i) (was.3 n i is))) (λ free. free)
    (cases_Bool (is_for f.want f.offers n i))

-- So it is when all seats had their turns.
pub turns_leave : (n k refused : ℕ) (speaker left : Speaker) (a b : Scene) → TurnsBelow k refused speaker left a b → n < k → IsOwned a.parts
    → HadAll (had_of a.parts.fetching) (is_committed a.parts.holding.store) → MayAskAt n b.parts → LeavesNone n a.parts a b
unfolding TurnsBelow
turns_leave n zero refused speaker left a b t lt owned had room = absurd (omega (arith, lt))
turns_leave n (suc k) refused speaker left a b t lt owned had room =
    of (cases_lt n k) (λ less r. turns_leave n k t.0 speaker t.2 a t.3 t.4 less owned had r)
  where
    m : Scene
    m = t.3

    before : TurnedBelow speaker t.2 k a m
    before = turned_below k t.0 speaker t.2 a m t.4

    one : TurnedAt t.2.order k m b
    one = turned_at k t.1 t.2 left m b t.5

    had_there : HadAll (had_of m.parts.fetching) (is_committed m.parts.holding.store)
    had_there = subst (λ (h : HoldingState). HadAll (had_of m.parts.fetching) (is_committed h.store)) (sym before.holding)
        (subst (λ (o : Option (List Bool)). HadAll o (is_committed a.parts.holding.store)) (sym before.had) had)

    earlier : n ≢ k → (MayAskAt n m.parts → LeavesNone n a.parts a m) → LeavesNone n a.parts a b
    earlier ne by = ⊎_elim
        (λ none. inl (less_none n m.parts b.parts (one.less had_there) none))
        (λ rest. ⊎_elim
        (λ risen. inr (inl (risen_more a.link.faults m.link.faults b.link.faults one.faults risen)))
        (λ full. inr (inr (full_alike n a.parts a.parts m.parts b.parts refl (one.elsewhere.may n ne) (one.elsewhere.own n ne) full)))
        rest)
        (by (record {
          far = room.far;
          is_far = ap far_of (sym (one.elsewhere.channels n ne)) ∙ room.is_far;
          begun = room.begun;
          may = subst (λ (m : ℕ). 0 < m) (one.elsewhere.may n ne) room.may;
        }))

    here : n ≡ k → LeavesNone n a.parts a b
    here is = subst (λ (j : ℕ). LeavesNone j a.parts a b) (sym is) (⊎_elim
        (λ none. inl none)
        (λ rest. ⊎_elim
        (λ risen. inr (inl (risen_less a.link.faults m.link.faults b.link.faults before.faults risen)))
        (λ full. inr (inr (full_alike k a.parts m.parts b.parts b.parts (before.own k (omega arith)) refl refl full)))
        rest)
        (turn_leaves k t.1 t.2 left m b t.5 (before.owned owned) had_there (subst (λ (j : ℕ). MayAskAt j b.parts) is room)))

    of : (n < k) ⊎ (k ≤ n) → (n < k → MayAskAt n m.parts → LeavesNone n a.parts a m) → LeavesNone n a.parts a b
    of (inl less) by = earlier (λ is. omega (arith, less, is)) (by less)
    of (inr le) by = here (omega (arith, le, lt))
