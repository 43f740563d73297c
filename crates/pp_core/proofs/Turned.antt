-- What all seats' turns ask for, one after the other.
use Rattle.std.proofs.Common.{◌≡◌, ◌≢◌, ◌⊎◌, inl, inr, ⊎_elim, ℕ, zero, suc, ◌<◌, ◌≤◌, Bool, true, false, Option, Some, None, List, length, refl, sym, ◌∙◌, ap, subst, arith}
use Rattle.std.specs.Prelude.{slice_index_or}
use Rattle.std.proofs.lemmas.Bool.{cases_Bool, cases_lt, both_ways}
use Rattle.std.proofs.lemmas.Option.{same_Some}
use Rattle.pp_terms.specs.Count.{HasRisen}
use Rattle.pp_terms.specs.format.Traffic.{LinkState}
use Rattle.pp_terms.proofs.Risings.{risen_more, risen_less}
use Rattle.pp_avail.specs.declared.ranker.Rank.{Rank}
use Rattle.pp_avail.specs.Offers as offers
use Rattle.pp_wanting.specs.Wants.{is_for}
use Rattle.pp_requests.specs.declared.asking.Asking.{Asking}
use Rattle.pp_channels.specs.Seats.{channel_at}
use Rattle.pp_lives.specs.Fars.{far_of}
use Rattle.pp_lives.specs.declared.lives.Far.{Far}
use Rattle.pp_store.specs.Store.{is_committed}
use Rattle.pp_holding.specs.Holding.{HoldingState}
use Rattle.pp_fetching.specs.Fetching.{FetchState}
use Rattle.pp_fetching.specs.Owners.{awaits}
use Rattle.pp_peer.specs.declared.parts.Parts.{Parts}
use Rattle.pp_peer.specs.declared.speaking.Speaker.{Speaker}
use Rattle.pp_peer.specs.Standing.{own_in, asked_of}
use Rattle.pp_peer.specs.Flushing.{Scene}
use Rattle.pp_peer.specs.Greeting.{IsGreeted}
use Rattle.pp_peer.specs.Speaking.{SpeaksOn, TurnsIf, TurnsTo, TurnsBelow}
use Rattle.pp_core.specs.Asking.{AwaitsUncommitted, OffersNone, GoesBefore}
use Rattle.pp_core.proofs.Rounds.{turn_kept}
use Rattle.pp_core.proofs.Having.{had_of, had_kept, SameHad}
use Rattle.pp_core.proofs.Asking.{Less, less_same, less_twice, HadAll}
use Rattle.pp_core.proofs.Rooms.{Alike, alike_same, back_alike, attends_alike, Elsewhere, alike_elsewhere, elsewhere_twice, greets_elsewhere, greets_own, greets_fetching, greets_faults, greets_unknown, goes_risen, IsOwned, Room, spoke_elsewhere, spoke_less, spoke_faults, spoke_owned, spoke_none, spoke_orders}

-- ---- a seat's turn

-- Each chunk that is awaited on the channel of a seat and wasn't before goes, by the order of a ranker, before each that the seat offers
-- and that may be asked for still, unless the link refused a datagram.
abbrev pub OrdersAt : Rank → ℕ → Scene → Scene → Type 0
OrdersAt order k a b = IsOwned a.parts → HadAll (had_of a.parts.fetching) (is_committed a.parts.holding.store)
    → (f : FetchState) → b.parts.fetching ≡ Some f → (i j : ℕ) → awaits (own_in b.parts.seats.seats k) i ≡ true
    → awaits (own_in a.parts.seats.seats k) i ≡ false → is_for f.want f.offers k j ≡ true
    → GoesBefore order f.offers i j ⊎ HasRisen a.link.faults b.link.faults

-- The turn of a seat leaves the others. On its own channel all that it offers was asked for, where more may be asked for there, unless
-- the link refused a datagram.
pub record TurnedAt (order : Rank) (k : ℕ) (a b : Scene) : Type 0 where
  pub elsewhere : Elsewhere k a.parts b.parts
  pub less : HadAll (had_of a.parts.fetching) (is_committed a.parts.holding.store) → Less a.parts.fetching b.parts.fetching
  pub owned : IsOwned a.parts → IsOwned b.parts
  pub faults : a.link.faults ≤ b.link.faults
  pub here : IsOwned a.parts → AwaitsUncommitted k a.parts → Room k b.parts → OffersNone k b.parts ⊎ HasRisen a.link.faults b.link.faults
  pub orders : OrdersAt order k a b

pub owned_alike : (p q : Parts) → ((n : ℕ) → own_in q.seats.seats n ≡ own_in p.seats.seats n) → q.fetching ≡ p.fetching → IsOwned p → IsOwned q
owned_alike p q own fetching owned = record {
  owner = owned.owner;
  noted = λ i. ap (λ (o : Option FetchState). slice_index_or (asked_of o) i false) fetching ∙ owned.noted i;
  each = λ n i. ap (λ (xs : List Asking). awaits xs i) (own n) ∙ owned.each n i;
}

uncommitted_alike : (k : ℕ) (p q : Parts) → own_in q.seats.seats k ≡ own_in p.seats.seats k → q.holding ≡ p.holding → AwaitsUncommitted k p
    → AwaitsUncommitted k q
uncommitted_alike k p q own holding free i e =
    ap (λ (h : HoldingState). is_committed h.store i) holding ∙ free i (ap (λ (xs : List Asking). awaits xs i) (sym own) ∙ e)

none_alike : (k : ℕ) (p q : Parts) → q.fetching ≡ p.fetching → OffersNone k p → OffersNone k q
none_alike k p q fetching none f e = none f (sym fetching ∙ e)

greeted_at : (order : Rank) (k moment : ℕ) (sent : Bool) (a b : Scene) → IsGreeted k moment sent a.parts b.parts a.link b.link
    → far_of (channel_at a.parts.seats.table k) ≡ None → TurnedAt order k a b
greeted_at order k moment sent a b g none = record {
  elsewhere = greets_elsewhere k moment sent a.parts b.parts a.link b.link g;
  less = λ had. less_same a.parts.fetching b.parts.fetching (greets_fetching k moment sent a.parts b.parts a.link b.link g);
  owned = owned_alike a.parts b.parts (greets_own k moment sent a.parts b.parts a.link b.link g)
      (greets_fetching k moment sent a.parts b.parts a.link b.link g);
  faults = greets_faults k moment sent a.parts b.parts a.link b.link g;
  here = λ owned free room.
      let x : None ≡ Some room.far = sym (greets_unknown k moment sent a.parts b.parts a.link b.link g none) ∙ room.is_far in absurd cc;
  orders = λ owned had f e i j now before is. absurd (both_ways (awaits (own_in a.parts.seats.seats k) i) before
      (ap (λ (xs : List Asking). awaits xs i) (sym (greets_own k moment sent a.parts b.parts a.link b.link g k)) ∙ now));
}

silent_at : (order : Rank) (k : ℕ) (far : Far) (a b : Scene) → b.parts ≡ a.parts → b.link ≡ a.link
    → far_of (channel_at a.parts.seats.table k) ≡ Some far
    → far.begun ≡ false → TurnedAt order k a b
silent_at order k far a b parts link is unbegun = record {
  elsewhere = alike_elsewhere k a.parts b.parts (alike_same a.parts b.parts parts);
  less = λ had. less_same a.parts.fetching b.parts.fetching (ap (λ (p : Parts). p.fetching) parts);
  owned = λ owned. subst IsOwned (sym parts) owned;
  faults = (let same = ap (λ (l : LinkState). l.faults) link in omega (arith, same));
  here = λ owned free room.
      let same : room.far ≡ far = same_Some room.far far (sym room.is_far ∙ ap (λ (p : Parts). far_of (channel_at p.seats.table k)) parts ∙ is) in
      absurd (both_ways far.begun unbegun (ap (λ (f : Far). f.begun) (sym same) ∙ room.begun));
  orders = λ owned had f e i j now before is. absurd (both_ways (awaits (own_in a.parts.seats.seats k) i) before
      (ap (λ (p : Parts). awaits (own_in p.seats.seats k) i) (sym parts) ∙ now));
}

spoken_at : (k : ℕ) (far : Far) (greets : Bool) (refused : ℕ) (speaker left : Speaker) (a b : Scene)
    → SpeaksOn (record { seat = k; far = far; greets = greets }) refused speaker left a b → TurnedAt speaker.order k a b
spoken_at k far greets refused speaker left a b s = record {
  elsewhere = elsewhere_twice k a.parts s.back b.parts (alike_elsewhere k a.parts s.back first)
      (elsewhere_twice k s.back s.said b.parts (spoke_elsewhere k far greets refused speaker left old mid s.speaks)
      (alike_elsewhere k s.said b.parts last));
  less = λ had. less_twice a.parts.fetching s.back.fetching b.parts.fetching (less_same a.parts.fetching s.back.fetching first.fetching)
      (less_twice s.back.fetching s.said.fetching b.parts.fetching
      (spoke_less k far greets refused speaker left old mid s.speaks
      (had_back had))
      (less_same s.said.fetching b.parts.fetching last.fetching));
  owned = λ owned. owned_alike s.said b.parts last.own last.fetching
      (spoke_owned k far greets refused speaker left old mid s.speaks (owned_alike a.parts s.back first.own first.fetching owned));
  faults = spoke_faults k far greets refused speaker left old mid s.speaks;
  here = λ owned free room. at owned free room (cases_lt 0 s.speaks.delivered.refused);
  orders = λ owned had f e i j now before is. ⊎_elim
      (λ some. inr (goes_risen _ _ left.agenda _ _ s.speaks.says.speaks.goes refl some))
      (λ (none : s.speaks.delivered.refused ≤ 0). inl (spoke_orders k far greets refused speaker left old mid s.speaks (omega (arith, none))
      (owned_alike a.parts s.back first.own first.fetching owned) (had_back had) f (sym last.fetching ∙ e) i j
      (ap (λ (xs : List Asking). awaits xs i) (sym (last.own k)) ∙ now) (ap (λ (xs : List Asking). awaits xs i) (first.own k) ∙ before) is))
      (cases_lt 0 s.speaks.delivered.refused);
}
  where
    old : Scene
    old = record a { parts = s.back }

    mid : Scene
    mid = record b { parts = s.said }

    first : Alike a.parts s.back
    first = back_alike k greets speaker.news.ranges a.parts s.back s.sets_back

    last : Alike s.said b.parts
    last = attends_alike k _ s.said b.parts s.attends.attends

    had_back : HadAll (had_of a.parts.fetching) (is_committed a.parts.holding.store)
        → HadAll (had_of s.back.fetching) (is_committed s.back.holding.store)
    had_back had = subst (λ (h : HoldingState). HadAll (had_of s.back.fetching) (is_committed h.store)) (sym first.holding)
        (subst (λ (o : Option FetchState). HadAll (had_of o) (is_committed a.parts.holding.store)) (sym first.fetching) had)

    at : IsOwned a.parts → AwaitsUncommitted k a.parts → Room k b.parts → (0 < s.speaks.delivered.refused) ⊎ (s.speaks.delivered.refused ≤ 0)
        → OffersNone k b.parts ⊎ HasRisen a.link.faults b.link.faults
    at owned free room (inl some) = inr (goes_risen _ _ left.agenda _ _ s.speaks.says.speaks.goes refl some)
    at owned free room (inr none) = inl (none_alike k s.said b.parts last.fetching
        (spoke_none k far greets refused speaker left old mid s.speaks (omega (arith, none))
        (owned_alike a.parts s.back first.own first.fetching owned)
        (uncommitted_alike k a.parts s.back (first.own k) first.holding free)
        (let few = room.few in let same = ap (λ (xs : List Asking). length xs) (last.own k) in let most = last.may k in omega (arith, few, same, most))))

pub turned_at : (k refused : ℕ) (speaker left : Speaker) (a b : Scene) → TurnsTo k refused speaker left a b → TurnedAt speaker.order k a b
turned_at k refused speaker left a b t = of (far_of (channel_at a.parts.seats.table k)) refl t
  where
    of : (o : Option Far) → far_of (channel_at a.parts.seats.table k) ≡ o → TurnsIf o k refused speaker left a b → TurnedAt speaker.order k a b
    of None is g = greeted_at speaker.order k _ g.greeted a b g.greets is
    of (Some far) is (inl n) = silent_at speaker.order k far a b n.silent.parts n.silent.link is n.begun
    of (Some far) is (inr s) = spoken_at k far s.0 refused speaker left a b s.1

turn_order : (k refused : ℕ) (speaker left : Speaker) (a b : Scene) → TurnsTo k refused speaker left a b → left.order ≡ speaker.order
turn_order k refused speaker left a b t = of (far_of (channel_at a.parts.seats.table k)) t
  where
    of : (o : Option Far) → TurnsIf o k refused speaker left a b → left.order ≡ speaker.order
    of None g = ap (λ (x : Speaker). x.order) g.speaker_same
    of (Some far) (inl n) = ap (λ (x : Speaker). x.order) n.silent.speaker_same
    of (Some far) (inr s) = s.1.speaks.fills.order

-- ---- all seats

-- The seats below a number had their turns.
pub record TurnedBelow (speaker left : Speaker) (k : ℕ) (a b : Scene) : Type 0 where
  pub own : (n : ℕ) → k ≤ n → own_in b.parts.seats.seats n ≡ own_in a.parts.seats.seats n
  pub holding : b.parts.holding ≡ a.parts.holding
  pub had : SameHad a.parts b.parts
  pub owned : IsOwned a.parts → IsOwned b.parts
  pub faults : a.link.faults ≤ b.link.faults
  pub done : (n : ℕ) → n < k → IsOwned a.parts → HadAll (had_of a.parts.fetching) (is_committed a.parts.holding.store) → AwaitsUncommitted n a.parts
      → Room n b.parts → OffersNone n b.parts ⊎ HasRisen a.link.faults b.link.faults
  pub orders : (n : ℕ) → n < k → OrdersAt speaker.order n a b
  pub order_same : left.order ≡ speaker.order

less_none : (n : ℕ) (p q : Parts) → Less p.fetching q.fetching → OffersNone n p → OffersNone n q
less_none n p q less none f e i =
    let was = less f e in
    ⊎_elim (λ is. absurd (both_ways (is_for (was.0).want (was.0).offers n i) (none was.0 was.1 i) (was.3 n i is))) (λ no. no)
    (cases_Bool (is_for f.want f.offers n i))

below_one : (k refused : ℕ) (speaker middle left : Speaker) (a m b : Scene) → TurnedBelow speaker middle k a m
    → TurnsTo k refused middle left m b → TurnedBelow speaker left (suc k) a b
below_one k refused speaker middle left a m b t turn = record {
  own = λ n le. one.elsewhere.own n (λ e. absurd (omega (arith, le, e))) ∙ t.own n (omega (arith, le));
  holding = one.elsewhere.holding ∙ t.holding;
  had = turn_kept SameHad had_kept k refused middle left m b turn ∙ t.had;
  owned = λ owned. one.owned (t.owned owned);
  faults = (let low = t.faults in let high = one.faults in omega (arith, low, high));
  done = λ n lt owned had free room. ⊎_elim
      (λ (less : n < k). ⊎_elim
      (λ none. inl (less_none n m.parts b.parts (one.less (had_there had)) none))
      (λ risen. inr (risen_more a.link.faults m.link.faults b.link.faults one.faults risen))
      (t.done n less owned had free (room_before n (λ e. absurd (omega (arith, less, e))) room)))
      (λ (le : k ≤ n).
      let here : n ≡ k = omega (arith, le, lt) in
      subst (λ (j : ℕ). OffersNone j b.parts ⊎ HasRisen a.link.faults b.link.faults) (sym here) (⊎_elim
      (λ none. inl none)
      (λ risen. inr (risen_less a.link.faults m.link.faults b.link.faults t.faults risen))
      (one.here (t.owned owned)
      (uncommitted_alike k a.parts m.parts (t.own k (omega arith)) t.holding (subst (λ (j : ℕ). AwaitsUncommitted j a.parts) here free))
      (subst (λ (j : ℕ). Room j b.parts) here room))))
      (cases_lt n k);
  orders = λ n lt. ⊎_elim
      (λ (less : n < k). earlier n less)
      (λ (le : k ≤ n). let here : n ≡ k = omega (arith, le, lt) in subst (λ (j : ℕ). OrdersAt speaker.order j a b) (sym here) last)
      (cases_lt n k);
  order_same = turn_order k refused middle left m b turn ∙ t.order_same;
}
  where
    one : TurnedAt middle.order k m b
    one = turned_at k refused middle left m b turn

    had_there : HadAll (had_of a.parts.fetching) (is_committed a.parts.holding.store)
        → HadAll (had_of m.parts.fetching) (is_committed m.parts.holding.store)
    had_there had = subst (λ (h : HoldingState). HadAll (had_of m.parts.fetching) (is_committed h.store)) (sym t.holding)
        (subst (λ (o : Option (List Bool)). HadAll o (is_committed a.parts.holding.store)) (sym t.had) had)

    earlier : (n : ℕ) → n < k → OrdersAt speaker.order n a b
    earlier n less owned had f e i j now before is =
        let was = one.less (had_there had) f e in
        ⊎_elim
        (λ goes. inl (subst (λ (o : offers.Offers). GoesBefore speaker.order o i j) (sym was.2) goes))
        (λ risen. inr (risen_more a.link.faults m.link.faults b.link.faults one.faults risen))
        (t.orders n less owned had was.0 was.1 i j
        (ap (λ (xs : List Asking). awaits xs i) (sym (one.elsewhere.own n (λ e. absurd (omega (arith, less, e))))) ∙ now) before (was.3 n j is))

    last : OrdersAt speaker.order k a b
    last owned had f e i j now before is = ⊎_elim
        (λ goes. inl (subst (λ (order : Rank). GoesBefore order f.offers i j) t.order_same goes))
        (λ risen. inr (risen_less a.link.faults m.link.faults b.link.faults t.faults risen))
        (one.orders (t.owned owned) (had_there had) f e i j now (ap (λ (xs : List Asking). awaits xs i) (t.own k (omega arith)) ∙ before) is)

    room_before : (n : ℕ) → n ≢ k → Room n b.parts → Room n m.parts
    room_before n ne r = record {
      far = r.far;
      is_far = ap far_of (sym (one.elsewhere.channels n ne)) ∙ r.is_far;
      begun = r.begun;
      few = (let few = r.few in let same = ap (λ (xs : List Asking). length xs) (one.elsewhere.own n ne) in let most = one.elsewhere.may n ne in
          omega (arith, few, same, most));
    }

pub turned_below : (k refused : ℕ) (speaker left : Speaker) (a b : Scene) → TurnsBelow k refused speaker left a b → TurnedBelow speaker left k a b
unfolding TurnsBelow
turned_below zero refused speaker left a b t = record {
  own = λ n le. ap (λ (p : Parts). own_in p.seats.seats n) t.parts;
  holding = ap (λ (p : Parts). p.holding) t.parts;
  had = ap (λ (p : Parts). had_of p.fetching) t.parts;
  owned = λ owned. subst IsOwned (sym t.parts) owned;
  faults = (let same = ap (λ (l : LinkState). l.faults) t.link in omega (arith, same));
  done = λ n lt. absurd (omega (arith, lt));
  orders = λ n lt. absurd (omega (arith, lt));
  order_same = ap (λ (x : Speaker). x.order) t.speaker_same;
}
turned_below (suc k) refused speaker left a b t = below_one k t.1 speaker t.2 left a t.3 b (turned_below k t.0 speaker t.2 a t.3 t.4) t.5
