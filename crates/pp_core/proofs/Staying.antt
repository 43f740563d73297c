-- Channels whose other peer's number is known, and what their seats offer, before a flush and after it.
use Rattle.std.proofs.Common.{◌≡◌, ◌≢◌, inl, inr, ⊎_elim, ℕ, zero, suc, ◌<◌, Bool, true, false, cond, ◌&&◌, Option, Some, None, option_map, List, [], ◌∷◌, refl, sym, ◌∙◌, ap, subst}
use Rattle.std.specs.Prelude.{MatchBool, is_some, nat_lt, slice_set}
use Rattle.std.proofs.Math.ListN.{set}
use Rattle.std.proofs.lemmas.Bool.{cases_eq, both_ways}
use Rattle.std.proofs.lemmas.Option.{same_Some}
use Rattle.pp_terms.specs.format.Traffic.{LinkState}
use Rattle.pp_terms.specs.tree.Range.{Span}
use Rattle.pp_outside.specs.declared.link.Address.{Address}
use Rattle.pp_avail.specs.declared.ranker.Rank.{Rank}
use Rattle.pp_channels.specs.Seats.{Seats, at_seat, channel_at, after_drop, changed, closed, dialled, with_handshake, with_channel_at, used_of}
use Rattle.pp_channels.specs.Timing.{is_greeted}
use Rattle.pp_channels.specs.declared.channel.Channel.{Channel}
use Rattle.pp_fetching.specs.Fetching.{FetchState, with_asked}
use Rattle.pp_requests.specs.declared.asking.Asking.{Asking}
use Rattle.pp_lives.specs.Reading.{is_waiting}
use Rattle.pp_lives.specs.Sending.{with_datagram}
use Rattle.pp_lives.proofs.Edits.{still_opened}
use Rattle.pp_lives.specs.declared.lives.Far.{Far}
use Rattle.pp_seats.specs.Greeting.{Dials, with_dial}
use Rattle.pp_seats.specs.Sending.{with_sent}
use Rattle.pp_seats.specs.Standing.{SeatsState}
use Rattle.pp_peer.specs.declared.dialling.Dial.{Dial}
use Rattle.pp_peer.specs.declared.dialling.DialState.{DialState}
use Rattle.pp_peer.specs.declared.dialling.DialState.TheVariants.{Seated}
use Rattle.pp_peer.specs.declared.parts.Parts.{Parts}
use Rattle.pp_peer.specs.declared.speaking.Speaker.{Speaker}
use Rattle.pp_peer.specs.Delivering.{IsWritten}
use Rattle.pp_peer.specs.Dialling.{Tries, has_channel, is_due, noticed, after_dial, StepsDial, DialsEach, with_queue, DialsSuggested, DialsAll}
use Rattle.pp_peer.specs.Flushing.{Scene}
use Rattle.pp_peer.specs.Greeting.{IsGreeted, StaysBut, offers_of, wanted_of}
use Rattle.pp_peer.specs.Sending.{SendsAll}
use Rattle.pp_peer.specs.Speaking.{may_ask, PicksFrom, SettlesIn, SpeaksTo}
use Rattle.pp_peer.proofs.Dialled.{IsDialling, all_dialling}
use Rattle.pp_core.proofs.Before.{drop_in, made_there, closed_there}
use Rattle.pp_core.proofs.Fars.{set_free}
use Rattle.pp_core.proofs.Kept.{changed_there}
use Rattle.pp_core.proofs.Rooms.{at_changed, slots_alike, greets_fetching, back_alike}
use Rattle.pp_core.proofs.Rounds.{IsStepwise, turns_kept}

-- ---- a channel

-- A channel whose other peer's number is known was there before, of the same address and the same numbers.
abbrev pub CameAs : Option Channel → Option Channel → Type 0
CameAs o p = (c : Channel) → p ≡ Some c → is_waiting c ≡ false → (e : Channel) × (o ≡ Some e) × (is_waiting e ≡ false)
    × (e.address ≡ c.address) × (e.local ≡ c.local) × (e.remote ≡ c.remote)

pub as_same : (o p : Option Channel) → p ≡ o → CameAs o p
as_same o p same c is known = (c, sym same ∙ is, known, refl, refl, refl)

pub as_gone : (o p : Option Channel) → p ≡ None → CameAs o p
as_gone o p none c is known = let x : None ≡ Some c = sym none ∙ is in absurd cc

pub as_twice : (o p q : Option Channel) → CameAs o p → CameAs p q → CameAs o q
as_twice o p q one two c is known =
    let late = two c is known in
    let early = one late.0 late.1 late.2 in
    (early.0, early.1, early.2, early.3 ∙ late.3, early.4 ∙ late.4, early.5 ∙ late.5)

-- A change that leaves so much of a channel.
pub record KeepsNumbers (f : Channel → Channel) (c : Channel) : Type 0 where
  pub waits : is_waiting (f c) ≡ is_waiting c
  pub address : (f c).address ≡ c.address
  pub local : (f c).local ≡ c.local
  pub remote : (f c).remote ≡ c.remote

pub as_mapped : (f : Channel → Channel) (o : Option Channel) → ((c : Channel) → o ≡ Some c → KeepsNumbers f c) → CameAs o (option_map f o)
as_mapped f None keeps = λ c is known. let x : None ≡ Some c = is in absurd cc
as_mapped f (Some e) keeps = λ c is known.
    let same = same_Some (f e) c is in
    let k = keeps e refl in (
      e,
      refl,
      sym k.waits ∙ ap is_waiting same ∙ known,
      sym k.address ∙ ap (λ (x : Channel). x.address) same,
      sym k.local ∙ ap (λ (x : Channel). x.local) same,
      sym k.remote ∙ ap (λ (x : Channel). x.remote) same,
    )

pub as_stays : (o p : Option Channel) → StaysBut o p → CameAs o p
as_stays None p s = as_same None p s
as_stays (Some e) p s = λ c is known.
    let same = same_Some (record e { shadowed = s.0 }) c (sym s.1 ∙ is) in (
      e,
      refl,
      ap is_waiting same ∙ known,
      ap (λ (x : Channel). x.address) same,
      ap (λ (x : Channel). x.local) same,
      ap (λ (x : Channel). x.remote) same,
    )

-- ---- all channels

abbrev pub AllCame : Seats → Seats → Type 0
AllCame t new = (n : ℕ) → CameAs (channel_at t n) (channel_at new n)

pub came_same : (t new : Seats) → new ≡ t → AllCame t new
came_same t new same n = as_same (channel_at t n) (channel_at new n) (ap (λ (x : Seats). channel_at x n) same)

pub came_twice : (a b c : Seats) → AllCame a b → AllCame b c → AllCame a c
came_twice a b c one two n = as_twice (channel_at a n) (channel_at b n) (channel_at c n) (one n) (two n)

pub came_on : (t mid new : Seats) → new ≡ mid → AllCame t mid → AllCame t new
came_on t mid new same all = subst (λ (x : Seats). AllCame t x) (sym same) all

pub came_changed : (t : Seats) (k : ℕ) (f : Channel → Channel) → ((c : Channel) → channel_at t k ≡ Some c → KeepsNumbers f c)
    → AllCame t (changed t k f)
came_changed t k f keeps n = ⊎_elim
    (λ (here : n ≡ k). subst (λ (m : ℕ). CameAs (channel_at t m) (channel_at (changed t k f) m)) (sym here)
    (subst (λ (o : Option Channel). CameAs (channel_at t k) o) (sym (at_changed t.channels k f)) (as_mapped f (channel_at t k) keeps)))
    (λ (ne : n ≢ k). as_same (channel_at t n) (channel_at (changed t k f) n) (changed_there t k n f ne))
    (cases_eq n k)

pub came_closed : (t : Seats) (k : ℕ) → AllCame t (closed t k)
came_closed t k n = ⊎_elim
    (λ (here : n ≡ k). subst (λ (m : ℕ). CameAs (channel_at t m) (channel_at (closed t k) m)) (sym here)
    (as_gone (channel_at t k) (channel_at (closed t k) k)
    (drop_in (channel_at t k) (slice_set t.channels k None) k ∙ ap (after_drop (channel_at t k)) (set_free t.channels k))))
    (λ (ne : n ≢ k). as_stays (channel_at t n) (channel_at (closed t k) n) (closed_there t k n ne))
    (cases_eq n k)

wrote_keeps : (now : ℕ) (c : Channel) → KeepsNumbers (λ x. record x { wrote = now }) c
wrote_keeps now c = record { waits = refl; address = refl; local = refl; remote = refl }

shook_keeps : (c : Channel) → KeepsNumbers (λ x. record x { opening = with_handshake x.opening }) c
shook_keeps c = record {
  waits = ap (λ (b : Bool). b && is_greeted c.state) (still_opened c.opening);
  address = refl;
  local = refl;
  remote = refl;
}

datagram_came : (t : Seats) (k : ℕ) (opens : Bool) (now : ℕ) → AllCame t (with_datagram t k opens now)
datagram_came t k true now = came_twice t (changed t k (λ c. record c { wrote = now })) (with_datagram t k true now)
    (came_changed t k (λ c. record c { wrote = now }) (λ c there. wrote_keeps now c))
    (came_changed (changed t k (λ c. record c { wrote = now })) k (λ c. record c { opening = with_handshake c.opening }) (λ c there. shook_keeps c))
datagram_came t k false now = came_changed t k (λ c. record c { wrote = now }) (λ c there. wrote_keeps now c)

sent_came : (t : Seats) (k : ℕ) (opens : Bool) (sent now : ℕ) → AllCame t (with_sent t k opens sent now)
sent_came t k opens sent now = of (nat_lt 0 sent)
  where
    of : (b : Bool) → AllCame t (cond b (with_datagram t k opens now) t)
    of true = datagram_came t k opens now
    of false = came_same t t refl

-- ---- the seats' turns

abbrev TableCame : Parts → Parts → Type 0
TableCame p q = AllCame p.seats.table q.seats.table

greets_came : (k moment : ℕ) (sent : Bool) (p q : Parts) (link later : LinkState) → IsGreeted k moment sent p q link later → TableCame p q
greets_came k moment true p q link later g = came_on p.seats.table (with_datagram p.seats.table k true p.seats.moment) q.seats.table
    (ap (λ (x : SeatsState). x.table) g.greets.is) (datagram_came p.seats.table k true p.seats.moment)
greets_came k moment false p q link later (inl g) = came_same p.seats.table q.seats.table (ap (λ (x : Parts). x.seats.table) g.rest)
greets_came k moment false p q link later (inr g) = came_same p.seats.table q.seats.table (ap (λ (x : Parts). x.seats.table) g.same)

speaks_came : (k : ℕ) (far : Far) (greets : Bool) (refused : ℕ) (speaker left : Speaker) (a b : Scene)
    → SpeaksTo (record { seat = k; far = far; greets = greets }) refused speaker left a b → TableCame a.parts b.parts
speaks_came k far greets refused speaker left a b s =
    came_twice a.parts.seats.table s.picked.seats.table b.parts.seats.table
    (came_same a.parts.seats.table s.picked.seats.table (ap (λ (p : Parts). p.seats.table) s.are_picked.rest))
    (came_on s.picked.seats.table s.said.seats.table b.parts.seats.table (ap (λ (p : Parts). p.seats.table) s.settles.rest)
    (came_on s.picked.seats.table (with_sent s.picked.seats.table k _ s.delivered.sent s.picked.seats.moment) s.said.seats.table
    (ap (λ (x : SeatsState). x.table) s.says.speaks.is)
    (sent_came s.picked.seats.table k _ s.delivered.sent s.picked.seats.moment)))

came_steps : IsStepwise TableCame
came_steps = record {
  none = λ p. came_same p.seats.table p.seats.table refl;
  twice = λ a b c one two. came_twice a.seats.table b.seats.table c.seats.table one two;
  greets = λ seat moment sent old new link later g. greets_came seat moment sent old new link later g;
  back = λ seat greets news old new s. came_same old.seats.table new.seats.table (back_alike seat greets news old new s).table;
  speaks = λ seat far greets refused speaker left old new s. speaks_came seat far greets refused speaker left old new s;
  attends = λ seat turn old new t. came_same old.seats.table new.seats.table (ap (λ (p : Parts). p.seats.table) t.keeps.rest);
}

-- Whether anything is fetched, and what each seat offers, stays.
pub record SameOffers (o p : Option FetchState) : Type 0 where
  pub fetches : is_some p ≡ is_some o
  pub each : (seat i : ℕ) → offers_of p seat i ≡ offers_of o seat i

offers_same : (o p : Option FetchState) → p ≡ o → SameOffers o p
offers_same o p same = subst (λ (x : Option FetchState). SameOffers o x) (sym same) (record { fetches = refl; each = λ seat i. refl })

offers_twice : (a b c : Option FetchState) → SameOffers a b → SameOffers b c → SameOffers a c
offers_twice a b c one two =
    record { fetches = two.fetches ∙ one.fetches; each = λ seat i. two.each seat i ∙ one.each seat i }

offers_asked : (f left : FetchState) (new : Option FetchState) (asked : List Bool) → new ≡ Some left → left ≡ with_asked asked f → SameOffers (Some f) new
offers_asked f left new asked is rest = subst (λ (x : Option FetchState). SameOffers (Some f) x) (sym is)
    (subst (λ (x : FetchState). SameOffers (Some f) (Some x)) (sym rest) (record { fetches = refl; each = λ seat i. refl }))

picked_offers : (may : Bool) (order : Rank) (k room : ℕ) (picks : List Span) (old new : Option FetchState) → PicksFrom may order k room picks old new
    → SameOffers old new
picked_offers true order k room picks (Some f) new p = offers_asked f p.0 new p.0.want.asked p.1 p.3.rest
picked_offers true order k room picks None new p = offers_same None new p.1
picked_offers false order k room picks old new p = offers_same old new p.1

settled_offers : (own : List Asking) (picks cancels : List Span) (old new : Option FetchState) → SettlesIn own picks cancels old new
    → SameOffers old new
settled_offers own picks cancels None new s = offers_same None new s
settled_offers own picks cancels (Some f) new s = offers_asked f s.0 new s.0.want.asked s.1 s.2.rest

speaks_offers : (k : ℕ) (far : Far) (greets : Bool) (refused : ℕ) (speaker left : Speaker) (a b : Scene)
    → SpeaksTo (record { seat = k; far = far; greets = greets }) refused speaker left a b → SameOffers a.parts.fetching b.parts.fetching
speaks_offers k far greets refused speaker left a b s =
    offers_twice a.parts.fetching s.picked.fetching b.parts.fetching
    (picked_offers (may_ask s.are_picked.known) speaker.order k s.are_picked.room s.picks a.parts.fetching s.picked.fetching s.are_picked.picks_from)
    (offers_twice s.picked.fetching s.said.fetching b.parts.fetching
    (offers_same s.picked.fetching s.said.fetching (ap (λ (p : Parts). p.fetching) s.says.rest))
    (settled_offers _ s.picks s.cancels s.said.fetching b.parts.fetching s.settles.settles))

abbrev OffersStay : Parts → Parts → Type 0
OffersStay p q = SameOffers p.fetching q.fetching

offers_steps : IsStepwise OffersStay
offers_steps = record {
  none = λ p. offers_same p.fetching p.fetching refl;
  twice = λ a b c one two. offers_twice a.fetching b.fetching c.fetching one two;
  greets = λ k moment sent old new link later g. offers_same old.fetching new.fetching (greets_fetching k moment sent old new link later g);
  back = λ k greets news old new s. offers_same old.fetching new.fetching (back_alike k greets news old new s).fetching;
  speaks = λ k far greets refused speaker left old new s. speaks_offers k far greets refused speaker left old new s;
  attends = λ k turn old new t. offers_same old.fetching new.fetching (ap (λ (p : Parts). p.fetching) t.keeps.rest);
}

wanted_some : (o p : Option FetchState) → wanted_of p ≡ wanted_of o → is_some p ≡ is_some o
wanted_some None None e = refl
wanted_some None (Some f) e = absurd cc
wanted_some (Some f) None e = absurd cc
wanted_some (Some f) (Some g) e = refl

-- ---- dials

pub set_made : (xs : List (Option Channel)) (k : ℕ) (x c : Channel) → at_seat (set xs k (Some x)) k ≡ Some c → c ≡ x
set_made [] k x c e = let none : None ≡ Some c = e in absurd cc
set_made (y ∷ xs) zero x c e = sym (same_Some x c e)
set_made (y ∷ xs) (suc k) x c e = set_made xs k x c e

module _ (to : Address) (moment : ℕ) (sent : Bool) (old new : SeatsState) (link later : LinkState) (d : Dials to moment sent old new link later)
  where
    made : with_dial to old ≡ with_channel_at (Some d.seat) (dialled to old.moment) old.table
    made = ap (λ (o : Option ℕ). with_channel_at o (dialled to old.moment) old.table) d.free

    made_came : AllCame old.table (with_dial to old)
    made_came n = ⊎_elim
        (λ (here : n ≡ d.seat). λ c is known.
        let same = set_made old.table.channels d.seat _ c (ap (λ (t : Seats). channel_at t d.seat) (sym made)
        ∙ ap (λ (m : ℕ). channel_at (with_dial to old) m) (sym here) ∙ is) in
        absurd (both_ways (is_waiting c) known (ap is_waiting same)))
        (λ (ne : n ≢ d.seat). as_same (channel_at old.table n) (channel_at (with_dial to old) n)
        (ap (λ (t : Seats). channel_at t n) made ∙ made_there old.table d.seat n (dialled to old.moment) ne))
        (cases_eq n d.seat)

    dials_came : AllCame old.table new.table
    dials_came = came_on old.table _ new.table (ap (λ (x : SeatsState). x.table) d.is) (of sent)
      where
        of : (b : Bool) → AllCame old.table (cond b (with_datagram (with_dial to old) d.seat true old.moment) (closed (with_dial to old) d.seat))
        of true = came_twice old.table (with_dial to old) (with_datagram (with_dial to old) d.seat true old.moment) made_came
            (datagram_came (with_dial to old) d.seat true old.moment)
        of false = came_twice old.table (with_dial to old) (closed (with_dial to old) d.seat) made_came (came_closed (with_dial to old) d.seat)

same_came : (a b : Scene) → b ≡ a → TableCame a.parts b.parts
same_came a b same = came_same a.parts.seats.table b.parts.seats.table (ap (λ (s : Scene). s.parts.seats.table) same)

tries_came : (to : Address) (sent : Option Bool) (a b : Scene) → Tries to sent a b → TableCame a.parts b.parts
tries_came to None a b t = came_same a.parts.seats.table b.parts.seats.table (ap (λ (p : Parts). p.seats.table) t.1.same)
tries_came to (Some took) a b t = dials_came to _ took a.parts.seats b.parts.seats a.link b.link t.1.dials

step_came : (dial : Dial) (state : DialState) (a b : Scene) → StepsDial dial state a b → TableCame a.parts b.parts
step_came dial state a b step = of (has_channel a.parts dial.address) (is_due a.parts.seats.moment dial.state) step
  where
    of : (x y : Bool)
        → MatchBool x ((b ≡ a) × (state ≡ Seated))
        (MatchBool y ((sent : Option Bool) × Tries dial.address sent a b × (state ≡ after_dial a.parts.seats.moment dial.state sent))
        ((b ≡ a) × (state ≡ noticed a.parts.seats.moment dial.state))) → TableCame a.parts b.parts
    of true y h = same_came a b h.0
    of false true h = tries_came dial.address h.0 a b h.1
    of false false h = same_came a b h.0

each_came : (dials lefts : List Dial) (a c : Scene) → DialsEach dials lefts a c → TableCame a.parts c.parts
each_came [] [] a c h = same_came a c h
each_came [] (left ∷ lefts) a c h = absurd h
each_came (dial ∷ dials) [] a c h = absurd h
each_came (dial ∷ dials) (left ∷ lefts) a c h = came_twice a.parts.seats.table h.0.parts.seats.table c.parts.seats.table
    (step_came dial left.state a h.0 h.2) (each_came dials lefts h.0 c h.3)

suggested_came : (queue : List Address) (a c : Scene) → DialsSuggested queue a c → TableCame a.parts c.parts
suggested_came [] a c h = same_came a c h
suggested_came (address ∷ queue) a c h = of (nat_lt (used_of a.parts.seats.table) 32) h (λ mid more. suggested_came queue mid c more)
  where
    of : (b : Bool) → MatchBool b ((sent : Option Bool) × (mid : Scene) × Tries address sent (with_queue queue a) mid × DialsSuggested queue mid c)
        (c ≡ a) → ((mid : Scene) → DialsSuggested queue mid c → TableCame mid.parts c.parts) → TableCame a.parts c.parts
    of true h more = came_twice a.parts.seats.table h.1.parts.seats.table c.parts.seats.table
        (tries_came address h.0 (with_queue queue a) h.1 h.2) (more h.1 h.3)
    of false h more = same_came a c h

-- dials leave what is kept of the seats' messages
tries_messages : (to : Address) (sent : Option Bool) (a b : Scene) → Tries to sent a b → b.parts.seats.seats ≡ a.parts.seats.seats
tries_messages to None a b t = ap (λ (p : Parts). p.seats.seats) t.1.same
tries_messages to (Some sent) a b t = ap (λ (p : SeatsState). p.seats) t.1.dials.is

step_messages : (dial : Dial) (state : DialState) (a b : Scene) → StepsDial dial state a b → b.parts.seats.seats ≡ a.parts.seats.seats
step_messages dial state a b step = of (has_channel a.parts dial.address) (is_due a.parts.seats.moment dial.state) step
  where
    of : (x y : Bool)
        → MatchBool x ((b ≡ a) × (state ≡ Seated))
        (MatchBool y ((sent : Option Bool) × Tries dial.address sent a b × (state ≡ after_dial a.parts.seats.moment dial.state sent))
        ((b ≡ a) × (state ≡ noticed a.parts.seats.moment dial.state)))
        → b.parts.seats.seats ≡ a.parts.seats.seats
    of true y h = ap (λ (s : Scene). s.parts.seats.seats) h.0
    of false true h = tries_messages dial.address h.0 a b h.1
    of false false h = ap (λ (s : Scene). s.parts.seats.seats) h.0

each_messages : (dials lefts : List Dial) (a c : Scene) → DialsEach dials lefts a c → c.parts.seats.seats ≡ a.parts.seats.seats
each_messages [] [] a c h = ap (λ (s : Scene). s.parts.seats.seats) h
each_messages [] (left ∷ lefts) a c h = absurd h
each_messages (dial ∷ dials) [] a c h = absurd h
each_messages (dial ∷ dials) (left ∷ lefts) a c h = each_messages dials lefts h.0 c h.3 ∙ step_messages dial left.state a h.0 h.2

suggested_messages : (queue : List Address) (a c : Scene) → DialsSuggested queue a c → c.parts.seats.seats ≡ a.parts.seats.seats
suggested_messages [] a c h = ap (λ (s : Scene). s.parts.seats.seats) h
suggested_messages (address ∷ queue) a c h = of (nat_lt (used_of a.parts.seats.table) 32) h (λ mid m. suggested_messages queue mid c m)
  where
    of : (b : Bool) → MatchBool b ((sent : Option Bool) × (mid : Scene) × Tries address sent (with_queue queue a) mid × DialsSuggested queue mid c)
        (c ≡ a)
        → ((mid : Scene) → DialsSuggested queue mid c → c.parts.seats.seats ≡ mid.parts.seats.seats)
        → c.parts.seats.seats ≡ a.parts.seats.seats
    of true h more = more h.1 h.3 ∙ tries_messages address h.0 (with_queue queue a) h.1 h.2
    of false h more = ap (λ (s : Scene). s.parts.seats.seats) h

pub dials_messages : (dials lefts : List Dial) (a c : Scene) → DialsAll dials lefts a c → c.parts.seats.seats ≡ a.parts.seats.seats
dials_messages dials lefts a c h = suggested_messages h.0.parts.pex.queue h.0 c h.2 ∙ each_messages dials lefts a h.0 h.1

-- ---- a flush

served_came : (o p : Option Channel) (c : Channel) (now : ℕ) → o ≡ Some c → p ≡ Some (record c { wrote = now }) → CameAs o p
served_came o p c now there after = subst (λ (x : Option Channel). CameAs x p) (sym there)
    (subst (λ (x : Option Channel). CameAs (Some c) x) (sym after)
    (as_mapped (λ x. record x { wrote = now }) (Some c) (λ x is. wrote_keeps now x)))

-- A channel whose other peer's number is known after a flush was there before; and its seat offers what it offered.
pub record CameThrough (n : ℕ) (old new : Parts) : Type 0 where
  pub channel : CameAs (channel_at old.seats.table n) (channel_at new.seats.table n)
  pub offers : (c : Channel) → channel_at new.seats.table n ≡ Some c → is_waiting c ≡ false → (i : ℕ)
      → offers_of new.fetching n i ≡ offers_of old.fetching n i
  pub fetches : is_some new.fetching ≡ is_some old.fetching

pub flush_came : (n : ℕ) (dials lefts : List Dial) (speaker left : Speaker) (refused : ℕ) (old new : Scene)
    → SendsAll dials lefts speaker left refused old new → n < 64 → CameThrough n old.parts new.parts
flush_came n dials lefts speaker left refused old new s low = record {
  channel = as_twice (channel_at old.parts.seats.table n) (channel_at s.dropped.seats.table n) (channel_at new.parts.seats.table n) first then;
  offers = λ c is known i. behind.each n i ∙ s.gives_up.offers n i ∙ ⊎_elim
      (λ kept. kept.offers i)
      (λ over. let was = then c is known in let x : None ≡ Some was.0 = sym over.1.channel ∙ was.1 in absurd cc)
      (s.drops.each n low);
  fetches = behind.fetches ∙ wanted_some s.dropped.fetching s.given.fetching s.gives_up.wanted
      ∙ wanted_some old.parts.fetching s.dropped.fetching s.drops.wanted;
}
  where
    start : Scene
    start = record old { parts = s.given }

    dialling : IsDialling start s.dialled
    dialling = all_dialling dials lefts start s.dials_all.0 s.dialled s.dials_all.1 s.dials_all.2

    first : CameAs (channel_at old.parts.seats.table n) (channel_at s.dropped.seats.table n)
    first = ⊎_elim
        (λ kept. as_stays (channel_at old.parts.seats.table n) (channel_at s.dropped.seats.table n) kept.channel)
        (λ over. as_gone (channel_at old.parts.seats.table n) (channel_at s.dropped.seats.table n) over.1.channel)
        (s.drops.each n low)

    turned : TableCame s.dropped s.said.parts
    turned = came_twice s.dropped.seats.table s.given.seats.table s.said.parts.seats.table
        (came_same s.dropped.seats.table s.given.seats.table (ap (λ (p : Parts). p.seats.table) s.gives_up.rest))
        (came_twice s.given.seats.table s.dialled.parts.seats.table s.said.parts.seats.table
        (came_twice s.given.seats.table s.dials_all.0.parts.seats.table s.dialled.parts.seats.table
        (each_came dials lefts start s.dials_all.0 s.dials_all.1)
        (suggested_came s.dials_all.0.parts.pex.queue s.dials_all.0 s.dialled s.dials_all.2))
        (came_twice s.dialled.parts.seats.table s.turned.seats.table s.said.parts.seats.table
        (came_same s.dialled.parts.seats.table s.turned.seats.table (slots_alike s.dialled.parts s.turned s.turns).table)
        (turns_kept TableCame came_steps 64 s.unsaid s.speaks.gathered left (record s.dialled { parts = s.turned }) s.said s.speaks.turns)))

    served : CameAs (channel_at s.said.parts.seats.table n) (channel_at new.parts.seats.table n)
    served = ⊎_elim
        (λ same. as_same (channel_at s.said.parts.seats.table n) (channel_at new.parts.seats.table n) same)
        (λ (w : IsWritten n s.said.parts.seats new.parts.seats s.serves.flushes.added).
        served_came (channel_at s.said.parts.seats.table n) (channel_at new.parts.seats.table n) w.channel _ w.there w.after)
        (s.serves.alone.channels n)

    then : CameAs (channel_at s.dropped.seats.table n) (channel_at new.parts.seats.table n)
    then = as_twice (channel_at s.dropped.seats.table n) (channel_at s.said.parts.seats.table n) (channel_at new.parts.seats.table n)
        (turned n) served

    behind : SameOffers s.given.fetching new.parts.fetching
    behind = offers_twice s.given.fetching s.turned.fetching new.parts.fetching
        (offers_same s.given.fetching s.turned.fetching
        ((slots_alike s.dialled.parts s.turned s.turns).fetching ∙ ap (λ (p : Parts). p.fetching) dialling.only))
        (offers_twice s.turned.fetching s.said.parts.fetching new.parts.fetching
        (turns_kept OffersStay offers_steps 64 s.unsaid s.speaks.gathered left (record s.dialled { parts = s.turned }) s.said s.speaks.turns)
        (offers_same s.said.parts.fetching new.parts.fetching (ap (λ (p : Parts). p.fetching) s.only)))
