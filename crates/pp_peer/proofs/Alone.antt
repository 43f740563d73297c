-- What chunks that went leave of the seats, of their channels, and of the counts of what was refused.
use Rattle.std.proofs.Common.{◌≡◌, ◌≢◌, ◌⊎◌, inl, inr, ⊎_elim, ℕ, ◌+◌, ◌-◌, ◌^◌, ◌<◌, ◌≤◌, Bool, true, false, ◌&&◌, Option, Some, None, List, [], ◌∷◌, ◌++◌, refl, sym, ◌∙◌, ap, subst, arith, append_assoc}
use Rattle.std.specs.Prelude.{IsTrue}
use Rattle.std.specs.List.{slice_get, AllByRecursion}
use Rattle.std.proofs.Math.ListN.{set}
use Rattle.std.proofs.lemmas.Bool.{cases_eq, both_ways}
use Rattle.std.proofs.lemmas.Option.{same_Some}
use Rattle.pp_terms.specs.disk.Disk.{DiskState, History, IsKnown, moment_of}
use Rattle.pp_terms.specs.format.Descriptor.{Descriptor}
use Rattle.pp_terms.specs.format.Traffic.{Record, Sent, LinkState}
use Rattle.pp_terms.specs.tree.Range.{Span}
use Rattle.pp_tree.specs.Book.{entry}
use Rattle.pp_traffic.specs.Laws.{plan}
use Rattle.pp_plan.specs.Told.{knows}
use Rattle.pp_outside.specs.Outside.{address_of}
use Rattle.pp_channels.specs.Seats.{Seats, channel_at}
use Rattle.pp_channels.specs.declared.channel.Channel.{Channel}
use Rattle.pp_lives.specs.Fars.{far_of}
use Rattle.pp_lives.specs.Sending.{with_datagram}
use Rattle.pp_lives.specs.declared.lives.Far.{Far}
use Rattle.pp_lives.proofs.Changing.{changed_is}
use Rattle.pp_draft.specs.Datagrams.{IsDatagram, delivery}
use Rattle.pp_draft.specs.declared.chunk.Unread.TheVariants as unread
use Rattle.pp_scan.specs.Holding.{is_there}
use Rattle.pp_store.specs.Store.{is_committed}
use Rattle.pp_holding.specs.Holding.{HoldingState}
use Rattle.pp_seat.specs.Seats.{SeatState}
use Rattle.pp_seats.specs.declared.serving.Served.{Served}
use Rattle.pp_seats.specs.declared.serving.Served.TheVariants as outcomes
use Rattle.pp_seats.specs.Serving.{Serving}
use Rattle.pp_seats.specs.Standing.{SeatsState}
use Rattle.pp_seats.proofs.Lists.{get_set_there, get_set_other}
use Rattle.pp_seats.proofs.Outgoing.{far_is}
use Rattle.pp_peer.specs.declared.parts.Parts.{Parts}
use Rattle.pp_peer.specs.Delivering.{IsDelivery, HasDelivery, IsServedAt, IsWritten, ServesAlone, ReadsRight, AreRefused}
use Rattle.pp_peer.specs.Flushing.{Scene, Flushes}
use Rattle.pp_peer.specs.Serving.{given_up}
use Rattle.pp_peer.proofs.Chunks.{Rests, flushes_served, added_by, served_added}
use Rattle.pp_peer.proofs.Flushed.{all_both}

-- ---- seats

served_none : (o : Option SeatState) → IsServedAt o o
served_none None = refl
served_none (Some s) = (s, refl, refl)

served_same : (o p : Option SeatState) → p ≡ o → IsServedAt o p
served_same o p same = subst (λ (x : Option SeatState). IsServedAt o x) (sym same) (served_none o)

served_twice : (o p q : Option SeatState) → IsServedAt o p → IsServedAt p q → IsServedAt o q
served_twice None p q one two = let t = subst (λ (x : Option SeatState). IsServedAt x q) one two in t
served_twice (Some s) p q one two =
    let t = subst (λ (x : Option SeatState). IsServedAt x q) one.1 two in (
      t.0,
      t.1,
      t.2 ∙ ap (λ (x : SeatState). record x { list = t.0.list; window = t.0.window }) one.2,
    )

-- ---- channels

written_far : (seat : ℕ) (old new : SeatsState) (added : List Record)
    → (channel_at new.table seat ≡ channel_at old.table seat) ⊎ IsWritten seat old new added
    → far_of (channel_at new.table seat) ≡ far_of (channel_at old.table seat)
written_far seat old new added (inl same) = ap far_of same
written_far seat old new added (inr w) = ap far_of w.after ∙ sym (ap far_of w.there)

pub alone_far : (old new : SeatsState) (added : List Record) → ServesAlone old new added → (seat : ℕ)
    → far_of (channel_at new.table seat) ≡ far_of (channel_at old.table seat)
alone_far old new added a seat = written_far seat old new added (a.channels seat)

delivery_on : (seat : ℕ) (a b : SeatsState) (r : Record) → b.descriptor ≡ a.descriptor → b.moment ≡ a.moment
    → far_of (channel_at b.table seat) ≡ far_of (channel_at a.table seat) → IsDelivery seat b r → IsDelivery seat a r
delivery_on seat a b r swarm moment same d = record {
  far = d.far;
  is_far = sym same ∙ d.is_far;
  book = d.book;
  nodes = d.nodes;
  chunk = d.chunk;
  content = d.content;
  bytes = d.bytes;
  written = subst (λ (x : Descriptor). IsDatagram x d.far.number (delivery d.book d.nodes d.chunk a.moment d.content) d.bytes) swarm
      (subst (λ (n : ℕ). IsDatagram b.descriptor d.far.number (delivery d.book d.nodes d.chunk n d.content) d.bytes) moment d.written);
  moment = d.moment;
  is = d.is;
}

deliveries_on : (a b : SeatsState) (rs : List Record) → b.descriptor ≡ a.descriptor → b.moment ≡ a.moment
    → ((seat : ℕ) → far_of (channel_at b.table seat) ≡ far_of (channel_at a.table seat))
    → AllByRecursion (λ (r : Record). (seat : ℕ) × IsDelivery seat b r) rs → AllByRecursion (λ (r : Record). (seat : ℕ) × IsDelivery seat a r) rs
deliveries_on a b [] swarm moment far all = tt
deliveries_on a b (r ∷ rs) swarm moment far all =
    ((all.0.0, delivery_on all.0.0 a b r swarm moment (far all.0.0) all.0.1), deliveries_on a b rs swarm moment far all.1)

newer_has : (seat : ℕ) (a b : SeatsState) (one two : List Record) → b.descriptor ≡ a.descriptor → b.moment ≡ a.moment
    → far_of (channel_at b.table seat) ≡ far_of (channel_at a.table seat) → HasDelivery seat b two → HasDelivery seat a (two ++ one)
newer_has seat a b one two swarm moment far h = record {
  newer = h.newer;
  here = h.here;
  older = h.older ++ one;
  among = ap (λ (rs : List Record). rs ++ one) h.among ∙ append_assoc h.newer (h.here ∷ h.older) one;
  delivery = delivery_on seat a b h.here swarm moment far h.delivery;
}

older_has : (seat : ℕ) (a : SeatsState) (one two : List Record) → HasDelivery seat a one → HasDelivery seat a (two ++ one)
older_has seat a one two h = record {
  newer = two ++ h.newer;
  here = h.here;
  older = h.older;
  among = ap (λ (rs : List Record). two ++ rs) h.among ∙ sym (append_assoc two h.newer (h.here ∷ h.older));
  delivery = h.delivery;
}

channel_twice : (seat : ℕ) (a b c : SeatsState) (one two : List Record) → b.descriptor ≡ a.descriptor → b.moment ≡ a.moment
    → (channel_at b.table seat ≡ channel_at a.table seat) ⊎ IsWritten seat a b one
    → (channel_at c.table seat ≡ channel_at b.table seat) ⊎ IsWritten seat b c two
    → (channel_at c.table seat ≡ channel_at a.table seat) ⊎ IsWritten seat a c (two ++ one)
channel_twice seat a b c one two swarm moment (inl first) (inl then) = inl (then ∙ first)
channel_twice seat a b c one two swarm moment (inl first) (inr w) = inr (record {
  channel = w.channel;
  there = sym first ∙ w.there;
  after = w.after ∙ ap (λ (n : ℕ). Some (record w.channel { wrote = n })) moment;
  delivery = newer_has seat a b one two swarm moment (ap far_of first) w.delivery;
})
channel_twice seat a b c one two swarm moment (inr w) (inl then) = inr (record {
  channel = w.channel;
  there = w.there;
  after = then ∙ w.after;
  delivery = older_has seat a one two w.delivery;
})
channel_twice seat a b c one two swarm moment (inr w) (inr v) = inr (record {
  channel = w.channel;
  there = w.there;
  after = v.after ∙ ap (λ (x : Channel). Some (record x { wrote = b.moment })) (same_Some v.channel (record w.channel { wrote = a.moment }) (sym v.there ∙ w.after))
      ∙ ap (λ (n : ℕ). Some (record w.channel { wrote = n })) moment;
  delivery = older_has seat a one two w.delivery;
})

-- ---- one after the other

pub alone_none : (p q : SeatsState) (added : List Record) → q ≡ p → added ≡ [] → ServesAlone p q added
alone_none p q added is none = record {
  swarm = ap (λ (x : SeatsState). x.descriptor) is;
  moment = ap (λ (x : SeatsState). x.moment) is;
  states = λ n. served_same (slice_get p.seats n) (slice_get q.seats n) (ap (λ (x : SeatsState). slice_get x.seats n) is);
  channels = λ n. inl (ap (λ (x : SeatsState). channel_at x.table n) is);
  deliveries = subst (λ (rs : List Record). AllByRecursion (λ (r : Record). (seat : ℕ) × IsDelivery seat p r) rs) (sym none) tt;
}

pub alone_twice : (a b c : SeatsState) (one two : List Record) → ServesAlone a b one → ServesAlone b c two → ServesAlone a c (two ++ one)
alone_twice a b c one two first then = record {
  swarm = then.swarm ∙ first.swarm;
  moment = then.moment ∙ first.moment;
  states = λ n. served_twice (slice_get a.seats n) (slice_get b.seats n) (slice_get c.seats n) (first.states n) (then.states n);
  channels = λ n. channel_twice n a b c one two first.swarm first.moment (first.channels n) (then.channels n);
  deliveries = all_both (λ (r : Record). (seat : ℕ) × IsDelivery seat a r) two one
      (deliveries_on a b two first.swarm first.moment (alone_far a b one first) then.deliveries) first.deliveries;
}

-- ---- one chunk

set_states : (p : SeatsState) (k : ℕ) (before after : SeatState) → slice_get p.seats k ≡ Some before
    → after ≡ record before { list = after.list; window = after.window } → (n : ℕ)
    → IsServedAt (slice_get p.seats n) (slice_get (set p.seats k after) n)
set_states p k before after there exact n = ⊎_elim
    (λ (here : n ≡ k). subst (λ (m : ℕ). IsServedAt (slice_get p.seats m) (slice_get (set p.seats k after) m)) (sym here)
    (subst (λ (o : Option SeatState). IsServedAt o (slice_get (set p.seats k after) k)) (sym there)
    (after, get_set_there p.seats k after before there, exact)))
    (λ (ne : n ≢ k). served_same (slice_get p.seats n) (slice_get (set p.seats k after) n) (get_set_other p.seats k n after ne))
    (cases_eq n k)

set_alone : (p q : SeatsState) (k : ℕ) (before after : SeatState) → slice_get p.seats k ≡ Some before → q ≡ record p { seats = set p.seats k after }
    → after ≡ record before { list = after.list; window = after.window } → ServesAlone p q []
set_alone p q k before after there is exact = subst (λ (x : SeatsState). ServesAlone p x []) (sym is) (record {
  swarm = refl;
  moment = refl;
  states = set_states p k before after there exact;
  channels = λ n. inl refl;
  deliveries = tt;
})

listed : (before after : SeatState) (list : List Span) → after ≡ record before { list = list }
    → after ≡ record before { list = after.list; window = after.window }
listed before after list is = is ∙ ap (λ (x : SeatState). record before { list = x.list; window = x.window }) (sym is)

sent_alone : (p q : SeatsState) (k : ℕ) (before after : SeatState) (r : Record) → IsDelivery k p r → slice_get p.seats k ≡ Some before
    → after ≡ record before { list = after.list; window = after.window }
    → q ≡ record p { table = with_datagram p.table k false p.moment; seats = set p.seats k after } → ServesAlone p q (r ∷ [])
sent_alone p q k before after r d there exact is = subst (λ (x : SeatsState). ServesAlone p x (r ∷ [])) (sym is) (record {
  swarm = refl;
  moment = refl;
  states = set_states p k before after there exact;
  channels = channels;
  deliveries = ((k, d), tt);
})
  where
    written : (n : ℕ) → n ≡ k → IsWritten n p (record p { table = with_datagram p.table k false p.moment; seats = set p.seats k after }) (r ∷ [])
    written n here =
        let f = far_is (channel_at p.table k) d.far d.is_far in
        let change = changed_is p.table k f.channel (λ x. record x { wrote = p.moment }) f.there in
        subst (λ (m : ℕ). IsWritten m p (record p { table = with_datagram p.table k false p.moment; seats = set p.seats k after }) (r ∷ [])) (sym here)
        (record {
          channel = f.channel;
          there = f.there;
          after = change.there;
          delivery = record { newer = []; here = r; older = []; among = refl; delivery = d };
        })

    channels : (n : ℕ) → (channel_at (with_datagram p.table k false p.moment) n ≡ channel_at p.table n)
        ⊎ IsWritten n p (record p { table = with_datagram p.table k false p.moment; seats = set p.seats k after }) (r ∷ [])
    channels n = ⊎_elim
        (λ (here : n ≡ k). inr (written n here))
        (λ (ne : n ≢ k).
        let f = far_is (channel_at p.table k) d.far d.is_far in
        inl ((changed_is p.table k f.channel (λ x. record x { wrote = p.moment }) f.there).others n ne))
        (cases_eq n k)

-- whatever became of a seat's next chunk
became_alone : (k : ℕ) (served : Served) (old new : Parts) (link later : LinkState) (disk left : DiskState)
    → (s : Serving k old.holding.store (entry old.holding.book) served old.seats new.seats link later disk left)
    → ServesAlone old.seats new.seats (added_by k served old.holding.store (entry old.holding.book) old.seats new.seats link later disk left s)
became_alone k outcomes.Done old new link later disk left s = alone_none old.seats new.seats [] s.0 refl
became_alone k outcomes.Passed old new link later disk left s =
    let p = s.2 in
    set_alone old.seats new.seats k p.before p.after p.may.there p.is (listed p.before p.after _ p.exact)
became_alone k outcomes.Sent old new link later disk left s =
    sent_alone old.seats new.seats k s.before s.after (Sent (moment_of left.history) (address_of s.far.address) s.datagram) (record {
      far = s.far;
      is_far = s.may.is_far;
      book = entry old.holding.book;
      nodes = plan s.before.told.chunks (knows s.before.told) s.chunk;
      chunk = s.chunk;
      content = s.bytes;
      bytes = s.datagram;
      written = s.written;
      moment = moment_of left.history;
      is = refl;
    }) s.may.there (s.exact ∙ ap (λ (x : SeatState). record s.before { list = x.list; window = x.window }) (sym s.exact)) s.is
became_alone k outcomes.Refused old new link later disk left s =
    let g = s.4 in
    set_alone old.seats new.seats k g.before g.after g.may.there g.is (listed g.before g.after _ g.exact)
became_alone k (outcomes.Unread why) old new link later disk left s =
    let g = s.4 in
    set_alone old.seats new.seats k g.before g.after g.may.there g.is (listed g.before g.after _ g.exact)

pub served_alone : (k : ℕ) (served : Served) (old new : Parts) (link later : LinkState) (disk left : DiskState) (rests : Rests served old new)
    → (s : Serving k old.holding.store (entry old.holding.book) served old.seats new.seats link later disk left)
    → ServesAlone old.seats new.seats (flushes_served k served old new link later disk left rests s).added
served_alone k served old new link later disk left rests s =
    subst (λ (rs : List Record). ServesAlone old.seats new.seats rs) (sym (served_added k served old new link later disk left rests s))
    (became_alone k served old new link later disk left s)

-- ---- what was given up

pub lost_none : (a : Scene) → AreRefused 0 a a
lost_none a right link disk = omega arith

pub right_on : (refused : ℕ) (a b : Scene) → Flushes refused a b → ReadsRight a → ReadsRight b
right_on refused a b f right = record { known = known; there = there }
  where
    known : IsKnown b.disk
    known = subst (λ (t : Bool). IsTrue (t && b.disk.honest)) (sym f.reads.tells)
        (subst (λ (h : Bool). IsTrue (a.disk.tells && h)) (sym f.reads.honest) right.known)

    there : (i : ℕ) → is_committed b.parts.holding.store i ≡ true
        → is_there b.parts.holding.store.descriptor b.disk.history.reads (entry b.parts.holding.book) i ≡ true
    there i committed =
        subst (λ (h : HoldingState). is_there h.store.descriptor b.disk.history.reads (entry h.book) i ≡ true) (sym f.holding)
        (subst (λ (h : History). is_there a.parts.holding.store.descriptor h.reads (entry a.parts.holding.book) i ≡ true) (sym f.reads.same)
        (right.there i (ap (λ (h : HoldingState). is_committed h.store i) (sym f.holding) ∙ committed)))

pub lost_twice : (m n : ℕ) (a b c : Scene) → Flushes m a b → Flushes n b c → AreRefused m a b → AreRefused n b c → AreRefused (m + n) a c
lost_twice m n a b c f g one two right link disk =
    let lower = g.later in
    let below = g.reads.faults in
    let first = one right (omega (arith, link, lower)) (omega (arith, disk, below)) in
    let then = two (right_on m a b f right) link disk in
    omega (arith, first, then)

-- the chunk's or none's
pub served_lost : (k : ℕ) (served : Served) (old new : Parts) (link later : LinkState) (disk left : DiskState)
    → Serving k old.holding.store (entry old.holding.book) served old.seats new.seats link later disk left
    → AreRefused (given_up served) (record { parts = old; link = link; disk = disk }) (record { parts = new; link = later; disk = left })
served_lost k outcomes.Done old new link later disk left s right few low =
    let l = ap (λ (x : LinkState). x.faults) s.1 in let d = ap (λ (x : DiskState). x.faults) s.2 in omega (arith, l, d)
served_lost k outcomes.Passed old new link later disk left s right few low =
    let l = ap (λ (x : LinkState). x.faults) s.0 in let d = ap (λ (x : DiskState). x.faults) s.1 in omega (arith, l, d)
served_lost k outcomes.Sent old new link later disk left s right few low =
    let l = s.sends.later in let d = s.reads.looks.faults in omega (arith, l, d)
served_lost k outcomes.Refused old new link later disk left s right few low =
    let risen = s.2.risen few in let d = s.3.looks.faults in omega (arith, risen, d)
served_lost k (outcomes.Unread unread.Absent) old new link later disk left s right few low =
    absurd (both_ways (is_committed old.holding.store s.0) s.3.gives.0 s.4.committed)
served_lost k (outcomes.Unread unread.Disk) old new link later disk left s right few low =
    let risen = s.3.gives low in let l = ap (λ (x : LinkState). x.faults) s.2 in omega (arith, risen, l)
served_lost k (outcomes.Unread unread.Damaged) old new link later disk left s right few low =
    absurd (both_ways (is_there old.holding.store.descriptor disk.history.reads (entry old.holding.book) s.0)
    (s.3.gives.absent right.known) (right.there s.0 s.4.committed))
