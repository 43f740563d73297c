-- When datagrams last went stays known through a flush, a wait that was refused, and a farewell.
use Rattle.std.proofs.Common.{◌≡◌, ◌⊎◌, inl, inr, ⊎_elim, ℕ, zero, suc, ◌+◌, ◌<◌, ◌≤◌, leb, eqb, Bool, true, false, cond, ◌&&◌, ◌||◌, Option, Some, None, List, [], ◌∷◌, ◌++◌, refl, sym, ◌∙◌, ap, subst, arith}
use Rattle.std.specs.Prelude.{is_some, nat_lt, replicate}
use Rattle.std.specs.List.{AllByRecursion, list_any}
use Rattle.std.proofs.lemmas.Bool.{both_ways, false≢true, or_left, or_right, or_cases, and_parts, and_from, le-leb, eq-eqb, ltb-true}
use Rattle.std.proofs.lemmas.Option.{same_Some}
use Rattle.pp_terms.specs.disk.Disk.{DiskState, moment_of}
use Rattle.pp_terms.specs.format.Descriptor.{Descriptor}
use Rattle.pp_terms.specs.format.Messages.{Handshake}
use Rattle.pp_terms.specs.format.Traffic.{Address, Record, Sent, LinkState, GainsRecords}
use Rattle.pp_terms.proofs.Risings.{gains_nothing}
use Rattle.pp_traffic.specs.Life.{Life, answers, begins_as}
use Rattle.pp_traffic.specs.Past.{now, read, goes_to, is_number}
use Rattle.pp_promises.specs.Answered.{is_of, writes_on, wrote_lately, KeepsUp}
use Rattle.pp_outside.specs.Outside.{address_of}
use Rattle.pp_outside.specs.declared.link.Address as addresses
use Rattle.pp_avail.specs.declared.ranker.Rank.{Rank}
use Rattle.pp_channels.specs.Seats.{Seats, at_seat, channel_at, is_begun}
use Rattle.pp_channels.specs.declared.channel.Channel.{Channel}
use Rattle.pp_lives.specs.Fars.{far_of, greeting_of}
use Rattle.pp_lives.specs.Sending.{with_datagram}
use Rattle.pp_lives.specs.Standing.{Stands, StandsAt}
use Rattle.pp_lives.specs.declared.lives.Far.{Far}
use Rattle.pp_draft.specs.Datagrams.{IsDatagram, delivery}
use Rattle.pp_draft.specs.Notes.{own_options, no_options}
use Rattle.pp_desk.specs.Delivers.{At, none_delivered}
use Rattle.pp_seats.specs.Sending.{with_sent, opening_at, way_of, Speaks}
use Rattle.pp_seats.specs.Standing.{SeatsState}
use Rattle.pp_peer.specs.declared.dialling.Dial.{Dial}
use Rattle.pp_peer.specs.declared.parts.Parts.{Parts}
use Rattle.pp_peer.specs.declared.speaking.Speaker.{Speaker}
use Rattle.pp_peer.specs.Delivering.{ServesAlone}
use Rattle.pp_peer.specs.Delivering as delivering
use Rattle.pp_peer.specs.Flushing.{Scene, IsOurs}
use Rattle.pp_peer.specs.Greeting.{Drops, IsGreeted, IsClosed}
use Rattle.pp_peer.specs.Sending.{SendsAll}
use Rattle.pp_peer.specs.Speaking.{SpeaksOn, SpeaksTo, TurnsIf, TurnsTo}
use Rattle.pp_peer.specs.Standing.{Beginning, StandsFor}
use Rattle.pp_peer.proofs.Dialled.{IsDialling, all_dialling}
use Rattle.pp_peer.proofs.Went.{went_by}
use Rattle.pp_core.specs.Peers.{PeerState}
use Rattle.pp_core.specs.Opening.{HasBegun}
use Rattle.pp_core.specs.Turning.{after_refusal, scene, Sends, Closes}
use Rattle.pp_core.proofs.Before.{dials_goes, slots_kept}
use Rattle.pp_core.proofs.Delivered.{goes_grows}
use Rattle.pp_core.proofs.Lately.{IsAlike, stayed_same, stayed_but, wrote_alike, IsWritten, written_from, IsLifeOf, writes_here, far_writes, Writes, writes_one, goes_pass, Steps, steps_twice, steps_but, steps_same, alike_same, Newly, newly_twice, newly_same, dials_all_newly, steps_newly, greeting_is}
use Rattle.pp_core.proofs.Links.{Grows, grows_none}
use Rattle.pp_core.proofs.Served.{in_list}
use Rattle.pp_core.proofs.Turns.{HasTurn, has_turn, picked_rest}
use Rattle.pp_core.specs.Remembering.{wrote_from, KeepsWrote}
use Rattle.pp_core.proofs.Writing.{since_from, begins_of, all_now, lately_more, lately_any, plain_since, any_amid, gained_alike}
use Rattle.pp_core.proofs.Wrote.{AwaitsNumber}

-- ---- a seat's turn

greeted_steps : (d : Descriptor) (moment at n : ℕ) (sent : Bool) (old new : Parts) (link later : LinkState)
    → old.seats.descriptor ≡ d → old.seats.moment ≡ moment → IsGreeted n at sent old new link later
    → Steps d moment n old.seats.table new.seats.table link later
greeted_steps d moment at n true old new link later swarm now_is g = record {
  grows = record { added = _; gained = g.greets.sends.outcome; faults = g.greets.sends.later };
  each = λ c is begun.
      let w = written_from old.seats.table n true old.seats.moment c (ap (λ (x : SeatsState). channel_at x.table n) (sym g.greets.is) ∙ is) in
      let to = g.greets.greeting in
      let e = greeting_is w.was to (ap greeting_of (sym w.there) ∙ g.greets.is_greeting) in
      inr (inr (
        w.wrote ∙ now_is,
        writes_one d c link later (Sent at (address_of to.address) g.greets.bytes) g.greets.sends.outcome (λ life of_c.
            writes_here d c life at to.number (address_of to.address) (Handshake to.source (own_options d) ∷ []) g.greets.bytes
            (subst (λ (x : Descriptor). IsDatagram x to.number (Handshake to.source (own_options x) ∷ []) g.greets.bytes) swarm g.greets.written)
            (ap address_of (e.1 ∙ sym w.alike.address)) of_c
            (inr (or_left (eqb to.source c.local) false (eq-eqb to.source c.local (e.0 ∙ sym w.alike.local))))),
      ));
}
greeted_steps d moment at n false old new link later swarm now_is (inl r) =
    steps_same d moment n old.seats.table new.seats.table link later
    (record { added = []; gained = gains_nothing link.traffic later.traffic r.refuses.traffic; faults = r.refuses.grows })
    (ap (λ (p : Parts). p.seats.table) r.rest)
greeted_steps d moment at n false old new link later swarm now_is (inr i) =
    steps_same d moment n old.seats.table new.seats.table link later (grows_none link later i.link_same) (ap (λ (p : Parts). p.seats.table) i.same)

sent_from : (t : Seats) (k : ℕ) (opens : Bool) (sent at : ℕ) (c : Channel) → channel_at (with_sent t k opens sent at) k ≡ Some c
    → (channel_at t k ≡ Some c) ⊎ ((0 < sent) × IsWritten (channel_at t k) at c)
sent_from t k opens sent at c is = of (nat_lt 0 sent) refl is
  where
    of : (b : Bool) → nat_lt 0 sent ≡ b → channel_at (cond b (with_datagram t k opens at) t) k ≡ Some c
        → (channel_at t k ≡ Some c) ⊎ ((0 < sent) × IsWritten (channel_at t k) at c)
    of true some is = inr (ltb-true 0 sent some, written_from t k opens at c is)
    of false none is = inl is

module _ (d : Descriptor) (moment n : ℕ) (far : Far) (greets : Bool) (refused : ℕ) (speaker left : Speaker) (a b : Scene)
    (swarm : a.parts.seats.descriptor ≡ d) (now_is : a.parts.seats.moment ≡ moment)
    (s : SpeaksOn (record { seat = n; far = far; greets = greets }) refused speaker left a b) where
  abbrev to : SpeaksTo (record { seat = n; far = far; greets = greets }) refused speaker left (record a { parts = s.back })
      (record b { parts = s.said })
  to = s.speaks

  abbrev sp : Speaks n left.agenda (moment_of a.disk.history) to.delivered to.picked.seats to.said.seats a.link b.link
  sp = to.says.speaks

  abbrev first : At
  first = record { seat = sp.before; link = a.link; so_far = none_delivered }

  abbrev last : At
  last = record { seat = sp.after; link = b.link; so_far = to.delivered }

  rest : to.picked.seats ≡ record a.parts.seats { seats = to.picked.seats.seats }
  rest = picked_rest n s.sets_back.known.proven greets speaker.news.ranges to.picks speaker.order a.parts s.back to.picked s.sets_back.sets
      to.are_picked

  table : b.parts.seats.table
      ≡ with_sent to.picked.seats.table n (is_some (opening_at to.picked.seats n)) to.delivered.sent to.picked.seats.moment
  table = ap (λ (p : Parts). p.seats.table) s.attends.keeps.rest ∙ ap (λ (p : Parts). p.seats.table) to.settles.rest
      ∙ ap (λ (x : SeatsState). x.table) sp.is

  said_writes : (c : Channel) → 0 < to.delivered.sent → IsWritten (channel_at to.picked.seats.table n) to.picked.seats.moment c
      → (life : Life) → IsLifeOf c life → list_any (writes_on d life) sp.added ≡ true
  said_writes c some w life of_c =
      let opening = opening_at to.picked.seats n in
      let way = way_of to.picked.seats sp.far (moment_of a.disk.history) in
      subst (λ (rs : List Record). list_any (writes_on d life) rs ≡ true) (sym sp.added_are)
      (goes_pass (writes_on d life) opening way left.agenda first last sp.goes
      (λ ms bytes written. far_writes d to.picked.seats.descriptor (channel_at to.picked.seats.table n) w.was c sp.far life
      (moment_of a.disk.history) ms bytes (ap (λ (x : SeatsState). x.descriptor) rest ∙ swarm) w.there sp.is_far w.alike of_c written)
      (let many = (went_by opening way left.agenda first last refl sp.goes).sent in omega (arith, some, many)))

  -- the channel of its seat was there
  pub spoken_from : (c : Channel) → channel_at b.parts.seats.table n ≡ Some c
      → (e : Channel) × (channel_at a.parts.seats.table n ≡ Some e) × IsAlike e c
  spoken_from c is = ⊎_elim
      (λ same. (c, ap (λ (x : SeatsState). channel_at x.table n) (sym rest) ∙ same, alike_same c c refl))
      (λ w. (w.1.was, ap (λ (x : SeatsState). channel_at x.table n) (sym rest) ∙ w.1.there, w.1.alike))
      (sent_from to.picked.seats.table n (is_some (opening_at to.picked.seats n)) to.delivered.sent to.picked.seats.moment c
      (ap (λ (t : Seats). channel_at t n) (sym table) ∙ is))

  spoken_steps : Steps d moment n a.parts.seats.table b.parts.seats.table a.link b.link
  spoken_steps = record {
    grows = goes_grows (opening_at to.picked.seats n) to.picked.seats.descriptor sp.far (moment_of a.disk.history) to.picked.seats.moment
        left.agenda first last sp.goes;
    each = λ c is begun. ⊎_elim
        (λ same. inl (record {
          was = c;
          there = ap (λ (x : SeatsState). channel_at x.table n) (sym rest) ∙ same;
          begun = begun;
          alike = alike_same c c refl;
          wrote = refl;
        }))
        (λ w. inr (inr (
          w.1.wrote ∙ ap (λ (x : SeatsState). x.moment) rest ∙ now_is,
          record { added = sp.added; gained = sp.gained; writes = said_writes c w.0 w.1 },
        )))
        (sent_from to.picked.seats.table n (is_some (opening_at to.picked.seats n)) to.delivered.sent to.picked.seats.moment c
        (ap (λ (t : Seats). channel_at t n) (sym table) ∙ is));
  }

turn_steps : (d : Descriptor) (moment n refused : ℕ) (speaker left : Speaker) (a b : Scene) → a.parts.seats.descriptor ≡ d
    → a.parts.seats.moment ≡ moment → TurnsTo n refused speaker left a b → Steps d moment n a.parts.seats.table b.parts.seats.table a.link b.link
turn_steps d moment n refused speaker left a b swarm now_is t = of (far_of (channel_at a.parts.seats.table n)) t
  where
    of : (o : Option Far) → TurnsIf o n refused speaker left a b → Steps d moment n a.parts.seats.table b.parts.seats.table a.link b.link
    of None g = greeted_steps d moment (moment_of a.disk.history) n g.greeted a.parts b.parts a.link b.link swarm now_is g.greets
    of (Some far) (inl none) = steps_same d moment n a.parts.seats.table b.parts.seats.table a.link b.link
        (grows_none a.link b.link none.silent.link) (ap (λ (p : Parts). p.seats.table) none.silent.parts)
    of (Some far) (inr s) = spoken_steps d moment n far s.0 refused speaker left a b swarm now_is s.1

-- ---- chunks

served_steps : (d : Descriptor) (moment n : ℕ) (old new : SeatsState) (link later : LinkState) (grows : Grows link later)
    → old.descriptor ≡ d → old.moment ≡ moment → ServesAlone old new grows.added → Steps d moment n old.table new.table link later
served_steps d moment n old new link later grows swarm now_is alone = record {
  grows = grows;
  each = λ c is begun. ⊎_elim
      (λ same. inl (stayed_same (channel_at old.table n) (channel_at new.table n) same c is begun))
      (λ w. inr (inr (written w c is)))
      (alone.channels n);
}
  where
    written : delivering.IsWritten n old new grows.added → (c : Channel) → channel_at new.table n ≡ Some c
        → (c.wrote ≡ moment) × Writes d c link later
    written w c is =
        let e : record w.channel { wrote = old.moment } ≡ c = same_Some (record w.channel { wrote = old.moment }) c (sym w.after ∙ is) in
        let del = w.delivery.delivery in (
          ap (λ (x : Channel). x.wrote) (sym e) ∙ now_is,
          record {
            added = grows.added;
            gained = grows.gained;
            writes = λ life of_c. subst (λ (rs : List Record). list_any (writes_on d life) rs ≡ true) (sym w.delivery.among)
                (any_amid (writes_on d life) w.delivery.newer w.delivery.here w.delivery.older
                (subst (λ (r : Record). writes_on d life r ≡ true) (sym del.is)
                (far_writes d old.descriptor (channel_at old.table n) w.channel c del.far life del.moment
                (delivery del.book del.nodes del.chunk old.moment del.content) del.bytes swarm w.there del.is_far
                (wrote_alike w.channel c old.moment e) of_c del.written)));
          },
        )

-- ---- a flush

drops_newly : (n : ℕ) (old new : Parts) → n < 64 → Drops old new → Newly n old.seats.table new.seats.table
drops_newly n old new low d c is begun = ⊎_elim
    (λ stays. inl (stayed_but (channel_at old.seats.table n) (channel_at new.seats.table n) stays.channel c is begun))
    (λ over. let x : None ≡ Some c = sym over.1.channel ∙ is in absurd cc)
    (d.each n low)

module _ (dials lefts : List Dial) (speaker left : Speaker) (refused : ℕ) (old new : Scene)
    (s : SendsAll dials lefts speaker left refused old new) (d : Descriptor) (swarm : old.parts.seats.descriptor ≡ d)
    (swarm_then : new.parts.seats.descriptor ≡ d) (moment_then : new.parts.seats.moment ≡ old.parts.seats.moment) (n : ℕ) (low : n < 64) where
  abbrev clock : ℕ
  clock = old.parts.seats.moment

  abbrev given : Scene
  given = record old { parts = s.given }

  abbrev start : Scene
  start = record s.dialled { parts = s.turned }

  dialling : IsDialling given s.dialled
  dialling = all_dialling dials lefts given s.dials_all.0 s.dialled s.dials_all.1 s.dials_all.2

  h : HasTurn n s.speaks.gathered left start s.said
  h = has_turn n 64 s.unsaid s.speaks.gathered left start s.said low s.speaks.turns

  newly : Newly n old.parts.seats.table s.dialled.parts.seats.table
  newly = newly_twice n old.parts.seats.table s.given.seats.table s.dialled.parts.seats.table
      (newly_twice n old.parts.seats.table s.dropped.seats.table s.given.seats.table
      (drops_newly n old.parts s.dropped low s.drops)
      (newly_same n s.dropped.seats.table s.given.seats.table (ap (λ (p : Parts). p.seats.table) s.gives_up.rest)))
      (dials_all_newly n dials lefts given s.dialled s.dials_all)

  dialled_steps : Steps d clock n old.parts.seats.table s.dialled.parts.seats.table old.link s.dialled.link
  dialled_steps = steps_newly d clock n old.parts.seats.table s.dialled.parts.seats.table old.link s.dialled.link
      (dials_goes n dials lefts given s.dialled s.dials_all).grows newly

  slot_steps : Steps d clock n s.dialled.parts.seats.table s.turned.seats.table s.dialled.link s.dialled.link
  slot_steps = steps_but d clock n s.dialled.parts.seats.table s.turned.seats.table s.dialled.link s.dialled.link
      (grows_none s.dialled.link s.dialled.link refl) (slots_kept n s.dialled.parts s.turned s.turns).seats.channel

  before_steps : Steps d clock n s.turned.seats.table h.begin.parts.seats.table s.dialled.link h.begin.link
  before_steps = steps_but d clock n s.turned.seats.table h.begin.parts.seats.table s.dialled.link h.begin.link h.before.grows h.before.kept.seats.channel

  moment_begin : h.begin.parts.seats.moment ≡ clock
  moment_begin = h.before.kept.seats.moment ∙ (slots_kept n s.dialled.parts s.turned s.turns).seats.moment ∙ dialling.flushes.moment
      ∙ ap (λ (p : Parts). p.seats.moment) s.gives_up.rest ∙ s.drops.moment

  swarm_begin : h.begin.parts.seats.descriptor ≡ d
  swarm_begin = h.before.kept.seats.swarm ∙ (slots_kept n s.dialled.parts s.turned s.turns).seats.swarm ∙ dialling.flushes.swarm
      ∙ ap (λ (p : Parts). p.seats.descriptor) s.gives_up.rest ∙ s.drops.swarm ∙ swarm

  own_steps : Steps d clock n h.begin.parts.seats.table h.end.parts.seats.table h.begin.link h.end.link
  own_steps = turn_steps d clock n h.refused h.middle h.left h.begin h.end swarm_begin moment_begin h.turn

  after_steps : Steps d clock n h.end.parts.seats.table s.said.parts.seats.table h.end.link s.said.link
  after_steps = steps_but d clock n h.end.parts.seats.table s.said.parts.seats.table h.end.link s.said.link h.after.grows h.after.kept.seats.channel

  chunk_steps : Steps d clock n s.said.parts.seats.table new.parts.seats.table s.said.link new.link
  chunk_steps = served_steps d clock n s.said.parts.seats new.parts.seats s.said.link new.link
      (record { added = s.serves.flushes.added; gained = s.serves.flushes.gained; faults = s.serves.flushes.later })
      (sym s.serves.alone.swarm ∙ swarm_then) (sym s.serves.alone.moment ∙ moment_then) s.serves.alone

  pub flush_steps : Steps d clock n old.parts.seats.table new.parts.seats.table old.link new.link
  flush_steps = steps_twice d clock n old.parts.seats.table s.said.parts.seats.table new.parts.seats.table old.link s.said.link new.link
      (steps_twice d clock n old.parts.seats.table h.end.parts.seats.table s.said.parts.seats.table old.link h.end.link s.said.link
      (steps_twice d clock n old.parts.seats.table h.begin.parts.seats.table h.end.parts.seats.table old.link h.begin.link h.end.link
      (steps_twice d clock n old.parts.seats.table s.turned.seats.table h.begin.parts.seats.table old.link s.dialled.link h.begin.link
      (steps_twice d clock n old.parts.seats.table s.dialled.parts.seats.table s.turned.seats.table old.link s.dialled.link s.dialled.link
      dialled_steps slot_steps) before_steps) own_steps) after_steps) chunk_steps

-- ---- what is written

wrote_more : (d : Descriptor) (life : Life) (moment : ℕ) (rs past : List Record) → wrote_from d life moment past ≡ true
    → wrote_from d life moment (rs ++ past) ≡ true
wrote_more d life moment [] past e = e
wrote_more d life moment (r ∷ rs) past e =
    or_right (writes_on d life r && leb moment (now (r ∷ (rs ++ past)))) (wrote_from d life moment (rs ++ past)) (wrote_more d life moment rs past e)

-- one of the records that were sent is written now
wrote_any : (d other : Descriptor) (life : Life) (moment : ℕ) (rs past : List Record) → AllByRecursion (IsOurs other moment) rs
    → list_any (writes_on d life) rs ≡ true → wrote_from d life (now past) (rs ++ past) ≡ true
wrote_any d other life moment [] past all e = absurd (false≢true e)
wrote_any d other life moment (r ∷ rs) past all e = ⊎_elim
    (λ here. or_left (writes_on d life r && leb (now past) (now (r ∷ (rs ++ past)))) (wrote_from d life (now past) (rs ++ past))
    (and_from (writes_on d life r) (leb (now past) (now (r ∷ (rs ++ past)))) here
    (le-leb (now past) (now (r ∷ (rs ++ past))) (let same = all_now other moment (r ∷ rs) past all in omega (arith, same)))))
    (λ later. or_right (writes_on d life r && leb (now past) (now (r ∷ (rs ++ past)))) (wrote_from d life (now past) (rs ++ past))
    (wrote_any d other life moment rs past all.1 later))
    (or_cases (writes_on d life r) (list_any (writes_on d life) rs) e)

-- the handshake of a channel's life is written on each life of its address and number
answer_of : (d : Descriptor) (l life : Life) (r : Record) → l.address ≡ life.address → l.local ≡ life.local → answers d l r ≡ true
    → writes_on d life r ≡ true
answer_of d l life r address local e =
    let it = read d r in
    let outer = and_parts (goes_to l.address r && is_number (cond l.is_dialled 0 l.remote) it.channel) (begins_as l.local it.messages.read) e in
    let inner = and_parts (goes_to l.address r) (is_number (cond l.is_dialled 0 l.remote) it.channel) outer.0 in
    and_from (goes_to life.address r) (is_number life.remote it.channel || list_any (is_of life.local) it.messages.read)
    (subst (λ (a : Address). goes_to a r ≡ true) address inner.0)
    (or_right (is_number life.remote it.channel) (list_any (is_of life.local) it.messages.read)
    (subst (λ (k : ℕ). list_any (is_of k) it.messages.read ≡ true) local (begins_of l.local it.messages.read outer.1)))

-- a channel on which this peer's handshake was sent has a life
pub begun_life : (d : Descriptor) (c : Channel) (o : Option Life) (past : List Record) → StandsAt d (Some c) o past → is_begun c.opening ≡ true
    → (l : Life) × Stands d c l past
begun_life d c None past s begun = absurd (both_ways (is_begun c.opening) s.none begun)
begun_life d c (Some l) past s begun = (l, s)

-- where it is new something was written since it was made
made_wrote : (d : Descriptor) (c : Channel) (l life : Life) (past : List Record) → Stands d c l past → is_begun c.opening ≡ true
    → life.address ≡ address_of c.address → life.local ≡ c.local → c.wrote ≡ c.made → wrote_from d life c.wrote past ≡ true
made_wrote d c l life past s begun address local new =
    subst (λ (m : ℕ). wrote_from d life m past ≡ true) (sym s.made ∙ sym new)
    (since_from d life (answers d l) l.opening past
    (λ r e. answer_of d l life r (s.address ∙ sym address) (s.local ∙ sym local) e) (sym s.goes.has_begun ∙ begun))

module _ (b : Beginning) (most : ℕ) (p q : Parts) (link later : LinkState) (added past before : List Record) (other : Descriptor) (at : ℕ)
    (stands : StandsFor b most q (added ++ past)) (carries : link.traffic ≡ Some before) (gained : GainsRecords link.traffic added later.traffic)
    (ours : AllByRecursion (IsOurs other at) added) (now_is : p.seats.moment ≡ now past)
    (steps : (n : ℕ) → n < 64 → Steps b.d p.seats.moment n p.seats.table q.seats.table link later) (keeps : KeepsWrote b.d p past) where
  seat_low : (n : ℕ) (c : Channel) → channel_at q.seats.table n ≡ Some c → n < 64
  seat_low n c there =
      let lt = in_list q.seats.table.channels n c there in let size = stands.seats.standing.seated.are.seats in omega (arith, lt, size)

  living : (n : ℕ) (c : Channel) → channel_at q.seats.table n ≡ Some c → is_begun c.opening ≡ true → (l : Life) × Stands b.d c l (added ++ past)
  living n c there begun = begun_life b.d c (stands.seats.lives n) (added ++ past)
      (subst (λ (o : Option Channel). StandsAt b.d o (stands.seats.lives n) (added ++ past)) there (stands.seats.standing.seated.each n)) begun

  life_of : (n : ℕ) (c : Channel) (life : Life) → channel_at q.seats.table n ≡ Some c → is_begun c.opening ≡ true
      → life.address ≡ address_of c.address → life.local ≡ c.local → (c.remote ≡ None) ⊎ (c.remote ≡ Some life.remote) → IsLifeOf c life
  life_of n c life there begun address local remote = record {
    address = address;
    local = local;
    remote = λ known. ⊎_elim
        (λ none. let l = living n c there begun in let x : None ≡ Some l.0.remote = sym none ∙ (l.1.remote known).0 in absurd cc)
        (λ is. is)
        remote;
  }

  -- by what each seat's steps leave, where the peer stands for all records
  pub steps_wrote : KeepsWrote b.d q (added ++ past)
  steps_wrote n c life there begun address local remote = ⊎_elim
      (λ s. wrote_more b.d life c.wrote added past
      (subst (λ (m : ℕ). wrote_from b.d life m past ≡ true) (sym s.wrote)
      (keeps n s.was life s.there s.begun (address ∙ ap address_of s.alike.address) (local ∙ s.alike.local)
      (⊎_elim (λ none. inl (sym s.alike.remote ∙ none)) (λ is. inr (sym s.alike.remote ∙ is)) remote))))
      (λ fresh. ⊎_elim
      (λ new. let l = living n c there begun in made_wrote b.d c l.0 life (added ++ past) l.1 begun address local new)
      (λ w. subst (λ (m : ℕ). wrote_from b.d life m (added ++ past) ≡ true) (sym now_is ∙ sym w.0)
      (wrote_any b.d other life at added past ours
      (subst (λ (rs : List Record). list_any (writes_on b.d life) rs ≡ true)
      (sym (gained_alike before added w.1.added link.traffic later.traffic carries gained w.1.gained))
      (w.1.writes life (life_of n c life there begun address local remote)))))
      fresh)
      ((steps n (seat_low n c there)).each c there begun)

-- While the reply is awaited the other peer's number isn't known, of a peer that stands for its records.
pub awaits_number : (b : Beginning) (most : ℕ) (p : Parts) (past : List Record) → StandsFor b most p past → AwaitsNumber p.seats.table
awaits_number b most p past stands = stands.seats.standing.seated.unknown

-- When datagrams last went is kept by a flush.
pub flush_wrote : (refused : ℕ) (old new : PeerState) (link later : LinkState) (disk left : DiskState)
    → (course : Sends refused old new link later disk left) → (b : Beginning) (most : ℕ) (past before : List Record)
    → b.since ≤ moment_of disk.history → StandsFor b most old.parts past → link.traffic ≡ Some before → KeepsWrote b.d old.parts past → KeepsWrote b.d new.parts (course.flushes.added ++ past)
flush_wrote refused old new link later disk left course b most past before since stands carries keeps =
    subst (λ (p : Parts). KeepsWrote b.d p (course.flushes.added ++ past)) (sym course.rest)
    (steps_wrote b (most + refused) old.parts course.sent link later course.flushes.added past before old.parts.seats.descriptor
    (moment_of disk.history) (course.flushes.stands b most past since stands) carries course.flushes.gained course.flushes.ours
    stands.seats.now_is
    (λ n low. flush_steps old.dials new.dials old.speaker new.speaker refused (scene old.parts link disk) (scene course.sent later left) course.sends
    b.d stands.seats.swarm (course.flushes.swarm ∙ stands.seats.swarm) course.flushes.moment n low) keeps)

-- ---- a wait that was refused, and a beginning

none_there : (many n : ℕ) → at_seat (replicate many None) n ≡ None
none_there zero n = refl
none_there (suc many) zero = refl
none_there (suc many) (suc n) = none_there many n

pub refused_wrote : (d : Descriptor) (p : PeerState) (past : List Record) → KeepsWrote d p.parts past → KeepsWrote d (after_refusal p).parts past
refused_wrote d p past keeps = keeps

-- a peer that has begun has no channel
pub none_begun : (d : Descriptor) (random : List ℕ) (asks : Option Rank) (dial : List addresses.Address) (p : PeerState)
    → HasBegun d random asks dial p → (n : ℕ) (c : Channel) → channel_at p.parts.seats.table n ≡ Some c → ⊥
none_begun d random asks dial p h n c there =
    let x : None ≡ Some c = sym (none_there 64 n) ∙ ap (λ (t : Seats). channel_at t n) (sym h.seats.table) ∙ there in cc

pub begun_wrote : (d swarm : Descriptor) (random : List ℕ) (asks : Option Rank) (dial : List addresses.Address) (p : PeerState)
    → HasBegun swarm random asks dial p → KeepsWrote d p.parts []
begun_wrote d swarm random asks dial p h n c life there begun address local remote = absurd (none_begun swarm random asks dial p h n c there)

-- ---- a farewell

-- A farewell went on a seat's channel at the moment, and that is noted there.
pub record IsParted (seat : ℕ) (old new : SeatsState) (added : List Record) : Type 0 where
  pub channel : Channel
  pub there : channel_at old.table seat ≡ Some channel
  pub after : channel_at new.table seat ≡ Some (record channel { wrote = old.moment })
  pub far : Far
  pub is_far : far_of (Some channel) ≡ Some far
  pub moment : ℕ
  pub closed : IsClosed old.descriptor moment far added

-- On each channel one went, or the channel is as it was.
abbrev pub PartsAlone : SeatsState → SeatsState → List Record → Type 0
PartsAlone old new added = (seat : ℕ) → (channel_at new.table seat ≡ channel_at old.table seat) ⊎ IsParted seat old new added

parted_steps : (d : Descriptor) (moment n : ℕ) (old new : SeatsState) (link later : LinkState) (grows : Grows link later)
    → old.descriptor ≡ d → old.moment ≡ moment → PartsAlone old new grows.added → Steps d moment n old.table new.table link later
parted_steps d moment n old new link later grows swarm now_is alone = record {
  grows = grows;
  each = λ c is begun. ⊎_elim
      (λ same. inl (stayed_same (channel_at old.table n) (channel_at new.table n) same c is begun))
      (λ w. inr (inr (written w c is)))
      (alone n);
}
  where
    written : IsParted n old new grows.added → (c : Channel) → channel_at new.table n ≡ Some c → (c.wrote ≡ moment) × Writes d c link later
    written w c is =
        let e : record w.channel { wrote = old.moment } ≡ c = same_Some (record w.channel { wrote = old.moment }) c (sym w.after ∙ is) in (
          ap (λ (x : Channel). x.wrote) (sym e) ∙ now_is,
          record {
            added = grows.added;
            gained = grows.gained;
            writes = λ life of_c. subst (λ (rs : List Record). list_any (writes_on d life) rs ≡ true) (sym w.closed.among)
                (any_amid (writes_on d life) w.closed.newer (Sent w.moment (address_of w.far.address) w.closed.bytes) w.closed.older
                (far_writes d old.descriptor (Some w.channel) w.channel c w.far life w.moment (Handshake 0 no_options ∷ []) w.closed.bytes
                swarm refl w.is_far (wrote_alike w.channel c old.moment e) of_c w.closed.written));
          },
        )

-- When datagrams last went is kept by a farewell, where it leaves the channels so.
pub closes_wrote : (old new : PeerState) (link later : LinkState) (disk : DiskState) → (course : Closes old new link later disk)
    → PartsAlone old.parts.seats new.parts.seats course.parting.flushes.added
    → (b : Beginning) (most : ℕ) (past before : List Record) → b.since ≤ moment_of disk.history → StandsFor b most old.parts past
    → link.traffic ≡ Some before → KeepsWrote b.d old.parts past → KeepsWrote b.d new.parts (course.parting.flushes.added ++ past)
closes_wrote old new link later disk course alone b most past before since stands carries keeps =
    let f = course.parting.flushes in
    steps_wrote b (most + 0) old.parts new.parts link later f.added past before old.parts.seats.descriptor (moment_of disk.history)
    (f.stands b most past since stands) carries f.gained f.ours stands.seats.now_is
    (λ n low. parted_steps b.d old.parts.seats.moment n old.parts.seats new.parts.seats link later
    (record { added = f.added; gained = f.gained; faults = f.later }) stands.seats.swarm refl alone) keeps

-- A farewell leaves what was written lately on plain channels, whatever else it does.
pub closes_keeps_up : (old new : PeerState) (link later : LinkState) (disk : DiskState) → (course : Closes old new link later disk)
    → (d : Descriptor) (past : List Record) → KeepsUp d past → KeepsUp d (course.parting.flushes.added ++ past)
closes_keeps_up old new link later disk course d past keeps life plain =
    let f = course.parting.flushes in
    subst (λ (n : ℕ). wrote_lately d life n (f.added ++ past) ≡ true)
    (sym (all_now old.parts.seats.descriptor (moment_of disk.history) f.added past f.ours))
    (⊎_elim
    (λ before. lately_more d life (now past) f.added past (keeps life before))
    (λ some. lately_any d old.parts.seats.descriptor life (moment_of disk.history) f.added past f.ours some)
    (plain_since d old.parts.seats.descriptor life (moment_of disk.history) f.added past f.ours plain))
