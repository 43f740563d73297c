-- What no datagram of a flush says where no note of it does.
use Rattle.std.proofs.Common.{◌≡◌, ◌≢◌, ◌⊎◌, inl, inr, ⊎_elim, ℕ, zero, suc, ◌<◌, Bool, true, false, cond, Option, Some, None, option_map, List, [], ◌∷◌, refl, sym, ◌∙◌, ap, subst}
use Rattle.std.specs.Prelude.{MatchBool, nat_lt}
use Rattle.std.specs.List.{AllByRecursion}
use Rattle.std.proofs.lemmas.Bool.{cases_eq}
use Rattle.std.proofs.lemmas.Option.{same_Some}
use Rattle.pp_terms.specs.disk.Disk.{DiskState, moment_of}
use Rattle.pp_terms.specs.format.Descriptor.{Descriptor}
use Rattle.pp_terms.specs.format.Messages as plain
use Rattle.pp_terms.specs.format.Messages.{Message}
use Rattle.pp_terms.specs.format.Traffic.{Record, LinkState}
use Rattle.pp_outside.specs.Outside.{address_of}
use Rattle.pp_outside.specs.declared.link.Address.{Address}
use Rattle.pp_channels.specs.Seats.{Seats, channel_at, changed, used_of, with_handshake}
use Rattle.pp_channels.specs.Timing.{handshake_due}
use Rattle.pp_channels.specs.declared.channel.Channel.{Channel}
use Rattle.pp_lives.specs.Fars.{far_of, greeting_of}
use Rattle.pp_lives.specs.Sending.{with_datagram}
use Rattle.pp_lives.specs.declared.lives.Far.{Far}
use Rattle.pp_lives.specs.declared.lives.Greeting.{Greeting}
use Rattle.pp_draft.specs.Datagrams.{IsDatagram, delivery}
use Rattle.pp_draft.specs.Notes.{own_options}
use Rattle.pp_desk.specs.Delivers.{none_delivered}
use Rattle.pp_seats.specs.Greeting.{Dials, with_dial}
use Rattle.pp_seats.specs.Reading.{opening_of}
use Rattle.pp_seats.specs.Sending.{opening_at, way_of, with_sent}
use Rattle.pp_seats.specs.Standing.{SeatsState, Setting}
use Rattle.pp_seats.specs.Standing as seats
use Rattle.pp_peer.specs.declared.dialling.Dial.{Dial}
use Rattle.pp_peer.specs.declared.dialling.DialState.{DialState}
use Rattle.pp_peer.specs.declared.dialling.DialState.TheVariants.{Seated}
use Rattle.pp_peer.specs.declared.parts.Parts.{Parts}
use Rattle.pp_peer.specs.declared.speaking.Speaker.{Speaker}
use Rattle.pp_peer.specs.Delivering.{IsDelivery}
use Rattle.pp_peer.specs.Dialling.{Tries, has_channel, is_due, noticed, after_dial, StepsDial, DialsEach, with_queue, DialsSuggested, DialsAll}
use Rattle.pp_peer.specs.Flushing.{Scene}
use Rattle.pp_peer.specs.Greeting.{IsGreeted}
use Rattle.pp_peer.specs.Sending.{SendsAll}
use Rattle.pp_peer.specs.Slotting.{TurnsLongest, TurnsNone, TurnsSlots}
use Rattle.pp_peer.specs.Speaking.{SpeaksTo, SpeaksOn, TurnsIf, TurnsTo, TurnsBelow}
use Rattle.pp_peer.specs.Standing.{Beginning, setting, StandsFor}
use Rattle.pp_core.specs.Peers.{PeerState}
use Rattle.pp_core.specs.Turning.{scene, Sends}
use Rattle.pp_core.proofs.Kept.{changed_there, seat_turned}
use Rattle.pp_core.proofs.Rooms.{at_changed, slots_alike}
use Rattle.pp_core.proofs.Rounds.{IsStepwise, turn_kept}
use Rattle.pp_core.proofs.Turns.{grants_kept, back_rest, picked_rest}
use Rattle.pp_core.proofs.Unsaid.{IsTest, IsNotIn, IsNotRead, none_read, GainsNone, gains_still, gains_both, sent_gains, gains_on, goes_gains}
use Rattle.pp_core.proofs.Writing.{gained_alike}

-- ---- numbers of channels

-- Each channel has a number of this peer's above 0.
abbrev pub AreNumbered : Seats → Type 0
AreNumbered t = (seat : ℕ) (c : Channel) → channel_at t seat ≡ Some c → 0 < c.local

numbered_on : (t new : Seats) → new ≡ t → AreNumbered t → AreNumbered new
numbered_on t new same numbered = subst (λ (x : Seats). AreNumbered x) (sym same) numbered

mapped_local : (f : Channel → Channel) → ((c : Channel) → (f c).local ≡ c.local) → (o : Option Channel) (c : Channel) → option_map f o ≡ Some c
    → (e : Channel) × (o ≡ Some e) × (e.local ≡ c.local)
mapped_local f same None c is = let x : None ≡ Some c = is in absurd cc
mapped_local f same (Some e) c is = (e, refl, sym (same e) ∙ ap (λ (x : Channel). x.local) (same_Some (f e) c is))

changed_numbered : (t : Seats) (k : ℕ) (f : Channel → Channel) → ((c : Channel) → (f c).local ≡ c.local) → AreNumbered t
    → AreNumbered (changed t k f)
changed_numbered t k f same numbered n c is = ⊎_elim
    (λ (here : n ≡ k).
    let was = mapped_local f same (channel_at t k) c
    (sym (at_changed t.channels k f) ∙ ap (λ (m : ℕ). channel_at (changed t k f) m) (sym here) ∙ is) in
    subst (λ (m : ℕ). 0 < m) was.2 (numbered k was.0 was.1))
    (λ (ne : n ≢ k). numbered n c (sym (changed_there t k n f ne) ∙ is))
    (cases_eq n k)

datagram_numbered : (t : Seats) (k : ℕ) (opens : Bool) (now : ℕ) → AreNumbered t → AreNumbered (with_datagram t k opens now)
datagram_numbered t k true now numbered =
    changed_numbered (changed t k (λ c. record c { wrote = now })) k (λ c. record c { opening = with_handshake c.opening }) (λ c. refl)
    (changed_numbered t k (λ c. record c { wrote = now }) (λ c. refl) numbered)
datagram_numbered t k false now numbered = changed_numbered t k (λ c. record c { wrote = now }) (λ c. refl) numbered

sent_numbered : (t : Seats) (k : ℕ) (opens : Bool) (sent now : ℕ) → AreNumbered t → AreNumbered (with_sent t k opens sent now)
sent_numbered t k opens sent now numbered = of (nat_lt 0 sent)
  where
    of : (b : Bool) → AreNumbered (cond b (with_datagram t k opens now) t)
    of true = datagram_numbered t k opens now numbered
    of false = numbered

-- The swarm stays, and channels that have numbers above 0 go on having such.
abbrev pub KeepsNumbers : Parts → Parts → Type 0
KeepsNumbers p q = (q.seats.descriptor ≡ p.seats.descriptor) × (AreNumbered p.seats.table → AreNumbered q.seats.table)

same_numbers : (p q : Parts) → q.seats.descriptor ≡ p.seats.descriptor → q.seats.table ≡ p.seats.table → KeepsNumbers p q
same_numbers p q swarm table = (swarm, numbered_on p.seats.table q.seats.table table)

greets_numbers : (k moment : ℕ) (sent : Bool) (p q : Parts) (link later : LinkState) → IsGreeted k moment sent p q link later → KeepsNumbers p q
greets_numbers k moment true p q link later g = (
  ap (λ (x : SeatsState). x.descriptor) g.greets.is,
  λ numbered. numbered_on (with_datagram p.seats.table k true p.seats.moment) q.seats.table (ap (λ (x : SeatsState). x.table) g.greets.is)
      (datagram_numbered p.seats.table k true p.seats.moment numbered),
)
greets_numbers k moment false p q link later (inl g) =
    same_numbers p q (ap (λ (x : Parts). x.seats.descriptor) g.rest) (ap (λ (x : Parts). x.seats.table) g.rest)
greets_numbers k moment false p q link later (inr g) =
    same_numbers p q (ap (λ (x : Parts). x.seats.descriptor) g.same) (ap (λ (x : Parts). x.seats.table) g.same)

speaks_numbers : (k : ℕ) (far : Far) (greets : Bool) (refused : ℕ) (speaker left : Speaker) (a b : Scene)
    → SpeaksTo (record { seat = k; far = far; greets = greets }) refused speaker left a b → KeepsNumbers a.parts b.parts
speaks_numbers k far greets refused speaker left a b s = (
  ap (λ (p : Parts). p.seats.descriptor) s.settles.rest ∙ ap (λ (x : SeatsState). x.descriptor) s.says.speaks.is
      ∙ ap (λ (p : Parts). p.seats.descriptor) s.are_picked.rest,
  λ numbered. numbered_on s.said.seats.table b.parts.seats.table (ap (λ (p : Parts). p.seats.table) s.settles.rest)
      (numbered_on (with_sent s.picked.seats.table k _ s.delivered.sent s.picked.seats.moment) s.said.seats.table
      (ap (λ (x : SeatsState). x.table) s.says.speaks.is)
      (sent_numbered s.picked.seats.table k _ s.delivered.sent s.picked.seats.moment
      (numbered_on a.parts.seats.table s.picked.seats.table (ap (λ (p : Parts). p.seats.table) s.are_picked.rest) numbered))),
)

numbers_stay : IsStepwise KeepsNumbers
numbers_stay = record {
  none = λ p. (refl, λ numbered. numbered);
  twice = λ a b c one two. (two.0 ∙ one.0, λ numbered. two.1 (one.1 numbered));
  greets = λ seat moment sent old new link later g. greets_numbers seat moment sent old new link later g;
  back = λ seat greets news old new s.
      let rest = back_rest seat s.known.proven greets news old new s.sets in
      same_numbers old new (ap (λ (x : SeatsState). x.descriptor) rest) (ap (λ (x : SeatsState). x.table) rest);
  speaks = λ seat far greets refused speaker left old new s. speaks_numbers seat far greets refused speaker left old new s;
  attends = λ seat turn old new t.
      same_numbers old new (ap (λ (p : Parts). p.seats.descriptor) t.keeps.rest) (ap (λ (p : Parts). p.seats.table) t.keeps.rest);
}

-- this peer's number in its handshake is that of the channel
greeting_numbered : (t : Seats) (k : ℕ) (greeting : Greeting) → AreNumbered t → greeting_of (channel_at t k) ≡ Some greeting
    → 0 < greeting.source
greeting_numbered t k greeting numbered e = of (channel_at t k) refl e
  where
    of : (o : Option Channel) → channel_at t k ≡ o → greeting_of o ≡ Some greeting → 0 < greeting.source
    of None is e = let x : None ≡ Some greeting = e in absurd cc
    of (Some c) is e = subst (λ (n : ℕ). 0 < n) (ap (λ (x : Greeting). x.source) (same_Some _ greeting e)) (numbered k c is)

opening_numbered : (t : Seats) (k now source : ℕ) → AreNumbered t → opening_of now (channel_at t k) ≡ Some source → 0 < source
opening_numbered t k now source numbered e = of (channel_at t k) refl e
  where
    by : (c : Channel) (b : Bool) → channel_at t k ≡ Some c → cond b (Some c.local) None ≡ Some source → 0 < source
    by c true is e = subst (λ (n : ℕ). 0 < n) (same_Some c.local source e) (numbered k c is)
    by c false is e = let x : None ≡ Some source = e in absurd cc

    of : (o : Option Channel) → channel_at t k ≡ o → opening_of now o ≡ Some source → 0 < source
    of None is e = let x : None ≡ Some source = e in absurd cc
    of (Some c) is e = by c (handshake_due now c) is e

-- ---- what is said on a seat's channel

-- What is kept while the seats have their turns; and while it is so, of whatever a note stands for that is said the test is false.
pub record IsUnsaid (d : Descriptor) (test : List Message → Bool) (Reach : Parts → Type 0) : Type 0 where
  pub kept : (seat refused : ℕ) (speaker left : Speaker) (a b : Scene) → TurnsTo seat refused speaker left a b → Reach a.parts → Reach b.parts
  pub notes : (seat refused : ℕ) (far : Far) (greets : Bool) (speaker left : Speaker) (a b : Scene)
      → SpeaksOn (record { seat = seat; far = far; greets = greets }) refused speaker left a b → Reach a.parts
      → AllByRecursion (IsNotIn d test) left.agenda

module _ (d : Descriptor) (test : List Message → Bool) (t : IsTest d test) (Reach : Parts → Type 0) (u : IsUnsaid d test Reach) where
  -- A peer of the swarm whose channels have numbers, of which so much is kept.
  record IsReached (p : Parts) : Type 0 where
    swarm : p.seats.descriptor ≡ d
    numbered : AreNumbered p.seats.table
    reach : Reach p

  greeted_gains : (k moment : ℕ) (sent : Bool) (p q : Parts) (link later : LinkState) → IsGreeted k moment sent p q link later → IsReached p
      → GainsNone d test link later
  greeted_gains k moment true p q link later g r =
      let x = g.greets.greeting in
      gains_on d p.seats.descriptor test link later r.swarm t (λ own. sent_gains p.seats.descriptor test moment x.number (address_of x.address)
      (plain.Handshake x.source (own_options p.seats.descriptor) ∷ []) g.greets.bytes link later true g.greets.sends g.greets.written
      (own.greeting x.source (greeting_numbered p.seats.table k x r.numbered g.greets.is_greeting)))
  greeted_gains k moment false p q link later (inl g) r = gains_still d test link later g.refuses.traffic
  greeted_gains k moment false p q link later (inr g) r = gains_still d test link later (ap (λ (l : LinkState). l.traffic) g.link_same)

  spoken_gains : (k refused : ℕ) (far : Far) (greets : Bool) (speaker left : Speaker) (a b : Scene)
      → SpeaksOn (record { seat = k; far = far; greets = greets }) refused speaker left a b → IsReached a.parts → GainsNone d test a.link b.link
  spoken_gains k refused far greets speaker left a b s r =
      let to = s.speaks in
      let sp = to.says.speaks in
      let rest = picked_rest k s.sets_back.known.proven greets speaker.news.ranges to.picks speaker.order a.parts s.back to.picked s.sets_back.sets
      to.are_picked in
      let same : to.picked.seats.descriptor ≡ d = ap (λ (x : SeatsState). x.descriptor) rest ∙ r.swarm in
      subst (λ (x : Descriptor). GainsNone x test a.link b.link) same
      (goes_gains (way_of to.picked.seats sp.far (moment_of a.disk.history)) test (subst (λ (x : Descriptor). IsTest x test) (sym same) t)
      (opening_at to.picked.seats k) left.agenda
      (record { seat = sp.before; link = a.link; so_far = none_delivered }) (record { seat = sp.after; link = b.link; so_far = to.delivered })
      (λ source e. opening_numbered to.picked.seats.table k to.picked.seats.moment source
      (numbered_on a.parts.seats.table to.picked.seats.table (ap (λ (x : SeatsState). x.table) rest) r.numbered) e)
      (subst (λ (x : Descriptor). AllByRecursion (IsNotIn x test) left.agenda) (sym same)
      (u.notes k refused far greets speaker left a b s r.reach))
      sp.goes)

  turn_gains : (k refused : ℕ) (speaker left : Speaker) (a b : Scene) → TurnsTo k refused speaker left a b → IsReached a.parts
      → GainsNone d test a.link b.link
  turn_gains k refused speaker left a b turn r = of (far_of (channel_at a.parts.seats.table k)) turn
    where
      of : (o : Option Far) → TurnsIf o k refused speaker left a b → GainsNone d test a.link b.link
      of None g = greeted_gains k _ g.greeted a.parts b.parts a.link b.link g.greets r
      of (Some far) (inl n) = gains_still d test a.link b.link (ap (λ (l : LinkState). l.traffic) n.silent.link)
      of (Some far) (inr s) = spoken_gains k refused far s.0 speaker left a b s.1 r

  turn_reached : (k refused : ℕ) (speaker left : Speaker) (a b : Scene) → TurnsTo k refused speaker left a b → IsReached a.parts
      → IsReached b.parts
  turn_reached k refused speaker left a b turn r =
      let kept = turn_kept KeepsNumbers numbers_stay k refused speaker left a b turn in
      record { swarm = kept.0 ∙ r.swarm; numbered = kept.1 r.numbered; reach = u.kept k refused speaker left a b turn r.reach }

  turns_gain : (n refused : ℕ) (speaker left : Speaker) (a b : Scene) → TurnsBelow n refused speaker left a b → IsReached a.parts
      → GainsNone d test a.link b.link × IsReached b.parts
  unfolding TurnsBelow
  turns_gain zero refused speaker left a b turns r =
      (gains_still d test a.link b.link (ap (λ (l : LinkState). l.traffic) turns.link), subst (λ (p : Parts). IsReached p) (sym turns.parts) r)
  turns_gain (suc k) refused speaker left a b turns r =
      let first = turns_gain k turns.0 speaker turns.2 a turns.3 turns.4 r in (
        gains_both d test a.link turns.3.link b.link first.0 (turn_gains k turns.1 turns.2 left turns.3 b turns.5 first.1),
        turn_reached k turns.1 turns.2 left turns.3 b turns.5 first.1,
      )

-- ---- dials

-- The seats stand for some records.
abbrev pub Stood : Setting → ℕ → Scene → Type 0
Stood x most s = (past : List Record) × seats.StandsFor x most s.parts.seats past

-- A channel's number stays when a datagram goes there.
datagram_local : (t : Seats) (k now : ℕ) (c : Channel) → channel_at t k ≡ Some c
    → (e : Channel) × (channel_at (with_datagram t k true now) k ≡ Some e) × (e.local ≡ c.local)
datagram_local t k now c is = (
  record c { wrote = now; opening = with_handshake c.opening },
  at_changed (changed t k (λ x. record x { wrote = now })).channels k (λ x. record x { opening = with_handshake x.opening })
      ∙ ap (option_map (λ (x : Channel). record x { opening = with_handshake x.opening }))
      (at_changed t.channels k (λ x. record x { wrote = now }) ∙ ap (option_map (λ (x : Channel). record x { wrote = now })) is),
  refl,
)

module _ (x : Setting) (most : ℕ) (test : List Message → Bool) (t : IsTest x.d test) where
  dial_source : (to : Address) (moment : ℕ) (old new : SeatsState) (link later : LinkState) (past : List Record)
      → (d : Dials to moment true old new link later) → seats.StandsFor x most new past → 0 < d.source
  dial_source to moment old new link later past d stands = of (channel_at (with_dial to old) d.seat) refl d.local
    where
      of : (o : Option Channel) → channel_at (with_dial to old) d.seat ≡ o → option_map (λ (c : Channel). c.local) o ≡ Some d.source → 0 < d.source
      of None is e = let none : None ≡ Some d.source = e in absurd cc
      of (Some c) is e =
          let sent = datagram_local (with_dial to old) d.seat old.moment c is in
          subst (λ (n : ℕ). 0 < n) (sent.2 ∙ same_Some c.local d.source e)
          (stands.standing.seated.are.some d.seat sent.0 (ap (λ (s : SeatsState). channel_at s.table d.seat) d.is ∙ sent.1))

  dial_gains : (to : Address) (moment : ℕ) (sent : Bool) (old new : SeatsState) (link later : LinkState) (past : List Record)
      → Dials to moment sent old new link later → seats.StandsFor x most old past → GainsNone x.d test link later
  dial_gains to moment true old new link later past d stands =
      gains_on x.d old.descriptor test link later stands.swarm t (λ own. sent_gains old.descriptor test moment 0 (address_of to)
      (plain.Handshake d.source (own_options old.descriptor) ∷ []) d.bytes link later true d.sends d.written
      (own.greeting d.source (dial_source to moment old new link later _ d (d.stands x most past stands))))
  dial_gains to moment false old new link later past d stands = gains_still x.d test link later d.sends.outcome.0

  -- What dialling gains, and that the seats stand for it.
  abbrev Dialled : Scene → Scene → Type 0
  Dialled a b = Stood x most a → GainsNone x.d test a.link b.link × Stood x most b

  dialled_same : (a b : Scene) → b.parts ≡ a.parts → b.link ≡ a.link → Dialled a b
  dialled_same a b parts link stood = (
    gains_still x.d test a.link b.link (ap (λ (l : LinkState). l.traffic) link),
    (stood.0, subst (λ (p : Parts). seats.StandsFor x most p.seats stood.0) (sym parts) stood.1),
  )

  dialled_twice : (a b c : Scene) → Dialled a b → Dialled b c → Dialled a c
  dialled_twice a b c one two stood =
      let first = one stood in
      let then = two first.1 in
      (gains_both x.d test a.link b.link c.link first.0 then.0, then.1)

  tries_dialled : (to : Address) (sent : Option Bool) (a b : Scene) → Tries to sent a b → Dialled a b
  tries_dialled to None a b h = dialled_same a b h.1.same h.1.none.link_same
  tries_dialled to (Some took) a b h = λ stood. (
    dial_gains to _ took a.parts.seats b.parts.seats a.link b.link stood.0 h.1.dials stood.1,
    (_, h.1.dials.stands x most stood.0 stood.1),
  )

  step_dialled : (dial : Dial) (state : DialState) (a b : Scene) → StepsDial dial state a b → Dialled a b
  step_dialled dial state a b step = of (has_channel a.parts dial.address) (is_due a.parts.seats.moment dial.state) step
    where
      of : (y z : Bool)
          → MatchBool y ((b ≡ a) × (state ≡ Seated))
          (MatchBool z ((sent : Option Bool) × Tries dial.address sent a b × (state ≡ after_dial a.parts.seats.moment dial.state sent))
          ((b ≡ a) × (state ≡ noticed a.parts.seats.moment dial.state)))
          → Dialled a b
      of true z h = dialled_same a b (ap (λ (s : Scene). s.parts) h.0) (ap (λ (s : Scene). s.link) h.0)
      of false true h = tries_dialled dial.address h.0 a b h.1
      of false false h = dialled_same a b (ap (λ (s : Scene). s.parts) h.0) (ap (λ (s : Scene). s.link) h.0)

  each_dialled : (dials lefts : List Dial) (a c : Scene) → DialsEach dials lefts a c → Dialled a c
  each_dialled [] [] a c h = dialled_same a c (ap (λ (s : Scene). s.parts) h) (ap (λ (s : Scene). s.link) h)
  each_dialled [] (left ∷ lefts) a c h = absurd h
  each_dialled (dial ∷ dials) [] a c h = absurd h
  each_dialled (dial ∷ dials) (left ∷ lefts) a c h =
      dialled_twice a h.0 c (step_dialled dial left.state a h.0 h.2) (each_dialled dials lefts h.0 c h.3)

  suggested_dialled : (queue : List Address) (a c : Scene) → DialsSuggested queue a c → Dialled a c
  suggested_dialled [] a c h = dialled_same a c (ap (λ (s : Scene). s.parts) h) (ap (λ (s : Scene). s.link) h)
  suggested_dialled (address ∷ queue) a c h =
      of (nat_lt (used_of a.parts.seats.table) 32) h (λ mid more. suggested_dialled queue mid c more)
    where
      of : (b : Bool)
          → MatchBool b ((sent : Option Bool) × (mid : Scene) × Tries address sent (with_queue queue a) mid × DialsSuggested queue mid c) (c ≡ a)
          → ((mid : Scene) → DialsSuggested queue mid c → Dialled mid c) → Dialled a c
      of true h more = dialled_twice a h.1 c (tries_dialled address h.0 (with_queue queue a) h.1 h.2) (more h.1 h.3)
      of false h more = dialled_same a c (ap (λ (s : Scene). s.parts) h) (ap (λ (s : Scene). s.link) h)

  pub all_dialled : (dials lefts : List Dial) (a c : Scene) → DialsAll dials lefts a c → Dialled a c
  all_dialled dials lefts a c h =
      dialled_twice a h.0 c (each_dialled dials lefts a h.0 h.1) (suggested_dialled h.0.parts.pex.queue h.0 c h.2)

-- ---- chunks

pub deliveries_are : (d : Descriptor) (test : List Message → Bool) → IsTest d test → (p : SeatsState) → p.descriptor ≡ d → (rs : List Record)
    → AllByRecursion (λ r. (seat : ℕ) × IsDelivery seat p r) rs → AllByRecursion (IsNotRead d test) rs
deliveries_are d test t p swarm [] all = tt
deliveries_are d test t p swarm (r ∷ rs) all =
    let it = all.0.1 in
    let ms = delivery it.book it.nodes it.chunk p.moment it.content in (
      subst (λ (x : Record). IsNotRead d test x) (sym it.is)
          (none_read d test it.moment it.far.number (address_of it.far.address) ms it.bytes
          (subst (λ (x : Descriptor). IsDatagram x it.far.number ms it.bytes) swarm it.written)
          (t.chunk it.book it.nodes it.chunk p.moment it.content)),
      deliveries_are d test t p swarm rs all.1,
    )

-- ---- a flush

slots_swarm : (old new : Parts) → TurnsSlots old new → new.seats.descriptor ≡ old.seats.descriptor
slots_swarm old new t = (grants_kept 0 t.mid new t.grants).seats.swarm ∙ first t.turned
  where
    first : TurnsLongest old t.mid ⊎ TurnsNone old t.mid → t.mid.seats.descriptor ≡ old.seats.descriptor
    first (inl l) = (seat_turned 0 l.seat old.seats t.mid.seats l.turns).swarm
    first (inr n) = ap (λ (p : Parts). p.seats.descriptor) n.same

-- The test is false of each record that a flush adds, where the link tells, and no note of it stands for such messages.
pub flush_says_none : (refused : ℕ) (old new : PeerState) (link later : LinkState) (disk left : DiskState)
    → (course : Sends refused old new link later disk left) → (b : Beginning) (most : ℕ) (past before : List Record)
    → StandsFor b most old.parts past → link.traffic ≡ Some before → (test : List Message → Bool) → IsTest b.d test → (Reach : Parts → Type 0)
    → IsUnsaid b.d test Reach → Reach course.sends.turned → AllByRecursion (IsNotRead b.d test) course.flushes.added
flush_says_none refused old new link later disk left course b most past before stands tells test t Reach u reach =
    subst (λ (rs : List Record). AllByRecursion (IsNotRead b.d test) rs)
    (gained_alike before all.added course.flushes.added link.traffic later.traffic tells all.gained course.flushes.gained) all.none
  where
    s : SendsAll old.dials new.dials old.speaker new.speaker refused (scene old.parts link disk) (scene course.sent later left)
    s = course.sends

    given : StandsFor b most s.given past
    given = s.gives_up.stands b most past (s.drops.stands b most past stands)

    x : Setting
    x = setting b given.known_of

    start : Scene
    start = scene s.given link disk

    dialled : GainsNone b.d test link s.dialled.link × Stood x most s.dialled
    dialled = all_dialled x most test t old.dials new.dials start s.dialled s.dials_all (past, given.seats)

    begun : IsReached b.d test t Reach u s.turned
    begun = record {
      swarm = slots_swarm s.dialled.parts s.turned s.turns ∙ dialled.1.1.swarm;
      numbered = numbered_on s.dialled.parts.seats.table s.turned.seats.table (slots_alike s.dialled.parts s.turned s.turns).table
          dialled.1.1.standing.seated.are.some;
      reach = reach;
    }

    said : GainsNone b.d test s.dialled.link s.said.link × IsReached b.d test t Reach u s.said.parts
    said = turns_gain b.d test t Reach u 64 s.unsaid s.speaks.gathered new.speaker (record s.dialled { parts = s.turned }) s.said
        s.speaks.turns begun

    served : GainsNone b.d test s.said.link later
    served = record {
      added = s.serves.flushes.added;
      gained = s.serves.flushes.gained;
      none = deliveries_are b.d test t s.said.parts.seats said.1.swarm s.serves.flushes.added s.serves.alone.deliveries;
    }

    all : GainsNone b.d test link later
    all = gains_both b.d test link s.dialled.link later dialled.0 (gains_both b.d test s.dialled.link s.said.link later said.0 served)
