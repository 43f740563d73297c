-- When datagrams last went stays known while this peer sends.
use Rattle.std.proofs.Common.{◌≡◌, ◌≢◌, ◌⊎◌, inl, inr, ⊎_elim, ℕ, ◌<◌, Bool, true, false, cond, ◌&&◌, ◌||◌, Option, Some, None, List, [], ◌∷◌, ◌++◌, length, refl, sym, ◌∙◌, ap, subst, arith}
use Rattle.std.specs.Prelude.{MatchBool, nat_lt, option_map, slice_set, unwrap_or}
use Rattle.std.specs.List.{list_any}
use Rattle.std.proofs.lemmas.Bool.{cases_eq, or_left, or_right, and_from, eq-eqb}
use Rattle.std.proofs.lemmas.List.{length-append}
use Rattle.std.proofs.lemmas.List.Folds.{list_any-append}
use Rattle.std.proofs.lemmas.Option.{same_Some}
use Rattle.pp_terms.specs.format.Descriptor.{Descriptor}
use Rattle.pp_terms.specs.format.Messages.{Datagram, Message}
use Rattle.pp_terms.specs.format.Traffic.{Address, same_address, Record, Sent, LinkState, GainsRecords}
use Rattle.pp_terms.proofs.Risings.{gains_twice}
use Rattle.pp_traffic.specs.Life.{Life}
use Rattle.pp_traffic.specs.Past.{now, read, goes_to, is_number}
use Rattle.pp_promises.specs.Answered.{is_of, writes_on}
use Rattle.pp_outside.specs.Outside.{address_of}
use Rattle.pp_outside.specs.declared.link.Address as addresses
use Rattle.pp_channels.specs.Seats.{Seats, channel_at, after_drop, changed, closed, dialled, is_begun, is_dialled, used_of, with_channel_at, with_handshake}
use Rattle.pp_channels.specs.Timing.{is_greeted}
use Rattle.pp_channels.specs.declared.channel.Channel.{Channel}
use Rattle.pp_channels.specs.declared.channel.State.{State}
use Rattle.pp_lives.specs.Fars.{far_of, greeting_of}
use Rattle.pp_lives.specs.Reading.{is_waiting}
use Rattle.pp_lives.specs.Sending.{with_datagram}
use Rattle.pp_lives.specs.declared.lives.Far.{Far}
use Rattle.pp_lives.specs.declared.lives.Greeting.{Greeting}
use Rattle.pp_lives.proofs.Edits.{still_opened}
use Rattle.pp_lives.proofs.Sent.{same_self}
use Rattle.pp_draft.specs.Datagrams.{IsDatagram}
use Rattle.pp_draft.specs.declared.note.Note.{Note}
use Rattle.pp_desk.specs.Delivers.{Way, Batch, At, DeliversEach, GoesIf, Goes, batches_if}
use Rattle.pp_desk.specs.Laws.{records_of}
use Rattle.pp_seats.specs.Greeting.{Dials, with_dial}
use Rattle.pp_seats.specs.Sending.{records_by}
use Rattle.pp_seats.specs.Standing.{SeatsState}
use Rattle.pp_seats.proofs.Outgoing.{far_is}
use Rattle.pp_peer.specs.declared.dialling.Dial.{Dial}
use Rattle.pp_peer.specs.declared.dialling.DialState.{DialState}
use Rattle.pp_peer.specs.declared.dialling.DialState.TheVariants.{Seated}
use Rattle.pp_peer.specs.declared.parts.Parts.{Parts}
use Rattle.pp_peer.specs.Dialling.{Tries, has_channel, is_due, noticed, after_dial, StepsDial, DialsEach, with_queue, DialsSuggested, DialsAll}
use Rattle.pp_peer.specs.Flushing.{Scene}
use Rattle.pp_peer.specs.Greeting.{StaysBut}
use Rattle.pp_core.proofs.Before.{drop_in, closed_there, made_there}
use Rattle.pp_core.proofs.Fars.{set_free}
use Rattle.pp_core.proofs.Kept.{datagram_there}
use Rattle.pp_core.proofs.Links.{Grows, grows_none, grows_twice}
use Rattle.pp_core.proofs.Rooms.{at_changed}
use Rattle.pp_core.proofs.Wrote.{set_made}

-- ---- a channel

-- What of a channel stays while datagrams go there.
pub record IsAlike (e c : Channel) : Type 0 where
  pub address : c.address ≡ e.address
  pub local : c.local ≡ e.local
  pub remote : c.remote ≡ e.remote
  pub state : c.state ≡ e.state
  pub dialled : is_dialled c.opening ≡ is_dialled e.opening
  pub made : c.made ≡ e.made

pub alike_waits : (e c : Channel) → IsAlike e c → is_waiting c ≡ is_waiting e
alike_waits e c a = ap (λ (b : Bool). b && is_greeted c.state) a.dialled ∙ ap (λ (x : State). is_dialled e.opening && is_greeted x) a.state

pub alike_twice : (a b c : Channel) → IsAlike a b → IsAlike b c → IsAlike a c
alike_twice a b c one two = record {
  address = two.address ∙ one.address;
  local = two.local ∙ one.local;
  remote = two.remote ∙ one.remote;
  state = two.state ∙ one.state;
  dialled = two.dialled ∙ one.dialled;
  made = two.made ∙ one.made;
}

alike_none : (c : Channel) → IsAlike c c
alike_none c = record { address = refl; local = refl; remote = refl; state = refl; dialled = refl; made = refl }

pub alike_same : (e c : Channel) → e ≡ c → IsAlike e c
alike_same e c same = subst (λ (x : Channel). IsAlike e x) same (alike_none e)

marked_alike : (e : Channel) (mark : Bool) → IsAlike e (record e { shadowed = mark })
marked_alike e mark = record { address = refl; local = refl; remote = refl; state = refl; dialled = refl; made = refl }

-- The channel was there, but for the mark that another one of its address was dropped.
pub record WasThere (o : Option Channel) (c : Channel) : Type 0 where
  pub was : Channel
  pub there : o ≡ Some was
  pub alike : IsAlike was c
  pub begun : is_begun was.opening ≡ is_begun c.opening
  pub wrote : c.wrote ≡ was.wrote

pub but_from : (o p : Option Channel) → StaysBut o p → (c : Channel) → p ≡ Some c → WasThere o c
but_from None p s c is = let x : None ≡ Some c = sym s ∙ is in absurd cc
but_from (Some e) p s c is =
    let same : record e { shadowed = s.0 } ≡ c = same_Some (record e { shadowed = s.0 }) c (sym s.1 ∙ is) in
    record {
      was = e;
      there = refl;
      alike = subst (λ (x : Channel). IsAlike e x) same (marked_alike e s.0);
      begun = ap (λ (x : Channel). is_begun x.opening) same;
      wrote = ap (λ (x : Channel). x.wrote) (sym same);
    }

-- This peer's handshake was sent on the channel before, and no datagram since.
pub record Stayed (o : Option Channel) (c : Channel) : Type 0 where
  pub was : Channel
  pub there : o ≡ Some was
  pub begun : is_begun was.opening ≡ true
  pub alike : IsAlike was c
  pub wrote : c.wrote ≡ was.wrote

pub stayed_same : (o p : Option Channel) → p ≡ o → (c : Channel) → p ≡ Some c → is_begun c.opening ≡ true → Stayed o c
stayed_same o p same c is begun =
    record { was = c; there = sym same ∙ is; begun = begun; alike = alike_none c; wrote = refl }

pub stayed_but : (o p : Option Channel) → StaysBut o p → (c : Channel) → p ≡ Some c → is_begun c.opening ≡ true → Stayed o c
stayed_but o p s c is begun =
    let b = but_from o p s c is in
    record { was = b.was; there = b.there; begun = b.begun ∙ begun; alike = b.alike; wrote = b.wrote }

stayed_twice : (o : Option Channel) (e c : Channel) → Stayed o e → IsAlike e c → c.wrote ≡ e.wrote → Stayed o c
stayed_twice o e c s alike wrote = record {
  was = s.was;
  there = s.there;
  begun = s.begun;
  alike = alike_twice s.was e c s.alike alike;
  wrote = wrote ∙ s.wrote;
}

-- ---- what a datagram does to the channels

mapped_from : (f : Channel → Channel) (o : Option Channel) (c : Channel) → option_map f o ≡ Some c → (e : Channel) × (o ≡ Some e) × (f e ≡ c)
mapped_from f None c is = let x : None ≡ Some c = is in absurd cc
mapped_from f (Some e) c is = (e, refl, same_Some (f e) c is)

changed_from : (t : Seats) (k : ℕ) (f : Channel → Channel) (c : Channel) → channel_at (changed t k f) k ≡ Some c
    → (e : Channel) × (channel_at t k ≡ Some e) × (f e ≡ c)
changed_from t k f c is = mapped_from f (channel_at t k) c (sym (at_changed t.channels k f) ∙ is)

-- A channel on which a datagram went is the one that was there, but for when that was, and for its handshakes.
pub record IsWritten (o : Option Channel) (now : ℕ) (c : Channel) : Type 0 where
  pub was : Channel
  pub there : o ≡ Some was
  pub alike : IsAlike was c
  pub wrote : c.wrote ≡ now

written_alike : (e : Channel) (now : ℕ) → IsAlike e (record e { wrote = now })
written_alike e now = record { address = refl; local = refl; remote = refl; state = refl; dialled = refl; made = refl }

pub wrote_alike : (e c : Channel) (now : ℕ) → record e { wrote = now } ≡ c → IsAlike e c
wrote_alike e c now is = subst (λ (x : Channel). IsAlike e x) is (written_alike e now)

written_at : (e c : Channel) (o : Option Channel) (now : ℕ) → o ≡ Some e → record e { wrote = now } ≡ c → IsWritten o now c
written_at e c o now there is =
    record { was = e; there = there; alike = wrote_alike e c now is; wrote = ap (λ (x : Channel). x.wrote) (sym is) }

opened_alike : (e : Channel) → IsAlike e (record e { opening = with_handshake e.opening })
opened_alike e = record { address = refl; local = refl; remote = refl; state = refl; dialled = still_opened e.opening; made = refl }

pub written_from : (t : Seats) (k : ℕ) (opens : Bool) (now : ℕ) (c : Channel) → channel_at (with_datagram t k opens now) k ≡ Some c
    → IsWritten (channel_at t k) now c
written_from t k true now c is =
    let late = changed_from (changed t k (λ c. record c { wrote = now })) k (λ c. record c { opening = with_handshake c.opening }) c is in
    let early = changed_from t k (λ c. record c { wrote = now }) late.0 late.1 in
    let w = written_at early.0 late.0 (channel_at t k) now early.1 early.2 in
    record {
      was = w.was;
      there = w.there;
      alike = alike_twice w.was late.0 c w.alike (subst (λ (x : Channel). IsAlike late.0 x) late.2 (opened_alike late.0));
      wrote = ap (λ (x : Channel). x.wrote) (sym late.2) ∙ w.wrote;
    }
written_from t k false now c is =
    let e = changed_from t k (λ c. record c { wrote = now }) c is in written_at e.0 c (channel_at t k) now e.1 e.2

-- ---- records that are written on a channel

-- The life is the channel's, by the addresses and the numbers.
pub record IsLifeOf (c : Channel) (life : Life) : Type 0 where
  pub address : life.address ≡ address_of c.address
  pub local : life.local ≡ c.local
  pub remote : is_waiting c ≡ false → c.remote ≡ Some life.remote

life_before : (e c : Channel) (life : Life) → IsAlike e c → IsLifeOf c life → IsLifeOf e life
life_before e c life alike is = record {
  address = is.address ∙ ap address_of alike.address;
  local = is.local ∙ alike.local;
  remote = λ known. sym alike.remote ∙ is.remote (alike_waits e c alike ∙ known);
}

-- A datagram to the channel's peer goes to its number, or has this peer's handshake from the channel's number.
pub writes_here : (d : Descriptor) (c : Channel) (life : Life) (moment number : ℕ) (receiver : Address) (messages : List Message) (bytes : List ℕ)
    → IsDatagram d number messages bytes → receiver ≡ address_of c.address → IsLifeOf c life
    → ((is_waiting c ≡ false) × (number ≡ unwrap_or c.remote 0)) ⊎ (list_any (is_of c.local) messages ≡ true)
    → writes_on d life (Sent moment receiver bytes) ≡ true
writes_here d c life moment number receiver messages bytes written to is how =
    and_from (goes_to life.address r) (is_number life.remote (read d r).channel || list_any (is_of life.local) (read d r).messages.read)
    (subst (λ (a : Address). same_address receiver a ≡ true) (to ∙ sym is.address) (same_self receiver))
    (⊎_elim
    (λ known. or_left (is_number life.remote (read d r).channel) (list_any (is_of life.local) (read d r).messages.read)
    (ap (λ (x : Datagram). is_number life.remote x.channel) written.read
    ∙ eq-eqb number life.remote (known.1 ∙ ap (λ (o : Option ℕ). unwrap_or o 0) (is.remote known.0))))
    (λ named. or_right (is_number life.remote (read d r).channel) (list_any (is_of life.local) (read d r).messages.read)
    (ap (λ (x : Datagram). list_any (is_of life.local) x.messages.read) written.read
    ∙ ap (λ (k : ℕ). list_any (is_of k) messages) is.local ∙ named))
    how)
  where
    r : Record
    r = Sent moment receiver bytes

-- What goes where a channel's datagrams go is written on it, and on what it is once they went.
pub far_writes : (d other : Descriptor) (o : Option Channel) (e c : Channel) (far : Far) (life : Life) (moment : ℕ) (messages : List Message)
    (bytes : List ℕ) → other ≡ d → o ≡ Some e → far_of o ≡ Some far → IsAlike e c → IsLifeOf c life
    → IsDatagram other far.number messages bytes → writes_on d life (Sent moment (address_of far.address) bytes) ≡ true
far_writes d other o e c far life moment messages bytes swarm there is_far alike is written =
    let f = far_is o far is_far in
    let same : e ≡ f.channel = same_Some e f.channel (sym there ∙ f.there) in
    writes_here d c life moment far.number (address_of far.address) messages bytes
    (subst (λ (x : Descriptor). IsDatagram x far.number messages bytes) swarm written)
    (ap (λ (x : Far). address_of x.address) f.is ∙ ap (λ (x : Channel). address_of x.address) (sym same) ∙ ap address_of (sym alike.address))
    is
    (inl (
      alike_waits e c alike ∙ ap is_waiting same ∙ f.known,
      ap (λ (x : Far). x.number) f.is ∙ ap (λ (x : Channel). unwrap_or x.remote 0) (sym same)
          ∙ ap (λ (o : Option ℕ). unwrap_or o 0) (sym alike.remote),
    ))

any_more : (test : Record → Bool) (after xs before : List Record) → list_any test xs ≡ true → list_any test (after ++ (xs ++ before)) ≡ true
any_more test after xs before e =
    list_any-append test after (xs ++ before) ∙ or_right (list_any test after) (list_any test (xs ++ before))
    (list_any-append test xs before ∙ or_left (list_any test xs) (list_any test before) e)

-- The link gained a datagram to the channel's peer.
pub record Writes (d : Descriptor) (c : Channel) (link later : LinkState) : Type 0 where
  pub added : List Record
  pub gained : GainsRecords link.traffic added later.traffic
  pub writes : (life : Life) → IsLifeOf c life → list_any (writes_on d life) added ≡ true

writes_amid : (d : Descriptor) (e c : Channel) (a b l m : LinkState) → IsAlike e c → Grows a b → Writes d e b l → Grows l m → Writes d c a m
writes_amid d e c a b l m alike before w after = record {
  added = after.added ++ (w.added ++ before.added);
  gained = gains_twice a.traffic l.traffic m.traffic (w.added ++ before.added) after.added
      (gains_twice a.traffic b.traffic l.traffic before.added w.added before.gained w.gained) after.gained;
  writes = λ life is. any_more (writes_on d life) after.added w.added before.added (w.writes life (life_before e c life alike is));
}

pub writes_one : (d : Descriptor) (c : Channel) (link later : LinkState) (r : Record) → GainsRecords link.traffic (r ∷ []) later.traffic
    → ((life : Life) → IsLifeOf c life → writes_on d life r ≡ true) → Writes d c link later
writes_one d c link later r gained writes = record {
  added = r ∷ [];
  gained = gained;
  writes = λ life is. or_left (writes_on d life r) false (writes life is);
}

-- ---- notes that were delivered

any_sent : (test : Record → Bool) (r : Record) (rs : List Record) (sent : Bool) → test r ≡ true → (0 < length rs → list_any test rs ≡ true)
    → 0 < length (rs ++ cond sent (r ∷ []) []) → list_any test (rs ++ cond sent (r ∷ []) []) ≡ true
any_sent test r rs true is others some =
    list_any-append test rs (r ∷ []) ∙ or_right (list_any test rs) (test r || false) (or_left (test r) false is)
any_sent test r rs false is others some =
    list_any-append test rs [] ∙ or_left (list_any test rs) false (others (let size = length-append rs [] in omega (arith, some, size)))

each_passes : (test : Record → Bool) (w : Way)
    → ((ms : List Message) (bytes : List ℕ) → IsDatagram w.d w.channel ms bytes → test (Sent w.moment w.receiver bytes) ≡ true)
    → (bs : List Batch) (old new : At) → DeliversEach w bs old new → 0 < length (records_of w bs) → list_any test (records_of w bs) ≡ true
each_passes test w passes [] old new each some = absurd (omega (arith, some))
each_passes test w passes (b ∷ bs) old new each some =
    any_sent test (Sent w.moment w.receiver b.bytes) (records_of w bs) b.sent (passes b.messages b.bytes each.1.written)
    (λ more. each_passes test w passes bs each.0 new each.2 more) some

pub goes_pass : (test : Record → Bool) (opening : Option ℕ) (w : Way) (notes : List Note) (old new : At) (goes : Goes opening w notes old new)
    → ((ms : List Message) (bytes : List ℕ) → IsDatagram w.d w.channel ms bytes → test (Sent w.moment w.receiver bytes) ≡ true)
    → 0 < length (records_by opening w notes old new goes) → list_any test (records_by opening w notes old new goes) ≡ true
goes_pass test None w notes old new g passes some = each_passes test w passes g.batches old new g.each some
goes_pass test (Some source) w notes old new g passes some = by g.0 g.1 some
  where
    by : (taken : Bool) (h : GoesIf taken source w notes old new) → 0 < length (records_of w (batches_if taken source w notes old new h))
        → list_any test (records_of w (batches_if taken source w notes old new h)) ≡ true
    by true h some = each_passes test w passes h.delivers.batches old new h.delivers.each some
    by false h some = absurd (omega (arith, some))

-- ---- a step

-- A channel is new, or a datagram went there at the moment.
abbrev pub Fresh : (d : Descriptor) (moment : ℕ) (c : Channel) (link later : LinkState) → Type 0
Fresh d moment c link later = (c.wrote ≡ c.made) ⊎ ((c.wrote ≡ moment) × Writes d c link later)

-- Of the channel of a seat on which this peer's handshake was sent it is known when a datagram last went.
pub record Steps (d : Descriptor) (moment n : ℕ) (t new : Seats) (link later : LinkState) : Type 0 where
  pub grows : Grows link later
  pub each : (c : Channel) → channel_at new n ≡ Some c → is_begun c.opening ≡ true → Stayed (channel_at t n) c ⊎ Fresh d moment c link later

fresh_amid : (d : Descriptor) (moment : ℕ) (e c : Channel) (a b l m : LinkState) → IsAlike e c → c.wrote ≡ e.wrote → Grows a b → Fresh d moment e b l
    → Grows l m → Fresh d moment c a m
fresh_amid d moment e c a b l m alike wrote before (inl new) after = inl (wrote ∙ new ∙ sym alike.made)
fresh_amid d moment e c a b l m alike wrote before (inr w) after =
    inr (wrote ∙ w.0, writes_amid d e c a b l m alike before w.1 after)

pub steps_twice : (d : Descriptor) (moment n : ℕ) (t u v : Seats) (a b l : LinkState) → Steps d moment n t u a b → Steps d moment n u v b l
    → Steps d moment n t v a l
steps_twice d moment n t u v a b l one two = record {
  grows = grows_twice a b l one.grows two.grows;
  each = λ c is begun. ⊎_elim
      (λ s. ⊎_elim
      (λ earlier. inl (stayed_twice (channel_at t n) s.was c earlier s.alike s.wrote))
      (λ fresh. inr (fresh_amid d moment s.was c a a b l s.alike s.wrote (grows_none a a refl) fresh two.grows))
      (one.each s.was s.there s.begun))
      (λ fresh. inr (fresh_amid d moment c c a b l l (alike_none c) refl one.grows fresh (grows_none l l refl)))
      (two.each c is begun);
}

pub steps_but : (d : Descriptor) (moment n : ℕ) (t new : Seats) (link later : LinkState) → Grows link later
    → StaysBut (channel_at t n) (channel_at new n) → Steps d moment n t new link later
steps_but d moment n t new link later grows stays =
    record { grows = grows; each = λ c is begun. inl (stayed_but (channel_at t n) (channel_at new n) stays c is begun) }

pub steps_same : (d : Descriptor) (moment n : ℕ) (t new : Seats) (link later : LinkState) → Grows link later → new ≡ t
    → Steps d moment n t new link later
steps_same d moment n t new link later grows same = record {
  grows = grows;
  each = λ c is begun. inl (stayed_same (channel_at t n) (channel_at new n) (ap (λ (x : Seats). channel_at x n) same) c is begun);
}

-- ---- dials

-- What stays of the channel of a seat while others are dialled, or it is.
abbrev pub Newly : ℕ → Seats → Seats → Type 0
Newly n t new = (c : Channel) → channel_at new n ≡ Some c → is_begun c.opening ≡ true → Stayed (channel_at t n) c ⊎ (c.wrote ≡ c.made)

pub newly_twice : (n : ℕ) (t u v : Seats) → Newly n t u → Newly n u v → Newly n t v
newly_twice n t u v one two c is begun = ⊎_elim
    (λ s. ⊎_elim
    (λ earlier. inl (stayed_twice (channel_at t n) s.was c earlier s.alike s.wrote))
    (λ new. inr (s.wrote ∙ new ∙ sym s.alike.made))
    (one s.was s.there s.begun))
    (λ new. inr new)
    (two c is begun)

pub newly_same : (n : ℕ) (t new : Seats) → new ≡ t → Newly n t new
newly_same n t new same c is begun = inl (stayed_same (channel_at t n) (channel_at new n) (ap (λ (x : Seats). channel_at x n) same) c is begun)

dial_made : (to : addresses.Address) (old : SeatsState) (seat : ℕ) (e : Channel)
    → channel_at (with_channel_at (Some seat) (dialled to old.moment) old.table) seat ≡ Some e → e.made ≡ old.moment
dial_made to old seat e is = ap (λ (x : Channel). x.made) (set_made old.table.channels seat _ e is)

module _ (n : ℕ) (to : addresses.Address) (moment : ℕ) (old new : SeatsState) (link later : LinkState) where
  dials_newly : (sent : Bool) → Dials to moment sent old new link later → Newly n old.table new.table
  dials_newly sent d = of sent d.is
    where
      made : with_dial to old ≡ with_channel_at (Some d.seat) (dialled to old.moment) old.table
      made = ap (λ (o : Option ℕ). with_channel_at o (dialled to old.moment) old.table) d.free

      there : n ≢ d.seat → channel_at (with_dial to old) n ≡ channel_at old.table n
      there ne = ap (λ (t : Seats). channel_at t n) made ∙ made_there old.table d.seat n (dialled to old.moment) ne

      sent_here : (c : Channel) → channel_at (with_datagram (with_dial to old) d.seat true old.moment) d.seat ≡ Some c → c.wrote ≡ c.made
      sent_here c is =
          let w = written_from (with_dial to old) d.seat true old.moment c is in
          w.wrote ∙ sym (dial_made to old d.seat w.was (ap (λ (t : Seats). channel_at t d.seat) (sym made) ∙ w.there)) ∙ sym w.alike.made

      none_here : channel_at (closed (with_dial to old) d.seat) d.seat ≡ None
      none_here = drop_in (channel_at (with_dial to old) d.seat) (slice_set (with_dial to old).channels d.seat None) d.seat
          ∙ ap (after_drop (channel_at (with_dial to old) d.seat)) (set_free (with_dial to old).channels d.seat)

      on : (t : Seats) → new ≡ record old { table = t } → Newly n old.table t → Newly n old.table new.table
      on t is newly = subst (λ (x : SeatsState). Newly n old.table x.table) (sym is) newly

      of : (b : Bool)
          → new ≡ record old { table = cond b (with_datagram (with_dial to old) d.seat true old.moment) (closed (with_dial to old) d.seat) }
          → Newly n old.table new.table
      of true is = on (with_datagram (with_dial to old) d.seat true old.moment) is (λ c at begun. ⊎_elim
          (λ (here : n ≡ d.seat). inr (sent_here c
          (ap (λ (m : ℕ). channel_at (with_datagram (with_dial to old) d.seat true old.moment) m) (sym here) ∙ at)))
          (λ (ne : n ≢ d.seat). inl (stayed_same (channel_at old.table n) _
          (datagram_there (with_dial to old) d.seat n true old.moment ne ∙ there ne) c at begun))
          (cases_eq n d.seat))
      of false is = on (closed (with_dial to old) d.seat) is (λ c at begun. ⊎_elim
          (λ (here : n ≡ d.seat). let x : None ≡ Some c = sym none_here
          ∙ ap (λ (m : ℕ). channel_at (closed (with_dial to old) d.seat) m) (sym here) ∙ at in absurd cc)
          (λ (ne : n ≢ d.seat). inl (subst (λ (o : Option Channel). Stayed o c) (there ne)
          (stayed_but (channel_at (with_dial to old) n) _ (closed_there (with_dial to old) d.seat n ne) c at begun)))
          (cases_eq n d.seat))

tries_newly : (n : ℕ) (to : addresses.Address) (sent : Option Bool) (old new : Scene) → Tries to sent old new
    → Newly n old.parts.seats.table new.parts.seats.table
tries_newly n to None old new t = newly_same n old.parts.seats.table new.parts.seats.table (ap (λ (p : Parts). p.seats.table) t.1.same)
tries_newly n to (Some took) old new t = dials_newly n to _ old.parts.seats new.parts.seats old.link new.link took t.1.dials

same_scene : (n : ℕ) (old new : Scene) → new ≡ old → Newly n old.parts.seats.table new.parts.seats.table
same_scene n old new same = newly_same n old.parts.seats.table new.parts.seats.table (ap (λ (s : Scene). s.parts.seats.table) same)

step_newly : (n : ℕ) (dial : Dial) (state : DialState) (old new : Scene) → StepsDial dial state old new
    → Newly n old.parts.seats.table new.parts.seats.table
step_newly n dial state old new s = of (has_channel old.parts dial.address) (is_due old.parts.seats.moment dial.state) s
  where
    of : (b c : Bool) → MatchBool b ((new ≡ old) × (state ≡ Seated))
        (MatchBool c ((sent : Option Bool) × Tries dial.address sent old new × (state ≡ after_dial old.parts.seats.moment dial.state sent))
        ((new ≡ old) × (state ≡ noticed old.parts.seats.moment dial.state))) → Newly n old.parts.seats.table new.parts.seats.table
    of true c h = same_scene n old new h.0
    of false true h = tries_newly n dial.address h.0 old new h.1
    of false false h = same_scene n old new h.0

each_newly : (n : ℕ) (dials lefts : List Dial) (old new : Scene) → DialsEach dials lefts old new
    → Newly n old.parts.seats.table new.parts.seats.table
each_newly n [] [] old new d = same_scene n old new d
each_newly n [] (left ∷ lefts) old new d = absurd d
each_newly n (dial ∷ dials) [] old new d = absurd d
each_newly n (dial ∷ dials) (left ∷ lefts) old new d =
    newly_twice n old.parts.seats.table d.0.parts.seats.table new.parts.seats.table
    (step_newly n dial left.state old d.0 d.2) (each_newly n dials lefts d.0 new d.3)

suggested_newly : (n : ℕ) (queue : List addresses.Address) (old new : Scene) → DialsSuggested queue old new
    → Newly n old.parts.seats.table new.parts.seats.table
suggested_newly n [] old new d = same_scene n old new d
suggested_newly n (address ∷ queue) old new d =
    of (nat_lt (used_of old.parts.seats.table) 32) (λ mid rest. suggested_newly n queue mid new rest) d
  where
    of : (b : Bool) → ((mid : Scene) → DialsSuggested queue mid new → Newly n mid.parts.seats.table new.parts.seats.table)
        → MatchBool b ((sent : Option Bool) × (mid : Scene) × Tries address sent (with_queue queue old) mid × DialsSuggested queue mid new)
        (new ≡ old) → Newly n old.parts.seats.table new.parts.seats.table
    of true more h = newly_twice n old.parts.seats.table h.1.parts.seats.table new.parts.seats.table
        (tries_newly n address h.0 (with_queue queue old) h.1 h.2) (more h.1 h.3)
    of false more h = same_scene n old new h

pub dials_all_newly : (n : ℕ) (dials lefts : List Dial) (old new : Scene) → DialsAll dials lefts old new
    → Newly n old.parts.seats.table new.parts.seats.table
dials_all_newly n dials lefts old new d =
    newly_twice n old.parts.seats.table d.0.parts.seats.table new.parts.seats.table
    (each_newly n dials lefts old d.0 d.1) (suggested_newly n d.0.parts.pex.queue d.0 new d.2)

pub steps_newly : (d : Descriptor) (moment n : ℕ) (t new : Seats) (link later : LinkState) → Grows link later → Newly n t new
    → Steps d moment n t new link later
steps_newly d moment n t new link later grows newly =
    record { grows = grows; each = λ c is begun. ⊎_elim (λ s. inl s) (λ new. inr (inl new)) (newly c is begun) }

-- ---- a seat's turn

pub greeting_is : (e : Channel) (g : Greeting) → greeting_of (Some e) ≡ Some g → (g.source ≡ e.local) × (g.address ≡ e.address)
greeting_is e g is =
    let same = same_Some (record { source = e.local; address = e.address; number = cond (is_waiting e) 0 (unwrap_or e.remote 0) }) g is in
    (ap (λ (x : Greeting). x.source) (sym same), ap (λ (x : Greeting). x.address) (sym same))
