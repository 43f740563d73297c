-- Handshakes that this peer sends, and dials.
use Rattle.std.proofs.Common.{◌≡◌, ◌≢◌, ◌⊎◌, inl, inr, ℕ, ◌+◌, ◌≤◌, Bool, true, false, cond, ◌||◌, Option, Some, None, List, [], ◌∷◌, refl, sym, ◌∙◌, ap, subst, arith}
use Rattle.std.specs.Prelude.{is_none, unwrap_or}
use Rattle.std.proofs.Math.ListN.{set, get_or-map}
use Rattle.std.proofs.lemmas.List.{get_or-set_other}
use Rattle.std.proofs.lemmas.List.Quantifiers.{position-Some}
use Rattle.std.proofs.lemmas.Bool.{cases_eq, false≢true}
use Rattle.pp_terms.specs.disk.Disk.{DiskState, moment_of}
use Rattle.pp_terms.specs.format.Descriptor.{Descriptor}
use Rattle.pp_terms.specs.format.Options.{Options}
use Rattle.pp_terms.specs.format.Messages.{Datagram, Handshake}
use Rattle.pp_terms.specs.format.Traffic as traffic
use Rattle.pp_terms.specs.format.Traffic.{Record, Sent, LinkState, GainsRecords}
use Rattle.pp_terms.proofs.Risings.{gains_nothing}
use Rattle.pp_tree.specs.Book.{entry}
use Rattle.pp_traffic.specs.Meter.{lets_send}
use Rattle.pp_traffic.specs.Past.{read}
use Rattle.pp_traffic.specs.Committed.{has_request}
use Rattle.pp_traffic.specs.Serving.{ServesFrom}
use Rattle.pp_traffic.specs.Keeping.{announces}
use Rattle.pp_promises.specs.Datagrams.{PlansFrom}
use Rattle.pp_promises.specs.Served.{is_announced}
use Rattle.pp_counts.specs.Counts.{after_note}
use Rattle.pp_counts.specs.declared.counts.Counts.{Counts}
use Rattle.pp_counts.specs.declared.note.Note.TheVariants as notes
use Rattle.pp_outside.specs.Outside.{address_of}
use Rattle.pp_outside.specs.declared.link.Address.{Address}
use Rattle.pp_store.specs.Store.{is_committed}
use Rattle.pp_channels.specs.Seats.{Seats, channel_at, closed, dialled, free_seat, with_channel_at, is_begun, after_drop}
use Rattle.pp_channels.specs.declared.channel.Channel.{Channel}
use Rattle.pp_lives.specs.Reading.{is_waiting, is_proven}
use Rattle.pp_lives.specs.Sending.{with_datagram}
use Rattle.pp_lives.specs.declared.lives.Far.{Far}
use Rattle.pp_lives.specs.declared.lives.Greeting.{Greeting}
use Rattle.pp_lives.specs.Fars.{far_of, greeting_of}
use Rattle.pp_draft.specs.Datagrams.{IsDatagram}
use Rattle.pp_draft.specs.Notes.{own_options}
use Rattle.pp_draft.specs.Posts.{Sends}
use Rattle.pp_holding.specs.Holding.{HoldingState}
use Rattle.pp_seats.specs.Standing.{SeatsState, Setting}
use Rattle.pp_seats.specs.Standing as seats
use Rattle.pp_seats.specs.Sending.{HoldsAnnounced}
use Rattle.pp_seats.specs.Greeting.{Greets, GreetsNot, DialsNone, with_dial}
use Rattle.pp_seats.specs.Reading.{is_due_at}
use Rattle.pp_seats.specs.Serving.{Refuses}
use Rattle.pp_seats.proofs.Handshakes.{IsMarked, marked_sent}
use Rattle.pp_peer.specs.declared.parts.Parts.{Parts}
use Rattle.pp_peer.specs.Standing.{Beginning, setting, own_in, Fetches, Ledger, StandsFor}
use Rattle.pp_peer.specs.Flushing.{Flushes}
use Rattle.pp_peer.proofs.Flushed.{flushes_none, ledger_sent}
use Rattle.pp_peer.specs.Greeting.{IsRefused, IsDialled, StaysBut}
use Rattle.pp_peer.proofs.Ending.{stands_same, far_stays, after_stays}

-- ---- a datagram of one handshake

module _ (b : Beginning) (old new : Parts) (moment : ℕ) (receiver : traffic.Address) (channel source : ℕ) (options : Options) (bytes : List ℕ) (past : List Record)
    (written : IsDatagram b.d channel (Handshake source options ∷ []) bytes) where
  pub it_is : read b.d (Sent moment receiver bytes) ≡ record { channel = Some channel; messages = record { read = Handshake source options ∷ []; fault = None } }
  it_is = written.read

  pub handshake_ledger : new.holding ≡ old.holding → new.counts ≡ after_note notes.Sent old.counts → b.since ≤ moment → Ledger b old past
      → Ledger b new (Sent moment receiver bytes ∷ past)
  handshake_ledger same counts since l = ledger_sent b old new moment receiver bytes past same
      (record {
        datagrams = ap (λ (k : Counts). k.datagrams) counts;
        short = ap (λ (k : Counts). k.short) counts;
        sent = ap (λ (k : Counts). k.sent) counts;
      })
      (subst (λ (it : Datagram). ServesFrom b.d (entry old.holding.book) (lets_send b.d.chunk) past receiver it.channel [] it.messages.read) (sym it_is) tt)
      (subst (λ (it : Datagram). PlansFrom b.d (lets_send b.d.chunk) past receiver it.channel [] it.messages.read) (sym it_is) tt)
      (λ i e. absurd (false≢true (sym (ap (λ (it : Datagram). announces i it.messages.read) it_is) ∙ e)))
      since l

  pub handshake_holds : (x : Setting) (held : ℕ → Bool) → x.d ≡ b.d → HoldsAnnounced x held past → HoldsAnnounced x held (Sent moment receiver bytes ∷ past)
  handshake_holds x held same h = record {
    found = h.found;
    announced = λ i e. h.announced i (sym (ap (λ (a : Bool). a || is_announced x.d i past)
        (ap (λ (d : Descriptor). announces i (read d (Sent moment receiver bytes)).messages.read) same
        ∙ ap (λ (it : Datagram). announces i it.messages.read) it_is)) ∙ e);
    known = h.known;
  }

-- ---- what is asked for on channels that begin and go on

-- no seat's number is known any less
abbrev pub KeepsFars : (old new : Seats) → Type 0
KeepsFars old new = (seat : ℕ) → far_of (channel_at new seat) ≡ None → far_of (channel_at old seat) ≡ None

pub fetches_kept : (old new : Parts) → new.fetching ≡ old.fetching → new.seats.seats ≡ old.seats.seats → KeepsFars old.seats.table new.seats.table
    → Fetches old → Fetches new
fetches_kept old new fetching messages fars f = record {
  owned = both.owned;
  idle = λ seat far. ap (λ (p : SeatsState). own_in p.seats seat) same_messages ∙ f.idle seat (fars seat far);
}
  where
    same_messages : (record old.seats { seats = new.seats.seats }) ≡ old.seats
    same_messages = ap (λ (xs : List _). record old.seats { seats = xs }) messages

    both : Fetches (record old { fetching = new.fetching; seats = record old.seats { seats = new.seats.seats } })
    both = subst (λ (o : Parts). Fetches o)
        (sym (ap (λ f. record old { fetching = f; seats = record old.seats { seats = new.seats.seats } }) fetching
        ∙ ap (λ (s : SeatsState). record old { seats = s }) same_messages)) f

-- ---- steps

-- The link took one handshake, and the seats stand for it.
pub record SendsHandshake (moment : ℕ) (receiver : traffic.Address) (old new : Parts) (link later : LinkState) : Type 0 where
  pub channel : ℕ
  pub source : ℕ
  pub options : Options
  pub bytes : List ℕ
  pub written : IsDatagram old.seats.descriptor channel (Handshake source options ∷ []) bytes
  pub sends : Sends receiver bytes moment link later true
  pub rest : new ≡ record old { seats = new.seats; counts = after_note notes.Sent old.counts }
  pub swarm : new.seats.descriptor ≡ old.seats.descriptor
  pub same_moment : new.seats.moment ≡ old.seats.moment
  pub messages : new.seats.seats ≡ old.seats.seats
  pub fars : KeepsFars old.seats.table new.seats.table
  pub stands : (x : Setting) (most : ℕ) (past : List Record) → seats.StandsFor x most old.seats past
      → seats.StandsFor x most new.seats (Sent moment receiver bytes ∷ past)

unfoldable pub sent_flushes : (receiver : traffic.Address) (old new : Parts) (link later : LinkState) (disk : DiskState)
    → SendsHandshake (moment_of disk.history) receiver old new link later
    → Flushes 0 (record { parts = old; link = link; disk = disk }) (record { parts = new; link = later; disk = disk })
sent_flushes receiver old new link later disk s = record {
  added = Sent (moment_of disk.history) receiver s.bytes ∷ [];
  gained = s.sends.outcome;
  nexts = s.sends.nexts;
  bound = s.sends.bound;
  later = s.sends.later;
  ours = (record { receiver = receiver; bytes = s.bytes; is = refl; channel = s.channel; messages = Handshake s.source s.options ∷ []; written = s.written }, tt);
  seeds = λ none. record {
    fetching = ap (λ (p : Parts). p.fetching) s.rest ∙ none;
    asks = ap (λ (x : Bool). x || false) (ap (λ (it : Datagram). has_request it.messages.read) s.written.read);
  };
  waits = record { turns = ap (λ (p : Parts). p.counts.turns) s.rest; receive_faults = ap (λ (p : Parts). p.counts.receive_faults) s.rest };
  reads = record { tells = refl; honest = refl; same = refl; faults = omega arith; hard = omega arith };
  holding = ap (λ (p : Parts). p.holding) s.rest;
  swarm = s.swarm;
  moment = s.same_moment;
  stands = λ b most past since h. subst (λ (n : ℕ). StandsFor b n new (Sent (moment_of disk.history) receiver s.bytes ∷ past)) (zero_more most)
      (stands b most past since h);
}
  where
    zero_more : (n : ℕ) → n ≡ n + 0
    zero_more n = omega arith

    stands : (b : Beginning) (most : ℕ) (past : List Record) → b.since ≤ moment_of disk.history → StandsFor b most old past
        → StandsFor b most new (Sent (moment_of disk.history) receiver s.bytes ∷ past)
    stands b most past since h =
        let written : IsDatagram b.d s.channel (Handshake s.source s.options ∷ []) s.bytes =
        subst (λ (d : Descriptor). IsDatagram d s.channel (Handshake s.source s.options ∷ []) s.bytes) h.seats.swarm s.written in
        let same = ap (λ (p : Parts). p.holding) s.rest in
        record {
          ledger = handshake_ledger b old new (moment_of disk.history) receiver s.channel s.source s.options s.bytes past written same
              (ap (λ (p : Parts). p.counts) s.rest) since h.ledger;
          known_of = h.known_of;
          seats = s.stands (setting b h.known_of) most past h.seats;
          holds = handshake_holds b old new (moment_of disk.history) receiver s.channel s.source s.options s.bytes past written (setting b h.known_of)
              (is_committed new.holding.store) refl
              (subst (λ (k : HoldingState). HoldsAnnounced (setting b h.known_of) (is_committed k.store) past) (sym same) h.holds);
          fetches = fetches_kept old new (ap (λ (p : Parts). p.fetching) s.rest) s.messages s.fars h.fetches;
        }

-- The link refused one.
pub record RefusesHandshake (old new : Parts) (link after : LinkState) : Type 0 where
  pub traffic : after.traffic ≡ link.traffic
  pub nexts : after.nexts ≡ link.nexts
  pub bound : after.bound ≡ link.bound
  pub later : link.faults ≤ after.faults
  pub rest : new ≡ record old { seats = new.seats; counts = after_note notes.SendFault old.counts }
  pub swarm : new.seats.descriptor ≡ old.seats.descriptor
  pub same_moment : new.seats.moment ≡ old.seats.moment
  pub messages : new.seats.seats ≡ old.seats.seats
  pub fars : KeepsFars old.seats.table new.seats.table
  pub stands : (x : Setting) (most : ℕ) (past : List Record) → seats.StandsFor x most old.seats past → seats.StandsFor x most new.seats past

unfoldable pub refused_flushes : (old new : Parts) (link after : LinkState) (disk : DiskState) → RefusesHandshake old new link after
    → Flushes 0 (record { parts = old; link = link; disk = disk }) (record { parts = new; link = after; disk = disk })
refused_flushes old new link after disk s = record {
  added = [];
  gained = gains_nothing link.traffic after.traffic s.traffic;
  nexts = s.nexts;
  bound = s.bound;
  later = s.later;
  ours = tt;
  seeds = λ none. record { fetching = ap (λ (p : Parts). p.fetching) s.rest ∙ none; asks = refl };
  waits = record { turns = ap (λ (p : Parts). p.counts.turns) s.rest; receive_faults = ap (λ (p : Parts). p.counts.receive_faults) s.rest };
  reads = record { tells = refl; honest = refl; same = refl; faults = omega arith; hard = omega arith };
  holding = ap (λ (p : Parts). p.holding) s.rest;
  swarm = s.swarm;
  moment = s.same_moment;
  stands = λ b most past since h. stands_same b most (most + 0) old new past (ap (λ (p : Parts). p.holding) s.rest)
      (record {
        datagrams = ap (λ (p : Parts). p.counts.datagrams) s.rest;
        short = ap (λ (p : Parts). p.counts.short) s.rest;
        sent = ap (λ (p : Parts). p.counts.sent) s.rest;
      })
      (λ x h. subst (λ (n : ℕ). seats.StandsFor x n new.seats past) (zero_more most) (s.stands x most past h))
      (fetches_kept old new (ap (λ (p : Parts). p.fetching) s.rest) s.messages s.fars) h;
}
  where
    zero_more : (n : ℕ) → n ≡ n + 0
    zero_more n = omega arith

-- ---- in the words of the calls

far_waits : (is_waiting : Bool) (far : Far) → cond is_waiting None (Some far) ≡ None → is_waiting ≡ true
far_waits true far e = refl
far_waits false far e = absurd cc

pub marked_fars : (t new : Seats) (k : ℕ) (c : Channel) → channel_at t k ≡ Some c → IsMarked t new k c → KeepsFars t new
marked_fars t new k c there marked n far = of (cases_eq n k)
  where
    here : far_of (channel_at new k) ≡ None → far_of (channel_at t k) ≡ None
    here far = ap far_of there
        ∙ ap (λ (b : Bool). cond b None (Some (record { address = c.address; number = unwrap_or c.remote 0; proven = is_proven c; begun = is_begun c.opening })))
        (sym marked.waits ∙ far_waits (is_waiting marked.channel) _ (sym (ap far_of marked.change.there) ∙ far))

    of : (n ≡ k) ⊎ (n ≡ k → ⊥) → far_of (channel_at t n) ≡ None
    of (inl is) = ap (λ (m : ℕ). far_of (channel_at t m)) is ∙ here (ap (λ (m : ℕ). far_of (channel_at new m)) (sym is) ∙ far)
    of (inr ne) = ap far_of (sym (marked.change.others n ne)) ∙ far

channel_of : (o : Option Channel) (greeting : Greeting) → greeting_of o ≡ Some greeting → (c : Channel) × (o ≡ Some c)
channel_of None greeting e = absurd cc
channel_of (Some c) greeting e = (c, refl)

greets_sends : (seat : ℕ) (old new : Parts) (link later : LinkState) (disk : DiskState) → (g : Greets seat (moment_of disk.history) old.seats new.seats link later)
    → new ≡ record old { seats = new.seats; counts = after_note notes.Sent old.counts }
    → SendsHandshake (moment_of disk.history) (address_of g.greeting.address) old new link later
greets_sends seat old new link later disk g rest =
    let c = channel_of (channel_at old.seats.table seat) g.greeting g.is_greeting in
    record {
      channel = g.greeting.number;
      source = g.greeting.source;
      options = own_options old.seats.descriptor;
      bytes = g.bytes;
      written = g.written;
      sends = g.sends;
      rest = rest;
      swarm = ap (λ (s : SeatsState). s.descriptor) g.is;
      same_moment = ap (λ (s : SeatsState). s.moment) g.is;
      messages = ap (λ (s : SeatsState). s.seats) g.is;
      fars = subst (λ (s : SeatsState). KeepsFars old.seats.table s.table) (sym g.is)
          (marked_fars old.seats.table (with_datagram old.seats.table seat true old.seats.moment) seat c.0 c.1 (marked_sent old.seats.table seat c.0 true old.seats.moment c.1));
      stands = g.stands;
    }

pub greet_flushes : (seat : ℕ) (old new : Parts) (link later : LinkState) (disk : DiskState) → Greets seat (moment_of disk.history) old.seats new.seats link later
    → new ≡ record old { seats = new.seats; counts = after_note notes.Sent old.counts }
    → Flushes 0 (record { parts = old; link = link; disk = disk }) (record { parts = new; link = later; disk = disk })
greet_flushes seat old new link later disk g rest =
    sent_flushes (address_of g.greeting.address) old new link later disk (greets_sends seat old new link later disk g rest)

due_refused : (now : ℕ) (o : Option Channel) (link later : LinkState) → is_due_at now o ≡ true → ((greeting_of o ≡ None) × (later ≡ link)) ⊎ Refuses link later
    → Refuses link later
due_refused now None link later due why = absurd (false≢true due)
due_refused now (Some c) link later due (inl none) = absurd (let e = none.0 in cc)
due_refused now (Some c) link later due (inr refuses) = refuses

pub greet_refused : (seat : ℕ) (old : Parts) (left : SeatsState) (counts : Counts) (link later : LinkState) → is_due_at old.seats.moment (channel_at old.seats.table seat) ≡ true
    → GreetsNot seat old.seats left link later → counts ≡ after_note notes.SendFault old.counts
    → IsRefused seat old (record old { seats = left; counts = counts }) link later
greet_refused seat old left counts link later due g counted = record {
  due = due;
  refuses = due_refused old.seats.moment (channel_at old.seats.table seat) link later due g.why;
  rest = ap (λ (s : SeatsState). record old { seats = s; counts = counts }) g.same ∙ ap (λ (k : Counts). record old { counts = k }) counted;
}

pub refused_greets : (seat : ℕ) (old new : Parts) (link later : LinkState) (disk : DiskState) → IsRefused seat old new link later
    → Flushes 0 (record { parts = old; link = link; disk = disk }) (record { parts = new; link = later; disk = disk })
refused_greets seat old new link later disk r = refused_flushes old new link later disk (record {
  traffic = r.refuses.traffic;
  nexts = r.refuses.nexts;
  bound = r.refuses.bound;
  later = r.refuses.grows;
  rest = r.rest ∙ ap (λ (s : SeatsState). record old { seats = s; counts = after_note notes.SendFault old.counts }) (sym same);
  swarm = ap (λ (s : SeatsState). s.descriptor) same;
  same_moment = ap (λ (s : SeatsState). s.moment) same;
  messages = ap (λ (s : SeatsState). s.seats) same;
  fars = λ n far. sym (ap (λ (s : SeatsState). far_of (channel_at s.table n)) same) ∙ far;
  stands = λ x most past h. subst (λ (s : SeatsState). seats.StandsFor x most s past) (sym same) h;
})
  where
    same : new.seats ≡ old.seats
    same = ap (λ (p : Parts). p.seats) r.rest

-- ---- dials

free_there : (o : Option Channel) → is_none o ≡ true → far_of o ≡ None
free_there None e = refl
free_there (Some c) e = absurd (false≢true e)

dial_fars : (to : Address) (p : SeatsState) (k : ℕ) (sent : Bool) → free_seat p.table ≡ Some k
    → KeepsFars p.table (cond sent (with_datagram (with_dial to p) k true p.moment) (closed (with_dial to p) k))
dial_fars to p k sent free n far = of (cases_eq n k) sent far
  where
    other : n ≢ k → channel_at (with_dial to p) n ≡ channel_at p.table n
    other ne = ap (λ (o : Option ℕ). channel_at (with_channel_at o (dialled to p.moment) p.table) n) free ∙ get_or-set_other p.table.channels k n _ None ne

    went : n ≢ k → channel_at (with_datagram (with_dial to p) k true p.moment) n ≡ channel_at p.table n
    went ne = get_or-set_other _ k n _ None ne ∙ get_or-set_other (with_dial to p).channels k n _ None ne ∙ other ne

    dropped : n ≢ k → StaysBut (channel_at p.table n) (channel_at (closed (with_dial to p) k) n)
    dropped ne = after_stays (channel_at (with_dial to p) k) (channel_at p.table n) (channel_at (closed (with_dial to p) k) n)
        (get_or-map (after_drop (channel_at (with_dial to p) k)) (set (with_dial to p).channels k None) n None
        ∙ ap (after_drop (channel_at (with_dial to p) k)) (get_or-set_other (with_dial to p).channels k n None None ne ∙ other ne))

    of : (n ≡ k) ⊎ (n ≡ k → ⊥) → (sent : Bool)
        → far_of (channel_at (cond sent (with_datagram (with_dial to p) k true p.moment) (closed (with_dial to p) k)) n) ≡ None → far_of (channel_at p.table n) ≡ None
    of (inl is) sent far = ap (λ (m : ℕ). far_of (channel_at p.table m)) is ∙ free_there (channel_at p.table k) (position-Some is_none p.table.channels k None free).1
    of (inr ne) true far = ap far_of (sym (went ne)) ∙ far
    of (inr ne) false far = sym (far_stays (channel_at p.table n) (channel_at (closed (with_dial to p) k) n) (dropped ne)) ∙ far

pub dial_flushes : (to : Address) (sent : Bool) (old new : Parts) (link later : LinkState) (disk : DiskState)
    → IsDialled to (moment_of disk.history) sent old new link later
    → Flushes 0 (record { parts = old; link = link; disk = disk }) (record { parts = new; link = later; disk = disk })
dial_flushes to true old new link later disk i = sent_flushes (address_of to) old new link later disk (record {
  channel = 0;
  source = i.dials.source;
  options = own_options old.seats.descriptor;
  bytes = i.dials.bytes;
  written = i.dials.written;
  sends = i.dials.sends;
  rest = i.rest;
  swarm = ap (λ (s : SeatsState). s.descriptor) i.dials.is;
  same_moment = ap (λ (s : SeatsState). s.moment) i.dials.is;
  messages = ap (λ (s : SeatsState). s.seats) i.dials.is;
  fars = subst (λ (s : SeatsState). KeepsFars old.seats.table s.table) (sym i.dials.is) (dial_fars to old.seats i.dials.seat true i.dials.free);
  stands = i.dials.stands;
})
dial_flushes to false old new link later disk i = refused_flushes old new link later disk (record {
  traffic = i.dials.sends.outcome.0;
  nexts = i.dials.sends.nexts;
  bound = i.dials.sends.bound;
  later = i.dials.sends.later;
  rest = i.rest;
  swarm = ap (λ (s : SeatsState). s.descriptor) i.dials.is;
  same_moment = ap (λ (s : SeatsState). s.moment) i.dials.is;
  messages = ap (λ (s : SeatsState). s.seats) i.dials.is;
  fars = subst (λ (s : SeatsState). KeepsFars old.seats.table s.table) (sym i.dials.is) (dial_fars to old.seats i.dials.seat false i.dials.free);
  stands = i.dials.stands;
})

pub dials_none : (to : Address) (old : Parts) (left : SeatsState) (link later : LinkState) (disk : DiskState) → DialsNone to old.seats left link later
    → Flushes 0 (record { parts = old; link = link; disk = disk }) (record { parts = record old { seats = left }; link = later; disk = disk })
dials_none to old left link later disk d =
    subst (λ (s : SeatsState). Flushes 0 (record { parts = old; link = link; disk = disk }) (record { parts = record old { seats = s }; link = later; disk = disk }))
    (sym d.same)
    (subst (λ (l : LinkState). Flushes 0 (record { parts = old; link = link; disk = disk }) (record { parts = old; link = l; disk = disk })) (sym d.link_same)
    (flushes_none (record { parts = old; link = link; disk = disk })))
