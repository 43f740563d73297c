-- Closing handshakes, seat by seat.
use Rattle.std.proofs.Common.{◌≡◌, ◌⊎◌, inl, inr, ℕ, zero, suc, ◌+◌, ◌-◌, ◌<◌, length, Bool, true, false, cond, Option, Some, None, List, [], ◌∷◌, ◌++◌, refl, sym, ◌∙◌, ap, subst, arith, append_assoc}
use Rattle.std.specs.List.{AllByRecursion}
use Rattle.std.proofs.lemmas.Bool.{cases_eq, false≢true}
use Rattle.std.proofs.lemmas.List.{length-append}
use Rattle.std.proofs.lemmas.Option.{same_Some}
use Rattle.pp_terms.specs.Count.{HasRisen}
use Rattle.pp_terms.specs.disk.Disk.{DiskState, History, moment_of}
use Rattle.pp_terms.specs.format.Descriptor.{Descriptor}
use Rattle.pp_terms.specs.format.Traffic.{Record, Sent, LinkState}
use Rattle.pp_counts.specs.Counts.{after_note}
use Rattle.pp_counts.specs.declared.counts.Counts.{Counts}
use Rattle.pp_counts.specs.declared.note.Note.{Note}
use Rattle.pp_counts.specs.declared.note.Note.TheVariants as notes
use Rattle.pp_outside.specs.Outside.{address_of}
use Rattle.pp_channels.specs.Seats.{Seats, channel_at}
use Rattle.pp_channels.specs.declared.channel.Channel.{Channel}
use Rattle.pp_lives.specs.Fars.{far_of}
use Rattle.pp_lives.specs.Sending.{with_datagram}
use Rattle.pp_lives.specs.declared.lives.Far.{Far}
use Rattle.pp_lives.proofs.Changing.{changed_is}
use Rattle.pp_draft.specs.Notes.{no_options}
use Rattle.pp_seats.specs.Standing.{SeatsState}
use Rattle.pp_seats.specs.Standing as seats
use Rattle.pp_seats.specs.Greeting as greeting
use Rattle.pp_seats.specs.Greeting.{PartsNot, IsParted, IsUnproven}
use Rattle.pp_seats.specs.Serving.{Refuses}
use Rattle.pp_peer.specs.declared.parts.Parts.{Parts}
use Rattle.pp_peer.specs.Flushing.{Scene}
use Rattle.pp_peer.specs.Greeting.{IsClosed, IsFarewell, after_times, after_farewells, fars_of, is_proven_at, proven_below, PartsAt, Parting}
use Rattle.pp_peer.proofs.Flushed.{all_both, flushes_none, flushes_twice}
use Rattle.pp_peer.proofs.Greeted.{sent_flushes, refused_flushes}

abbrev scene : Parts → LinkState → DiskState → Scene
scene p link disk = record { parts = p; link = link; disk = disk }

-- ---- one seat

abbrev bit : Bool → ℕ
bit b = cond b 1 0

-- ---- counts

sent_first : (n : ℕ) (k : Counts) → after_note notes.Sent (after_times n notes.SendFault k) ≡ after_times n notes.SendFault (after_note notes.Sent k)
sent_first zero k = refl
sent_first (suc n) k = ap (after_note notes.SendFault) (sent_first n k)

sent_before : (m n : ℕ) (k : Counts) → after_times m notes.Sent (after_times n notes.SendFault k) ≡ after_times n notes.SendFault (after_times m notes.Sent k)
sent_before zero n k = refl
sent_before (suc m) n k = ap (after_note notes.Sent) (sent_before m n k) ∙ sent_first n (after_times m notes.Sent k)

times_add : (m n : ℕ) (note : Note) (k : Counts) → after_times m note (after_times n note k) ≡ after_times (m + n) note k
times_add zero n note k = ap (λ (x : ℕ). after_times x note k) (omega arith)
times_add (suc m) n note k = ap (after_note note) (times_add m n note k) ∙ ap (λ (x : ℕ). after_times x note k) (next_is (m + n) (suc m + n) (omega arith))
  where
    next_is : (a b : ℕ) → suc a ≡ b → suc a ≡ b
    next_is a b e = e

farewells_add : (sent refused more lost : ℕ) (k : Counts)
    → after_farewells more lost (after_farewells sent refused k) ≡ after_farewells (more + sent) (lost + refused) k
farewells_add sent refused more lost k =
    ap (after_times lost notes.SendFault) (sent_before more refused (after_times sent notes.Sent k))
    ∙ times_add lost refused notes.SendFault (after_times more notes.Sent (after_times sent notes.Sent k))
    ∙ ap (after_times (lost + refused) notes.SendFault) (times_add more sent notes.Sent k)

unproven_is : (o : Option Far) → ((far : Far) → o ≡ Some far → far.proven ≡ true → ⊥) → is_proven_at o ≡ false
unproven_is None none = refl
unproven_is (Some far) none = shows far.proven refl
  where
    shows : (b : Bool) → far.proven ≡ b → far.proven ≡ false
    shows true e = absurd (none far refl e)
    shows false e = e

pub parts_none : (seat : ℕ) (s : Scene) → ((far : Far) → fars_of s.parts seat ≡ Some far → far.proven ≡ true → ⊥) → PartsAt seat s s
unfolding flushes_none
parts_none seat s none = record {
  flushes = flushes_none s;
  closes = λ far is proven. absurd (none far is proven);
  others = tt;
  once = omega arith;
  counted = ap (λ (b : Bool). after_farewells 0 (bit b - 0) s.parts.counts) (sym (unproven_is (fars_of s.parts seat) none));
  fars = λ n. refl;
  rest = refl;
}

pub none_far : (o : Option Far) → o ≡ None → (far : Far) → o ≡ Some far → far.proven ≡ true → ⊥
none_far o none far is proven = let e : None ≡ Some far = sym none ∙ is in absurd cc

pub unproven_far : (o : Option Far) (other : Far) → o ≡ Some other → other.proven ≡ false → (far : Far) → o ≡ Some far → far.proven ≡ true → ⊥
unproven_far o other there not far is proven =
    false≢true (sym not ∙ ap (λ (f : Far). f.proven) (same_Some other far (sym there ∙ is)) ∙ proven)

-- when a datagram went last says nothing of where they go
wrote_fars : (t : Seats) (k now : ℕ) (c : Channel) → channel_at t k ≡ Some c → (n : ℕ) → far_of (channel_at (with_datagram t k false now) n) ≡ far_of (channel_at t n)
wrote_fars t k now c there n = of (cases_eq n k)
  where
    of : (n ≡ k) ⊎ (n ≡ k → ⊥) → far_of (channel_at (with_datagram t k false now) n) ≡ far_of (channel_at t n)
    of (inl is) = ap (λ (m : ℕ). far_of (channel_at (with_datagram t k false now) m)) is
        ∙ ap far_of (changed_is t k c (λ x. record x { wrote = now }) there).there ∙ ap far_of (sym there)
        ∙ ap (λ (m : ℕ). far_of (channel_at t m)) (sym is)
    of (inr ne) = ap far_of ((changed_is t k c (λ x. record x { wrote = now }) there).others n ne)

there_far : (o : Option Channel) (far : Far) → far_of o ≡ Some far → (c : Channel) × (o ≡ Some c)
there_far None far e = absurd cc
there_far (Some c) far e = (c, refl)

parts_sent : (seat : ℕ) (old new : Parts) (link later : LinkState) (disk : DiskState) → greeting.Parts seat (moment_of disk.history) old.seats new.seats link later
    → new ≡ record old { seats = new.seats; counts = after_note notes.Sent old.counts }
    → PartsAt seat (scene old link disk) (scene new later disk)
unfolding sent_flushes
parts_sent seat old new link later disk p rest =
    let c = there_far (channel_at old.seats.table seat) p.far p.is_far in
    let fars : (n : ℕ) → fars_of new n ≡ fars_of old n = λ n. ap (λ (s : SeatsState). far_of (channel_at s.table n)) p.is
    ∙ wrote_fars old.seats.table seat old.seats.moment c.0 c.1 n in
    record {
      flushes = sent_flushes (address_of p.far.address) old new link later disk (record {
        channel = p.far.number;
        source = 0;
        options = no_options;
        bytes = p.bytes;
        written = p.written;
        sends = p.sends;
        rest = rest;
        swarm = ap (λ (s : SeatsState). s.descriptor) p.is;
        same_moment = ap (λ (s : SeatsState). s.moment) p.is;
        messages = ap (λ (s : SeatsState). s.seats) p.is;
        fars = λ n e. sym (fars n) ∙ e;
        stands = p.stands;
      });
      closes = λ far is proven. inl (subst (λ (f : Far). IsClosed old.seats.descriptor (moment_of disk.history) f (Sent (moment_of disk.history) (address_of p.far.address) p.bytes ∷ []))
          (same_Some p.far far (sym p.is_far ∙ is))
          (record { bytes = p.bytes; written = p.written; newer = []; older = []; among = refl }));
      others = (record { seat = seat; far = p.far; is_far = p.is_far; proven = p.proven; bytes = p.bytes; written = p.written; is = refl }, tt);
      once =
          let shown : cond (is_proven_at (fars_of old seat)) 1 0 ≡ 1 =
          ap (λ (o : Option Far). bit (is_proven_at o)) p.is_far ∙ ap bit p.proven in
          omega (arith, shown);
      counted = ap (λ (q : Parts). q.counts) rest ∙ ap (λ (n : ℕ). after_farewells 1 (n - 1) old.counts)
          (sym (ap (λ (o : Option Far). bit (is_proven_at o)) p.is_far ∙ ap bit p.proven));
      fars = fars;
      rest = rest ∙ ap (λ (k : Counts). record old { seats = new.seats; counts = k }) (sym (ap (λ (q : Parts). q.counts) rest));
    }

not_unproven : (o : Option Far) (far : Far) → o ≡ Some far → far.proven ≡ true → IsUnproven o → ⊥
not_unproven o far is proven not = false≢true (sym (subst (λ (e : Option Far). IsUnproven e) is not) ∙ proven)

refused_why : (far : Far) (o : Option Far) (link later : LinkState) → o ≡ Some far → far.proven ≡ true → (IsUnproven o × (later ≡ link)) ⊎ Refuses link later
    → Refuses link later
refused_why far o link later is proven (inl not) = absurd (not_unproven o far is proven not.0)
refused_why far o link later is proven (inr refuses) = refuses

parts_refused : (seat : ℕ) (far : Far) (old new : Parts) (link later : LinkState) (disk : DiskState) → fars_of old seat ≡ Some far → far.proven ≡ true
    → PartsNot seat old.seats new.seats link later
    → new ≡ record old { seats = new.seats; counts = after_note notes.SendFault old.counts }
    → PartsAt seat (scene old link disk) (scene new later disk)
unfolding refused_flushes
parts_refused seat far old new link later disk is proven p rest =
    let refuses = refused_why far (fars_of old seat) link later is proven p.why in
    record {
      flushes = refused_flushes old new link later disk (record {
        traffic = refuses.traffic;
        nexts = refuses.nexts;
        bound = refuses.bound;
        later = refuses.grows;
        rest = rest;
        swarm = ap (λ (s : SeatsState). s.descriptor) p.same;
        same_moment = ap (λ (s : SeatsState). s.moment) p.same;
        messages = ap (λ (s : SeatsState). s.seats) p.same;
        fars = λ n e. sym (ap (λ (s : SeatsState). far_of (channel_at s.table n)) p.same) ∙ e;
        stands = λ x most past h. subst (λ (s : SeatsState). seats.StandsFor x most s past) (sym p.same) h;
      });
      closes = λ other is_other is_proven. inr refuses.risen;
      others = tt;
      once = omega arith;
      counted = ap (λ (q : Parts). q.counts) rest ∙ ap (λ (n : ℕ). after_farewells 0 (n - 0) old.counts)
          (sym (ap (λ (o : Option Far). bit (is_proven_at o)) is ∙ ap bit proven));
      fars = λ n. ap (λ (s : SeatsState). far_of (channel_at s.table n)) p.same;
      rest = rest ∙ ap (λ (k : Counts). record old { seats = new.seats; counts = k }) (sym (ap (λ (q : Parts). q.counts) rest));
    }

pub parts_so : (seat : ℕ) (sent : Bool) (far : Far) (old : Parts) (left : SeatsState) (counts : Counts) (link later : LinkState) (disk : DiskState)
    → fars_of old seat ≡ Some far → far.proven ≡ true → IsParted seat (moment_of disk.history) sent old.seats left link later
    → counts ≡ after_note (cond sent notes.Sent notes.SendFault) old.counts
    → PartsAt seat (scene old link disk) (scene (record old { seats = left; counts = counts }) later disk)
parts_so seat true far old left counts link later disk is proven p counted =
    parts_sent seat old (record old { seats = left; counts = counts }) link later disk p (ap (λ (k : Counts). record old { seats = left; counts = k }) counted)
parts_so seat false far old left counts link later disk is proven p counted =
    parts_refused seat far old (record old { seats = left; counts = counts }) link later disk is proven p (ap (λ (k : Counts). record old { seats = left; counts = k }) counted)

-- ---- all seats

pub parting_none : (s : Scene) → Parting 0 s s
unfolding flushes_none proven_below
parting_none s = record {
  flushes = flushes_none s;
  each = λ seat far below. absurd (omega (arith, below));
  others = tt;
  once = omega arith;
  counted = refl;
  fars = λ n. refl;
  rest = refl;
}

all_by : (P Q : Record → Type 0) (xs : List Record) → ((r : Record) → P r → Q r) → AllByRecursion P xs → AllByRecursion Q xs
all_by P Q [] f a = tt
all_by P Q (x ∷ xs) f a = (f x a.0, all_by P Q xs f a.1)

one_more_proven : (fars : ℕ → Option Far) (n : ℕ) → proven_below fars (n + 1) ≡ bit (is_proven_at (fars n)) + proven_below fars n
unfolding proven_below
one_more_proven fars n = ap (proven_below fars) (next_is n)
  where
    next_is : (n : ℕ) → n + 1 ≡ suc n
    next_is n = omega arith

pub parting_more : (below seat : ℕ) (a b c : Scene) → seat ≡ below → Parting below a b → PartsAt seat b c → Parting (below + 1) a c
unfolding flushes_twice
parting_more below seat a b c here one two = record {
  flushes = flushes_twice 0 0 a b c one.flushes two.flushes;
  each = λ n far lt is proven. of n far is proven (cases_eq n seat) lt;
  others = all_both (IsFarewell a.parts.seats.descriptor (moment_of a.disk.history) (fars_of a.parts)) two.flushes.added one.flushes.added
      (all_by (IsFarewell b.parts.seats.descriptor (moment_of b.disk.history) (fars_of b.parts)) (IsFarewell a.parts.seats.descriptor (moment_of a.disk.history) (fars_of a.parts))
      two.flushes.added before two.others) one.others;
  once =
      let sum = length-append two.flushes.added one.flushes.added in
      let first = one.once in
      let then = two.once in
      let more = one_more_proven (fars_of a.parts) below in
      let same : bit (is_proven_at (fars_of b.parts seat)) ≡ bit (is_proven_at (fars_of a.parts below)) =
      ap (λ (o : Option Far). bit (is_proven_at o)) (one.fars seat ∙ ap (fars_of a.parts) here) in
      omega (arith, sum, first, then, more, same);
  counted = two.counted ∙ ap (after_farewells (length two.flushes.added) (bit (is_proven_at (fars_of b.parts seat)) - length two.flushes.added)) one.counted
      ∙ farewells_add (length one.flushes.added) (proven_below (fars_of a.parts) below - length one.flushes.added) (length two.flushes.added)
      (bit (is_proven_at (fars_of b.parts seat)) - length two.flushes.added) a.parts.counts
      ∙ ap (λ (n : ℕ). after_farewells n (bit (is_proven_at (fars_of b.parts seat)) - length two.flushes.added + (proven_below (fars_of a.parts) below - length one.flushes.added)) a.parts.counts)
      (sym (length-append two.flushes.added one.flushes.added))
      ∙ ap (λ (n : ℕ). after_farewells (length (two.flushes.added ++ one.flushes.added)) n a.parts.counts) lost_are;
  fars = λ n. two.fars n ∙ one.fars n;
  rest = two.rest ∙ ap (λ (p : Parts). record p { seats = c.parts.seats; counts = c.parts.counts }) one.rest;
}
  where
    lost_are : bit (is_proven_at (fars_of b.parts seat)) - length two.flushes.added + (proven_below (fars_of a.parts) below - length one.flushes.added)
        ≡ proven_below (fars_of a.parts) (below + 1) - length (two.flushes.added ++ one.flushes.added)
    lost_are =
        let sum = length-append two.flushes.added one.flushes.added in
        let first = one.once in
        let then = two.once in
        let more = one_more_proven (fars_of a.parts) below in
        let same : bit (is_proven_at (fars_of b.parts seat)) ≡ bit (is_proven_at (fars_of a.parts below)) =
        ap (λ (o : Option Far). bit (is_proven_at o)) (one.fars seat ∙ ap (fars_of a.parts) here) in
        omega (arith, sum, first, then, more, same)

    moments : moment_of b.disk.history ≡ moment_of a.disk.history
    moments = ap (λ (h : History). moment_of h) one.flushes.reads.same

    before : (r : Record) → IsFarewell b.parts.seats.descriptor (moment_of b.disk.history) (fars_of b.parts) r
        → IsFarewell a.parts.seats.descriptor (moment_of a.disk.history) (fars_of a.parts) r
    before r k =
        let swarmed = subst (λ (d : Descriptor). IsFarewell d (moment_of b.disk.history) (fars_of b.parts) r) one.flushes.swarm k in
        let timed = subst (λ (m : ℕ). IsFarewell a.parts.seats.descriptor m (fars_of b.parts) r) moments swarmed in
        record {
          seat = timed.seat;
          far = timed.far;
          is_far = sym (one.fars timed.seat) ∙ timed.is_far;
          proven = timed.proven;
          bytes = timed.bytes;
          written = timed.written;
          is = timed.is;
        }

    newly : (far : Far) → IsClosed b.parts.seats.descriptor (moment_of b.disk.history) far two.flushes.added
        → IsClosed a.parts.seats.descriptor (moment_of a.disk.history) far (two.flushes.added ++ one.flushes.added)
    newly far k =
        let swarmed = subst (λ (d : Descriptor). IsClosed d (moment_of b.disk.history) far two.flushes.added) one.flushes.swarm k in
        let timed = subst (λ (m : ℕ). IsClosed a.parts.seats.descriptor m far two.flushes.added) moments swarmed in
        record {
          bytes = timed.bytes;
          written = timed.written;
          newer = timed.newer;
          older = timed.older ++ one.flushes.added;
          among = ap (λ (rs : List Record). rs ++ one.flushes.added) timed.among ∙ append_assoc timed.newer (_ ∷ timed.older) one.flushes.added;
        }

    still : (far : Far) → IsClosed a.parts.seats.descriptor (moment_of a.disk.history) far one.flushes.added
        → IsClosed a.parts.seats.descriptor (moment_of a.disk.history) far (two.flushes.added ++ one.flushes.added)
    still far k = record {
      bytes = k.bytes;
      written = k.written;
      newer = two.flushes.added ++ k.newer;
      older = k.older;
      among = ap (λ (rs : List Record). two.flushes.added ++ rs) k.among ∙ sym (append_assoc two.flushes.added k.newer (_ ∷ k.older));
    }

    rose_then : HasRisen a.link.faults b.link.faults → HasRisen a.link.faults c.link.faults
    rose_then risen lt = let later = two.flushes.later in let less = risen (omega (arith, later, lt)) in omega (arith, later, less)

    then_rose : HasRisen b.link.faults c.link.faults → HasRisen a.link.faults c.link.faults
    then_rose risen lt = let later = one.flushes.later in let less = risen lt in omega (arith, later, less)

    of : (n : ℕ) (far : Far) → fars_of a.parts n ≡ Some far → far.proven ≡ true → (n ≡ seat) ⊎ (n ≡ seat → ⊥) → n < below + 1
        → IsClosed a.parts.seats.descriptor (moment_of a.disk.history) far (two.flushes.added ++ one.flushes.added) ⊎ HasRisen a.link.faults c.link.faults
    of n far is proven (inl same) lt = now (two.closes far (ap (fars_of b.parts) (sym same) ∙ one.fars n ∙ is) proven)
      where
        now : IsClosed b.parts.seats.descriptor (moment_of b.disk.history) far two.flushes.added ⊎ HasRisen b.link.faults c.link.faults
            → IsClosed a.parts.seats.descriptor (moment_of a.disk.history) far (two.flushes.added ++ one.flushes.added) ⊎ HasRisen a.link.faults c.link.faults
        now (inl k) = inl (newly far k)
        now (inr risen) = inr (then_rose risen)
    of n far is proven (inr ne) lt = earlier (one.each n far (under ne lt) is proven)
      where
        under : (n ≡ seat → ⊥) → n < below + 1 → n < below
        under ne lt = grind arith

        earlier : IsClosed a.parts.seats.descriptor (moment_of a.disk.history) far one.flushes.added ⊎ HasRisen a.link.faults b.link.faults
            → IsClosed a.parts.seats.descriptor (moment_of a.disk.history) far (two.flushes.added ++ one.flushes.added) ⊎ HasRisen a.link.faults c.link.faults
        earlier (inl k) = inl (still far k)
        earlier (inr risen) = inr (rose_then risen)
