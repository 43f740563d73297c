-- Which of the addresses that a peer was told to dial it dials in its first turn.
use Rattle.std.proofs.Common.{◌≡◌, ◌⊎◌, inl, inr, ⊎_elim, ℕ, ◌+◌, ◌-◌, ◌^◌, ◌<◌, ◌≤◌, Bool, true, false, ◌&&◌, Option, Some, None, List, [], ◌∷◌, ◌++◌, map, length, refl, sym, ◌∙◌, ap, subst, arith, append_assoc}
use Rattle.std.specs.Prelude.{MatchBool}
use Rattle.std.specs.List.{AllByRecursion, list_any}
use Rattle.std.proofs.lemmas.Bool.{both_ways, false≢true, and_from, or_cases, or_parts, or_left, or_right}
use Rattle.std.proofs.lemmas.List.{length-append}
use Rattle.std.proofs.lemmas.List.Folds.{list_any-append}
use Rattle.std.proofs.lemmas.List.Sums.{count_by-le-length}
use Rattle.pp_terms.specs.disk.Disk.{DiskState, moment_of}
use Rattle.pp_terms.specs.format.Descriptor.{Descriptor}
use Rattle.pp_terms.specs.format.Messages.{Datagram, Handshake}
use Rattle.pp_terms.specs.format.Traffic as traffic
use Rattle.pp_terms.specs.format.Traffic.{Record, Sent, LinkState, GainsRecords, same_address}
use Rattle.pp_terms.proofs.Risings.{gains_nothing, gains_twice}
use Rattle.pp_traffic.specs.Past.{read, goes_to, is_number, comes_from}
use Rattle.pp_traffic.specs.Plain.{is_handshake}
use Rattle.pp_traffic.specs.Turns.{events, is_closing}
use Rattle.pp_promises.specs.Answered.{opens, openings}
use Rattle.pp_promises.specs.Asked.{dials, IsMissed, DialsBut}
use Rattle.pp_outside.specs.Outside.{address_of}
use Rattle.pp_outside.specs.declared.link.Address.{Address}
use Rattle.pp_lives.proofs.Sent.{same_is, same_self}
use Rattle.pp_draft.specs.Notes.{own_options}
use Rattle.pp_draft.specs.Datagrams.{IsDatagram}
use Rattle.pp_seats.specs.Standing.{Setting}
use Rattle.pp_seats.specs.Standing as seats
use Rattle.pp_peer.specs.declared.dialling.Dial.{Dial}
use Rattle.pp_peer.specs.declared.dialling.DialState.{DialState}
use Rattle.pp_peer.specs.declared.dialling.DialState.TheVariants.{Seated}
use Rattle.pp_peer.specs.Dialling.{Tries, undialled, has_channel, after_dial, StepsDial, DialsEach}
use Rattle.pp_peer.specs.Flushing.{Scene}
use Rattle.pp_peer.specs.Sending.{SendsAll}
use Rattle.pp_peer.specs.Standing.{Beginning, setting, StandsFor}
use Rattle.pp_peer.proofs.Dialled.{IsDialling, all_dialling}
use Rattle.pp_core.specs.Peers.{PeerState}
use Rattle.pp_core.specs.Promising.{MissesFew}
use Rattle.pp_core.specs.Turning.{scene, Sends}
use Rattle.pp_core.proofs.FirstTurn.{sent_events, events_few, first_turn_has}
use Rattle.pp_core.proofs.Openings.{seats_are_opened, openings_twice, free_there}
use Rattle.pp_core.proofs.Seen.{IsSeen, seen_later, has_seen}
use Rattle.pp_core.proofs.Writing.{gained_alike}

-- ---- one address

-- What came of addresses that were to be dialled, after these records: each was seen then, or is one of a few, as many at most as calls of
-- the link were refused, where its count tells.
record AreDialled (x : Setting) (most : ℕ) (past : List Record) (addresses : List Address) (a c : Scene) : Type 0 where
  added : List Record
  gained : GainsRecords a.link.traffic added c.link.traffic
  short : length added ≤ length addresses
  stands : seats.StandsFor x most c.parts.seats (added ++ past)
  few : List traffic.Address
  refused : c.link.faults < 2 ^ 64 - 1 → a.link.faults + length few ≤ c.link.faults
  grows : a.link.faults ≤ c.link.faults
  each : (to : traffic.Address) → list_any (same_address to) (map address_of addresses) ≡ true
      → IsSeen x.d to (added ++ past) ⊎ (list_any (same_address to) few ≡ true)

only_one : (to one : traffic.Address) → list_any (same_address to) (one ∷ []) ≡ true → to ≡ one
only_one to one e = ⊎_elim (λ same. same_is to one same) (λ none. absurd (false≢true none)) (or_cases (same_address to one) false e)

none_given : (x : Setting) (most : ℕ) (past : List Record) (a c : Scene) → c ≡ a → seats.StandsFor x most a.parts.seats past
    → AreDialled x most past [] a c
none_given x most past a c same stands = subst (λ (s : Scene). AreDialled x most past [] a s) (sym same) (record {
  added = [];
  gained = gains_nothing a.link.traffic a.link.traffic refl;
  short = omega arith;
  stands = stands;
  few = [];
  refused = λ tells. omega arith;
  grows = omega arith;
  each = λ to e. absurd (false≢true e);
})

-- an address that was seen before
seen_before : (x : Setting) (most : ℕ) (past : List Record) (address : Address) (a c : Scene) → c ≡ a
    → seats.StandsFor x most a.parts.seats past → IsSeen x.d (address_of address) past → AreDialled x most past (address ∷ []) a c
seen_before x most past address a c same stands seen = subst (λ (s : Scene). AreDialled x most past (address ∷ []) a s) (sym same) (record {
  added = [];
  gained = gains_nothing a.link.traffic a.link.traffic refl;
  short = omega arith;
  stands = stands;
  few = [];
  refused = λ tells. omega arith;
  grows = omega arith;
  each = λ to e. inl (subst (λ (y : traffic.Address). IsSeen x.d y past) (sym (only_one to (address_of address) e)) seen);
})

-- its handshake is one for channel 0
dial_dials : (d swarm : Descriptor) (address : Address) (moment source : ℕ) (bytes : List ℕ) → swarm ≡ d
    → IsDatagram swarm 0 (Handshake source (own_options swarm) ∷ []) bytes → dials d (address_of address) (Sent moment (address_of address) bytes) ≡ true
dial_dials d swarm address moment source bytes same written =
    let r : Record = Sent moment (address_of address) bytes in
    let is = (subst (λ (e : Descriptor). IsDatagram e 0 (Handshake source (own_options e) ∷ []) bytes) same written).read in
    and_from (goes_to (address_of address) r && is_number 0 (read d r).channel) (list_any is_handshake (read d r).messages.read)
    (and_from (goes_to (address_of address) r) (is_number 0 (read d r).channel) (same_self (address_of address))
    (ap (λ (x : Datagram). is_number 0 x.channel) is))
    (ap (λ (x : Datagram). list_any is_handshake x.messages.read) is)

module _ (x : Setting) (most : ℕ) (past : List Record) (address : Address) (a c : Scene) (stands : seats.StandsFor x most a.parts.seats past)
    (room : openings x.d past < 64) where
  tried : (sent : Option Bool) → has_channel a.parts address ≡ false → Tries address sent a c → AreDialled x most past (address ∷ []) a c
  tried None has t = absurd (⊎_elim
      (λ found. both_ways (has_channel a.parts address) has found)
      (λ full.
      let free = free_there a.parts.seats.table stands.standing.seated.are.seats
      (let used = seats_are_opened x most a.parts.seats past stands in omega (arith, used, room)) in
      let both : None ≡ Some free.0 = sym full ∙ free.1 in
      cc)
      t.1.none.why)
  tried (Some true) has t =
      let d = t.1.dials in
      record {
        added = Sent (moment_of a.disk.history) (address_of address) d.bytes ∷ [];
        gained = d.sends.outcome;
        short = omega arith;
        stands = d.stands x most past stands;
        few = [];
        refused = λ tells. (let later = d.sends.later in omega (arith, later));
        grows = d.sends.later;
        each = λ to e. inl (inr (or_left (dials x.d to (Sent (moment_of a.disk.history) (address_of address) d.bytes)) (list_any (dials x.d to) past)
            (subst (λ (y : traffic.Address). dials x.d y (Sent (moment_of a.disk.history) (address_of address) d.bytes) ≡ true)
            (sym (only_one to (address_of address) e))
            (dial_dials x.d a.parts.seats.descriptor address (moment_of a.disk.history) d.source d.bytes stands.swarm d.written))));
      }
  tried (Some false) has t =
      let d = t.1.dials in
      record {
        added = [];
        gained = gains_nothing a.link.traffic c.link.traffic d.sends.outcome.0;
        short = omega arith;
        stands = d.stands x most past stands;
        few = address_of address ∷ [];
        refused = λ tells. (let risen = d.sends.outcome.1 tells in omega (arith, risen));
        grows = d.sends.later;
        each = λ to e. inr e;
      }

  address_dialled : (state : DialState) → StepsDial (undialled address) state a c → AreDialled x most past (address ∷ []) a c
  address_dialled state step = of (has_channel a.parts address) refl step
    where
      of : (b : Bool) → has_channel a.parts address ≡ b → MatchBool b ((c ≡ a) × (state ≡ Seated))
          ((sent : Option Bool) × Tries address sent a c × (state ≡ after_dial a.parts.seats.moment (undialled address).state sent))
          → AreDialled x most past (address ∷ []) a c
      of true has h = seen_before x most past address a c h.0 stands (has_seen x most a.parts.seats past stands address has)
      of false has h = tried h.0 has h.1

-- ---- one after the other

dialled_twice : (x : Setting) (most : ℕ) (past : List Record) (address : Address) (addresses : List Address) (a m c : Scene)
    → (one : AreDialled x most past (address ∷ []) a m) → AreDialled x most (one.added ++ past) addresses m c
    → AreDialled x most past (address ∷ addresses) a c
dialled_twice x most past address addresses a m c one rest = record {
  added = rest.added ++ one.added;
  gained = gains_twice a.link.traffic m.link.traffic c.link.traffic one.added rest.added one.gained rest.gained;
  short = (let first = one.short in let later = rest.short in let sum = length-append rest.added one.added in omega (arith, first, later, sum));
  stands = subst (λ (rs : List Record). seats.StandsFor x most c.parts.seats rs) same rest.stands;
  few = rest.few ++ one.few;
  refused = λ tells.
      (let more = rest.grows in
      let later = rest.refused tells in
      let first = one.refused (omega (arith, more, tells)) in
      let sum = length-append rest.few one.few in
      omega (arith, first, later, sum));
  grows = (let first = one.grows in let later = rest.grows in omega (arith, first, later));
  each = λ to e. ⊎_elim
      (λ here. ⊎_elim
      (λ seen. inl (subst (λ (rs : List Record). IsSeen x.d to rs) same (seen_later x.d to rest.added (one.added ++ past) seen)))
      (λ is. inr (list_any-append (same_address to) rest.few one.few
      ∙ or_right (list_any (same_address to) rest.few) (list_any (same_address to) one.few) is))
      (one.each to (or_left (same_address to (address_of address)) false here)))
      (λ later. ⊎_elim
      (λ seen. inl (subst (λ (rs : List Record). IsSeen x.d to rs) same seen))
      (λ is. inr (list_any-append (same_address to) rest.few one.few
      ∙ or_left (list_any (same_address to) rest.few) (list_any (same_address to) one.few) is))
      (rest.each to later))
      (or_cases (same_address to (address_of address)) (list_any (same_address to) (map address_of addresses)) e);
}
  where
    same : rest.added ++ (one.added ++ past) ≡ (rest.added ++ one.added) ++ past
    same = sym (append_assoc rest.added one.added past)

all_dialled : (x : Setting) (most : ℕ) (addresses : List Address) (lefts : List Dial) (past : List Record) (a c : Scene)
    → DialsEach (map undialled addresses) lefts a c → seats.StandsFor x most a.parts.seats past → openings x.d past + length addresses < 64
    → AreDialled x most past addresses a c
all_dialled x most [] [] past a c h stands room = none_given x most past a c h stands
all_dialled x most [] (left ∷ lefts) past a c h stands room = absurd h
all_dialled x most (address ∷ addresses) [] past a c h stands room = absurd h
all_dialled x most (address ∷ addresses) (left ∷ lefts) past a c h stands room =
    let one = address_dialled x most past address a h.0 stands (omega (arith, room)) left.state h.2 in
    dialled_twice x most past address addresses a h.0 c one
    (all_dialled x most addresses lefts (one.added ++ past) h.0 c h.3 one.stands
    (let sum = openings_twice x.d one.added past in
    let many = count_by-le-length (opens x.d) one.added in
    let short = one.short in
    omega (arith, room, sum, many, short)))

-- ---- a flush

module _ (refused : ℕ) (old new : PeerState) (link later : LinkState) (disk left : DiskState) (course : Sends refused old new link later disk left)
    (b : Beginning) (most : ℕ) (addresses : List Address) (past before : List Record) (stands : StandsFor b most old.parts past)
    (are_new : old.dials ≡ map undialled addresses) (room : openings b.d past + length addresses < 64) (carries : link.traffic ≡ Some before)
    (tells : later.faults < 2 ^ 64 - 1) where
  abbrev s : SendsAll old.dials new.dials old.speaker new.speaker refused (scene old.parts link disk) (scene course.sent later left)
  s = course.sends

  given : StandsFor b most s.given past
  given = s.gives_up.stands b most past (s.drops.stands b most past stands)

  dialled : AreDialled (setting b given.known_of) most past addresses (scene s.given link disk) s.dials_all.0
  dialled = all_dialled (setting b given.known_of) most addresses new.dials past (scene s.given link disk) s.dials_all.0
      (subst (λ (ds : List Dial). DialsEach ds new.dials (scene s.given link disk) s.dials_all.0) are_new s.dials_all.1) given.seats room

  suggested : IsDialling s.dials_all.0 s.dialled
  suggested = all_dialling [] [] s.dials_all.0 s.dials_all.0 s.dialled refl s.dials_all.2

  abbrev others : List Record
  others = (s.serves.flushes.added ++ s.speech.added) ++ suggested.flushes.added

  all_gained : GainsRecords link.traffic (others ++ dialled.added) later.traffic
  all_gained = gains_twice link.traffic s.dials_all.0.link.traffic later.traffic dialled.added others dialled.gained
      (gains_twice s.dials_all.0.link.traffic s.dialled.link.traffic later.traffic suggested.flushes.added
      (s.serves.flushes.added ++ s.speech.added) suggested.flushes.gained
      (gains_twice s.dialled.link.traffic s.said.link.traffic later.traffic s.speech.added s.serves.flushes.added s.speech.gained
      s.serves.flushes.gained))

  seen_then : (to : traffic.Address) → IsSeen b.d to (dialled.added ++ past) → IsSeen b.d to (course.flushes.added ++ past)
  seen_then to seen = subst (λ (rs : List Record). IsSeen b.d to (rs ++ past))
      (sym (gained_alike before course.flushes.added (others ++ dialled.added) link.traffic later.traffic carries course.flushes.gained all_gained))
      (subst (λ (rs : List Record). IsSeen b.d to rs) (sym (append_assoc others dialled.added past))
      (seen_later b.d to others (dialled.added ++ past) seen))

  missed_few : (to : traffic.Address) → IsMissed b.d (map address_of addresses) (course.flushes.added ++ past) to
      → list_any (same_address to) dialled.few ≡ true
  missed_few to m = ⊎_elim
      (λ seen. absurd (⊎_elim
      (λ came. both_ways (list_any (comes_from to) (course.flushes.added ++ past)) m.silent came)
      (λ went. both_ways (list_any (dials b.d to) (course.flushes.added ++ past)) m.undialled went)
      (seen_then to seen)))
      (λ is. is)
      (dialled.each to m.given)

  -- Each address is dialled in the flush, unless it was seen before, but for as many as calls of the link were refused.
  pub flush_dials : MissesFew (later.faults - link.faults) b.d (map address_of addresses) (course.flushes.added ++ past)
  flush_dials = (
    dialled.few,
    (let first = suggested.flushes.later in
        let then = s.speech.later in
        let last = s.serves.flushes.later in
        let many = dialled.refused (omega (arith, first, then, last, tells)) in
        omega (arith, many, first, then, last)),
    missed_few,
  )

-- ---- the first turn of a run

pub misses_more : (few more : ℕ) (d : Descriptor) (addresses : List traffic.Address) (turn : List Record) → few ≤ more
    → MissesFew few d addresses turn → MissesFew more d addresses turn
misses_more few more d addresses turn le m = (m.0, (let low = m.1 in omega (arith, low, le)), m.2)

-- what is missed when more went or came was missed before
missed_before : (d : Descriptor) (addresses : List traffic.Address) (rs turn : List Record) (to : traffic.Address)
    → IsMissed d addresses (rs ++ turn) to → IsMissed d addresses turn to
missed_before d addresses rs turn to m = record {
  given = m.given;
  undialled = (or_parts (list_any (dials d to) rs) (list_any (dials d to) turn) (sym (list_any-append (dials d to) rs turn) ∙ m.undialled)).1;
  silent = (or_parts (list_any (comes_from to) rs) (list_any (comes_from to) turn) (sym (list_any-append (comes_from to) rs turn) ∙ m.silent)).1;
}

pub misses_later : (few : ℕ) (d : Descriptor) (addresses : List traffic.Address) (rs turn : List Record) → MissesFew few d addresses turn
    → MissesFew few d addresses (rs ++ turn)
misses_later few d addresses rs turn m = (m.0, m.1, λ to missed. m.2 to (missed_before d addresses rs turn to missed))

-- What is so of the oldest records of a run, of one turn at the most, is so of the run.
pub dials_but : (r : ℕ) (d : Descriptor) (addresses : List traffic.Address) (farewells rest turn : List Record)
    → AllByRecursion (λ x. is_closing d x ≡ true) farewells → list_any (is_closing d) (rest ++ turn) ≡ false → events turn ≤ 1
    → MissesFew r d addresses turn → DialsBut r d addresses (farewells ++ (rest ++ turn))
dials_but r d addresses farewells rest turn closings none one m =
    let first = first_turn_has d farewells rest turn closings none one in
    let later = misses_later r d addresses first.0 turn m in
    (later.0, later.1, λ to missed. later.2 to (subst (λ (rs : List Record). IsMissed d addresses rs to) first.1 missed))

-- In the first turn each of at most 16 addresses is dialled but that of the first datagram, and but for as many as calls of the link were
-- refused; so it is too where the first wait was refused.
pub first_dials : (refused : ℕ) (old new : PeerState) (link later : LinkState) (disk left : DiskState)
    → (course : Sends refused old new link later disk left) → (b : Beginning) (most : ℕ) (addresses : List Address) (past before : List Record)
    → StandsFor b most old.parts past → old.dials ≡ map undialled addresses → length past ≤ 1 → length addresses ≤ 16
    → link.traffic ≡ Some before → later.faults < 2 ^ 64 - 1
    → MissesFew (later.faults - link.faults) b.d (map address_of addresses) (course.flushes.added ++ past)
first_dials refused old new link later disk left course b most addresses past before stands are_new short few carries tells =
    flush_dials refused old new link later disk left course b most addresses past before stands are_new
    (let opened = count_by-le-length (opens b.d) past in omega (arith, opened, short, few)) carries tells

-- So the run did as is promised of its dials, whatever followed, and whatever closed the channels.
pub run_dials : (refused : ℕ) (old new : PeerState) (link later : LinkState) (disk left : DiskState)
    → (course : Sends refused old new link later disk left) → (b : Beginning) (most : ℕ) (addresses : List Address) (past before : List Record)
    → StandsFor b most old.parts past → old.dials ≡ map undialled addresses → length past ≤ 1 → length addresses ≤ 16
    → link.traffic ≡ Some before → later.faults < 2 ^ 64 - 1 → (r : ℕ) → later.faults - link.faults ≤ r → (farewells rest : List Record)
    → AllByRecursion (λ x. is_closing b.d x ≡ true) farewells
    → list_any (is_closing b.d) (rest ++ (course.flushes.added ++ past)) ≡ false
    → DialsBut r b.d (map address_of addresses) (farewells ++ (rest ++ (course.flushes.added ++ past)))
run_dials refused old new link later disk left course b most addresses past before stands are_new short few carries tells r le farewells rest
    closings none =
    dials_but r b.d (map address_of addresses) farewells rest (course.flushes.added ++ past) closings none
    (let sent = sent_events old.parts.seats.descriptor (moment_of disk.history) course.flushes.added past course.flushes.ours in
    let once = events_few past in
    omega (arith, sent, once, short))
    (misses_more (later.faults - link.faults) r b.d (map address_of addresses) (course.flushes.added ++ past) le
    (first_dials refused old new link later disk left course b most addresses past before stands are_new short few carries tells))
