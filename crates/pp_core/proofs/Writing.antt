-- On each plain channel a datagram went lately, once all was sent, in the words of the promises.
use Rattle.std.proofs.Common.{◌≡◌, ◌⊎◌, inl, inr, ⊎_elim, ℕ, ◌+◌, ◌-◌, ◌<◌, ◌≤◌, leb, ltb, eqb, Bool, true, false, cond, not, ◌&&◌, ◌||◌, Option, Some, None, List, [], ◌∷◌, ◌++◌, length, refl, sym, ◌∙◌, ap, subst, arith}
use Rattle.std.specs.Prelude.{MatchBool, unwrap_or}
use Rattle.std.specs.List.{AllByRecursion, list_any}
use Rattle.std.proofs.lemmas.Bool.{cases_Bool, both_ways, false≢true, cond-true, cond-false, or_left, or_right, or_cases, or_parts, and_parts, and_from, le-leb, leb-true, leb-false, lt-ltb, ltb-true, eq-eqb}
use Rattle.std.proofs.lemmas.List.{append_cancel_right, length-append}
use Rattle.std.proofs.lemmas.Option.{same_Some}
use Rattle.pp_terms.specs.Count.{HasRisen}
use Rattle.pp_terms.specs.disk.Disk.{DiskState, moment_of}
use Rattle.pp_terms.specs.format.Descriptor.{Descriptor}
use Rattle.pp_terms.specs.format.Messages.{Datagram, Message, Handshake, Data, Ack, Have, Integrity, Pex4, PexReq, Request, Cancel, Choke, Unchoke, Pex6}
use Rattle.pp_terms.specs.format.Traffic.{Address, same_address, Record, Received, Quiet, Sent, LinkState, GainsRecords}
use Rattle.pp_traffic.specs.Life.{Life, greets, answers, begins_as, comes_on, closes_on, shakes_on}
use Rattle.pp_traffic.specs.Past.{now, now_at, read, comes_from, goes_to, is_event, is_number, some_since, some_until}
use Rattle.pp_traffic.specs.Plain.{concerns, first_since, heard_at, is_in_time, is_timely, IsPlainDial, IsPlainAnswer, IsPlainNow}
use Rattle.pp_traffic.proofs.Awaited.{plain_began}
use Rattle.pp_traffic.proofs.Plains.{none_from_end, at_either, first_either, plain_answered, answered_plain, answered_before}
use Rattle.pp_traffic.proofs.Standing.{found_since}
use Rattle.pp_promises.specs.Answered.{is_of, writes_on, wrote_lately, KeepsUp}
use Rattle.pp_outside.specs.Outside.{address_of}
use Rattle.pp_channels.specs.Seats.{is_dialled}
use Rattle.pp_channels.specs.Timing.{is_greeted, is_silent}
use Rattle.pp_channels.specs.declared.channel.Channel.{Channel}
use Rattle.pp_lives.specs.Reading.{is_waiting, is_proven, shows}
use Rattle.pp_lives.proofs.Plainly.{in_time}
use Rattle.pp_lives.proofs.Sent.{same_self}
use Rattle.pp_lives.proofs.Telling.{now_later}
use Rattle.pp_peer.specs.Flushing.{IsOurs}
use Rattle.pp_peer.specs.Standing.{Beginning, StandsFor}
use Rattle.pp_core.specs.Peers.{PeerState}
use Rattle.pp_core.specs.Remembering.{wrote_from, KeepsWrote}
use Rattle.pp_core.specs.Telling.{Tells, end_of}
use Rattle.pp_core.specs.Turning.{scene, Sends}
use Rattle.pp_core.proofs.Plain.{stands_there, begun_there, proven_there}
use Rattle.pp_core.proofs.Served.{risen_or, plain_begun}
use Rattle.pp_core.proofs.Told.{greeted}

-- ---- moments

now_grows : (r : Record) (past : List Record) → now past ≤ now (r ∷ past)
now_grows (Received at sender bytes) past = omega arith
now_grows (Quiet at) past = omega arith
now_grows (Sent moment receiver bytes) past = omega arith

now_at_low : (place : ℕ) (past : List Record) → now_at place past ≤ now past
now_at_low place [] = omega arith
now_at_low place (r ∷ past) = ⊎_elim
    (λ here. let e = cond-true (eqb place (length past)) (now (r ∷ past)) (now_at place past) here in omega (arith, e))
    (λ later.
    let e = cond-false (eqb place (length past)) (now (r ∷ past)) (now_at place past) later in
    let low = now_at_low place past in
    let grows = now_grows r past in
    omega (arith, e, low, grows))
    (cases_Bool (eqb place (length past)))

-- records that this peer sent leave the moment
sent_now : (d : Descriptor) (moment : ℕ) (r : Record) (past : List Record) → IsOurs d moment r → now (r ∷ past) ≡ now past
sent_now d moment r past ours = ap (λ (x : Record). now (x ∷ past)) ours.is

pub all_now : (d : Descriptor) (moment : ℕ) (rs past : List Record) → AllByRecursion (IsOurs d moment) rs → now (rs ++ past) ≡ now past
all_now d moment [] past all = refl
all_now d moment (r ∷ rs) past all = sent_now d moment r (rs ++ past) all.0 ∙ all_now d moment rs past all.1

-- ---- what was written lately

pub lately_more : (d : Descriptor) (life : Life) (latest : ℕ) (rs past : List Record) → wrote_lately d life latest past ≡ true
    → wrote_lately d life latest (rs ++ past) ≡ true
lately_more d life latest [] past e = e
lately_more d life latest (r ∷ rs) past e = or_right (writes_on d life r && ltb latest (now (r ∷ (rs ++ past)) + 120000000))
    (wrote_lately d life latest (rs ++ past)) (lately_more d life latest rs past e)

-- one of the records that were sent
pub lately_any : (d other : Descriptor) (life : Life) (moment : ℕ) (rs past : List Record) → AllByRecursion (IsOurs other moment) rs
    → list_any (writes_on d life) rs ≡ true → wrote_lately d life (now past) (rs ++ past) ≡ true
lately_any d other life moment [] past all e = absurd (false≢true e)
lately_any d other life moment (r ∷ rs) past all e = ⊎_elim
    (λ here. or_left (writes_on d life r && ltb (now past) (now (r ∷ (rs ++ past)) + 120000000)) (wrote_lately d life (now past) (rs ++ past))
    (and_from (writes_on d life r) (ltb (now past) (now (r ∷ (rs ++ past)) + 120000000)) here
    (lt-ltb (now past) (now (r ∷ (rs ++ past)) + 120000000)
    (let same = all_now other moment (r ∷ rs) past all in omega (arith, same)))))
    (λ later. or_right (writes_on d life r && ltb (now past) (now (r ∷ (rs ++ past)) + 120000000)) (wrote_lately d life (now past) (rs ++ past))
    (lately_any d other life moment rs past all.1 later))
    (or_cases (writes_on d life r) (list_any (writes_on d life) rs) e)

lately_from : (d : Descriptor) (life : Life) (moment latest : ℕ) (past : List Record) → latest < moment + 120000000
    → wrote_from d life moment past ≡ true → wrote_lately d life latest past ≡ true
lately_from d life moment latest [] lt e = absurd (false≢true e)
lately_from d life moment latest (r ∷ past) lt e = ⊎_elim
    (λ here.
    let parts = and_parts (writes_on d life r) (leb moment (now (r ∷ past))) here in
    let le = leb-true moment (now (r ∷ past)) parts.1 in
    or_left (writes_on d life r && ltb latest (now (r ∷ past) + 120000000)) (wrote_lately d life latest past)
    (and_from (writes_on d life r) (ltb latest (now (r ∷ past) + 120000000)) parts.0
    (lt-ltb latest (now (r ∷ past) + 120000000) (omega (arith, lt, le)))))
    (λ later. or_right (writes_on d life r && ltb latest (now (r ∷ past) + 120000000)) (wrote_lately d life latest past)
    (lately_from d life moment latest past lt later))
    (or_cases (writes_on d life r && leb moment (now (r ∷ past))) (wrote_from d life moment past) e)

-- one since a place was written at that place's moment or later
pub since_from : (d : Descriptor) (life : Life) (test : Record → Bool) (place : ℕ) (past : List Record)
    → ((r : Record) → test r ≡ true → writes_on d life r ≡ true) → some_since test place past ≡ true
    → wrote_from d life (now_at place past) past ≡ true
since_from d life test place [] writes e = absurd (false≢true e)
since_from d life test place (r ∷ past) writes e = ⊎_elim
    (λ here. or_left (writes_on d life r && leb (now_at place (r ∷ past)) (now (r ∷ past))) (wrote_from d life (now_at place (r ∷ past)) past)
    (and_from (writes_on d life r) (leb (now_at place (r ∷ past)) (now (r ∷ past)))
    (writes r (and_parts (leb place (length past)) (test r) here).1)
    (le-leb (now_at place (r ∷ past)) (now (r ∷ past)) (now_at_low place (r ∷ past)))))
    (λ earlier.
    let s = found_since test place past earlier in
    let lt : place < length past = omega (arith, s.place, ap length s.split, length-append s.after (s.here ∷ s.before)) in
    or_right (writes_on d life r && leb (now_at place (r ∷ past)) (now (r ∷ past))) (wrote_from d life (now_at place (r ∷ past)) past)
    (subst (λ (n : ℕ). wrote_from d life n past ≡ true) (sym (now_later place r past lt)) (since_from d life test place past writes earlier)))
    (or_cases (leb place (length past) && test r) (some_since test place past) e)

-- ---- handshakes

pub begins_of : (number : ℕ) (ms : List Message) → begins_as number ms ≡ true → list_any (is_of number) ms ≡ true
begins_of number [] e = absurd (false≢true e)
begins_of number (Handshake source options ∷ ms) e = or_left (eqb source number) (list_any (is_of number) ms) e
begins_of number (Data chunk sent_at bytes ∷ ms) e = absurd (false≢true e)
begins_of number (Ack span delay ∷ ms) e = absurd (false≢true e)
begins_of number (Have span ∷ ms) e = absurd (false≢true e)
begins_of number (Integrity span digest ∷ ms) e = absurd (false≢true e)
begins_of number (Pex4 address port ∷ ms) e = absurd (false≢true e)
begins_of number (PexReq ∷ ms) e = absurd (false≢true e)
begins_of number (Request span ∷ ms) e = absurd (false≢true e)
begins_of number (Cancel span ∷ ms) e = absurd (false≢true e)
begins_of number (Choke ∷ ms) e = absurd (false≢true e)
begins_of number (Unchoke ∷ ms) e = absurd (false≢true e)
begins_of number (Pex6 address port ∷ ms) e = absurd (false≢true e)

answer_writes : (d : Descriptor) (life : Life) (r : Record) → answers d life r ≡ true → writes_on d life r ≡ true
answer_writes d life r e =
    let it = read d r in
    let outer = and_parts (goes_to life.address r && is_number (cond life.is_dialled 0 life.remote) it.channel)
    (begins_as life.local it.messages.read) e in
    let inner = and_parts (goes_to life.address r) (is_number (cond life.is_dialled 0 life.remote) it.channel) outer.0 in
    and_from (goes_to life.address r) (is_number life.remote it.channel || list_any (is_of life.local) it.messages.read) inner.0
    (or_right (is_number life.remote it.channel) (list_any (is_of life.local) it.messages.read) (begins_of life.local it.messages.read outer.1))

-- ---- a plain channel before records were sent

pub plain_sent : (d : Descriptor) (life : Life) (r : Record) (past : List Record) → ((a : Address) → comes_from a r ≡ false)
    → IsPlainNow d life (r ∷ past)
    → IsPlainNow d life past ⊎ ((answers d life r ≡ true) × (some_since (goes_to life.address) life.opening past ≡ false))
plain_sent d life r past silent is = ⊎_elim
    (λ dialled.
    let begins = subst (λ (b : Bool). MatchBool b (IsPlainDial d life (r ∷ past) (r ∷ past)) (IsPlainAnswer d life (r ∷ past))) dialled is.begins in
    ⊎_elim
    (λ here. inr (here.1, none_from_end (goes_to life.address) life.opening past (let e = here.0 in omega (arith, e))))
    (λ before. inl (record {
      local_some = is.local_some;
      remote_some = is.remote_some;
      fresh = (or_parts (ltb (length past) life.opening && concerns life.address r)
          (some_until (concerns life.address) life.opening past) is.fresh).1;
      begins = subst (λ (b : Bool). MatchBool b (IsPlainDial d life past past) (IsPlainAnswer d life past)) (sym dialled)
          (let dial : IsPlainDial d life past past = record { opened = before; replied = replied begins.replied } in dial);
      open_still = (or_parts (leb life.opening (length past) && closes_on d life r)
          (some_since (closes_on d life) life.opening past) is.open_still).1;
      timely = (and_parts
          (not (is_event r && ltb life.opening (length past)) || is_in_time (now_at life.opening past) (heard_at d life (r ∷ past)) (now (r ∷ past)))
          (is_timely d life past) is.timely).1;
    }))
    (at_either (answers d life) life.opening r past begins.opened))
    (λ answered. ⊎_elim
    (λ before. inl (answered_plain d life past before))
    (λ reply. inr (reply.is_answer, reply.none_sent))
    (answered_before d life r past (plain_answered d life (r ∷ past) answered is)))
    (cases_Bool life.is_dialled)
  where
    replied : first_since (comes_from life.address) (greets d life) 0 (r ∷ past) ≡ true
        → first_since (comes_from life.address) (greets d life) 0 past ≡ true
    replied e = ⊎_elim (λ first. first) (λ new. absurd (both_ways (comes_from life.address r) (silent life.address) new.2))
        (first_either (comes_from life.address) (greets d life) 0 r past e)

-- before all of them it was plain, or one of them is written on it
pub plain_since : (d other : Descriptor) (life : Life) (moment : ℕ) (rs past : List Record) → AllByRecursion (IsOurs other moment) rs
    → IsPlainNow d life (rs ++ past) → IsPlainNow d life past ⊎ (list_any (writes_on d life) rs ≡ true)
plain_since d other life moment [] past all is = inl is
plain_since d other life moment (r ∷ rs) past all is = ⊎_elim
    (λ before. ⊎_elim (λ plain. inl plain)
    (λ some. inr (or_right (writes_on d life r) (list_any (writes_on d life) rs) some))
    (plain_since d other life moment rs past all.1 before))
    (λ answer. inr (or_left (writes_on d life r) (list_any (writes_on d life) rs) (answer_writes d life r answer.0)))
    (plain_sent d life r (rs ++ past) (λ a. ap (λ (x : Record). comes_from a x) all.0.is) is)

-- ---- a channel on which nothing came yet

heard_never : (d : Descriptor) (life : Life) (past : List Record) → some_since (comes_on d life) life.opening past ≡ false
    → heard_at d life past ≡ None
heard_never d life [] e = refl
heard_never d life (r ∷ past) e =
    let parts = or_parts (leb life.opening (length past) && comes_on d life r) (some_since (comes_on d life) life.opening past) e in
    ⊎_elim
    (λ both.
    let b = and_parts (ltb life.opening (length past)) (comes_on d life r) both in
    let lt = ltb-true life.opening (length past) b.0 in
    absurd (both_ways (leb life.opening (length past) && comes_on d life r) parts.0
    (and_from (leb life.opening (length past)) (comes_on d life r) (le-leb life.opening (length past) (omega (arith, lt))) b.1)))
    (λ none. cond-false (ltb life.opening (length past) && comes_on d life r) (Some (now (r ∷ past))) (heard_at d life past) none
    ∙ heard_never d life past parts.1)
    (cases_Bool (ltb life.opening (length past) && comes_on d life r))

pub answered_shows : (d : Descriptor) (life : Life) (past : List Record) → life.is_dialled ≡ false → some_since (shows d life) life.opening past ≡ false
    → some_since (comes_on d life) life.opening past ≡ false
answered_shows d life past answered none =
    subst (λ (b : Bool). some_since (λ r. cond b (shakes_on d life r) (comes_on d life r)) life.opening past ≡ false) answered none

-- a channel on which nothing came is younger than ten seconds, and this peer's handshake went there
early_wrote : (d : Descriptor) (life : Life) (past : List Record) → IsPlainNow d life past → heard_at d life past ≡ None
    → wrote_lately d life (now past) past ≡ true
early_wrote d life past plain never =
    let early = ltb-true (now past) (now_at life.opening past + 10000000)
    (ap (λ (o : Option ℕ). is_in_time (now_at life.opening past) o (now past)) (sym never)
    ∙ in_time d life past (plain_began d life past past plain) plain.timely) in
    lately_from d life (now_at life.opening past) (now past) past (omega (arith, early))
    (since_from d life (answers d life) life.opening past (answer_writes d life) (plain_begun d life past plain))

-- ---- a datagram that was told

pub any_amid : (test : Record → Bool) (newer : List Record) (r : Record) (older : List Record) → test r ≡ true
    → list_any test (newer ++ r ∷ older) ≡ true
any_amid test [] r older e = or_left (test r) (list_any test older) e
any_amid test (x ∷ newer) r older e = or_right (test x) (list_any test (newer ++ r ∷ older)) (any_amid test newer r older e)

-- what the link gained is what was added
pub gained_alike : (before added others : List Record) (link later : Option (List Record)) → link ≡ Some before → GainsRecords link added later
    → GainsRecords link others later → added ≡ others
gained_alike before added others link later is one two =
    let first = subst (λ (o : Option (List Record)). GainsRecords o added later) is one in
    let second = subst (λ (o : Option (List Record)). GainsRecords o others later) is two in
    append_cancel_right added others before (same_Some (added ++ before) (others ++ before) (sym first ∙ second))

told_writes : (d : Descriptor) (c : Channel) (life : Life) (says : List Message → Type 0) (added before : List Record) (link later : LinkState)
    → link.traffic ≡ Some before → GainsRecords link.traffic added later.traffic → life.address ≡ address_of c.address
    → (end_of c).number ≡ life.remote → Tells d (end_of c) says link later → list_any (writes_on d life) added ≡ true
told_writes d c life says added before link later is gained address number t =
    subst (λ (rs : List Record). list_any (writes_on d life) rs ≡ true)
    (sym (gained_alike before added (t.newer ++ Sent t.moment (address_of c.address) t.bytes ∷ t.older) link.traffic later.traffic is
    gained t.gained))
    (any_amid (writes_on d life) t.newer (Sent t.moment (address_of c.address) t.bytes) t.older
    (and_from (same_address (address_of c.address) life.address)
    (is_number life.remote (read d (Sent t.moment (address_of c.address) t.bytes)).channel
    || list_any (is_of life.local) (read d (Sent t.moment (address_of c.address) t.bytes)).messages.read)
    (subst (λ (a : Address). same_address (address_of c.address) a ≡ true) (sym address) (same_self (address_of c.address)))
    (or_left (is_number life.remote (read d (Sent t.moment (address_of c.address) t.bytes)).channel)
    (list_any (is_of life.local) (read d (Sent t.moment (address_of c.address) t.bytes)).messages.read)
    (ap (λ (x : Datagram). is_number life.remote x.channel) t.written.read ∙ eq-eqb (end_of c).number life.remote number))))

-- ---- a flush

pub known_number : (waits : Bool) (o : Option ℕ) (number : ℕ) → waits ≡ false → o ≡ Some number → cond waits 0 (unwrap_or o 0) ≡ number
known_number true o number e is = absurd (false≢true (sym e))
known_number false o number e is = ap (λ (x : Option ℕ). unwrap_or x 0) is

pub answered_waits : (dialled still : Bool) → (dialled && still) ≡ false → not still ≡ false → dialled ≡ false
answered_waits true true e f = e
answered_waits true false e f = f
answered_waits false still e f = refl

some_weaker : (test more : Record → Bool) (place : ℕ) (past : List Record) → ((r : Record) → test r ≡ true → more r ≡ true)
    → some_since test place past ≡ true → some_since more place past ≡ true
some_weaker test more place [] weaker e = absurd (false≢true e)
some_weaker test more place (r ∷ past) weaker e = ⊎_elim
    (λ here.
    let parts = and_parts (leb place (length past)) (test r) here in
    or_left (leb place (length past) && more r) (some_since more place past)
    (and_from (leb place (length past)) (more r) parts.0 (weaker r parts.1)))
    (λ earlier. or_right (leb place (length past) && more r) (some_since more place past) (some_weaker test more place past weaker earlier))
    (or_cases (leb place (length past) && test r) (some_since test place past) e)

shows_comes : (d : Descriptor) (life : Life) (dialled : Bool) (r : Record) → cond dialled (shakes_on d life r) (comes_on d life r) ≡ true
    → comes_on d life r ≡ true
shows_comes d life true r e = (and_parts (comes_on d life r) _ e).0
shows_comes d life false r e = e

-- Where it is kept when datagrams last went, one went lately on each plain channel, unless the link refused one.
pub flush_keeps_up : (refused : ℕ) (old new : PeerState) (link later : LinkState) (disk left : DiskState)
    → (course : Sends refused old new link later disk left) → (b : Beginning) (most : ℕ) (past before : List Record)
    → StandsFor b most old.parts past → KeepsWrote b.d old.parts past → link.traffic ≡ Some before
    → KeepsUp b.d (course.flushes.added ++ past) ⊎ HasRisen link.faults later.faults
flush_keeps_up refused old new link later disk left course b most past before stands wrote carries =
    ⊎_elim (λ risen. inr risen)
    (λ none. inl (λ life is.
    subst (λ (n : ℕ). wrote_lately b.d life n (added ++ past) ≡ true)
    (sym (all_now old.parts.seats.descriptor (moment_of disk.history) added past ours))
    (⊎_elim
    (λ plain. on life plain none)
    (λ some. lately_any b.d old.parts.seats.descriptor life (moment_of disk.history) added past ours some)
    (plain_since b.d old.parts.seats.descriptor life (moment_of disk.history) added past ours is))))
    (risen_or link.faults later.faults)
  where
    added : List Record
    added = course.flushes.added

    ours : AllByRecursion (IsOurs old.parts.seats.descriptor (moment_of disk.history)) added
    ours = course.flushes.ours

    same_swarm : (d : Descriptor) (c : Channel) → old.parts.seats.descriptor ≡ d
        → Tells old.parts.seats.descriptor (end_of c) (λ messages. Unit {0}) link later → Tells d (end_of c) (λ messages. Unit {0}) link later
    same_swarm d c same t = subst (λ (x : Descriptor). Tells x (end_of c) (λ messages. Unit {0}) link later) same t

    on : (life : Life) → IsPlainNow b.d life past → (HasRisen link.faults later.faults → ⊥)
        → wrote_lately b.d life (now past) (added ++ past) ≡ true
    on life plain none =
        let hs = stands.seats.standing.plains.plain life plain in
        let c = hs.channel in
        let there = stands_there refused old new link later disk left course b most past stands life plain in
        let begun = begun_there refused old new link later disk left course b most past stands life plain in
        let remote = (there.remote hs.known).0 in
        ⊎_elim
        (λ proven.
        let heard = some_weaker (shows b.d life) (comes_on b.d life) life.opening past (shows_comes b.d life life.is_dialled)
        (sym there.goes.proven ∙ proven) in
        let is = proven_there refused old new link later disk left course b most past stands life plain heard in
        ⊎_elim
        (λ silent. ⊎_elim
        (λ told. lately_any b.d old.parts.seats.descriptor life (moment_of disk.history) added past ours
        (told_writes b.d c life (λ messages. Unit {0}) added before link later carries course.flushes.gained there.address
        (known_number (is_waiting c) c.remote life.remote hs.known remote)
        (same_swarm b.d c stands.seats.swarm told)))
        (λ risen. absurd (none risen))
        ((greeted old.dials new.dials old.speaker new.speaker refused (scene old.parts link disk) (scene course.sent later left) course.sends).silent
        hs.seat c is (inl silent)))
        (λ lately. lately_more b.d life (now past) added past (lately_from b.d life c.wrote (now past) past
        (let lt = leb-false 120000000 (old.parts.seats.moment - c.wrote)
        (or_parts (leb 120000000 (old.parts.seats.moment - c.wrote)) _ lately).0 in
        let at = stands.seats.now_is in
        omega (arith, lt, at))
        (wrote hs.seat c life hs.there begun there.address there.local (inr remote))))
        (cases_Bool (is_silent old.parts.seats.moment c)))
        (λ unproven. lately_more b.d life (now past) added past (early_wrote b.d life past plain
        (heard_never b.d life past (answered_shows b.d life past
        (there.dialled ∙ answered_waits (is_dialled c.opening) (is_greeted c.state) hs.known unproven)
        (sym there.goes.proven ∙ unproven)))))
        (cases_Bool (is_proven c))
