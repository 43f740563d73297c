-- A channel that is plain once all was sent, and whose peer has written, was plain before.
use Rattle.std.proofs.Common.{◌≡◌, ◌⊎◌, inl, inr, ⊎_elim, ℕ, ◌+◌, ◌<◌, ◌≤◌, leb, ltb, Bool, true, false, cond, not, ◌&&◌, Option, Some, List, [], ◌∷◌, ◌++◌, length, refl, sym, ◌∙◌, ap, subst, arith}
use Rattle.std.specs.Prelude.{unwrap_or}
use Rattle.std.specs.List.{AllByRecursion}
use Rattle.std.proofs.lemmas.Bool.{cases_Bool, cases_lt, both_ways, false≢true, or_right, or_cases, or_parts, and_parts}
use Rattle.pp_terms.specs.disk.Disk.{DiskState, moment_of}
use Rattle.pp_terms.specs.format.Descriptor.{Descriptor}
use Rattle.pp_terms.specs.format.Traffic.{Address, Record, LinkState}
use Rattle.pp_traffic.specs.Asking.{is_heard}
use Rattle.pp_traffic.specs.Life.{Life, answers, begins_as, comes_on, shakes_on}
use Rattle.pp_traffic.specs.Past.{read, comes_from, goes_to, is_number, some_since, some_until}
use Rattle.pp_traffic.specs.Plain.{concerns, IsPlainNow}
use Rattle.pp_traffic.proofs.Standing.{found_since, stands_since, stands_until}
use Rattle.pp_outside.specs.Outside.{address_of}
use Rattle.pp_channels.specs.Seats.{channel_at, is_begun, is_dialled}
use Rattle.pp_channels.specs.Timing.{is_greeted}
use Rattle.pp_channels.specs.declared.channel.Channel.{Channel}
use Rattle.pp_lives.specs.Fars.{far_of}
use Rattle.pp_lives.specs.Reading.{is_waiting, is_proven}
use Rattle.pp_lives.specs.Standing.{Stands, StandsAt, HasSeat}
use Rattle.pp_lives.specs.declared.lives.Far.{Far}
use Rattle.pp_seats.proofs.Outgoing.{far_is}
use Rattle.pp_peer.specs.Flushing.{IsOurs}
use Rattle.pp_peer.specs.Standing.{Beginning, StandsFor}
use Rattle.pp_core.specs.Peers.{PeerState}
use Rattle.pp_core.specs.Turning.{scene, Sends}
use Rattle.pp_core.proofs.Fars.{WasBegun, flush_far}
use Rattle.pp_core.proofs.Leaving.{lives_at}
use Rattle.pp_core.proofs.Served.{in_list, known_far, plain_begun}
use Rattle.pp_core.proofs.Writing.{plain_sent}

-- ---- which channels were plain before

none_before : (test : Record → Bool) (place : ℕ) (rs past : List Record) → some_since test place (rs ++ past) ≡ false
    → some_since test place past ≡ false
none_before test place [] past e = e
none_before test place (r ∷ rs) past e =
    none_before test place rs past (or_parts (leb place (length (rs ++ past)) && test r) (some_since test place (rs ++ past)) e).1

pub fresh_before : (test : Record → Bool) (place : ℕ) (rs past : List Record) → some_until test place (rs ++ past) ≡ false
    → some_until test place past ≡ false
fresh_before test place [] past e = e
fresh_before test place (r ∷ rs) past e =
    fresh_before test place rs past (or_parts (ltb (length (rs ++ past)) place && test r) (some_until test place (rs ++ past)) e).1

pub heard_before : (d other : Descriptor) (moment : ℕ) (life : Life) (rs past : List Record) → AllByRecursion (IsOurs other moment) rs
    → is_heard d life (rs ++ past) ≡ true → is_heard d life past ≡ true
heard_before d other moment life [] past all e = e
heard_before d other moment life (r ∷ rs) past all e = ⊎_elim
    (λ here.
    let comes = (and_parts (leb life.opening (length (rs ++ past))) (comes_on d life r) here).1 in
    let from = (and_parts (comes_from life.address r) (is_number life.local (read d r).channel) comes).0 in
    absurd (both_ways (comes_from life.address r) (ap (λ (x : Record). comes_from life.address x) all.0.is) from))
    (λ later. heard_before d other moment life rs past all.1 later)
    (or_cases (leb life.opening (length (rs ++ past)) && comes_on d life r) (is_heard d life (rs ++ past)) e)

-- before records were sent it was plain, or nothing had gone to its address since its opening
pub plain_gone : (d other : Descriptor) (moment : ℕ) (life : Life) (rs past : List Record) → AllByRecursion (IsOurs other moment) rs
    → IsPlainNow d life (rs ++ past) → IsPlainNow d life past ⊎ (some_since (goes_to life.address) life.opening past ≡ false)
plain_gone d other moment life [] past all is = inl is
plain_gone d other moment life (r ∷ rs) past all is = ⊎_elim
    (λ before. plain_gone d other moment life rs past all.1 before)
    (λ new. inr (none_before (goes_to life.address) life.opening rs past new.1))
    (plain_sent d life r (rs ++ past) (λ a. ap (λ (x : Record). comes_from a x) all.0.is) is)

proven_dialled : (dialled still : Bool) → (dialled && still) ≡ false → dialled ≡ true → not still ≡ true
proven_dialled true true e is = absurd (false≢true (sym e))
proven_dialled true false e is = refl
proven_dialled false still e is = absurd (false≢true is)

-- a channel whose peer is known and has written is proven
proven_now : (d : Descriptor) (c : Channel) (life : Life) (past : List Record) → Stands d c life past → is_waiting c ≡ false
    → is_heard d life past ≡ true → is_proven c ≡ true
proven_now d c life past s known heard = ⊎_elim
    (λ dialled. proven_dialled (is_dialled c.opening) (is_greeted c.state) known (sym s.dialled ∙ dialled))
    (λ answered. s.goes.proven ∙ subst (λ (b : Bool). some_since (λ r. cond b (shakes_on d life r) (comes_on d life r)) life.opening past ≡ true)
    (sym answered) heard)
    (cases_Bool life.is_dialled)

-- what went to an address went since the channel's opening
pub goes_since : (d : Descriptor) (l life : Life) (past : List Record) → l.address ≡ life.address → some_since (answers d l) l.opening past ≡ true
    → some_until (concerns life.address) life.opening past ≡ false → some_since (goes_to life.address) life.opening past ≡ true
goes_since d l life past same answered fresh =
    let s = found_since (answers d l) l.opening past answered in
    let outer = and_parts (goes_to l.address s.here && is_number (cond l.is_dialled 0 l.remote) (read d s.here).channel)
    (begins_as l.local (read d s.here).messages.read) s.passes in
    let goes = subst (λ (a : Address). goes_to a s.here ≡ true) same
    (and_parts (goes_to l.address s.here) (is_number (cond l.is_dialled 0 l.remote) (read d s.here).channel) outer.0).0 in
    ⊎_elim
    (λ early. absurd (both_ways (some_until (concerns life.address) life.opening past) fresh
    (stands_until (concerns life.address) life.opening past (record {
      after = s.after;
      here = s.here;
      before = s.before;
      split = s.split;
      place = early;
      passes = or_right (comes_from life.address s.here) (goes_to life.address s.here) goes;
    }))))
    (λ late. stands_since (goes_to life.address) life.opening past
    (record { after = s.after; here = s.here; before = s.before; split = s.split; place = late; passes = goes }))
    (cases_lt (length s.before) life.opening)

module _ (refused : ℕ) (old new : PeerState) (link later : LinkState) (disk left : DiskState) (course : Sends refused old new link later disk left)
    (b : Beginning) (most : ℕ) (past : List Record) (since : b.since ≤ moment_of disk.history) (stands : StandsFor b most old.parts past)
    (life : Life) (plain : IsPlainNow b.d life (course.flushes.added ++ past)) (heard : is_heard b.d life (course.flushes.added ++ past) ≡ true) where
  then : StandsFor b (most + refused) course.sent (course.flushes.added ++ past)
  then = course.flushes.stands b most past since stands

  abbrev hs : HasSeat course.sent.seats.table then.seats.lives life
  hs = then.seats.standing.plains.plain life plain

  st : Stands b.d hs.channel life (course.flushes.added ++ past)
  st = subst (λ (o : Option Life). StandsAt b.d (Some hs.channel) o (course.flushes.added ++ past)) hs.lives_there
      (subst (λ (o : Option Channel). StandsAt b.d o (then.seats.lives hs.seat) (course.flushes.added ++ past)) hs.there
      (then.seats.standing.seated.each hs.seat))

  abbrev far : Far
  far = record {
    address = hs.channel.address;
    number = unwrap_or hs.channel.remote 0;
    proven = is_proven hs.channel;
    begun = is_begun hs.channel.opening;
  }

  low : hs.seat < 64
  low = let lt = in_list course.sent.seats.table.channels hs.seat hs.channel hs.there in
      let size = then.seats.standing.seated.are.seats in
      omega (arith, lt, size)

  was : WasBegun (channel_at old.parts.seats.table hs.seat) far
  was = flush_far hs.seat old.dials new.dials old.speaker new.speaker refused (scene old.parts link disk) (scene course.sent later left)
      course.sends low far (ap far_of hs.there ∙ known_far (is_waiting hs.channel) far hs.known)
      (st.goes.has_begun ∙ plain_begun b.d life (course.flushes.added ++ past) plain)
      (proven_now b.d hs.channel life (course.flushes.added ++ past) st hs.known heard)

  gone : some_since (goes_to life.address) life.opening past ≡ false → ⊥
  gone none =
      let f = far_is (channel_at old.parts.seats.table hs.seat) was.came.old was.came.is_old in
      let at = subst (λ (o : Option Channel). StandsAt b.d o (stands.seats.lives hs.seat) past) f.there
      (stands.seats.standing.seated.each hs.seat) in
      let l = lives_at b.d f.channel (stands.seats.lives hs.seat) past at f.known in
      let so : Stands b.d f.channel l.0 past = subst (λ (o : Option Life). StandsAt b.d (Some f.channel) o past) l.1 at in
      both_ways (some_since (goes_to life.address) life.opening past) none
      (goes_since b.d l.0 life past
      (so.address ∙ ap address_of (sym (ap (λ (x : Far). x.address) f.is) ∙ was.came.address) ∙ sym st.address)
      (sym so.goes.has_begun ∙ sym (ap (λ (x : Far). x.begun) f.is) ∙ was.begun)
      (fresh_before (concerns life.address) life.opening course.flushes.added past plain.fresh))

  -- a plain channel whose peer has written was plain before the flush
  pub plain_then : IsPlainNow b.d life past
  plain_then = ⊎_elim (λ before. before) (λ none. absurd (gone none))
      (plain_gone b.d old.parts.seats.descriptor (moment_of disk.history) life course.flushes.added past course.flushes.ours plain)
