-- What a record makes of one seat, and what looking up makes of it then.
use Rattle.std.proofs.Common.{◌≡◌, inl, ℕ, ◌<◌, ◌≤◌, leb, Bool, true, false, cond, not, ◌&&◌, List, [], ◌∷◌, length, drop, refl, sym, ◌∙◌, ap, subst, arith}
use Rattle.std.proofs.lemmas.Bool.{and_from, or_left, cond-true, le-leb}
use Rattle.pp_terms.specs.format.Traffic.{Record, Received, Quiet, Sent}
use Rattle.pp_terms.specs.format.Traffic as traffic
use Rattle.pp_terms.specs.format.Descriptor.{Descriptor, chunks_of}
use Rattle.pp_terms.specs.format.Messages.{Message}
use Rattle.pp_traffic.specs.Past.{now, read, some_since, is_event}
use Rattle.pp_traffic.specs.Life.{Life, greets, comes_on}
use Rattle.pp_traffic.specs.Story.{Line, Taken, heard_in}
use Rattle.pp_traffic.specs.Asking.{is_heard}
use Rattle.pp_traffic.proofs.Plains.{none_from_end}
use Rattle.pp_promises.specs.ReadStory.{is_read, read_story}
use Rattle.pp_lives.specs.Arrived.{IsOpenedBy, IsRepliedBy}
use Rattle.pp_lives.proofs.Telling.{since_same}
use Rattle.pp_seat.specs.Lines.{Tale, with_line}
use Rattle.pp_seat.specs.Seats.{SeatState}
use Rattle.pp_seat.specs.Follows.{Follows, Goes, Always, none_lost, proved}
use Rattle.pp_seat.specs.Frames.{since_of, tale_of, no_tale, IsSameTale, with_heard}
use Rattle.pp_seat.specs.Awaited.{AreAwaited}
use Rattle.pp_traffic.specs.Fates.{clock}
use Rattle.pp_seat.proofs.Awaited.{lines_keep_awaited, none_awaited}
use Rattle.pp_seat.proofs.Outstanding.{now_grows, clock_now}
use Rattle.pp_seat.proofs.Framing.{same_tales, tales_grow, none_begins, frames_grow, heard_story}
use Rattle.pp_seat.proofs.Passing.{announced_stays}
use Rattle.pp_seats.specs.Standing.{SeatSetting, frame_in, IsFollowed}
use Rattle.pp_seats.specs.Hearing.{HearsAll, Begins, IsShown, BeginsShown, with_proven, IsReady}
use Rattle.pp_seats.proofs.Blank.{dial_begins}

-- ---- records that are not read

-- the record isn't on the channel
pub passed_ready : (x : SeatSetting) (most at : ℕ) (s : SeatState) (life : Life) (sender : traffic.Address) (bytes : List ℕ) (past : List Record)
    → IsFollowed x most s life past → life.opening < length past → comes_on x.d life (Received at sender bytes) ≡ false
    → IsReady x most (now (Received at sender bytes ∷ past)) s life (Received at sender bytes) past
passed_ready x most at s life sender bytes past h lt apart = record {
  lost = h.lost;
  chunks = h.chunks;
  haves = h.haves;
  begun = omega (arith, lt);
  is_proven = is_heard x.d life past;
  heard = since_same (comes_on x.d life) life.opening (Received at sender bytes) past apart;
  tale = tale_of x.d life past;
  becomes = tales_grow.unread x.d life at sender bytes (is_heard x.d life past) past lt (inl apart);
  follows = h.follows;
  awaited = h.awaited;
}

-- a wait brought nothing
pub quiet_ready : (x : SeatSetting) (most at : ℕ) (s : SeatState) (life : Life) (past : List Record) → IsFollowed x most s life past → life.opening < length past
    → IsReady x most (now (Quiet at ∷ past)) s life (Quiet at) past
quiet_ready x most at s life past h lt = record {
  lost = h.lost;
  chunks = h.chunks;
  haves = h.haves;
  begun = omega (arith, lt);
  is_proven = is_heard x.d life past;
  heard = since_same (comes_on x.d life) life.opening (Quiet at) past refl;
  tale = tale_of x.d life past;
  becomes = tales_grow.quiet x.d life at (is_heard x.d life past) past lt;
  follows = h.follows;
  awaited = h.awaited;
}

-- ---- records that are read

awaited_story : (x : SeatSetting) (n : ℕ) (ms : List Message) (p : Bool) (old new : SeatState) (t : Tale) → HearsAll n ms old new
    → clock t.story ≤ n → AreAwaited old.own t.story → AreAwaited new.own (with_heard n ms p t).story
awaited_story x n ms p old new t h le a =
    subst (λ (xs : List Line). AreAwaited new.own xs) (sym (heard_story n ms p t)) (h.awaited t.story le a)

-- what was read before has come no further than the record
read_to : (d : Descriptor) (life : Life) (r : Record) (past : List Record) → clock (read_story d life past) ≤ now (r ∷ past)
read_to d life r past = let low = clock_now d life past in let more = now_grows r past in omega arith

now_heard : (d : Descriptor) (life : Life) (r : Record) (past : List Record) → life.opening ≤ length past → comes_on d life r ≡ true → is_heard d life (r ∷ past) ≡ true
now_heard d life r past le on = or_left (leb life.opening (length past) && comes_on d life r) (some_since (comes_on d life) life.opening past)
    (and_from (leb life.opening (length past)) (comes_on d life r) (le-leb life.opening (length past) le) on)

-- all messages of a datagram for the channel
all_heard : (d : Descriptor) (life : Life) (r : Record) → comes_on d life r ≡ true → heard_in d life false r ≡ (read d r).messages.read
all_heard d life r on = cond-true (comes_on d life r) (read d r).messages.read [] on

-- the channel was there
pub heard_ready : (x : SeatSetting) (most at : ℕ) (before mid s : SeatState) (life : Life) (sender : traffic.Address) (bytes : List ℕ) (past : List Record)
    → IsFollowed x most before life past → life.opening < length past → let r = Received at sender bytes in
    comes_on x.d life r ≡ true → is_read x.d life (r ∷ past) ≡ true
    → IsShown before mid → HearsAll (now (r ∷ past)) (read x.d r).messages.read mid s → IsReady x most (now (r ∷ past)) s life r past
heard_ready x most at before mid s life sender bytes past h lt on reads shown hears =
    let r = Received at sender bytes in
    let n = now (r ∷ past) in
    let ms = (read x.d r).messages.read in
    record {
      lost = h.lost;
      chunks = h.chunks;
      haves = h.haves;
      begun = omega (arith, lt);
      is_proven = true;
      heard = now_heard x.d life r past (omega (arith, lt)) on;
      tale = with_heard n ms true (tale_of x.d life past);
      becomes = subst (λ (xs : List Message). IsSameTale (with_line (Taken n) true (with_heard n xs true (tale_of x.d life past))) (tale_of x.d life (r ∷ past)))
          (all_heard x.d life r on) (tales_grow.heard x.d life at sender bytes past lt on reads);
      follows = hears.follows (proved (frame_in x life past)) h.lost (tale_of x.d life past) (shown.follows (frame_in x life past) h.lost (tale_of x.d life past) h.follows);
      awaited = awaited_story x n ms true mid s (tale_of x.d life past) hears (read_to x.d life r past)
          (subst (λ (o : SeatState). AreAwaited o.own (read_story x.d life past)) (sym shown.exact) h.awaited);
    }

-- a channel was opened
pub opened_ready : (x : SeatSetting) (most at : ℕ) (slot : Bool) (before mid s : SeatState) (life : Life) (sender : traffic.Address) (bytes : List ℕ) (past : List Record)
    → let r = Received at sender bytes in IsOpenedBy x.d r past life → before.told.chunks ≡ chunks_of x.d
    → Begins x.d slot before mid → HearsAll (now (r ∷ past)) (drop 1 (read x.d r).messages.read) mid s → IsReady x most (now (r ∷ past)) s life r past
opened_ready x most at slot before mid s life sender bytes past is room begins hears =
    let r = Received at sender bytes in
    let n = now (r ∷ past) in
    let ms = drop 1 (read x.d r).messages.read in
    let f = with_proven false (frame_in x life past) in
    let first = begins.follows f no_tale (sym room) refl (none_begins f refl) in
    record {
      lost = none_lost;
      chunks = omega arith;
      haves = omega arith;
      begun = omega (arith, is.place);
      is_proven = false;
      heard = since_same (comes_on x.d life) life.opening r past is.apart ∙ none_from_end (comes_on x.d life) life.opening past (omega (arith, is.place));
      tale = with_heard n ms false no_tale;
      becomes = subst (λ (xs : List Message). IsSameTale (with_line (Taken n) false (with_heard n xs false no_tale)) (tale_of x.d life (r ∷ past)))
          (opening_heard x.d life r is.answered is.opens) (tales_grow.opened x.d life at sender bytes past is.place is.answered is.apart);
      follows = hears.follows f none_lost no_tale first;
      awaited = awaited_story x n ms false mid s no_tale hears (omega arith) (none_awaited f none_lost mid no_tale (none_begins f refl) first);
    }
  where
    opening_heard : (d : Descriptor) (life : Life) (r : Record) → life.is_dialled ≡ false → greets d life r ≡ true → heard_in d life true r ≡ drop 1 (read d r).messages.read
    opening_heard d life r answered opens = cond-true (not life.is_dialled && greets d life r) (drop 1 (read d r).messages.read) (cond (comes_on d life r) (read d r).messages.read [])
        (and_from (not life.is_dialled) (greets d life r) (ap not answered) opens)

-- the reply to a dial came
pub replied_ready : (x : SeatSetting) (most at : ℕ) (slot : Bool) (before mid s : SeatState) (life : Life) (sender : traffic.Address) (bytes : List ℕ) (past : List Record)
    → let r = Received at sender bytes in IsRepliedBy x.d r past life → before.told.chunks ≡ chunks_of x.d
    → BeginsShown x.d slot before mid → HearsAll (now (r ∷ past)) (read x.d r).messages.read mid s → IsReady x most (now (r ∷ past)) s life r past
replied_ready x most at slot before mid s life sender bytes past is room begins hears =
    let r = Received at sender bytes in
    let n = now (r ∷ past) in
    let ms = (read x.d r).messages.read in
    let f = with_proven false (frame_in x life past) in
    let t = tale_of x.d life past in
    let can = dial_begins x.d life f past is.dialled is.blank refl in
    let first = begins.begins.follows f t (sym room) refl can in
    let own = none_awaited f none_lost begins.mid t can first in
    record {
      lost = none_lost;
      chunks = omega arith;
      haves = omega arith;
      begun = omega (arith, is.begun);
      is_proven = true;
      heard = now_heard x.d life r past (omega (arith, is.begun)) is.on;
      tale = with_heard n ms true t;
      becomes = subst (λ (xs : List Message). IsSameTale (with_line (Taken n) true (with_heard n xs true t)) (tale_of x.d life (r ∷ past)))
          (all_heard x.d life r is.on) (tales_grow.heard x.d life at sender bytes past is.begun is.on is.reads);
      follows = hears.follows (proved f) none_lost t (begins.shown.follows f none_lost t first);
      awaited = awaited_story x n ms true mid s t hears (read_to x.d life r past)
          (subst (λ (o : SeatState). AreAwaited o.own t.story) (sym begins.shown.exact) own);
    }

-- ---- the peer looks up

pub taken_followed : (x : SeatSetting) (most : ℕ) (old new : SeatState) (life : Life) (r : Record) (past : List Record) → is_event r ≡ true
    → IsReady x most (now (r ∷ past)) old life r past
    → Goes Always (Taken (now (r ∷ past))) old new → new.own ≡ old.own → IsFollowed x most new life (r ∷ past)
taken_followed x most old new life r past event h goes same =
    let n = now (r ∷ past) in
    let f = with_proven h.is_proven (frame_in x life past) in
    let t = with_line (Taken n) h.is_proven h.tale in
    let gone = goes.follows f h.lost h.tale tt h.follows in
    let told = same_tales f h.lost new t (tale_of x.d life (r ∷ past)) h.becomes gone in
    let handed : some_since is_event life.opening (r ∷ past) ≡ true =
    or_left (leb life.opening (length past) && is_event r) (some_since is_event life.opening past)
    (and_from (leb life.opening (length past)) (is_event r) (le-leb life.opening (length past) h.begun) event) in
    let come : clock h.tale.story ≤ n =
    (let whole = subst (λ (xs : List Line). clock xs ≤ n) h.becomes.story (clock_now x.d life (r ∷ past)) in omega (arith, whole)) in
    let later_is = frames_grow x.d life x.is_found r past in
    let with_later = announced_stays f h.lost (λ i. since_of x.d life x.is_found i (r ∷ past)) new (tale_of x.d life (r ∷ past)) later_is told in
    record {
      lost = h.lost;
      chunks = h.chunks;
      haves = h.haves;
      follows = subst (λ (p : Bool). Follows (with_proven p (frame_in x life (r ∷ past))) h.lost new (tale_of x.d life (r ∷ past))) (sym h.heard) with_later;
      awaited = subst (λ (xs : List Line). AreAwaited new.own xs) (sym h.becomes.story)
          (subst (λ (own : _). AreAwaited own (Taken n ∷ h.tale.story)) (sym same)
          ((lines_keep_awaited.others (Taken n) old.own tt).stays h.tale.story come h.awaited));
      handed = handed;
    }
