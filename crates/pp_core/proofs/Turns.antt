-- The turn of a seat among those of all others.
use Rattle.std.proofs.Common.{◌≡◌, ◌≢◌, ◌⊎◌, inl, inr, ℕ, zero, suc, ◌<◌, ◌≤◌, Bool, true, false, Option, Some, None, List, [], ◌∷◌, refl, sym, ◌∙◌, ap, subst, arith}
use Rattle.std.specs.Prelude.{is_some, slice_index_or, slice_set, nat_lt, if◌then◌else◌}
use Rattle.std.proofs.lemmas.Bool.{cases_eq}
use Rattle.std.proofs.lemmas.List.{get_or-set_other}
use Rattle.pp_terms.specs.disk.Disk.{moment_of}
use Rattle.pp_terms.specs.format.Traffic.{LinkState}
use Rattle.pp_terms.specs.tree.Range.{Span}
use Rattle.pp_terms.proofs.Risings.{gains_nothing}
use Rattle.pp_channels.specs.Seats.{channel_at}
use Rattle.pp_lives.specs.Fars.{far_of}
use Rattle.pp_lives.specs.Sending.{with_datagram}
use Rattle.pp_lives.specs.declared.lives.Far.{Far}
use Rattle.pp_requests.specs.declared.asking.Asking.{Asking}
use Rattle.pp_avail.specs.declared.ranker.Rank.{Rank}
use Rattle.pp_fetching.specs.Fetching.{FetchState}
use Rattle.pp_draft.specs.declared.note.Note.{Note}
use Rattle.pp_seat.specs.Seats.{SeatState}
use Rattle.pp_desk.specs.declared.steps.Delivered.{Delivered}
use Rattle.pp_desk.specs.Delivers.{none_delivered}
use Rattle.pp_seats.specs.Standing.{SeatsState}
use Rattle.pp_seats.specs.Sending.{with_sent, opening_at}
use Rattle.pp_seats.specs.Turning.{Rewinds}
use Rattle.pp_peer.specs.declared.parts.Parts.{Parts}
use Rattle.pp_peer.specs.declared.speaking.Speaker.{Speaker}
use Rattle.pp_peer.specs.Flushing.{Scene}
use Rattle.pp_peer.specs.Greeting.{IsGreeted}
use Rattle.pp_peer.specs.Slotting.{with_slot, without_slot, Grants, GrantsInTurn, GrantsAll}
use Rattle.pp_peer.specs.Speaking.{SetsBackTo, may_ask, PicksFrom, Picks, SettlesIn, Says, SpeaksTo, AttendsTo, StaysSilent, TurnsIf, TurnsTo, TurnsBelow}
use Rattle.pp_core.proofs.Links.{Grows, grows_none, grows_twice}
use Rattle.pp_core.proofs.Delivered.{goes_grows}
use Rattle.pp_core.proofs.Kept.{datagram_there, sent_there, seat_none, seat_other, seat_table, seat_turned, Kept, kept_none, kept_twice, kept_rest}

-- ---- slots

grants_one : (seat k : ℕ) (old new : Parts) → Grants k old new → Kept seat old new
grants_one seat k old new g = kept_rest seat old new new.seats (with_slot k old.seats.moment old.slots) old.counts g.rest
    (seat_turned seat k old.seats new.seats g.turns)

grants_each : (seat : ℕ) (list : List ℕ) (old new : Parts) → GrantsInTurn list old new → Kept seat old new
grants_each seat [] old new g = kept_none seat old new g.0
grants_each seat (k ∷ list) old new g = kept_twice seat old g.0 new (grants_one seat k old g.0 g.1) (grants_each seat list g.0 new g.2)

pub grants_kept : (seat : ℕ) (old new : Parts) → GrantsAll old new → Kept seat old new
grants_kept seat old new g = grants_each seat g.0 old new g.1

pub attends_kept : (seat k : ℕ) (b : Bool) (old new : Parts) → AttendsTo b k old new → Kept seat old new
attends_kept seat k true old new a =
    let k = grants_kept seat (record old { slots = without_slot k old.seats.moment old.slots }) new a in
    record {
      seats = k.seats;
      holding = k.holding;
      fetches = k.fetches;
      table = k.table;
      question = k.question;
      proof = k.proof;
      supports = k.supports;
    }
attends_kept seat k false old new a = kept_none seat old new a

-- ---- what is asked for

picked_some : (k room : ℕ) (known : SeatState) (order : Rank) (picks : List Span) (may : Bool) (old new : Option FetchState)
    → PicksFrom may order k room picks old new → is_some new ≡ is_some old
picked_some k room known order picks true None new p = ap is_some p.1
picked_some k room known order picks true (Some f) new p = ap is_some p.1
picked_some k room known order picks false old new p = ap is_some p.1

settled_some : (own : List Asking) (picks cancels : List Span) (old new : Option FetchState) → SettlesIn own picks cancels old new
    → is_some new ≡ is_some old
settled_some own picks cancels None new s = ap is_some s
settled_some own picks cancels (Some f) new s = ap is_some s.1

fetching_kept : (seat : ℕ) (old new : Parts) → new ≡ record old { fetching = new.fetching }
    → is_some new.fetching ≡ is_some old.fetching → Kept seat old new
fetching_kept seat old new rest some = record {
  seats = seat_none seat old.seats new.seats (ap (λ (p : Parts). p.seats) rest);
  holding = ap (λ (p : Parts). p.holding) rest;
  fetches = some;
  table = ap (λ (p : Parts). p.pex.table) rest;
  question = ap (λ (p : Parts). slice_index_or p.questions seat false) rest;
  proof = ap (λ (p : Parts). slice_index_or p.to_prove seat false) rest;
  supports = ap (λ (p : Parts). p.supports) rest;
}

pub picked_kept : (seat k : ℕ) (order : Rank) (picks : List Span) (old new : Parts) → Picks order k picks old new → Kept seat old new
picked_kept seat k order picks old new p = fetching_kept seat old new p.rest
    (picked_some k p.room p.known order picks (may_ask p.known) old.fetching new.fetching p.picks_from)

-- ---- the turn of another seat

rewinds_kept : (seat k to : ℕ) (old new : Parts) → seat ≢ k → Rewinds k to old.seats new.seats
    → new ≡ record old { seats = new.seats } → Kept seat old new
rewinds_kept seat k to old new ne r rest = kept_rest seat old new new.seats old.slots old.counts rest
    (seat_other seat k old.seats new.seats old.seats.table r.after ne r.is refl)

back_kept : (seat k : ℕ) (proven greets : Bool) (news : List Span) (old new : Parts) → seat ≢ k
    → SetsBackTo proven greets news k old new → Kept seat old new
back_kept seat k true greets news old new ne s = kept_none seat old new s
back_kept seat k false true news old new ne s = rewinds_kept seat k 0 old new ne s.0 s.1
back_kept seat k false false [] old new ne s = kept_none seat old new s
back_kept seat k false false (x ∷ xs) old new ne s = rewinds_kept seat k x.first old new ne s.0 s.1

proof_there : (xs : List Bool) (seat k : ℕ) (b : Bool) → seat ≢ k
    → slice_index_or (if b then slice_set xs k false else xs) seat false ≡ slice_index_or xs seat false
proof_there xs seat k true ne = get_or-set_other xs k seat false false ne
proof_there xs seat k false ne = refl

says_kept : (seat k : ℕ) (notes : List Note) (moment : ℕ) (delivered : Delivered) (old new : Parts) (link later : LinkState) → seat ≢ k
    → Says k notes moment delivered old new link later → Kept seat old new
says_kept seat k notes moment delivered old new link later ne s =
    let sp = s.speaks in
    record {
      seats = seat_other seat k old.seats new.seats (with_sent old.seats.table k
          (is_some (opening_at old.seats k)) delivered.sent old.seats.moment) sp.after ne sp.is
          (sent_there old.seats.table k seat (is_some (opening_at old.seats k)) delivered.sent old.seats.moment ne);
      holding = ap (λ (p : Parts). p.holding) s.rest;
      fetches = ap (λ (p : Parts). is_some p.fetching) s.rest;
      table = ap (λ (p : Parts). p.pex.table) s.rest;
      question = ap (λ (p : Parts). slice_index_or p.questions seat false) s.rest ∙ get_or-set_other old.questions k seat false false ne;
      proof = ap (λ (p : Parts). slice_index_or p.to_prove seat false) s.rest ∙ proof_there old.to_prove seat k (nat_lt 0 delivered.sent) ne;
      supports = ap (λ (p : Parts). p.supports) s.rest;
    }

speaks_kept : (seat k : ℕ) (far : Far) (greets : Bool) (refused : ℕ) (speaker left : Speaker) (old new : Scene) → seat ≢ k
    → SpeaksTo (record { seat = k; far = far; greets = greets }) refused speaker left old new
    → Kept seat old.parts new.parts
speaks_kept seat k far greets refused speaker left old new ne s =
    kept_twice seat old.parts s.said new.parts
    (kept_twice seat old.parts s.picked s.said
    (picked_kept seat k speaker.order s.picks old.parts s.picked s.are_picked)
    (says_kept seat k left.agenda (moment_of old.disk.history) s.delivered s.picked s.said old.link new.link ne s.says))
    (fetching_kept seat s.said new.parts s.settles.rest (settled_some _ s.picks s.cancels s.said.fetching new.parts.fetching s.settles.settles))

speaks_grows : (seat : ℕ) (far : Far) (greets : Bool) (refused : ℕ) (speaker left : Speaker) (old new : Scene)
    → SpeaksTo (record { seat = seat; far = far; greets = greets }) refused speaker left old new → Grows old.link new.link
speaks_grows seat far greets refused speaker left old new s =
    let sp = s.says.speaks in
    goes_grows (opening_at s.picked.seats seat) s.picked.seats.descriptor sp.far (moment_of old.disk.history) s.picked.seats.moment left.agenda
    (record { seat = sp.before; link = old.link; so_far = none_delivered })
    (record { seat = sp.after; link = new.link; so_far = s.delivered }) sp.goes

-- What a seat's turn leaves of another seat, of the link and of what was gathered.
pub record Apart (seat : ℕ) (speaker left : Speaker) (old new : Scene) : Type 0 where
  pub kept : Kept seat old.parts new.parts
  pub grows : Grows old.link new.link
  pub news : left.news.ranges ≡ speaker.news.ranges

apart_silent : (seat refused : ℕ) (speaker left : Speaker) (old new : Scene) → StaysSilent refused speaker left old new
    → Apart seat speaker left old new
apart_silent seat refused speaker left old new s = record {
  kept = kept_none seat old.parts new.parts s.parts;
  grows = grows_none old.link new.link s.link;
  news = ap (λ (x : Speaker). x.news.ranges) s.speaker_same;
}

greeted_kept : (seat k moment : ℕ) (sent : Bool) (old new : Parts) (link later : LinkState) → seat ≢ k
    → IsGreeted k moment sent old new link later → Kept seat old new
greeted_kept seat k moment true old new link later ne g = kept_rest seat old new new.seats old.slots _ g.rest
    (seat_table seat old.seats new.seats (with_datagram old.seats.table k true old.seats.moment) g.greets.is
    (datagram_there old.seats.table k seat true old.seats.moment ne))
greeted_kept seat k moment false old new link later ne (inl g) = kept_rest seat old new old.seats old.slots _ g.rest
    (seat_none seat old.seats new.seats (ap (λ (p : Parts). p.seats) g.rest))
greeted_kept seat k moment false old new link later ne (inr g) = kept_none seat old new g.same

greeted_grows : (k moment : ℕ) (sent : Bool) (old new : Parts) (link later : LinkState)
    → IsGreeted k moment sent old new link later → Grows link later
greeted_grows k moment true old new link later g = record { added = _; gained = g.greets.sends.outcome; faults = g.greets.sends.later }
greeted_grows k moment false old new link later
    (inl g) = record { added = []; gained = gains_nothing link.traffic later.traffic g.refuses.traffic; faults = g.refuses.grows }
greeted_grows k moment false old new link later (inr g) = grows_none link later g.link_same

apart_if : (seat k refused : ℕ) (speaker left : Speaker) (old new : Scene) (o : Option Far) → seat ≢ k → TurnsIf o k refused speaker left old new
    → Apart seat speaker left old new
apart_if seat k refused speaker left old new None ne t = record {
  kept = greeted_kept seat k (moment_of old.disk.history) t.greeted old.parts new.parts old.link new.link ne t.greets;
  grows = greeted_grows k (moment_of old.disk.history) t.greeted old.parts new.parts old.link new.link t.greets;
  news = ap (λ (x : Speaker). x.news.ranges) t.speaker_same;
}
apart_if seat k refused speaker left old new (Some far) ne (inl t) = apart_silent seat refused speaker left old new t.silent
apart_if seat k refused speaker left old new (Some far) ne (inr t) =
    let s = t.1 in
    record {
      kept = kept_twice seat old.parts s.said new.parts
          (kept_twice seat old.parts s.back s.said
          (back_kept seat k s.sets_back.known.proven t.0 speaker.news.ranges old.parts s.back ne s.sets_back.sets)
          (speaks_kept seat k far t.0 refused speaker left (record old { parts = s.back }) (record new { parts = s.said }) ne s.speaks))
          (attends_kept seat k _ s.said new.parts s.attends.attends);
      grows = speaks_grows k far t.0 refused speaker left (record old { parts = s.back }) (record new { parts = s.said }) s.speaks;
      news = s.speaks.fills.ranges;
    }

pub apart_turn : (seat k refused : ℕ) (speaker left : Speaker) (old new : Scene) → seat ≢ k → TurnsTo k refused speaker left old new
    → Apart seat speaker left old new
apart_turn seat k refused speaker left old new ne t = apart_if seat k refused speaker left old new (far_of (channel_at old.parts.seats.table k)) ne t

pub apart_twice : (seat : ℕ) (s1 s2 s3 : Speaker) (a b c : Scene) → Apart seat s1 s2 a b → Apart seat s2 s3 b c → Apart seat s1 s3 a c
apart_twice seat s1 s2 s3 a b c one two = record {
  kept = kept_twice seat a.parts b.parts c.parts one.kept two.kept;
  grows = grows_twice a.link b.link c.link one.grows two.grows;
  news = two.news ∙ one.news;
}

-- ---- its own turn

seats_of : (old new : SeatsState) (xs : List SeatState) → new ≡ record old { seats = xs } → new ≡ record old { seats = new.seats }
seats_of old new xs is = is ∙ ap (λ (ys : List SeatState). record old { seats = ys }) (sym (ap (λ (p : SeatsState). p.seats) is))

-- where the cursor of a seat may have been set back, nothing else of the seats was changed
pub back_rest : (seat : ℕ) (proven greets : Bool) (news : List Span) (old new : Parts) → SetsBackTo proven greets news seat old new
    → new.seats ≡ record old.seats { seats = new.seats.seats }
back_rest seat true greets news old new s = seats_of old.seats new.seats old.seats.seats (ap (λ (p : Parts). p.seats) s)
back_rest seat false true news old new s = seats_of old.seats new.seats _ s.0.is
back_rest seat false false [] old new s = seats_of old.seats new.seats old.seats.seats (ap (λ (p : Parts). p.seats) s)
back_rest seat false false (x ∷ xs) old new s = seats_of old.seats new.seats _ s.0.is

-- the same until chunks to ask for were picked
pub picked_rest : (seat : ℕ) (proven greets : Bool) (news picks : List Span) (order : Rank) (old back picked : Parts)
    → SetsBackTo proven greets news seat old back
    → Picks order seat picks back picked → picked.seats ≡ record old.seats { seats = picked.seats.seats }
picked_rest seat proven greets news picks order old back picked s p =
    let same = ap (λ (x : Parts). x.seats) p.rest in
    same ∙ back_rest seat proven greets news old back s ∙ ap (λ (x : SeatsState). record old.seats { seats = x.seats }) (sym same)

-- ---- one among all

-- A seat had its turn, before which and behind which others had theirs.
pub record HasTurn (seat : ℕ) (speaker last : Speaker) (old new : Scene) : Type 0 where
  pub refused : ℕ
  pub middle : Speaker
  pub left : Speaker
  pub begin : Scene
  pub end : Scene
  pub before : Apart seat speaker middle old begin
  pub turn : TurnsTo seat refused middle left begin end
  pub after : Apart seat left last end new

pub apart_below : (seat n refused : ℕ) (speaker left : Speaker) (old new : Scene) → n ≤ seat → TurnsBelow n refused speaker left old new
    → Apart seat speaker left old new
unfolding TurnsBelow
apart_below seat zero refused speaker left old new high t = apart_silent seat refused speaker left old new t
apart_below seat (suc n) refused speaker left old new high t =
    let ne : seat ≢ n = λ is. omega (arith, is, high) in
    apart_twice seat speaker t.2 left old t.3 new
    (apart_below seat n t.0 speaker t.2 old t.3 (omega (arith, high)) t.4)
    (apart_turn seat n t.1 t.2 left t.3 new ne t.5)

pub has_turn : (seat n refused : ℕ) (speaker left : Speaker) (old new : Scene) → seat < n → TurnsBelow n refused speaker left old new
    → HasTurn seat speaker left old new
unfolding TurnsBelow
has_turn seat zero refused speaker left old new low t = absurd (omega (arith, low))
has_turn seat (suc n) refused speaker left old new low t = of (cases_eq seat n) (λ lt. has_turn seat n t.0 speaker t.2 old t.3 lt t.4)
  where
    of : (seat ≡ n) ⊎ (seat ≡ n → ⊥) → (seat < n → HasTurn seat speaker t.2 old t.3) → HasTurn seat speaker left old new
    of (inl is) below = record {
      refused = t.1;
      middle = t.2;
      left = left;
      begin = t.3;
      end = new;
      before = apart_below seat n t.0 speaker t.2 old t.3 (omega (arith, is)) t.4;
      turn = subst (λ (k : ℕ). TurnsTo k t.1 t.2 left t.3 new) (sym is) t.5;
      after = record { kept = kept_none seat new.parts new.parts refl; grows = grows_none new.link new.link refl; news = refl };
    }
    of (inr ne) below =
        let h = below (omega (arith, low, ne)) in
        record {
          refused = h.refused;
          middle = h.middle;
          left = h.left;
          begin = h.begin;
          end = h.end;
          before = h.before;
          turn = h.turn;
          after = apart_twice seat h.left t.2 left h.end t.3 new h.after (apart_turn seat n t.1 t.2 left t.3 new ne t.5);
        }
