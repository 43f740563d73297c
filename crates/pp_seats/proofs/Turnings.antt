-- One seat changes with no message, or the setting does.
use Rattle.std.proofs.Common.{◌≡◌, ⊎_elim, inl, ℕ, ◌+◌, ◌≤◌, min, eqb, zero, suc, true, Option, Some, None, List, [], ◌∷◌, refl, sym, ◌∙◌, ap, subst, arith}
use Rattle.std.specs.Prelude.{MatchOption}
use Rattle.std.specs.List.{slice_get}
use Rattle.std.proofs.Math.ListN.{set}
use Rattle.std.proofs.lemmas.Bool.{cases_Bool, eqb-true, eqb-false}
use Rattle.std.proofs.lemmas.Option.{same_Some}
use Rattle.pp_terms.specs.format.Traffic.{Record}
use Rattle.pp_traffic.specs.Life.{Life}
use Rattle.pp_traffic.specs.Story.{Line}
use Rattle.pp_traffic.specs.Fates.{clock}
use Rattle.pp_promises.specs.ReadStory.{read_story}
use Rattle.pp_requests.specs.Moments.{ChangesEntry, IsLeastExpired, NoneExpired, IsLeastLost, NoneLost}
use Rattle.pp_channels.specs.Seats.{channel_at}
use Rattle.pp_channels.specs.declared.channel.Channel.{Channel}
use Rattle.pp_seat.specs.Seats.{SeatState}
use Rattle.pp_seat.specs.Follows.{Stays, SetsBack, Always, IsUnproven, HasCome}
use Rattle.pp_seat.specs.Frames.{tale_of}
use Rattle.pp_seat.specs.Awaited.{AreAwaited}
use Rattle.pp_seat.proofs.Framing.{reads_come}
use Rattle.pp_seat.proofs.Passing.{known_stays}
use Rattle.pp_seats.specs.Standing.{SeatsState, Setting, at_seat, frame_in, IsFollowed, StandsFor}
use Rattle.pp_seats.specs.Turning.{Rewinds, GivesUpRequest, HasNoneExpired, GivesUpLost, HasNoneLost, ForgetsRequests, Turns}
use Rattle.pp_seats.specs.Laws.{KnownChanges}
use Rattle.pp_seats.proofs.Lists.{get_set_there, get_set_other}
use Rattle.pp_seats.proofs.Outgoing.{more_followed}

pub seat_changed : (x : Setting) (most more : ℕ) (p : SeatsState) (k : ℕ) (before after : SeatState) (past : List Record) → StandsFor x most p past
    → slice_get p.seats k ≡ Some before → most ≤ more
    → ((life : Life) → IsFollowed (at_seat x k) most before life past → IsFollowed (at_seat x k) more after life past)
    → StandsFor x more (record p { seats = set p.seats k after }) past
seat_changed x most more p k before after past h there le own = record {
  swarm = h.swarm;
  now_is = h.now_is;
  lives = h.lives;
  standing = h.standing;
  begun = h.begun;
  follow = λ n c life s at known living has. ⊎_elim
      (λ here.
      let n_is = eqb-true n k here in
      let s_is : after ≡ s = same_Some after s (sym (get_set_there p.seats k after before there) ∙ ap (slice_get (set p.seats k after)) (sym n_is) ∙ has) in
      subst (λ (m : ℕ). IsFollowed (at_seat x m) more s life past) (sym n_is)
      (subst (λ (o : SeatState). IsFollowed (at_seat x k) more o life past) s_is
      (own life (subst (λ (m : ℕ). IsFollowed (at_seat x m) most before life past) n_is
      (h.follow n c life before at known living (ap (slice_get p.seats) n_is ∙ there))))))
      (λ apart. more_followed (at_seat x n) most more s life past le
      (h.follow n c life s at known living (sym (get_set_other p.seats k n after (eqb-false n k apart)) ∙ has)))
      (cases_Bool (eqb n k));
}

pub rewinds : (p q : SeatsState) (k to : ℕ) (before after : SeatState) → slice_get p.seats k ≡ Some before → after ≡ record before { cursor = min before.cursor to }
    → SetsBack before after → Stays IsUnproven before after → q ≡ record p { seats = set p.seats k after } → Rewinds k to p q
rewinds p q k to before after there exact back stays is = record {
  before = before;
  after = after;
  there = there;
  exact = exact;
  is = is;
  stands = λ x most past h. subst (λ (o : SeatsState). StandsFor x (most + 1) o past) (sym is)
      (seat_changed x most (most + 1) p k before after past h there (omega arith) (λ life f. record {
        lost = record { chunks = f.lost.chunks; haves = f.lost.haves + 1 };
        chunks = (let few = f.chunks in omega (arith, few));
        haves = (let few = f.haves in omega (arith, few));
        follows = back.follows (frame_in (at_seat x k) life past) f.lost (tale_of x.d life past) f.follows;
        awaited = subst (λ (own : _). AreAwaited own (read_story x.d life past)) (sym (ap (λ (s : SeatState). s.own) exact)) f.awaited;
        handed = f.handed;
      }));
  unproven = λ none x most past h. subst (λ (o : SeatsState). StandsFor x most o past) (sym is)
      (seat_changed x most most p k before after past h there (omega arith) (λ life f. record {
        lost = f.lost;
        chunks = f.chunks;
        haves = f.haves;
        follows = stays.follows (frame_in (at_seat x k) life past) f.lost (tale_of x.d life past) (sym f.follows.proven ∙ none) f.follows;
        awaited = subst (λ (own : _). AreAwaited own (read_story x.d life past)) (sym (ap (λ (s : SeatState). s.own) exact)) f.awaited;
        handed = f.handed;
      }));
}

pub gives_up_request : (p q : SeatsState) (k i : ℕ) (before after : SeatState) → slice_get p.seats k ≡ Some before → IsLeastExpired before.own p.moment i
    → ChangesEntry i None before.own after.own → after ≡ record before { own = after.own; stopped = true } → Stays (HasCome p.moment) before after
    → ((story : List Line) → p.moment ≤ clock story → AreAwaited before.own story → AreAwaited after.own story)
    → q ≡ record p { seats = set p.seats k after } → GivesUpRequest k i p q
gives_up_request p q k i before after there least taken exact stays awaits is = record {
  before = before;
  after = after;
  there = there;
  least = least;
  taken = taken;
  exact = exact;
  is = is;
  stands = λ x most past h. subst (λ (o : SeatsState). StandsFor x most o past) (sym is)
      (seat_changed x most most p k before after past h there (omega arith) (λ life f.
      let come : p.moment ≤ clock (read_story x.d life past) = (let read = reads_come x.d life past f.handed in let at = h.now_is in omega (arith, read, at)) in
      record {
        lost = f.lost;
        chunks = f.chunks;
        haves = f.haves;
        follows = stays.follows (frame_in (at_seat x k) life past) f.lost (tale_of x.d life past) come f.follows;
        awaited = awaits (read_story x.d life past) come f.awaited;
        handed = f.handed;
      }));
}

-- a seat without a channel stands for nothing
free_changed : (x : Setting) (most : ℕ) (p : SeatsState) (k : ℕ) (after : SeatState) (past : List Record) → channel_at p.table k ≡ None → StandsFor x most p past
    → StandsFor x most (record p { seats = set p.seats k after }) past
free_changed x most p k after past free h = record {
  swarm = h.swarm;
  now_is = h.now_is;
  lives = h.lives;
  standing = h.standing;
  begun = h.begun;
  follow = λ n c life s at known living has. ⊎_elim
      (λ here. absurd (none_there c (sym free ∙ ap (channel_at p.table) (sym (eqb-true n k here)) ∙ at)))
      (λ apart. h.follow n c life s at known living (sym (get_set_other p.seats k n after (eqb-false n k apart)) ∙ has))
      (cases_Bool (eqb n k));
}
  where
    none_there : (c : Channel) → None ≡ Some c → ⊥
    none_there c e = cc

pub turns : (p q : SeatsState) (k : ℕ) (before after : SeatState) → slice_get p.seats k ≡ Some before → after ≡ record before { owes = true }
    → Stays Always before after → q ≡ record p { seats = set p.seats k after } → Turns k p q
turns p q k before after there exact stays is = record {
  before = before;
  after = after;
  there = there;
  exact = exact;
  is = is;
  stands = λ x most past h. subst (λ (o : SeatsState). StandsFor x most o past) (sym is)
      (seat_changed x most most p k before after past h there (omega arith) (λ life f. record {
        lost = f.lost;
        chunks = f.chunks;
        haves = f.haves;
        follows = stays.follows (frame_in (at_seat x k) life past) f.lost (tale_of x.d life past) tt f.follows;
        awaited = subst (λ (own : _). AreAwaited own (read_story x.d life past)) (sym (ap (λ (s : SeatState). s.own) exact)) f.awaited;
        handed = f.handed;
      }));
}

-- what stands at a place is put there
pub set_there : (xs : List SeatState) (k : ℕ) (s : SeatState) → slice_get xs k ≡ Some s → set xs k s ≡ xs
set_there [] k s e = refl
set_there (y ∷ ys) zero s e = ap (λ (o : SeatState). o ∷ ys) (sym (same_Some y s e))
set_there (y ∷ ys) (suc k) s e = ap (λ (os : List SeatState). y ∷ os) (set_there ys k s e)

-- A request was given up, or there was none to be.
abbrev Given : Option ℕ → SeatState → SeatState → Type 0
Given o before after = MatchOption o (after ≡ before) (λ i. (after ≡ record before { own = after.own; stopped = true }) × ChangesEntry i None before.own after.own)

pub given_room : (o : Option ℕ) (before after : SeatState) → Given o before after → after.told.chunks ≡ before.told.chunks
given_room None before after g = ap (λ (s : SeatState). s.told.chunks) g
given_room (Some i) before after g = ap (λ (s : SeatState). s.told.chunks) g.0

pub given_so : (p q : SeatsState) (k : ℕ) (o : Option ℕ) (before after : SeatState) → slice_get p.seats k ≡ Some before
    → MatchOption o (NoneExpired before.own p.moment) (IsLeastExpired before.own p.moment) → Given o before after → Stays (HasCome p.moment) before after
    → ((story : List Line) → p.moment ≤ clock story → AreAwaited before.own story → AreAwaited after.own story)
    → q ≡ record p { seats = set p.seats k after } → MatchOption o (HasNoneExpired k p q) (λ i. GivesUpRequest k i p q)
given_so p q k None before after there least g stays awaits is = record {
  known = before;
  there = there;
  none = least;
  same = is ∙ ap (λ (xs : List SeatState). record p { seats = xs }) (ap (set p.seats k) g ∙ set_there p.seats k before there);
}
given_so p q k (Some i) before after there least g stays awaits is = gives_up_request p q k i before after there least g.1 g.0 stays awaits is

pub gives_up_lost : (p q : SeatsState) (k i : ℕ) (before after : SeatState) → slice_get p.seats k ≡ Some before → IsLeastLost before.own i
    → ChangesEntry i None before.own after.own → after ≡ record before { own = after.own } → Stays Always before after
    → ((story : List Line) → AreAwaited before.own story → AreAwaited after.own story)
    → q ≡ record p { seats = set p.seats k after } → GivesUpLost k i p q
gives_up_lost p q k i before after there least taken exact stays awaits is = record {
  before = before;
  after = after;
  there = there;
  least = least;
  taken = taken;
  exact = exact;
  is = is;
  stands = λ x most past h. subst (λ (o : SeatsState). StandsFor x most o past) (sym is)
      (seat_changed x most most p k before after past h there (omega arith) (λ life f. record {
        lost = f.lost;
        chunks = f.chunks;
        haves = f.haves;
        follows = stays.follows (frame_in (at_seat x k) life past) f.lost (tale_of x.d life past) tt f.follows;
        awaited = awaits (read_story x.d life past) f.awaited;
        handed = f.handed;
      }));
}

-- A lost request was given up, or there was none to be.
abbrev LostGiven : Option ℕ → SeatState → SeatState → Type 0
LostGiven o before after = MatchOption o (after ≡ before) (λ i. (after ≡ record before { own = after.own }) × ChangesEntry i None before.own after.own)

pub lost_room : (o : Option ℕ) (before after : SeatState) → LostGiven o before after → after.told.chunks ≡ before.told.chunks
lost_room None before after g = ap (λ (s : SeatState). s.told.chunks) g
lost_room (Some i) before after g = ap (λ (s : SeatState). s.told.chunks) g.0

pub lost_so : (p q : SeatsState) (k : ℕ) (o : Option ℕ) (before after : SeatState) → slice_get p.seats k ≡ Some before
    → MatchOption o (NoneLost before.own) (IsLeastLost before.own) → LostGiven o before after → Stays Always before after
    → ((story : List Line) → AreAwaited before.own story → AreAwaited after.own story)
    → q ≡ record p { seats = set p.seats k after } → MatchOption o (HasNoneLost k p q) (λ i. GivesUpLost k i p q)
lost_so p q k None before after there least g stays awaits is = record {
  known = before;
  there = there;
  none = least;
  same = is ∙ ap (λ (xs : List SeatState). record p { seats = xs }) (ap (set p.seats k) g ∙ set_there p.seats k before there);
}
lost_so p q k (Some i) before after there least g stays awaits is = gives_up_lost p q k i before after there least g.1 g.0 stays awaits is

pub forgets_requests : (p q : SeatsState) (k : ℕ) (before : SeatState) → slice_get p.seats k ≡ Some before → channel_at p.table k ≡ None
    → q ≡ record p { seats = set p.seats k (record before { own = [] }) } → ForgetsRequests k p q
forgets_requests p q k before there free is = record {
  before = before;
  there = there;
  is = is;
  stands = λ x most past h. subst (λ (o : SeatsState). StandsFor x most o past) (sym is) (free_changed x most p k (record before { own = [] }) past free h);
}

pub known_changes : KnownChanges
known_changes x known_of most p past new h = record {
  swarm = h.swarm;
  now_is = h.now_is;
  lives = h.lives;
  standing = h.standing;
  begun = h.begun;
  follow = λ n c life s at known living has.
      let f = h.follow n c life s at known living has in
      record {
        lost = f.lost;
        chunks = f.chunks;
        haves = f.haves;
        follows = known_stays (frame_in (at_seat x n) life past) f.lost (known_of n) s (tale_of x.d life past) (λ i below knows. inl (new n i s has below knows)) f.follows;
        awaited = f.awaited;
        handed = f.handed;
      };
}
