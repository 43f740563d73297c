-- All seats look up.
use Rattle.std.proofs.Common.{ℕ, List, ◌∷◌, map, refl, sym, subst}
use Rattle.pp_terms.specs.format.Traffic.{Record}
use Rattle.pp_traffic.specs.Past.{now}
use Rattle.pp_traffic.specs.Meter.{ended}
use Rattle.pp_traffic.specs.Life.{Life}
use Rattle.pp_seat.specs.Seats.{SeatState}
use Rattle.pp_seat.proofs.Hearing.{taken_goes}
use Rattle.pp_seats.specs.Standing.{SeatsState, Setting, at_seat, IsFollowed, StandsFor}
use Rattle.pp_seats.specs.Hearing.{IsReady, Ready, looked_up}
use Rattle.pp_seats.proofs.Lists.{mapped}
use Rattle.pp_seats.proofs.Steps.{taken_followed}

pub all_look : (x : Setting) (most : ℕ) (p : SeatsState) (r : Record) (past : List Record) → Ready x most p r past
    → StandsFor x most (record p { seats = map (looked_up p.moment) p.seats }) (r ∷ past)
all_look x most p r past h = record {
  swarm = h.swarm;
  now_is = h.now_is;
  lives = h.lives;
  standing = h.standing;
  begun = h.begun;
  follow = λ n c life s there known living has.
      let m = mapped (looked_up p.moment) p.seats n s has in
      subst (λ (o : SeatState). IsFollowed (at_seat x n) most o life (r ∷ past)) m.2
      (followed n m.0 life (subst (λ (k : ℕ). IsReady (at_seat x n) most k m.0 life r past) h.now_is (h.follow n c life m.0 there known living m.1)));
}
  where
    followed : (n : ℕ) (s : SeatState) (life : Life) → IsReady (at_seat x n) most (now (r ∷ past)) s life r past → IsFollowed (at_seat x n) most (looked_up p.moment s) life (r ∷ past)
    followed n s life ready = subst (λ (k : ℕ). IsFollowed (at_seat x n) most (looked_up k s) life (r ∷ past)) (sym h.now_is)
        (taken_followed (at_seat x n) most s (looked_up (now (r ∷ past)) s) life r past h.event ready
        (taken_goes s (ended (now (r ∷ past)) s.window) (now (r ∷ past)) refl) refl)
