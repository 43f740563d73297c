-- What is heard message by message is heard together.
use Rattle.std.proofs.Common.{◌≡◌, ℕ, ◌≤◌, Bool, List, [], ◌∷◌, ◌++◌, refl, subst, arith}
use Rattle.pp_terms.specs.format.Messages.{Message}
use Rattle.pp_traffic.specs.Story.{Line, Heard, hear}
use Rattle.pp_seat.specs.Lines.{Tale, with_line}
use Rattle.pp_seat.specs.Seats.{SeatState}
use Rattle.pp_seat.specs.Follows.{Follows, Goes, Always}
use Rattle.pp_seat.specs.Frames.{with_heard}
use Rattle.pp_seat.specs.Awaited.{AreAwaited, KeepsAwaited}
use Rattle.pp_traffic.specs.Fates.{clock}
use Rattle.pp_seat.proofs.Outstanding.{heard_by}
use Rattle.pp_seats.specs.Hearing.{HearsAll}
use Rattle.pp_seats.specs.Laws.{HearingComposes}

heard_both : (now : ℕ) (ms more : List Message) (p : Bool) (t : Tale) → with_heard now more p (with_heard now ms p t) ≡ with_heard now (ms ++ more) p t
heard_both now [] more p t = refl
heard_both now (m ∷ ms) more p t = heard_both now ms more p (with_line (Heard now m) p t)

hear_both : (now : ℕ) (ms more : List Message) (story : List Line) → hear now more (hear now ms story) ≡ hear now (ms ++ more) story
hear_both now [] more story = refl
hear_both now (m ∷ ms) more story = hear_both now ms more (Heard now m ∷ story)

heard_to : (now : ℕ) (ms : List Message) (story : List Line) → clock story ≤ now → clock (hear now ms story) ≤ now
heard_to now ms story le = let most = heard_by now ms story in omega arith

pub hearing_composes : HearingComposes
hearing_composes = record {
  none = λ now s. record { follows = λ f lost t h. h; awaited = λ story le h. h };
  twice = λ now ms more old mid new one two. record {
    follows = λ f lost t h. subst (λ (x : Tale). Follows f lost new x) (heard_both now ms more f.proven t)
        (two.follows f lost (with_heard now ms f.proven t) (one.follows f lost t h));
    awaited = λ story le h. subst (λ (x : List Line). AreAwaited new.own x) (hear_both now ms more story)
        (two.awaited (hear now ms story) (heard_to now ms story le) (one.awaited story le h));
  };
}

-- one message
pub hears_one : (now : ℕ) (m : Message) (old new : SeatState) → Goes Always (Heard now m) old new
    → KeepsAwaited (Heard now m) old.own new.own → HearsAll now (m ∷ []) old new
hears_one now m old new goes keeps = record {
  follows = λ f lost t h. goes.follows f lost t tt h;
  awaited = λ story le h. keeps.stays story le h;
}
