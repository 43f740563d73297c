use Rattle.std.proofs.Common.{◌≡◌, ℕ, List}
use Rattle.pp_channels.specs.Seats.{Seats, used_of}
use Rattle.pp_learner.specs.Dialling.{Drops}
use Rattle.pp_learner.proofs.parts.Parts.expire.Given as goal

abbrev pub invariant-over : goal.invariant-over
invariant-over l = record {
  drops : (seats : List ℕ) (new : Seats) → Drops l.initial.self.moment seats l.self.lives new
      → (more : List ℕ) × Drops l.initial.self.moment more l.initial.self.lives new;
  rest : l.self ≡ record l.initial.self { lives = l.self.lives };
}

abbrev pub decreases-over : goal.decreases-over
decreases-over l = used_of l.self.lives
