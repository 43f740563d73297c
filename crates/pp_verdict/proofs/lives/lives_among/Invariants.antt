use Rattle.std.proofs.Common.{◌≡◌, ℕ, ◌<◌, get_or, map}
use Rattle.std.specs.List.{Contains}
use Rattle.pp_traffic.specs.Life.{Life}
use Rattle.pp_recorded.specs.Entries.{life_of}
use Rattle.pp_verdict.specs.Shakes.{Opens}
use Rattle.pp_verdict.specs.declared.shakes.Shake.{Shake}
use Rattle.pp_verdict.proofs.lives.lives_among.Given as goal

abbrev pub invariant-loop-first : goal.invariant-loop-first
invariant-loop-first l = (life : Life) (i : ℕ) (a b : Shake) → i < l.first-index → a ≡ get_or l.shakes i a
    → Contains l.shakes b → Opens life a b → Contains (map life_of l.lives.items) life
