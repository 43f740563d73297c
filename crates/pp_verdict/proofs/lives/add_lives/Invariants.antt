use Rattle.std.proofs.Common.{◌≡◌, ℕ, ◌<◌, get_or, map}
use Rattle.std.specs.List.{Contains}
use Rattle.pp_traffic.specs.Life.{Life}
use Rattle.pp_recorded.specs.Entries.{life_of}
use Rattle.pp_verdict.specs.Shakes.{Opens}
use Rattle.pp_verdict.specs.declared.shakes.Shake.{Shake}
use Rattle.pp_verdict.proofs.lives.add_lives.Given as goal

abbrev pub invariant-loop-second : goal.invariant-loop-second
invariant-loop-second l = record {
  here : (life : Life) (j : ℕ) (s : Shake) → j < l.second-index → s ≡ get_or l.shakes j s → Opens life l.first s → Contains (map life_of l.lives.items) life;
  kept : (x : Life) → Contains (map life_of l.initial.lives.items) x → Contains (map life_of l.lives.items) x;
}
