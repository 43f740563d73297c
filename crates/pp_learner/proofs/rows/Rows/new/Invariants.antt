use Rattle.std.proofs.Common.{◌≡◌, replicate}
use Rattle.pp_learner.specs.Rows.{blank}
use Rattle.pp_learner.proofs.rows.Rows.new.Given as goal

abbrev pub invariant-loop : goal.invariant-loop
invariant-loop l = l.rows.items ≡ replicate l.counter blank
