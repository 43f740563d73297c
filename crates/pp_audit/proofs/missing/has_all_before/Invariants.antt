use Rattle.std.proofs.Common.{◌≡◌, ℕ, ◌<◌, true}
use Rattle.pp_traffic.specs.Committed.{is_in}
use Rattle.pp_audit.proofs.missing.has_all_before.Given as goal

abbrev pub invariant-loop-number : goal.invariant-loop-number
invariant-loop-number l = (i : ℕ) → i < l.number → is_in l.set i ≡ true
