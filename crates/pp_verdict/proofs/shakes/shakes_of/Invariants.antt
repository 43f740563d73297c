use Rattle.std.proofs.Common.{◌≡◌, ℕ, ◌<◌, get_or}
use Rattle.pp_recorded.specs.declared.entry.Entry.{Entry}
use Rattle.pp_verdict.specs.Shakes.{HasShake}
use Rattle.pp_verdict.proofs.shakes.shakes_of.Given as goal

abbrev pub invariant-loop-place : goal.invariant-loop-place
invariant-loop-place l = (k : ℕ) (x : Entry) → k < l.place → x ≡ get_or l.entries k x → HasShake l.descriptor k x l.shakes.items
