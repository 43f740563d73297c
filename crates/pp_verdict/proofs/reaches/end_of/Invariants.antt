use Rattle.std.proofs.Common.{◌≡◌, ℕ, ◌<◌, ◌≤◌, get_or}
use Rattle.pp_outside.specs.Outside.{address_of}
use Rattle.pp_verdict.specs.declared.reaches.SentTo.{SentTo}
use Rattle.pp_verdict.proofs.reaches.end_of.Given as goal

abbrev pub invariant-loop-one : goal.invariant-loop-one
invariant-loop-one l = (k : ℕ) (s : SentTo) → k < l.one-index → s ≡ get_or l.sent k s → address_of s.address ≡ address_of l.life.address
    → s.channel ≡ l.life.remote → s.end ≤ l.end
