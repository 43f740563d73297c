use Rattle.std.specs.Prelude.{◌≡◌, ◌-◌, ◌≤◌, drop, length, reverse, take}
use Rattle.pp_outside.specs.MemoryLink.{in_order}
use Rattle.pp_play.specs.Stage.{mail_after}
use Rattle.pp_play.proofs.delivering.deliver.Given as goal

abbrev pub invariant-loop-n : goal.invariant-loop-n
invariant-loop-n l =
    (l.mail ≡ mail_after l.sender (reverse (take (l.n - l.from) (drop l.from (in_order l.link)))) l.fn.mail) × (l.from ≤ l.n)
    × (length l.mail ≡ length l.fn.mail)
