use Rattle.std.proofs.Common.{◌≡◌, length, map, ℕ}
use Rattle.pp_swarms.specs.Sharing.{event_for, fleet, HearsIf}
use Rattle.pp_swarms.proofs.Loops.{UpTo}
use Rattle.pp_swarms.proofs.hearing.hear_all.Given as goal

abbrev pub invariant-loop-number : goal.invariant-loop-number
invariant-loop-number g l =
    (length l.disks ≡ length l.initial.disks) × UpTo (λ (s : ℕ). HearsIf (event_for l.to s l.event) l.buffer) l.number
    (fleet l.initial.peers (map g.D.Disk.state l.initial.disks)) (fleet l.peers (map g.D.Disk.state l.disks))
