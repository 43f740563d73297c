use Rattle.std.proofs.Common.{◌≡◌, length, map}
use Rattle.pp_swarms.specs.Sharing.{fleet, SendsIf}
use Rattle.pp_swarms.proofs.Loops.{PartsUpTo}
use Rattle.pp_swarms.proofs.Shares.{sends_grows}
use Rattle.pp_swarms.proofs.flushing.flush_all.Given as goal

abbrev pub invariant-loop-number : goal.invariant-loop-number
invariant-loop-number g l =
    (length l.disks ≡ length l.initial.disks) × PartsUpTo SendsIf sends_grows l.number
    (fleet l.initial.peers (map g.D.Disk.state l.initial.disks)) (fleet l.peers (map g.D.Disk.state l.disks))
    (g.L.Link.seen l.initial.link) (g.L.Link.seen l.link)
