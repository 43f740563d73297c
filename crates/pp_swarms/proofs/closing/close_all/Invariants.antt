use Rattle.std.proofs.Common.{map}
use Rattle.pp_swarms.specs.Sharing.{fleet, ClosesIf}
use Rattle.pp_swarms.proofs.Loops.{PartsUpTo}
use Rattle.pp_swarms.proofs.Shares.{closes_grows}
use Rattle.pp_swarms.proofs.closing.close_all.Given as goal

abbrev pub invariant-loop-number : goal.invariant-loop-number
invariant-loop-number g l =
    PartsUpTo ClosesIf closes_grows l.number
    (fleet l.initial.peers (map g.D.Disk.state l.disks)) (fleet l.peers (map g.D.Disk.state l.disks))
    (g.L.Link.seen l.initial.link) (g.L.Link.seen l.link)
