use Rattle.pp_peer.specs.Greeting.{Parting}
use Rattle.pp_peer.proofs.parts.Parts.part.Given as goal

abbrev pub invariant-loop-seat : goal.invariant-loop-seat
invariant-loop-seat g l = Parting l.seat (record { parts = l.initial.self; link = g.L.Link.seen l.initial.link; disk = g.D.Disk.state l.initial.disk })
    (record { parts = l.self; link = g.L.Link.seen l.link; disk = g.D.Disk.state l.initial.disk })
