use Rattle.pp_peer.proofs.Dialled.{DialsUpTo}
use Rattle.pp_peer.proofs.parts.Parts.dial_each.Given as goal

abbrev pub invariant-loop-dial : goal.invariant-loop-dial
invariant-loop-dial g l = DialsUpTo l.dial-index l.initial.dials l.dials
    (record { parts = l.initial.self; link = g.L.Link.seen l.initial.link; disk = g.D.Disk.state l.initial.disk })
    (record { parts = l.self; link = g.L.Link.seen l.link; disk = g.D.Disk.state l.initial.disk })
