use Rattle.std.proofs.Common.{◌≤◌, ◌*◌}
use Rattle.pp_peer.specs.Serving.{OnlySeats, ServesBelow}
use Rattle.pp_peer.proofs.parts.Parts.serve_all.Given as goal

abbrev pub invariant-loop-seat : goal.invariant-loop-seat
invariant-loop-seat g l =
    (l.given_up ≤ l.seat * 1048576) × (ServesBelow l.seat l.given_up
    (record { parts = l.initial.self; link = g.L.Link.seen l.initial.link; disk = g.D.Disk.state l.initial.disk })
    (record { parts = l.self; link = g.L.Link.seen l.link; disk = g.D.Disk.state l.disk }) × OnlySeats l.initial.self l.self)
