use Rattle.std.proofs.Common.{◌≡◌, ◌≤◌, ◌*◌}
use Rattle.pp_peer.specs.Flushing.{Flushes}
use Rattle.pp_peer.specs.Standing.{IsWhole}
use Rattle.pp_peer.specs.Speaking.{TurnsBelow}
use Rattle.pp_peer.proofs.parts.Parts.speak_all.Given as goal

abbrev pub invariant-loop-seat : goal.invariant-loop-seat
invariant-loop-seat g l =
    (l.refused ≤ l.seat * 1_099) × IsWhole l.self × (l.speaker.news.ranges ≡ l.initial.speaker.news.ranges)
    × TurnsBelow l.seat l.refused l.initial.speaker l.speaker
    (record { parts = l.initial.self; link = g.L.Link.seen l.initial.link; disk = g.D.Disk.state l.initial.disk })
    (record { parts = l.self; link = g.L.Link.seen l.link; disk = g.D.Disk.state l.disk })
    × Flushes l.refused
    (record { parts = l.initial.self; link = g.L.Link.seen l.initial.link; disk = g.D.Disk.state l.initial.disk })
    (record { parts = l.self; link = g.L.Link.seen l.link; disk = g.D.Disk.state l.disk })
