use Rattle.pp_requests.specs.Lists.{chunk_count}
use Rattle.pp_peer.specs.Serving.{OnlySeats}
use Rattle.pp_peer.proofs.Rounds.{Goes, list_in}
use Rattle.pp_peer.proofs.parts.Parts.serve_seat.Given as goal

abbrev pub invariant-loop-sent : goal.invariant-loop-sent
invariant-loop-sent g l =
    Goes l.seat l.sent l.given_up
    (record { parts = l.initial.self; link = g.L.Link.seen l.initial.link; disk = g.D.Disk.state l.initial.disk })
    (record { parts = l.self; link = g.L.Link.seen l.link; disk = g.D.Disk.state l.disk }) × OnlySeats l.initial.self l.self

abbrev pub decreases-loop-sent : goal.decreases-loop-sent
decreases-loop-sent g l = chunk_count (list_in l.self.seats.seats l.seat)
