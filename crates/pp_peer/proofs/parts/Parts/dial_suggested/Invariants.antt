use Rattle.std.proofs.Common.{length}
use Rattle.pp_peer.specs.Flushing.{Scene}
use Rattle.pp_peer.specs.Dialling.{DialsSuggested}
use Rattle.pp_peer.proofs.parts.Parts.dial_suggested.Given as goal

abbrev pub invariant-suggested : goal.invariant-suggested
invariant-suggested g l = (end : Scene)
    → DialsSuggested l.self.pex.queue (record { parts = l.self; link = g.L.Link.seen l.link; disk = g.D.Disk.state l.initial.disk }) end
    → DialsSuggested l.initial.self.pex.queue
    (record { parts = l.initial.self; link = g.L.Link.seen l.initial.link; disk = g.D.Disk.state l.initial.disk }) end

abbrev pub decreases-suggested : goal.decreases-suggested
decreases-suggested g l = length l.self.pex.queue
