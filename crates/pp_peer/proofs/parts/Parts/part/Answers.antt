use Rattle.std.proofs.Common.{refl, subst, ℕ, arith}
use Rattle.pp_peer.specs.Greeting.{Parting}
use Rattle.pp_peer.proofs.Parted.{parting_none, parting_more}
use Rattle.pp_peer.proofs.parts.Parts.part.Goals as goal

pub loop-seat-init : goal.loop-seat-init
loop-seat-init g c = parting_none _

pub loop-seat-preserved : goal.loop-seat-preserved
loop-seat-preserved g c = parting_more c.loop-seat.seat c.loop-seat.seat _ _ _ refl c.loop-seat.invariant c.part_at.ensures

pub returns : goal.returns
returns g c = subst (λ (n : ℕ). Parting n (record { parts = c.args.self.now; link = g.L.Link.seen c.args.link.now; disk = g.D.Disk.state c.args.disk.now })
    (record { parts = c.loop-seat.self; link = g.L.Link.seen c.loop-seat.link; disk = g.D.Disk.state c.args.disk.now }))
    (omega (arith, c.loop-seat-test.false, c.loop-seat.auto)) c.loop-seat.invariant
