use Rattle.std.proofs.Common.{ℕ, ◌<◌, refl, subst}
use Rattle.pp_peer.proofs.Dialled.{first_taken}
use Rattle.pp_peer.proofs.parts.Parts.dial_first.Goals as goal

pub returns : goal.returns
returns g c = first_taken c.next_dial.new.self c.in-Some.address c.dial.result
    (record { parts = c.args.self.now; link = g.L.Link.seen c.args.link.now; disk = g.D.Disk.state c.args.disk.now }) _
    c.next_dial.ensures.table c.in-Some.ensures.queue (subst (λ (n : ℕ). n < 32) c.used.ensures c.if-used-ge-MOST_USED.false)
    (refl, c.dial.ensures.dials)
