use Rattle.std.proofs.Common.{sym, ◌∙◌}
use Rattle.pp_swarms.specs.Sharing.{swarm}
use Rattle.pp_swarms.proofs.Shares.{hears_live}
use Rattle.pp_swarms.proofs.hearing.hear_one.Goals as goal

pub returns-then-is_live : goal.returns-then-is_live
returns-then-is_live g c = hears_live c.args.event c.args.buffer.now (swarm c.args.peer.now (g.D.Disk.state c.args.disk.now))
    (swarm c.hear.new.peer (g.D.Disk.state c.hear.new.disk)) c.hear.result (sym c.is_live.ensures ∙ c.if-is_live.true)
    c.hear.ensures.waits c.hear.ensures.advances c.hear.ensures.cause c.hear.ensures.live c.hear.ensures.dead c.hear.ensures.limit
