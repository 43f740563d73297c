use Rattle.std.proofs.Common.{sym, ◌∙◌}
use Rattle.pp_swarms.specs.Sharing.{swarm}
use Rattle.pp_swarms.proofs.Shares.{sends_live}
use Rattle.pp_swarms.proofs.flushing.flush_one.Goals as goal

pub returns-then-is_live : goal.returns-then-is_live
returns-then-is_live g c = sends_live (swarm c.args.peer.now (g.D.Disk.state c.args.disk.now))
    (swarm c.finish_turn.new.peer (g.D.Disk.state c.finish_turn.new.disk)) (g.L.Link.seen c.args.link.now) (g.L.Link.seen c.finish_turn.new.link)
    (sym c.is_live.ensures ∙ c.if-is_live.true) c.finish_turn.ensures.carries c.finish_turn.ensures.alike c.finish_turn.ensures.store
    c.finish_turn.ensures.book c.finish_turn.ensures.reads c.finish_turn.ensures.limit
