use Rattle.std.proofs.Common.{sym, ◌∙◌}
use Rattle.pp_swarms.proofs.Shares.{closes_live}
use Rattle.pp_swarms.proofs.closing.close_one.Goals as goal

pub returns-then-is_live : goal.returns-then-is_live
returns-then-is_live g c = closes_live c.args.peer.now c.close.new.self (g.D.Disk.state c.args.disk.now) (g.L.Link.seen c.args.link.now)
    (g.L.Link.seen c.close.new.link) (sym c.is_live.ensures ∙ c.if-is_live.true) c.close.ensures.exact
