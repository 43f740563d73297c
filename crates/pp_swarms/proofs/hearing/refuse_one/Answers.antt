use Rattle.std.proofs.Common.{sym, ◌∙◌}
use Rattle.pp_swarms.proofs.Shares.{refuses_live}
use Rattle.pp_swarms.proofs.hearing.refuse_one.Goals as goal

pub returns-then-is_live : goal.returns-then-is_live
returns-then-is_live c =
    refuses_live c.args.peer.now c.refused.new.self (sym c.is_live.ensures ∙ c.if-is_live.true) c.refused.ensures.exact c.refused.ensures.stands
