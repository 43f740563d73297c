use Rattle.std.proofs.Common.{◌+◌, sym, subst, Result}
use Rattle.std.proofs.lemmas.Result.{err_from_is_err_and}
use Rattle.pp_outside.specs.declared.disk.DiskFault.{DiskFault}
use Rattle.pp_turns.specs.Taking.{TakesTurn}
use Rattle.pp_turns.specs.Turning.{post}
use Rattle.pp_turns.proofs.turning.take_turn.Goals as goal

pub returns : goal.returns
returns g c = λ b taken first q. c.finish_turn.ensures.ends b (taken + 1) first (c.in_ok-hear.ensures.waits _ _ c.next-came.ensures b taken first q)

pub returns-in_err-hear : goal.returns-in_err-hear
returns-in_err-hear g c =
    let p = err_from_is_err_and c.from_residual.result c.from_residual.ensures.1 in
    subst (λ (r : Result (Unit {0}) DiskFault). TakesTurn (post c.args.peer.now (g.D.Disk.state c.args.disk.now) (g.L.Link.seen c.args.link.now))
    (post c.hear.new.peer (g.D.Disk.state c.hear.new.disk) (g.L.Link.seen c.next-came.new.self)) r) (sym p.1)
    (λ b taken first q. (c.in_err-hear.ensures.waits _ _ c.next-came.ensures b taken first q).stops)
