use Rattle.std.proofs.Common.{sym, subst, length, Result}
use Rattle.std.proofs.lemmas.Result.{err_from_is_err_and}
use Rattle.pp_outside.specs.declared.disk.DiskFault.{DiskFault}
use Rattle.pp_turns.specs.Taking.{TurnsEnd}
use Rattle.pp_turns.specs.Turning.{Post, post}
use Rattle.pp_turns.proofs.Loops.{taken_none, taken_more, taken_stops, taken_early, taken_all}
use Rattle.pp_turns.proofs.turning.take_turns.Goals as goal

pub loop-taken-init : goal.loop-taken-init
loop-taken-init g c =
    taken_none c.args.turns c.args.fetches (post c.args.peer.now (g.D.Disk.state c.args.disk.now) (g.L.Link.seen c.args.link.now)) (length c.args.buffer.now) c.requires.room

pub loop-taken-preserved : goal.loop-taken-preserved
loop-taken-preserved g c =
    taken_more c.loop-taken.taken c.args.turns c.args.fetches (post c.args.peer.now (g.D.Disk.state c.args.disk.now) (g.L.Link.seen c.args.link.now))
    (post c.loop-taken.peer (g.D.Disk.state c.loop-taken.disk) (g.L.Link.seen c.loop-taken.link)) (length c.loop-taken.buffer) c.loop-taken.invariant
    (post c.take_turn.new.peer (g.D.Disk.state c.take_turn.new.disk) (g.L.Link.seen c.take_turn.new.link)) (length c.take_turn.new.buffer)
    c.loop-taken-test.true c.if-is_done.ensures c.in_ok-take_turn.ensures c.take_turn.auto.buffer

pub returns-then-is_done : goal.returns-then-is_done
returns-then-is_done g c =
    taken_early c.loop-taken.taken c.args.turns c.args.fetches (post c.args.peer.now (g.D.Disk.state c.args.disk.now) (g.L.Link.seen c.args.link.now))
    (post c.loop-taken.peer (g.D.Disk.state c.loop-taken.disk) (g.L.Link.seen c.loop-taken.link)) (length c.loop-taken.buffer) c.loop-taken.invariant
    c.if-is_done.ensures

pub returns : goal.returns
returns g c =
    taken_all c.loop-taken.taken c.args.turns c.args.fetches (post c.args.peer.now (g.D.Disk.state c.args.disk.now) (g.L.Link.seen c.args.link.now))
    (post c.loop-taken.peer (g.D.Disk.state c.loop-taken.disk) (g.L.Link.seen c.loop-taken.link)) (length c.loop-taken.buffer) c.loop-taken.invariant
    c.loop-taken-test.false

pub returns-in_err-take_turn : goal.returns-in_err-take_turn
returns-in_err-take_turn g c b begun =
    let p = err_from_is_err_and c.from_residual.result c.from_residual.ensures.1 in
    let first : Post = post c.args.peer.now (g.D.Disk.state c.args.disk.now) (g.L.Link.seen c.args.link.now) in
    let new : Post = post c.take_turn.new.peer (g.D.Disk.state c.take_turn.new.disk) (g.L.Link.seen c.take_turn.new.link) in
    subst (λ (r : Result (Unit {0}) DiskFault). TurnsEnd b c.args.turns c.args.fetches first new r) (sym p.1)
    (taken_stops c.loop-taken.taken c.args.turns c.args.fetches first (post c.loop-taken.peer (g.D.Disk.state c.loop-taken.disk) (g.L.Link.seen c.loop-taken.link))
    (length c.loop-taken.buffer) c.loop-taken.invariant new c.in_err-take_turn.field-0.0 c.loop-taken-test.true c.in_err-take_turn.ensures b begun)
