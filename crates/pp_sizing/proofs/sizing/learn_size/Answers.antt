use Rattle.std.proofs.Common.{length, ◌-◌, ◌+◌, refl}
use Rattle.pp_terms.specs.disk.Disk.{moment_of}
use Rattle.pp_sizing.specs.Sizing.{scene}
use Rattle.pp_sizing.proofs.Loops.{taken_none, taken_more, taken_learned, taken_all}
use Rattle.pp_sizing.proofs.sizing.learn_size.Goals as goal

pub loop-taken-init : goal.loop-taken-init
loop-taken-init g c =
    taken_none c.args.turns (scene c.args.learner.now (g.L.Link.seen c.args.link.now)) (length c.args.buffer.now) c.requires.room

pub loop-taken-preserved : goal.loop-taken-preserved
loop-taken-preserved g c =
    taken_more c.loop-taken.taken c.args.turns (scene c.args.learner.now (g.L.Link.seen c.args.link.now))
    (scene c.loop-taken.learner (g.L.Link.seen c.loop-taken.link)) (length c.loop-taken.buffer) c.loop-taken.invariant
    (moment_of (g.D.Disk.state c.args.disk.now).history) (scene c.take_turn.new.learner (g.L.Link.seen c.take_turn.new.link))
    (length c.take_turn.new.buffer) c.loop-taken-test.true c.in_default.ensures c.take_turn.auto.buffer

pub returns-in-Some : goal.returns-in-Some
returns-in-Some g c =
    taken_learned c.loop-taken.taken c.args.turns (scene c.args.learner.now (g.L.Link.seen c.args.link.now))
    (scene c.loop-taken.learner (g.L.Link.seen c.loop-taken.link)) (length c.loop-taken.buffer) c.loop-taken.invariant
    (moment_of (g.D.Disk.state c.args.disk.now).history) (c.args.turns - (c.loop-taken.taken + 1)) c.in-Some.descriptor
    (scene c.take_turn.new.learner (g.L.Link.seen c.take_turn.new.link)) (scene c.close.new.self (g.L.Link.seen c.close.new.link))
    c.loop-taken-test.true refl c.in-Some.ensures c.close.ensures.exact c.close.ensures.each

pub returns : goal.returns
returns g c =
    taken_all c.loop-taken.taken c.args.turns (scene c.args.learner.now (g.L.Link.seen c.args.link.now))
    (scene c.loop-taken.learner (g.L.Link.seen c.loop-taken.link)) (length c.loop-taken.buffer) c.loop-taken.invariant
    (moment_of (g.D.Disk.state c.args.disk.now).history) (scene c.close-2.new.self (g.L.Link.seen c.close-2.new.link))
    c.loop-taken-test.false c.close-2.ensures.exact c.close-2.ensures.each
