use Rattle.std.proofs.Common.{inl, refl, arith}
use Rattle.pp_fetching.proofs.Picked.{picked_none, next_after, picked_more, picked_all, picked_till_none}
use Rattle.pp_fetching.proofs.fetching.Fetching.pick.Goals as goal

pub loop-taken-init : goal.loop-taken-init
loop-taken-init g c = picked_none c.args.ranker.now.kind c.args.seat 0 c.args.self.now c.new-picks.result refl c.new-picks.ensures

pub loop-taken-preserved : goal.loop-taken-preserved
loop-taken-preserved g c =
    picked_more c.args.ranker.now.kind c.args.seat c.loop-taken._taken c.in-Some.i c.args.self.now c.loop-taken.picks c.loop-taken.self c.put.new.picks c.pick_one.new.self
    c.loop-taken.invariant c.pick_one.ensures.content c.in-Some.ensures.next c.in-Some.ensures.noted
    (record { each = c.put.ensures.each; count = c.put.ensures.count; runs = c.put.ensures.runs; few = c.put.ensures.few })

pub put-requires-clause-room : goal.put-requires-clause-room
put-requires-clause-room g c = let short = c.loop-taken.invariant.short in omega (arith, c.requires.room)

pub put-requires-clause-runs : goal.put-requires-clause-runs
put-requires-clause-runs g c = c.loop-taken.invariant.picked.runs

pub put-requires-clause-absent : goal.put-requires-clause-absent
put-requires-clause-absent g c =
    (next_after c.args.ranker.now.kind c.args.seat c.loop-taken._taken c.in-Some.i c.args.self.now c.loop-taken.picks c.loop-taken.self
    c.loop-taken.invariant c.in-Some.ensures.next).1

pub returns-in_default-clause-in_turn : goal.returns-in_default-clause-in_turn
returns-in_default-clause-in_turn g c =
    (picked_till_none c.args.ranker.now.kind c.args.seat c.loop-taken._taken c.args.room c.args.self.now c.loop-taken.picks c.loop-taken.self c.pick_one.new.self
    c.loop-taken.invariant (omega arith) c.in_default.ensures.next c.in_default.ensures.noted).0

pub returns-in_default-clause-picked : goal.returns-in_default-clause-picked
returns-in_default-clause-picked g c =
    (picked_till_none c.args.ranker.now.kind c.args.seat c.loop-taken._taken c.args.room c.args.self.now c.loop-taken.picks c.loop-taken.self c.pick_one.new.self
    c.loop-taken.invariant (omega arith) c.in_default.ensures.next c.in_default.ensures.noted).1

pub returns-clause-in_turn : goal.returns-clause-in_turn
returns-clause-in_turn g c =
    (picked_all c.args.ranker.now.kind c.args.seat c.loop-taken._taken c.args.room c.args.self.now c.loop-taken.picks c.loop-taken.self c.loop-taken.invariant
    (omega arith) (inl (omega arith))).0

pub returns-clause-picked : goal.returns-clause-picked
returns-clause-picked g c =
    (picked_all c.args.ranker.now.kind c.args.seat c.loop-taken._taken c.args.room c.args.self.now c.loop-taken.picks c.loop-taken.self c.loop-taken.invariant
    (omega arith) (inl (omega arith))).1
