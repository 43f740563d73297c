use Rattle.std.proofs.Common.{refl, subst, Bool}
use Rattle.pp_node.specs.Seeding.{service_of}
use Rattle.pp_turns.specs.Taking.{TakesAll}
use Rattle.pp_turns.specs.Turning.{Post, post}
use Rattle.pp_node.proofs.Seeds.{serves_on, stops_on}
use Rattle.pp_node.proofs.seeding.take_all.Goals as goal

pub returns-in-Ok : goal.returns-in-Ok
returns-in-Ok g c b begun =
    let first : Post = post c.args.peer.now (g.D.Disk.state c.args.disk.now) (g.L.Link.seen c.args.link.now) in
    let mid : Post = post c.take_turns.new.peer (g.D.Disk.state c.take_turns.new.disk) (g.L.Link.seen c.take_turns.new.link) in
    let last : Post = post c.finish.new.peer (g.D.Disk.state c.take_turns.new.disk) (g.L.Link.seen c.finish.new.link) in
    serves_on (service_of c.args.words.now) b first mid last (g.K.Sink.state c.args.sink.now) (g.K.Sink.state c.finish.new.sink)
    (subst (λ (f : Bool). TakesAll b c.args.words.now.turns f first mid) c.is_some-fetches.ensures (c.in-Ok.ensures b begun))
    c.finish.ensures.closes refl c.finish.ensures.sized c.finish.result c.finish.ensures.finishes

pub returns-in-Err : goal.returns-in-Err
returns-in-Err g c b begun =
    stops_on c.report.result (service_of c.args.words.now) b _ _ (g.K.Sink.state c.args.sink.now) (g.K.Sink.state c.report.new.sink) c.report.ensures.0 (c.in-Err.ensures b begun) c.report.ensures.1
