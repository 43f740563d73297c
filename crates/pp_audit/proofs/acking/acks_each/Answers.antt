use Rattle.pp_traffic.specs.Story.{story}
use Rattle.pp_promises.specs.Announced.{is_acknowledged}
use Rattle.pp_tree.specs.Book.{entry}
use Rattle.pp_recorded.specs.Entries.{past, life_of}
use Rattle.pp_audit.proofs.AckedTests.{acks_more}
use Rattle.pp_audit.proofs.acking.acks_each.Goals as goal

pub loop-place-preserved : goal.loop-place-preserved
loop-place-preserved c =
    acks_more c.args.descriptor.now (entry c.args.book.now) (λ i. is_acknowledged i (story c.args.descriptor.now (life_of c.args.life) (past c.args.entries.now))) (life_of c.args.life)
    c.args.some.now c.loop-place.place c.acks_newest-all.result c.loop-place.all c.loop-place-test.true c.acks_newest-all.ensures c.loop-place.invariant
