use Rattle.pp_tree.specs.Book.{entry}
use Rattle.pp_audit.proofs.StoredTests.{stores_more}
use Rattle.pp_audit.proofs.stored.each_stores.Goals as goal

pub loop-place-preserved : goal.loop-place-preserved
loop-place-preserved c =
    stores_more c.args.descriptor.now (entry c.args.book.now) c.args.held.now c.args.entries.now c.loop-place.place c.each_plain-all.result c.loop-place.all c.loop-place-test.true
    c.each_plain-all.ensures c.loop-place.invariant
