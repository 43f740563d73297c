use Rattle.std.proofs.Common.{sym, ◌∙◌, arith}
use Rattle.pp_tree.specs.Book.{entry}
use Rattle.pp_recorded.specs.Entries.{past}
use Rattle.pp_audit.proofs.StoredTests.{stored_decided}
use Rattle.pp_audit.proofs.stored.stores_all.Goals as goal

pub returns : goal.returns
returns c = λ reads is.
    let few = c.chunks-chunks.ensures.range in
    let low = c.height-height.ensures.range in
    let exact = stored_decided c.args.descriptor.now (entry c.args.book.now) reads c.args.held.now is (omega (arith, few, c.chunks-chunks.ensures.chunks))
    (omega (arith, low, c.height-height.ensures.height)) (past c.args.entries.now) c.all_are_long.ensures in
    (λ e. exact.0 (sym c.each_stores.ensures ∙ e), λ all. c.each_stores.ensures ∙ exact.1 all)
