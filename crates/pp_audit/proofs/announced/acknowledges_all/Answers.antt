use Rattle.std.proofs.Common.{sym, ◌∙◌, arith}
use Rattle.pp_promises.specs.Announced.{AcknowledgesFirst}
use Rattle.pp_tree.specs.Book.{entry}
use Rattle.pp_audit.specs.Acknowledgements.{acknowledges}
use Rattle.pp_audit.specs.Channels.{each_plain}
use Rattle.pp_audit.specs.Digests.{AllAreLong}
use Rattle.pp_recorded.specs.Entries.{past}
use Rattle.pp_audit.proofs.AckedTests.{acked_decided}
use Rattle.pp_audit.proofs.TurnEnds.{ends_decided_of}
use Rattle.pp_audit.proofs.announced.acknowledges_all.Goals as goal

pub returns : goal.returns
returns c =
    let d = c.args.descriptor.now in
    let book = entry c.args.book.now in
    let few = c.chunks-chunks.ensures.range in
    let low = c.height-height.ensures.range in
    let exact = ends_decided_of d (λ past. each_plain (λ life. acknowledges d book past life) d past) (AcknowledgesFirst d book) (AllAreLong d)
    (λ past long. acked_decided d book (omega (arith, few, c.chunks-chunks.ensures.chunks)) (omega (arith, low, c.height-height.ensures.height)) past long)
    (λ r before long. long.1) 0 (past c.args.entries.now) c.all_are_long.ensures in
    (λ e. exact.0 (sym c.fails_few.ensures ∙ e), λ all. c.fails_few.ensures ∙ exact.1 all)
