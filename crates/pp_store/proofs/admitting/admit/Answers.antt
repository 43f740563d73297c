use Rattle.std.proofs.Common.{sym, ◌∙◌}
use Rattle.pp_tree.specs.Book.{entry}
use Rattle.pp_terms.specs.tree.Claims.{latest}
use Rattle.pp_store.proofs.Answering.{admitted_known, learned_known}
use Rattle.pp_store.proofs.admitting.admit.Goals as goal

pub returns-in-Known-clause-answer : goal.returns-in-Known-clause-answer
returns-in-Known-clause-answer c =
    c.admit_judged.ensures.answer
    ∙ admitted_known c.args.descriptor.now (entry c.args.book.now) (entry c.settle_peaks.new.book) (latest c.args.claims.now) c.args.i c.chunks-chunks.result
    c.args.chunk.now c.chunks-chunks.ensures.chunks (c.if-found-want.false ∙ c.chunk_len-want.ensures.len)
    (sym c.settle_peaks.ensures.settled ∙ c.in-Known.is) (c.settle_peaks.ensures.added c.in-Known.is)

pub returns-in-Known-clause-learned : goal.returns-in-Known-clause-learned
returns-in-Known-clause-learned c k j =
    c.admit_judged.ensures.learned k j
    ∙ learned_known c.args.descriptor.now (entry c.args.book.now) (entry c.settle_peaks.new.book) (latest c.args.claims.now) c.args.i c.chunks-chunks.result
    c.args.chunk.now c.chunks-chunks.ensures.chunks (c.if-found-want.false ∙ c.chunk_len-want.ensures.len)
    (sym c.settle_peaks.ensures.settled ∙ c.in-Known.is) (c.settle_peaks.ensures.added c.in-Known.is) k j

pub returns-in-Known-clause-kept : goal.returns-in-Known-clause-kept
returns-in-Known-clause-kept c k j digest at = c.admit_judged.ensures.kept k j digest (c.settle_peaks.ensures.kept k j digest at)

pub returns-in-Known-clause-rooted : goal.returns-in-Known-clause-rooted
returns-in-Known-clause-rooted c d rooted = c.admit_judged.ensures.rooted d (c.settle_peaks.ensures.rooted d rooted)
