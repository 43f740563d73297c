use Rattle.std.proofs.Common.{ℕ, min, ◌∙◌, ap}
use Rattle.pp_wire.specs.Views.{span_of}
use Rattle.pp_story.proofs.Telling.{told_cut}
use Rattle.pp_story.proofs.told.tell.Goals as goal

pub returns-in-Some-clause-more : goal.returns-in-Some-clause-more
returns-in-Some-clause-more c =
    told_cut c.args.told.now c.told.new.self (span_of c.args.span) c.in-Some.range c.chunks-chunks.result c.min-last.result
    c.chunks-chunks.ensures.value (c.min-last.ensures ∙ ap (λ (k : ℕ). min c.args.span.last k) c.from-2.ensures)
    c.in-Some.ensures.1 c.told.ensures.more
