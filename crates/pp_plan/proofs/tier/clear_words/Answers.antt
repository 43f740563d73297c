use Rattle.std.proofs.Common.{◌<◌, subst, refl, arith}
use Rattle.std.proofs.lemmas.List.{get_or_past}
use Rattle.pp_plan.proofs.Parts.{part_size, part_long, part_others, part_cleared, part_lacking}
use Rattle.pp_plan.proofs.tier.clear_words.Goals as goal

pub returns-then-words-k-clause-here : goal.returns-then-words-k-clause-here
returns-then-words-k-clause-here c = λ w here. get_or_past c.args.words.now w 0 (omega (arith, here, c.if-words-k.true))

pub returns-clause-others : goal.returns-clause-others
returns-clause-others c =
    part_others c.args.k c.min-end.result c.args.words.now c.fill.new.self c.if-words-k.false c.min-end.ensures
    (part_size c.args.k c.min-end.result c.args.words.now c.fill.new.self c.if-words-k.false c.min-end.ensures c.fill.ensures.len)

pub returns-clause-here : goal.returns-clause-here
returns-clause-here c =
    part_cleared c.args.k c.min-end.result c.args.words.now c.fill.new.self c.if-words-k.false c.min-end.ensures
    (part_size c.args.k c.min-end.result c.args.words.now c.fill.new.self c.if-words-k.false c.min-end.ensures c.fill.ensures.len)
    (λ j lt. c.fill.ensures.clones j 0 (subst (λ n. j < n) c.fill.ensures.len lt) refl)

pub returns-clause-lacks : goal.returns-clause-lacks
returns-clause-lacks c =
    part_lacking c.args.k c.args.words.now c.args.lacks.now _ c.requires.lacks c.if-words-k.false
    (part_long c.args.k c.min-end.result c.args.words.now c.fill.new.self c.if-words-k.false c.min-end.ensures
    (part_size c.args.k c.min-end.result c.args.words.now c.fill.new.self c.if-words-k.false c.min-end.ensures c.fill.ensures.len))
    (returns-clause-others c) (returns-clause-here c)
