use Rattle.std.proofs.Common.{◌∙◌, sym}
use Rattle.pp_avail.proofs.Levelling.{level_whole, level_unchanged, some_stepped}
use Rattle.pp_avail.proofs.levels.refresh.Goals as goal

pub returns-then-changed-eq0-clause-here : goal.returns-then-changed-eq0-clause-here
returns-then-changed-eq0-clause-here c = λ old have before fewer lt.
    level_unchanged c.args.levels.now c.args.w c.args.changed c.args.step old c.args.planes.now fewer c.if-changed-eq0.true have (before fewer lt)

pub before-requires-clause-stepped : goal.before-requires-clause-stepped
before-requires-clause-stepped c =
    some_stepped c.args.step c.args.changed c.args.planes.now c.in-Some.number c.ranges.changed.fits c.if-changed-eq0.false c.requires.steps c.in-Some.ensures.1

pub returns-in-Some-clause-here : goal.returns-in-Some-clause-here
returns-in-Some-clause-here c = λ old have before fewer lt.
    level_whole c.args.levels.now c.mark.new.levels c.mark-in-Some.new.levels c.args.w c.args.changed c.args.step old c.args.planes.now c.in-Some.number fewer
    c.ranges.changed.fits have
    (some_stepped c.args.step c.args.changed c.args.planes.now c.in-Some.number c.ranges.changed.fits c.if-changed-eq0.false c.requires.steps c.in-Some.ensures.1)
    c.in-Some.ensures.1 (before fewer lt) (c.mark.ensures.levels fewer) (c.mark.ensures.here fewer)
    (λ other. c.mark-in-Some.ensures.levels fewer (λ e. other (e ∙ c.before-in-Some.ensures.value)))
    (λ e. c.mark-in-Some.ensures.here fewer (e ∙ sym c.before-in-Some.ensures.value))
