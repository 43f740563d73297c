use Rattle.std.proofs.Common.{sym, ◌∙◌}
use Rattle.pp_tree.proofs.Numerals.{run_grows}
use Rattle.pp_targets.proofs.form.number.Goals as goal

pub loop-end-preserved : goal.loop-end-preserved
loop-end-preserved c =
    run_grows c.args.bytes.now c.args.at c.loop-end.end c.loop-end.value _ c.loop-end.invariant c.loop-end-test.true
    c.if-end-at-lt20.true (sym c.is_ascii_digit.ensures.value ∙ c.if-is_ascii_digit.true) c.from.ensures
