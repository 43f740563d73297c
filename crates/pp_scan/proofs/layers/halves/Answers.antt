use Rattle.std.proofs.Common.{length, drop, ◌≤◌, arith, ◌∙◌}
use Rattle.std.proofs.lemmas.List.{take_all, length-drop}
use Rattle.pp_scan.proofs.layers.halves.Goals as goal

pub returns-clause-right : goal.returns-clause-right
returns-clause-right c =
    let short : length (drop 32 c.args.pair.now) ≤ 32 = omega (arith, length-drop 32 c.args.pair.now, c.told-pair) in
    c.new-2.ensures.same ∙ c.copy_from_slice-2.ensures.after ∙ take_all 32 (drop 32 c.args.pair.now) short
