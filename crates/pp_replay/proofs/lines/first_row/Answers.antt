use Rattle.std.proofs.Common.{arith, ◌<◌, length}
use Rattle.std.proofs.lemmas.Grind.{common_steps}
use Rattle.pp_replay.proofs.RowsAndWords.{rows_split, rows_alone}
use Rattle.pp_replay.proofs.lines.first_row.Goals as goal

pub returns-in-Some : goal.returns-in-Some
returns-in-Some c = rows_split _ _ _ c.in-Some.ensures.0 c.in-Some.ensures.1

pub returns-in-None : goal.returns-in-None
returns-in-None c =
    let some : 0 < length c.args.text.now = grind (arith, common_steps) in
    rows_alone c.args.text.now _ some c.in-None.ensures (grind (arith, common_steps))
