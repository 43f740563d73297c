use Rattle.std.proofs.Common.{get_or, ap, ◌∙◌, arith}
use Rattle.std.proofs.lemmas.List.{get_or_default}
use Rattle.std.proofs.lemmas.List.Edits.{map_over_more}
use Rattle.std.proofs.Math.ListN.{set}
use Rattle.pp_requests.specs.declared.asking.Asking.{Asking}
use Rattle.pp_requests.specs.Moments.{overtaken_by}
use Rattle.pp_requests.proofs.asking.overtake.Goals as goal

pub loop-entry-preserved : goal.loop-entry-preserved
loop-entry-preserved c =
    let none : Asking = record { chunk = 0; moment = 0; overtaken = 0 } in
    let old = get_or c.loop-entry.entries c.loop-entry.entry-index none in
    ap (λ entry. set c.loop-entry.entries c.loop-entry.entry-index entry) c.overtaken_by.ensures
    ∙ map_over_more (overtaken_by c.args.answered.now) c.args.entries.now c.loop-entry.entries c.loop-entry.entry-index old
    c.loop-entry-test.true c.loop-entry.invariant
    (get_or_default c.loop-entry.entries c.loop-entry.entry-index none old (omega arith))
