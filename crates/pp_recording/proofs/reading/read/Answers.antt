use Rattle.std.proofs.Common.{codes, sym, ◌∙◌, arith}
use Rattle.pp_recording.proofs.ByteTests.{told_differ}
use Rattle.pp_recording.proofs.Splits.{lacks_none, split_same}
use Rattle.pp_recording.proofs.FirstFaults.{first_fault}
use Rattle.pp_recording.proofs.reading.read.Goals as goal

pub returns-in_default-clause-fault : goal.returns-in_default-clause-fault
returns-in_default-clause-fault c =
    first_fault c.args.text.now (omega arith) (λ row more clean is e. lacks_none 10 c.args.text.now row more c.in_default.ensures is)

pub returns-then-ne-clause-fault : goal.returns-then-ne-clause-fault
returns-then-ne-clause-fault c =
    first_fault c.args.text.now (omega arith) (λ row more clean is e.
    let same = (split_same 10 row more c.in-Some.row.now c.in-Some.rest.now clean c.in-Some.ensures.1 (sym is ∙ c.in-Some.ensures.0)).0 in
    told_differ c.in-Some.row.now c.as_slice.result.now (codes "ppspp-recording 1") c.if-ne.ensures c.as_slice.ensures (sym same ∙ e))
