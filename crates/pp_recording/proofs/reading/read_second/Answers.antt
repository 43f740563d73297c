use Rattle.std.proofs.Common.{sym, ◌∙◌}
use Rattle.pp_recording.proofs.Splits.{lacks_none, split_same}
use Rattle.pp_recording.proofs.FirstFaults.{second_fault, first_reading}
use Rattle.pp_recording.proofs.reading.read_second.Goals as goal

pub returns-in_default-clause-fault : goal.returns-in_default-clause-fault
returns-in_default-clause-fault c =
    second_fault c.args.text.now c.args.rest.now c.requires.short c.requires.first
    (λ row more clean is d valid all e. lacks_none 10 c.args.rest.now row more c.in_default.ensures is)

pub returns-in_default-read_bytes-clause-fault : goal.returns-in_default-read_bytes-clause-fault
returns-in_default-read_bytes-clause-fault c =
    second_fault c.args.text.now c.args.rest.now c.requires.short c.requires.first
    (λ row more clean is d valid all e.
    let same = (split_same 10 row more c.in-Some.row.now c.in-Some.rest.now clean c.in-Some.ensures.1 (sym is ∙ c.in-Some.ensures.0)).0 in
    c.in_default-read_bytes.not-Ok d (c.read_bytes.ensures.each d valid all (sym same ∙ e)))

pub read_lines-requires-clause-reading : goal.read_lines-requires-clause-reading
read_lines-requires-clause-reading c =
    first_reading c.args.text.now c.args.rest.now c.in-Some.row.now c.in-Some.rest.now c.in-Ok-new.draft c.in-Ok.descriptor
    c.requires.first c.in-Some.ensures.0 c.in-Ok.ensures.ok c.in-Ok.ensures.valid c.in-Ok.ensures.bytes c.in-Ok-new.ensures.draft c.in-Ok-new.ensures.text
