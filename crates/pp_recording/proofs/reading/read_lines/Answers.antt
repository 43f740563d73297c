use Rattle.std.proofs.Common.{◌≡◌, ◌≤◌, ◌++◌, ◌∷◌, length, codes, ℕ, List, ap, sym, subst, ◌∙◌, arith}
use Rattle.std.proofs.lemmas.List.{length-append}
use Rattle.pp_recording.specs.Recording.{recording_text, most_text}
use Rattle.pp_recording.specs.Drafts.{Takes}
use Rattle.pp_recording.proofs.ByteTests.{told_same, some_of, none_of}
use Rattle.pp_recording.proofs.FirstFaults.{whole_text, no_line, line_refused, line_taken, line_low, line_behind_end}
use Rattle.pp_recording.proofs.reading.read_lines.Goals as goal

pub loop-row-init : goal.loop-row-init
loop-row-init c = c.requires.reading

pub recording-requires-clause-draft : goal.recording-requires-clause-draft
recording-requires-clause-draft c = c.loop-row.invariant.draft

pub recording-requires-clause-short : goal.recording-requires-clause-short
recording-requires-clause-short c =
    let word = told_same c.eq.result c.in-Some.row.now c.as_slice.result.now (codes "end") c.eq.ensures c.as_slice.ensures c.if-eq.true in
    let whole = whole_text c.args.text.now c.loop-row.rest.now c.in-Some.row.now c.in-Some.behind.now c.loop-row.draft c.loop-row.line c.loop-row.invariant
    c.in-Some.ensures.0 word (none_of c.in-Some.behind.now c.if-is_empty.ensures) in
    subst (λ (t : List ℕ). length t ≤ most_text) whole c.requires.short

pub returns-then-is_empty-clause-ok : goal.returns-then-is_empty-clause-ok
returns-then-is_empty-clause-ok c =
    let word = told_same c.eq.result c.in-Some.row.now c.as_slice.result.now (codes "end") c.eq.ensures c.as_slice.ensures c.if-eq.true in
    let whole = whole_text c.args.text.now c.loop-row.rest.now c.in-Some.row.now c.in-Some.behind.now c.loop-row.draft c.loop-row.line c.loop-row.invariant
    c.in-Some.ensures.0 word (none_of c.in-Some.behind.now c.if-is_empty.ensures) in
    whole ∙ ap (λ r. recording_text r) (sym c.recording.ensures)

pub overflow_add-result : goal.overflow_add-result
overflow_add-result c =
    let low = line_low c.args.text.now c.loop-row.rest.now c.loop-row.draft c.loop-row.line c.requires.short c.loop-row.invariant in omega (arith, low)

pub returns-then-eq-clause-fault : goal.returns-then-eq-clause-fault
returns-then-eq-clause-fault c =
    let word = told_same c.eq.result c.in-Some.row.now c.as_slice.result.now (codes "end") c.eq.ensures c.as_slice.ensures c.if-eq.true in
    line_behind_end c.args.text.now c.loop-row.rest.now c.in-Some.row.now c.in-Some.behind.now c.loop-row.draft c.loop-row.line c.requires.short c.loop-row.invariant
    c.in-Some.ensures.0 word (some_of (length c.in-Some.behind.now) c.if-is_empty.ensures)

pub take-requires-clause-draft : goal.take-requires-clause-draft
take-requires-clause-draft c = c.loop-row.invariant.draft

pub returns-in-Ok-false-clause-fault : goal.returns-in-Ok-false-clause-fault
returns-in-Ok-false-clause-fault c =
    line_refused c.args.text.now c.loop-row.rest.now c.in-Some.row.now c.in-Some.behind.now c.loop-row.draft c.loop-row.line c.requires.short c.loop-row.invariant
    c.in-Some.ensures.0 c.in-Some.ensures.1
    (subst (λ t. Takes c.loop-row.draft c.in-Some.row.now t c.take.new.self) c.in-Ok-false.field-0-test c.in-Ok-false.ensures)

pub overflow_add-line : goal.overflow_add-line
overflow_add-line c =
    let low = line_low c.args.text.now c.loop-row.rest.now c.loop-row.draft c.loop-row.line c.requires.short c.loop-row.invariant in omega (arith, low)

pub loop-row-smaller : goal.loop-row-smaller
loop-row-smaller c =
    let size : length c.loop-row.rest.now ≡ length (c.in-Some.row.now ++ 10 ∷ c.in-Some.behind.now) = ap (λ (t : List ℕ). length t) c.in-Some.ensures.0 in
    let parts = length-append c.in-Some.row.now (10 ∷ c.in-Some.behind.now) in omega (arith, size, parts)

pub loop-row-preserved : goal.loop-row-preserved
loop-row-preserved c =
    line_taken c.args.text.now c.loop-row.rest.now c.in-Some.row.now c.in-Some.behind.now c.loop-row.draft c.take.new.self c.loop-row.line c.loop-row.invariant
    c.in-Some.ensures.0 c.in-Some.ensures.1
    (subst (λ t. Takes c.loop-row.draft c.in-Some.row.now t c.take.new.self) c.in-Ok-true.field-0-test c.in-Ok-true.ensures)

pub returns-clause-fault : goal.returns-clause-fault
returns-clause-fault c =
    no_line c.args.text.now c.loop-row.rest.now c.loop-row.draft c.loop-row.line c.requires.short c.loop-row.invariant c.in_default-split_at_byte.ensures
