use Rattle.std.proofs.Common.{subst}
use Rattle.pp_tree.specs.Book.{entry}
use Rattle.pp_verdict.specs.Chunks.{shown}
use Rattle.pp_verdict.specs.Findings.{case_of, IsSettled}
use Rattle.pp_verdict.specs.declared.findings.Finding.{Finding}
use Rattle.pp_verdict.proofs.Parts.{no_life, some_life, failed_life}
use Rattle.pp_verdict.proofs.verdict.part_of.Goals as goal

pub returns-in-Unseen : goal.returns-in-Unseen
returns-in-Unseen c = λ past here is settled.
    let d = c.args.descriptor.now in
    let book = entry c.args.book.now in
    let backed = c.is_backed_by.ensures.0 c.if-not-is_backed_by.false in
    no_life d book past here (shown d c.args.chunk) is (c.is_last.ensures.0 c.if-not-is_last.false) backed
    (subst (λ (f : Finding). IsSettled (case_of d book past here) f) c.in-Unseen.is (settled (c.requires.rooted.1 backed.rooted)))

pub returns-in-Passed : goal.returns-in-Passed
returns-in-Passed c = λ past here is settled.
    let d = c.args.descriptor.now in
    let book = entry c.args.book.now in
    let backed = c.is_backed_by.ensures.0 c.if-not-is_backed_by.false in
    some_life d book past here (shown d c.args.chunk) is (c.is_last.ensures.0 c.if-not-is_last.false) backed
    (subst (λ (f : Finding). IsSettled (case_of d book past here) f) c.in-Passed.is (settled (c.requires.rooted.1 backed.rooted)))

pub returns-in-Failed : goal.returns-in-Failed
returns-in-Failed c = λ past here is settled.
    let d = c.args.descriptor.now in
    let book = entry c.args.book.now in
    let backed = c.is_backed_by.ensures.0 c.if-not-is_backed_by.false in
    failed_life d book past here (shown d c.args.chunk) c.in-Failed.opening c.in-Failed.local c.in-Failed.part is (c.is_last.ensures.0 c.if-not-is_last.false) backed
    (subst (λ (f : Finding). IsSettled (case_of d book past here) f) c.in-Failed.is (settled (c.requires.rooted.1 backed.rooted)))
