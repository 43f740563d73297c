use Rattle.std.proofs.Common.{sym, subst}
use Rattle.pp_tree.specs.Book.{entry}
use Rattle.pp_recorded.specs.Entries.{life_of, record_of}
use Rattle.pp_verdict.specs.Findings.{case_of, Notes}
use Rattle.pp_verdict.specs.declared.findings.Finding.{Finding}
use Rattle.pp_verdict.proofs.Notes.{passed_fault}
use Rattle.pp_verdict.proofs.findings.look.Goals as goal

pub returns-in-Passed : goal.returns-in-Passed
returns-in-Passed c = λ past follows.
    let k = case_of c.args.descriptor.now (entry c.args.book.now) past (record_of c.args.newest.now) in
    subst (λ (f : Finding). Notes k (life_of c.args.life) f f) (sym c.in-Passed.is) (passed_fault k (life_of c.args.life))

pub returns : goal.returns
returns c = λ past follows.
    c.with_judgement.ensures (case_of c.args.descriptor.now (entry c.args.book.now) past (record_of c.args.newest.now)) (c.judge-judgement.ensures past follows)
