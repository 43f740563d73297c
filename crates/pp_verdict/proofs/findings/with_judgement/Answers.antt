use Rattle.std.proofs.Common.{subst}
use Rattle.pp_recorded.specs.Entries.{life_of}
use Rattle.pp_verdict.specs.Findings.{Judges}
use Rattle.pp_verdict.specs.declared.judgement.Judgement.{Judgement}
use Rattle.pp_verdict.proofs.Notes.{elsewhere_notes, passes_notes}
use Rattle.pp_verdict.proofs.findings.with_judgement.Goals as goal

pub returns-in-Elsewhere : goal.returns-in-Elsewhere
returns-in-Elsewhere c = λ k j.
    elsewhere_notes k (life_of c.args.life) c.args.finding (subst (λ (x : Judgement). Judges k (life_of c.args.life) x) c.in-Elsewhere.is j)

pub returns-in-Passes : goal.returns-in-Passes
returns-in-Passes c = λ k j.
    passes_notes k (life_of c.args.life) c.args.finding (subst (λ (x : Judgement). Judges k (life_of c.args.life) x) c.in-Passes.is j)

pub returns-in-Fails : goal.returns-in-Fails
returns-in-Fails c = λ k j.
    c.with_fault.ensures k (subst (λ (x : Judgement). Judges k (life_of c.args.life) x) c.in-Fails.is j)
