use Rattle.std.proofs.Common.{sym, subst}
use Rattle.pp_recorded.specs.Entries.{life_of}
use Rattle.pp_verdict.specs.Findings.{Notes}
use Rattle.pp_verdict.specs.declared.findings.Finding.{Finding}
use Rattle.pp_verdict.specs.declared.findings.Finding.TheVariants as variants
use Rattle.pp_verdict.proofs.Notes.{unseen_fault, later_fault, earlier_fault}
use Rattle.pp_verdict.proofs.findings.with_fault.Goals as goal

pub returns-in-Unseen : goal.returns-in-Unseen
returns-in-Unseen c = λ k j.
    subst (λ (f : Finding). Notes k (life_of c.args.life) f (variants.Failed c.args.life.opening c.args.life.local c.args.part)) (sym c.in-Unseen.is)
    (unseen_fault k (life_of c.args.life) c.args.part j)

pub returns-then-is_no_earlier : goal.returns-then-is_no_earlier
returns-then-is_no_earlier c = λ k j.
    subst (λ (f : Finding). Notes k (life_of c.args.life) f (variants.Failed c.args.life.opening c.args.life.local c.args.part)) (sym c.in-Failed.is)
    (later_fault k (life_of c.args.life) c.args.part c.in-Failed.part c.in-Failed.opening c.in-Failed.local j (c.is_no_earlier.ensures.yes c.if-is_no_earlier.true))

pub returns-else-is_no_earlier : goal.returns-else-is_no_earlier
returns-else-is_no_earlier c = λ k j.
    subst (λ (f : Finding). Notes k (life_of c.args.life) f (variants.Failed c.in-Failed.opening c.in-Failed.local c.in-Failed.part)) (sym c.in-Failed.is)
    (earlier_fault k (life_of c.args.life) c.args.part c.in-Failed.part c.in-Failed.opening c.in-Failed.local j (c.is_no_earlier.ensures.no c.if-is_no_earlier.false))
