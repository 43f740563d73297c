use Rattle.std.proofs.Common.{◌≡◌, replicate}
use Rattle.pp_verdict.specs.declared.findings.Finding.TheVariants as variants
use Rattle.pp_verdict.proofs.findings.unseen.Given as goal

abbrev pub invariant-loop : goal.invariant-loop
invariant-loop l = l.findings.items ≡ replicate l.counter variants.Unseen
