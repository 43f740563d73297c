-- Numbers within a span.
use Rattle.std.proofs.Common.{◌≡◌, ℕ, ◌<◌, ◌≤◌, true, false, arith}
use Rattle.std.proofs.lemmas.Bool.Decides.{nat_tests}
use Rattle.pp_terms.specs.tree.Range.{Span, within}

pub within_from : (s : Span) (i : ℕ) → s.first ≤ i → i ≤ s.last → within s i ≡ true
within_from s i low high = grind (arith, nat_tests)

pub within_past : (s : Span) (i : ℕ) → s.last < i → within s i ≡ false
within_past s i lt = grind (arith, nat_tests)
