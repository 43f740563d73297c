use Rattle.std.proofs.Common.{ap, ◌∙◌, arith}
use Rattle.std.specs.Int.{bit_at}
use Rattle.std.proofs.lemmas.Nat.Bits.{bit_at_ones}
use Rattle.pp_avail.proofs.planes.shared.Goals as goal

pub returns-then-plane-eq18446744073709551615 : goal.returns-then-plane-eq18446744073709551615
returns-then-plane-eq18446744073709551615 c = (omega arith, (λ k lt. ap (λ v. bit_at v k) c.if-plane-eq18446744073709551615.true ∙ bit_at_ones 64 k lt))
