use Rattle.std.proofs.Common.{◌∙◌}
use Rattle.std.specs.Int.{bit_at}
use Rattle.std.proofs.lemmas.Nat.Bits.{bit_at-lt, shr_and_one}
use Rattle.pp_avail.proofs.Digits.{other_digits}
use Rattle.pp_avail.proofs.planes.alike.Goals as goal

pub returns-else-number-place-eq1 : goal.returns-else-number-place-eq1
returns-else-number-place-eq1 c = λ k lt. other_digits c.args.plane (bit_at c.args.number c.args.place) k c.ranges.plane.fits lt
    (bit_at-lt c.args.number c.args.place) (λ one. c.if-number-place-eq1.false (shr_and_one c.args.number c.args.place ∙ one))
