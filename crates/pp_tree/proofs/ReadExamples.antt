-- The worked examples of the text of a descriptor.
use Rattle.std.proofs.Common.{refl, codes, arith}
use Rattle.pp_terms.specs.format.DescriptorRead.{IsNumber}

pub leading_zero : ¬ IsNumber (codes "0256")
leading_zero is = let one = is.plain refl in omega arith
