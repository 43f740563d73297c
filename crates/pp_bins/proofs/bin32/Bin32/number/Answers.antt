use Rattle.std.proofs.Common.{ap, arith}
use Rattle.pp_terms.specs.tree.Tree.{Node}
use Rattle.pp_terms.specs.tree.Bins.{bin_number}
use Rattle.pp_terms.proofs.Binning.{layer_low}
use Rattle.pp_bins.proofs.Shared.{odd_fits, shifted}
use Rattle.pp_bins.proofs.bin32.Bin32.number.Goals as goal

pub overflow_mul-result : goal.overflow_mul-result
overflow_mul-result c = omega (arith, odd_fits 32 _ c.self.invariant)

pub overflow_add-result : goal.overflow_add-result
overflow_add-result c = omega (arith, odd_fits 32 _ c.self.invariant)

pub overflow_shl-result : goal.overflow_shl-result
overflow_shl-result c = layer_low 32 _ c.self.invariant

pub overflow_sub-result : goal.overflow_sub-result
overflow_sub-result c = omega (arith, shifted 32 _ c.self.invariant)

pub returns-clause-number : goal.returns-clause-number
returns-clause-number c =
    let e = ap (λ (n : Node). bin_number n) c.self.view_is in omega (arith, e, shifted 32 _ c.self.invariant)

pub returns-clause-low : goal.returns-clause-low
returns-clause-low c = omega (arith, c.self.invariant, shifted 32 _ c.self.invariant)
