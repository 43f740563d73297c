use Rattle.std.proofs.Common.{◌≡◌, ◌+◌, ◌/◌, ◌^◌, ◌<◌, arith}
use Rattle.std.specs.Int.{w64}
use Rattle.pp_terms.specs.tree.Bins.{bin_number}
use Rattle.pp_terms.proofs.Binning.{by_trailing_ones}
use Rattle.pp_bins.specs.Answers.{node}
use Rattle.pp_bins.proofs.Shared.{of_width}
use Rattle.pp_bins.proofs.bin64.Bin64.read.Goals as goal

-- the layer and the offset that are found have this number
number_is : (c : goal.After-trailing_ones-layer)
    → bin_number (node c.trailing_ones-layer.result (c.args.number / 2 ^ c.trailing_ones-layer.result / 2)) ≡ c.args.number
number_is c =
    let lt : c.args.number + 1 < 2 ^ 64 = omega arith in
    rw c.trailing_ones-layer.ensures (by_trailing_ones w64 c.args.number lt).1

pub invariant_of-result : goal.invariant_of-result
invariant_of-result c = omega (arith, number_is c)

pub returns-clause-number : goal.returns-clause-number
returns-clause-number c = number_is c

pub returns-clause-width : goal.returns-clause-width
returns-clause-width c = of_width 64 _ (omega (arith, number_is c))
