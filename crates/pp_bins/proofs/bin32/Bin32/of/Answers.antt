use Rattle.std.proofs.Common.{refl, arith}
use Rattle.pp_terms.proofs.Binning.{layer_low}
use Rattle.pp_bins.specs.Answers.{node}
use Rattle.pp_bins.proofs.Shared.{is_bin, is_no_bin}
use Rattle.pp_bins.proofs.bin32.Bin32.of.Goals as goal
use Rattle.pp_bins.proofs.bin32.Bin32.of.Goals.{then-layer-gt31-via-then-layer-gt31, then-layer-gt31-via-else-layer-gt31+then-offset-layer-ne0}

pub returns-then-layer-gt31 : goal.returns-then-layer-gt31
returns-then-layer-gt31 c is = elim c.then-layer-gt31.branch [
  | then-layer-gt31-via-then-layer-gt31 x ↦ absurd (omega (arith, layer_low 32 (node c.args.layer c.args.offset) is))
  | then-layer-gt31-via-else-layer-gt31+then-offset-layer-ne0 x ↦
      is_no_bin 32 (node c.args.layer c.args.offset) x.if-offset-layer-ne0.true is
]

pub invariant_of-result : goal.invariant_of-result
invariant_of-result c = is_bin 32 (node c.args.layer c.args.offset) (omega arith) c.if-offset-layer-ne0.false

pub returns : goal.returns
returns c = (refl, is_bin 32 (node c.args.layer c.args.offset) (omega arith) c.if-offset-layer-ne0.false)
