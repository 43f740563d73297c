use Rattle.pp_terms.proofs.Binning.{layer_low}
use Rattle.pp_bins.proofs.bin32.Bin32.last.Goals as goal

pub overflow_shl-result : goal.overflow_shl-result
overflow_shl-result c = layer_low 32 _ c.self.invariant
