use Rattle.std.proofs.Common.{ap, ◌∙◌}
use Rattle.pp_terms.specs.tree.Tree.{Node}
use Rattle.pp_terms.specs.tree.Bins.{first_leaf}
use Rattle.pp_terms.proofs.Binning.{layer_low}
use Rattle.pp_bins.proofs.Shared.{first_shifted}
use Rattle.pp_bins.proofs.bin64.Bin64.first.Goals as goal

pub overflow_shl-result : goal.overflow_shl-result
overflow_shl-result c = layer_low 64 _ c.self.invariant

pub returns : goal.returns
returns c = first_shifted 64 _ c.self.invariant ∙ ap (λ (n : Node). first_leaf n) c.self.view_is
