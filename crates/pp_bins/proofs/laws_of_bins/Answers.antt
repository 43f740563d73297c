use Rattle.pp_terms.proofs.Binning.{bins_are_numbers}
use Rattle.pp_bins.proofs.laws_of_bins.Goals as goal

pub returns : goal.returns
returns c = bins_are_numbers
