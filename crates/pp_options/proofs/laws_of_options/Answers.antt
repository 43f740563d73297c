use Rattle.pp_terms.proofs.Spellings.{reads_spellings, one_reading, written_again}
use Rattle.pp_options.proofs.laws_of_options.Goals as goal

pub returns : goal.returns
returns c = record { read = reads_spellings; one = one_reading; written = written_again }
