use Rattle.pp_words.proofs.WordExamples.{v4, v6, spelled, too_few, no_chunk_size, too_many, missing_line, fault_line}
use Rattle.std.proofs.Common.{refl}
use Rattle.pp_words.proofs.laws.examples_of_words.Goals as goal

pub returns : goal.returns
returns c = record {
  v4 = v4;
  v6 = v6;
  spelled = spelled;
  no_words = refl;
  no_command = refl;
  too_few = too_few;
  no_chunk_size = no_chunk_size;
  too_many = too_many;
  missing_line = missing_line;
  fault_line = fault_line;
}
