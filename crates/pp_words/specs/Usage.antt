-- What is wrong with the words of a command line, and the line that says it.
use Rattle.std.specs.Prelude.{ℕ, List, ◌++◌, codes, decimal}
use Rattle.pp_terms.specs.format.DescriptorFault.{DescriptorFault, fault_text}
use Rattle.pp_terms.specs.command.Report.{line}

-- A word is missing or one too many, or it is no command's name, or it isn't what the command wants at its place.
pub data UsageKind : Type 0 where
  Missing : UsageKind
  Extra : UsageKind
  Command : UsageKind
  Store : UsageKind
  Chunk : UsageKind
  Number : UsageKind
  Descriptor : (fault : DescriptorFault) → UsageKind
  Address : UsageKind
  Order : UsageKind

-- The word, counted from 0, and what is wrong with it.
pub record Usage : Type 0 where
  pub word : ℕ
  pub kind : UsageKind

abbrev pub usage : ℕ → UsageKind → Usage
usage n k = record { word = n; kind = k }

abbrev pub kind_text : UsageKind → List ℕ
kind_text Missing = codes "missing"
kind_text Extra = codes "extra"
kind_text Command = codes "command"
kind_text Store = codes "store"
kind_text Chunk = codes "chunk"
kind_text Number = codes "number"
kind_text (Descriptor fault) = codes "descriptor " ++ fault_text fault
kind_text Address = codes "address"
kind_text Order = codes "order"

unfoldable pub usage_line : Usage → List ℕ
usage_line u = line (codes "usage: word " ++ decimal u.word ++ codes ": " ++ kind_text u.kind)
