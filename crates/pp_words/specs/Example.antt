-- Worked examples of the words of a command line.
use Rattle.std.specs.Prelude.{◌≡◌, [], ◌∷◌, codes}
use Rattle.pp_terms.specs.format.Traffic.{V4, V6}
use Rattle.pp_terms.specs.format.Addresses.{IsAddress}
use Rattle.pp_words.specs.Commands.{Import}
use Rattle.pp_terms.specs.format.DescriptorFault as fault
use Rattle.pp_words.specs.Usage.{Missing, Extra, Command, Chunk, Descriptor, usage, usage_line}
use Rattle.pp_words.specs.CommandLine.{commands, Spells, IsFirstWrong}

pub record WordExamples : Type 0 where
  -- two addresses and their bytes
  pub v4 : IsAddress (codes "127.0.0.1:7000") (V4 (127 ∷ 0 ∷ 0 ∷ 1 ∷ []) 7000)
  pub v6 : IsAddress (codes "[fE80::1]:1") (V6 (0xfe ∷ 0x80 ∷ 0 ∷ 0 ∷ 0 ∷ 0 ∷ 0 ∷ 0 ∷ 0 ∷ 0 ∷ 0 ∷ 0 ∷ 0 ∷ 0 ∷ 0 ∷ 1 ∷ []) 1)
  -- a command
  pub spelled : Spells (codes "import" ∷ codes "s" ∷ codes "1024" ∷ []) (Import (codes "s") 1024)
  -- first wrong words
  pub no_words : IsFirstWrong commands [] (usage 0 Missing)
  pub no_command : IsFirstWrong commands (codes "imports" ∷ codes "s" ∷ []) (usage 0 Command)
  pub too_few : IsFirstWrong commands (codes "import" ∷ codes "s" ∷ []) (usage 2 Missing)
  pub no_chunk_size : IsFirstWrong commands (codes "import" ∷ codes "s" ∷ codes "1000" ∷ []) (usage 2 Chunk)
  pub too_many : IsFirstWrong commands (codes "import" ∷ codes "s" ∷ codes "1024" ∷ codes "x" ∷ []) (usage 3 Extra)
  -- two lines
  pub missing_line : usage_line (usage 0 Missing) ≡ codes "usage: word 0: missing\n"
  pub fault_line : usage_line (usage 2 (Descriptor (fault.Size 76))) ≡ codes "usage: word 2: descriptor size at 76\n"
