-- Options and faults, seen as the plain data that they mean.
use Rattle.std.specs.Prelude.{◌≡◌, ℕ, ◌+◌, ◌^◌, ◌<◌, ◌≤◌, List, length, take, [], ◌∷◌, Option, Some, None, IfSome, option_copied, Result, Ok, Err}
use Rattle.pp_terms.specs.Place.{placed}
use Rattle.pp_terms.specs.format.Options as plain
use Rattle.pp_options.specs.declared.value.Options.{Options}
use Rattle.pp_options.specs.declared.value.OptionFault.{OptionFault}
use Rattle.pp_options.specs.declared.value.OptionFault.TheVariants.{Short, Unknown, Twice, BadLength}

-- the options, without where their bytes lie in memory
abbrev pub options_of : Options → plain.Options
options_of o = record {
  version = o.version;
  minimum = o.minimum;
  swarm = option_copied o.swarm;
  integrity = o.integrity;
  hash = o.hash;
  addressing = o.addressing;
  messages = option_copied o.messages;
  chunk = o.chunk;
}

abbrev pub fault_of : OptionFault → plain.OptionFault
fault_of (Short at) = plain.Short at
fault_of (Unknown at code) = plain.Unknown at code
fault_of (Twice at code) = plain.Twice at code
fault_of (BadLength at length) = plain.BadLength at length

-- what was read: the options and how many bytes they take, or the fault
abbrev pub read_of : Result (Options × ℕ) OptionFault → Result (plain.Options × ℕ) plain.OptionFault
read_of (Ok x) = Ok (options_of x.0, x.1)
read_of (Err fault) = Err (fault_of fault)

-- A swarm identifier and a bitmap that have spellings.
pub record HasSpelling (o : plain.Options) : Type 0 where
  pub swarm : IfSome o.swarm (λ bytes. length bytes < 2 ^ 16)
  pub messages : IfSome o.messages (λ bitmap. length bitmap ≤ 32)

-- The first bytes, so many, are a spelling of the options.
pub record IsSpelledBy (o : plain.Options) (count : ℕ) (bytes : List ℕ) : Type 0 where
  pub within : count ≤ length bytes
  pub spelled : plain.IsSpelling o (take count bytes)

-- an option of one byte, if it is present
abbrev pub number_field : ℕ → Option ℕ → List ℕ
number_field code None = []
number_field code (Some n) = code ∷ n ∷ []

-- The text stands at the place, the others are as they were; the end is the place behind it.
pub record HasWritten (old : List ℕ) (at : ℕ) (text new : List ℕ) (end : ℕ) : Type 0 where
  pub after : new ≡ placed old at text
  pub ends : end ≡ at + length text
