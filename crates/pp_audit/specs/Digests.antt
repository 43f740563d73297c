-- Recorded hashes have 32 bytes.
use Rattle.std.specs.Prelude.{◌≡◌, ◌==◌, Bool, true, List, length}
use Rattle.std.specs.List.{list_all, AllByRecursion}
use Rattle.pp_terms.specs.format.Descriptor.{Descriptor}
use Rattle.pp_terms.specs.format.Messages.{Message, Integrity}
use Rattle.pp_terms.specs.format.Traffic.{Record}
use Rattle.pp_terms.specs.tree.Claims.{Claim}
use Rattle.pp_traffic.specs.Past.{read}

-- the digest of an INTEGRITY message, or of a claim, has 32 bytes
abbrev pub is_long : Message → Bool
is_long (Integrity span digest) = length digest == 32
is_long _ = true

abbrev pub has_digest : Claim → Bool
has_digest c = length c.digest == 32

-- The digests of a record's messages have 32 bytes, or those of all records.
abbrev pub AreLong : Descriptor → Record → Type 0
AreLong d r = list_all is_long (read d r).messages.read ≡ true

abbrev pub AllAreLong : Descriptor → List Record → Type 0
AllAreLong d past = AllByRecursion (AreLong d) past
