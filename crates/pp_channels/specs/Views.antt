-- A difference of options, as plain data.
use Rattle.pp_terms.specs.format.Mismatch as plain
use Rattle.pp_channels.specs.declared.agreeing.Mismatch.{Mismatch}
use Rattle.pp_channels.specs.declared.agreeing.Mismatch.TheVariants.{Version, Minimum, Swarm, Integrity, Hash, Addressing, Chunk}

abbrev pub mismatch_from : Mismatch → plain.Mismatch
mismatch_from (Version number) = plain.Version number
mismatch_from (Minimum number) = plain.Minimum number
mismatch_from Swarm = plain.Swarm
mismatch_from (Integrity number) = plain.Integrity number
mismatch_from (Hash number) = plain.Hash number
mismatch_from (Addressing number) = plain.Addressing number
mismatch_from (Chunk size) = plain.Chunk size
