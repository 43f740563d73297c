-- Sets of chunks that were announced by HAVE or ACK.
use Rattle.std.specs.Prelude.{◌≡◌, ℕ, ◌<◌, Bool, false, ◌||◌, List, length, reverse, slice_index_or}
use Rattle.std.specs.List.{list_any, slice_get}
use Rattle.std.specs.Option.{option_map_or}
use Rattle.pp_terms.specs.format.Descriptor.{Descriptor, chunks_of}
use Rattle.pp_terms.specs.format.Traffic.{Record, Received, Quiet, Sent}
use Rattle.pp_traffic.specs.Keeping.{announces}
use Rattle.pp_traffic.specs.Past.{read}
use Rattle.pp_outside.specs.MemoryLink.{in_order}
use Rattle.pp_world.specs.Outcome.{is_announced_in}
use Rattle.pp_actor.specs.declared.life.Life.{Life}

-- The set gained its numbers that pass a test, and lost none.
pub record Gains (test : ℕ → Bool) (old new : List Bool) : Type 0 where
  pub size : length new ≡ length old
  pub each : (i : ℕ) → i < length old → slice_index_or new i false ≡ (test i || slice_index_or old i false)

-- the record is of a datagram that was sent, and a HAVE or an ACK in that covers the chunk
abbrev pub record_announces : Descriptor → ℕ → Record → Bool
record_announces d i (Received at sender bytes) = false
record_announces d i (Quiet at) = false
record_announces d i (Sent moment receiver bytes) = announces i (read d (Sent moment receiver bytes)).messages.read

-- the record at a place announces the chunk; none does past the end
abbrev pub announces_at : Descriptor → List Record → ℕ → ℕ → Bool
announces_at d records n i = option_map_or (record_announces d i) (slice_get records n) false

-- the chunk was announced in the life
abbrev pub is_announced_in_life : Descriptor → ℕ → Life → Bool
is_announced_in_life d i life = is_announced_in d i (reverse (in_order life.link))

-- The set is that of the chunks that were announced in any of the lives.
pub record AreAnnounced (d : Descriptor) (lives : List Life) (set : List Bool) : Type 0 where
  pub size : length set ≡ chunks_of d
  pub each : (i : ℕ) → i < chunks_of d → slice_index_or set i false ≡ list_any (is_announced_in_life d i) lives
