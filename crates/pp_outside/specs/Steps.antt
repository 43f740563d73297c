-- The steps of a log as calls of a disk.
use Rattle.std.specs.Prelude.{◌+◌, ◌^◌, ◌≤◌, List, [], ◌∷◌, length}
use Rattle.pp_terms.specs.disk.Disk.{Write}
use Rattle.pp_terms.specs.disk.Calls as calls
use Rattle.pp_terms.specs.disk.Calls.{Did}
use Rattle.pp_outside.specs.declared.log.Piece.{Piece}
use Rattle.pp_outside.specs.declared.log.Step.{Step}
use Rattle.pp_outside.specs.declared.log.Step.TheVariants.{Wrote, Refused, Synced, Crashed}
use Rattle.pp_outside.specs.declared.log.Tear.{Tear}
use Rattle.pp_outside.specs.declared.log.Tear.TheVariants.{Dropped, Done, Filled}

abbrev pub write_of : Piece → Write
write_of piece = record { place = piece.place; bytes = piece.bytes.items }

abbrev pub did_of : Step → Did
did_of (Wrote piece) = calls.Wrote piece.place piece.bytes.items
did_of (Refused piece) = calls.Refused piece.place piece.bytes.items
did_of Synced = calls.Synced
did_of (Crashed image) = calls.Crashed image.items

abbrev pub tear_of : Tear → calls.Tear
tear_of Dropped = calls.Dropped
tear_of Done = calls.Done
tear_of Filled = calls.Filled

-- the writes of some calls, done and refused, the oldest first
abbrev pub writes_of : List Did → List Write
writes_of [] = []
writes_of (calls.Wrote place bytes ∷ done) = record { place = place; bytes = bytes } ∷ writes_of done
writes_of (calls.Refused place bytes ∷ done) = record { place = place; bytes = bytes } ∷ writes_of done
writes_of (calls.Synced ∷ done) = writes_of done
writes_of (calls.Crashed image ∷ done) = writes_of done

-- a write lies where a disk has places
abbrev pub IsPlaced : Did → Type 0
IsPlaced (calls.Wrote place bytes) = place + length bytes ≤ 2 ^ 40
IsPlaced (calls.Refused place bytes) = place + length bytes ≤ 2 ^ 40
IsPlaced calls.Synced = Unit {0}
IsPlaced (calls.Crashed image) = Unit {0}
