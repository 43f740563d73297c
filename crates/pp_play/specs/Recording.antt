-- The recording of a session of a replay.
use Rattle.std.specs.Prelude.{◌≡◌, ◌⊎◌, ℕ, ◌-◌, ◌<◌, min, Option, None, Some, List, [], length, reverse, slice_get}
use Rattle.pp_tree.specs.Book.{entry}
use Rattle.pp_outside.specs.MemoryLink.{in_order}
use Rattle.pp_actor.specs.declared.life.Life.{Life}
use Rattle.pp_outcome.specs.declared.outcome.PeerEnd.{PeerEnd}
use Rattle.pp_recording.specs.Sessions.{IsOfSession, IsOversize}
use Rattle.pp_recording.specs.State.{RecordingState}
use Rattle.pp_play.specs.declared.recording.RecordFault.{RecordFault}
use Rattle.pp_play.specs.declared.recording.RecordFault.TheVariants.{NoLife, Limit, Memory}
use Rattle.pp_play.specs.declared.replaying.Outcome.{Outcome}

-- the lives of a peer, the oldest first; none where there is no such peer
abbrev pub lives_in : Option PeerEnd → List Life
lives_in None = []
lives_in (Some end) = end.remains.lives.items

abbrev pub lives_of : Outcome → ℕ → List Life
lives_of outcome peer = lives_in (slice_get outcome.ends.items peer)

-- The peer has that life, counted from 1.
pub record IsLifeOf (outcome : Outcome) (peer number : ℕ) (life : Life) : Type 0 where
  pub some : 0 < number
  pub there : slice_get (lives_of outcome peer) (number - 1) ≡ Some life

-- The recording is that life's.
pub record IsLifeRecorded (outcome : Outcome) (peer number : ℕ) (r : RecordingState) : Type 0 where
  pub life : Life
  pub is : IsLifeOf outcome peer number life
  pub recorded : IsOfSession outcome.descriptor (entry life.book) (reverse (in_order life.link)) r

-- The peer has no such life, and that many.
pub record IsNoLife (outcome : Outcome) (peer number lives : ℕ) : Type 0 where
  pub none : (number ≡ 0) ⊎ (length (lives_of outcome peer) < number)
  pub count : lives ≡ min (length (lives_of outcome peer)) 4294967295

-- The peer has that life, whose recording passes a limit.
pub record IsTooLarge (outcome : Outcome) (peer number records nodes bytes : ℕ) : Type 0 where
  pub life : Life
  pub is : IsLifeOf outcome peer number life
  pub over : IsOversize outcome.descriptor (entry life.book) (reverse (in_order life.link)) records nodes bytes

-- No clause says when there is no memory.
abbrev pub IsRecordFault : Outcome → ℕ → ℕ → RecordFault → Type 0
IsRecordFault outcome peer number (NoLife lives) = IsNoLife outcome peer number lives
IsRecordFault outcome peer number (Limit records nodes bytes) = IsTooLarge outcome peer number records nodes bytes
IsRecordFault outcome peer number Memory = Unit {0}
