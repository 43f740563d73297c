-- Laws of sessions: each keeps the promise of a run.
use Rattle.std.specs.Prelude.{◌≡◌, ℕ, ◌≤◌, true, []}
use Rattle.pp_terms.specs.command.Stream.{SinkState}
use Rattle.pp_terms.specs.disk.Disk.{History, IsImage, Throughout, moment_of}
use Rattle.pp_terms.specs.disk.Image.{StandsIn}
use Rattle.pp_terms.specs.disk.Sound.{IsSound}
use Rattle.pp_terms.specs.format.Descriptor.{Descriptor}
use Rattle.pp_promises.specs.Promises.{Promises}
use Rattle.pp_store.specs.Store.{GoesOn, is_committed}
use Rattle.pp_core.specs.Keeping.{IsKeeping}
use Rattle.pp_turns.specs.Turning.{Post}
use Rattle.pp_sessions.specs.Sessions.{Session, IsSession, IsSeenAs, HasEnded, HasStopped, devices_before, devices_after, task_in, course_of}

-- Where its turns ended, a session keeps the whole promise.
abbrev pub TurnsKeep : Type 0
TurnsKeep = (d : Descriptor) (s : Session) (sink sink' : SinkState) → IsSession d s → (t : HasEnded s)
    → Promises d (task_in s) (devices_before s sink) (devices_after s sink') (course_of s t.turns.went.added)

-- The same holds where its disk refused a write or a sync.
abbrev pub StopsKeep : Type 0
StopsKeep = (d : Descriptor) (s : Session) (sink sink' : SinkState) → IsSession d s → (t : HasStopped s)
    → Promises d (task_in s) (devices_before s sink) (devices_after s sink') (course_of s t.went.added)

-- What an opening does of a disk, for one to whom it was attached when the opening began. What stood in every image then was
-- found, and goes on standing; and where what reads gave was sound then, the peer that has begun keeps its disk.
pub record Opens (d : Descriptor) (old : History) (first : Post) : Type 0 where
  pub whole : IsImage old.epoch old.reads
  pub later : moment_of old ≤ moment_of first.disk.history
  pub goes_on : GoesOn d old first.disk.history
  pub found : (i : ℕ) → Throughout old (moment_of old) (λ image. StandsIn d image i) → is_committed first.peer.parts.holding.store i ≡ true
  pub kept : IsSound d old.reads → IsKeeping (moment_of first.disk.history) first.peer first.disk []

-- The disk at the end, but that it was attached when the opening began.
pub record IsAttachedThen (old last seen : History) : Type 0 where
  pub reads : seen.reads ≡ last.reads
  pub past : seen.past ≡ last.past
  pub epoch : seen.epoch ≡ last.epoch
  pub start : seen.start ≡ moment_of old
  pub first : seen.first ≡ old.epoch

-- A disk is seen so.
abbrev pub SeenFromOpening : Type 0
SeenFromOpening = (d : Descriptor) (old seen : History) (first last : Post) → Opens d old first
    → IsAttachedThen old last.disk.history seen → IsSeenAs d first last seen
