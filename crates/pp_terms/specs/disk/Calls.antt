-- A disk in memory, as the list of all its calls that changed what is on it, crashes included. So it answers for
-- every moment.
use Rattle.std.specs.Prelude.{ℕ, ◌+◌, ◌%◌, ◌==◌, if◌then◌else◌, List, [], ◌∷◌, length, take, replicate, reverse}
use Rattle.pp_terms.specs.disk.Disk.{History, Epoch, Write, after_write, pends, settled, fresh, written}

-- A write; a refused write, whose range is pending while reads stay; a sync; a crash, with the image that it left.
pub data Did : Type 0 where
  Wrote : (place : ℕ) (bytes : List ℕ) → Did
  Refused : (place : ℕ) (bytes : List ℕ) → Did
  Synced : Did
  Crashed : (image : List ℕ) → Did

-- What was on the disk at first, what was done since, the oldest first, and how much of it at the last attachment.
pub record Calls : Type 0 where
  pub image : List ℕ
  pub done : List Did
  pub attached_at : ℕ

abbrev pub after_call : History → Did → History
after_call h (Wrote place bytes) = after_write h place bytes
after_call h (Refused place bytes) = record h { epoch = pends h.epoch place bytes }
after_call h Synced = settled h h.reads
after_call h (Crashed image) = settled h image

abbrev pub replay : History → List Did → History
replay h [] = h
replay h (call ∷ calls) = replay (after_call h call) calls

-- a history whose last attachment was when it was that other one
abbrev pub attached : History → History → History
attached before now = record now { start = length before.past; first = before.epoch; found = before.reads }

abbrev pub history_of : Calls → History
history_of calls =
    let from = fresh calls.image in attached (replay from (take calls.attached_at calls.done)) (replay from calls.done)

-- What a crash may do to a pending write.
pub data Tear : Type 0 where
  Dropped : Tear
  Done : Tear
  Filled : Tear

-- Pick 0 drops each, 1 does each; by another pick these take turns.
abbrev pub tear : (pick number : ℕ) → Tear
tear pick number =
    if pick == 0 then Dropped else
    (if pick == 1 then Done else
    (if (pick + number) % 3 == 0 then Dropped else
    (if (pick + number) % 3 == 1 then Done else Filled)))

-- the image after a write to which that was done: a filled one has a5 in its whole range
abbrev pub suffer : Tear → Write → List ℕ → List ℕ
suffer Dropped w image = image
suffer Done w image = written image w.place w.bytes
suffer Filled w image = written image w.place (replicate (length w.bytes) 0xa5)

-- the pending writes, the oldest first, each with its number
abbrev pub crash_from : (pick number : ℕ) → List Write → List ℕ → List ℕ
crash_from pick number [] image = image
crash_from pick number (w ∷ ws) image = crash_from pick (number + 1) ws (suffer (tear pick number) w image)

-- the image that a crash with this pick leaves
abbrev pub crash_image : ℕ → Epoch → List ℕ
crash_image pick epoch = crash_from pick 0 (reverse epoch.pending) epoch.durable
