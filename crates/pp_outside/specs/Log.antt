-- A log, as all the calls of its disk.
use Rattle.std.specs.Prelude.{◌≡◌, ℕ, ◌≤◌, List, length, drop, map, reverse, All}
use Rattle.pp_terms.specs.disk.Disk.{History, fresh}
use Rattle.pp_terms.specs.disk.Calls.{Did, Calls, replay}
use Rattle.pp_outside.specs.Steps.{did_of, writes_of, IsPlaced}
use Rattle.pp_outside.specs.declared.log.Log.TheInside.{Inside}

abbrev pub calls_of : Inside → Calls
calls_of a = record { image = a.image.items; done = map did_of a.steps.items; attached_at = a.attached_at }

-- What is kept beside the calls agrees with what they made of the disk.
pub record IsLog (now : History) (done : List Did) (reads begun : List ℕ) (settled_at ended attached_at : ℕ) : Type 0 where
  pub reads_are : reads ≡ now.reads
  pub begun_with : begun ≡ now.epoch.durable
  pub pending : reverse now.epoch.pending ≡ writes_of (drop settled_at done)
  pub moment : ended ≡ length now.past
  pub moment_within : ended ≤ length done
  pub settled_within : settled_at ≤ length done
  pub attached_within : attached_at ≤ length done
  pub placed : All IsPlaced done

abbrev pub IsLogOf : Inside → Type 0
IsLogOf a =
    let done = map did_of a.steps.items in
    IsLog (replay (fresh a.image.items) done) done a.bytes.items a.durable.items a.settled_at a.moment a.attached_at
