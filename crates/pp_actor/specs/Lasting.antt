-- What lasts on the disk of a peer over its sessions.
use Rattle.std.specs.Prelude.{◌≡◌, ℕ, ◌≤◌, false, List, [], ◌∷◌, length, take}
use Rattle.std.specs.List.{AllByRecursion, list_any}
use Rattle.pp_terms.specs.disk.Calls.{Calls, history_of}
use Rattle.pp_terms.specs.disk.Disk.{History, Throughout, moment_of}
use Rattle.pp_terms.specs.disk.Sound.{IsSound}
use Rattle.pp_terms.specs.format.Descriptor.{Descriptor}
use Rattle.pp_traffic.specs.Keeping.{EachAnnounced, StandsSince}
use Rattle.pp_traffic.specs.Turns.{is_closing}
use Rattle.pp_world.specs.Knowing.{AllKnowTold}
use Rattle.pp_world.specs.Session.{Session, last_mark}
use Rattle.pp_world.specs.Survival.{FindsAnnounced}
use Rattle.pp_actor.specs.Keeping.{AllKeep, Part}

-- What stood in every image since a moment goes on doing so, and where every image was sound since one, it goes on so.
pub record KeepsOn (d : Descriptor) (old new : History) : Type 0 where
  pub later : moment_of old ≤ moment_of new
  pub stands : (i moment : ℕ) → moment ≤ moment_of old → StandsSince d old moment i → StandsSince d new moment i
  pub sound : (moment : ℕ) → moment ≤ moment_of old → Throughout old moment (IsSound d) → Throughout new moment (IsSound d)

-- Every image that a crash may leave now is sound.
abbrev pub IsSoundNow : Descriptor → History → Type 0
IsSoundNow d h = Throughout h (moment_of h) (IsSound d)

-- The chunk stands in every image since a moment that is past.
pub record HasStood (d : Descriptor) (h : History) (moment i : ℕ) : Type 0 where
  pub past : moment ≤ moment_of h
  pub stands : StandsSince d h moment i

-- ---- sessions that are over

-- a disk as a session's opening began
abbrev pub disk_before : Calls → Session → Calls
disk_before disk s = record disk { done = take s.began.calls disk.done }

-- Every image was sound then; what stood then in every image goes on, and what the session announced stands since it was.
pub record Lasts (d : Descriptor) (disk : Calls) (s : Session) : Type 0 where
  pub began : s.began.calls ≤ length disk.done
  pub opened : s.opened.calls ≤ length disk.done
  pub marked : (last_mark s).calls ≤ length disk.done
  pub sound : IsSoundNow d (history_of (disk_before disk s))
  pub goes_on : KeepsOn d (history_of (disk_before disk s)) (history_of disk)
  pub announced : EachAnnounced d (HasStood d (history_of disk)) s.traffic

-- Each of these sessions lasts, and found what those before it announced. The newest stands first.
abbrev pub AllLast : Descriptor → Calls → List Session → Type 0
AllLast d disk [] = Unit {0}
AllLast d disk (s ∷ earlier) = Lasts d disk s × AllByRecursion (λ e. FindsAnnounced d disk e s) earlier × AllLast d disk earlier

-- ---- whatever becomes of the disk

-- None of these sessions closed a channel, and each knows what it told and what those before it did.
pub record AreSettled (d : Descriptor) (sessions : List Session) : Type 0 where
  pub closes_none : AllByRecursion (λ s. list_any (is_closing d) s.traffic ≡ false) sessions
  pub knows : AllKnowTold d sessions

-- ---- a peer that doesn't run

-- Every image of its disk is sound, all that its sessions announced stands, and each kept the promise of a run.
pub record IsLasting (d : Descriptor) (part : Part) (disk : Calls) (sessions : List Session) : Type 0 where
  pub sound : IsSoundNow d (history_of disk)
  pub all : AllLast d disk sessions
  pub keep : AllKeep d part disk sessions
  pub settled : AreSettled d sessions
