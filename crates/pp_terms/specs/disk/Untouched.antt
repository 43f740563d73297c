-- What was done on a disk since its last attachment, where no byte was written.
use Rattle.std.specs.Prelude.{◌≡◌, ◌⊎◌, [], ◌∷◌, drop}
use Rattle.pp_terms.specs.disk.Disk.{History, moment_of}

-- The disk was attached last, and nothing was done on it since.
pub record IsFreshlyAttached (h : History) : Type 0 where
  pub started : h.start ≡ moment_of h
  pub began : h.first ≡ h.epoch
  pub showed : h.found ≡ h.reads

-- One sync was done since the attachment, and nothing else: the epoch of the attachment ended with it, and what reads
-- gave then is on the disk, with nothing pending.
pub record IsOnceSynced (h : History) : Type 0 where
  pub ended : drop h.start h.past ≡ h.first ∷ []
  pub begins : h.epoch ≡ record { durable = h.found; pending = [] }
  pub showed : h.found ≡ h.reads

-- Nothing was written since the attachment, and at most one sync was done.
abbrev pub IsSyncedAtMost : History → Type 0
IsSyncedAtMost h = IsFreshlyAttached h ⊎ IsOnceSynced h
