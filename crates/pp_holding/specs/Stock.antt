-- What is kept of an open store, its book and the disk under it, while chunks are put and committed.
use Rattle.std.specs.Prelude.{◌≡◌, ℕ, ◌≤◌, Bool, true, if◌then◌else◌}
use Rattle.pp_terms.specs.tree.Book.{LookUp}
use Rattle.pp_terms.specs.disk.Disk.{DiskState, IsKnown, Throughout, moment_of}
use Rattle.pp_paths.specs.Judge.{KeepsEntries}
use Rattle.pp_store.specs.Keep.{KeepsDisk}
use Rattle.pp_store.specs.Pairs.{GoesOnSince}
use Rattle.pp_store.specs.Sound.{IsGated, StaysSound}
use Rattle.pp_store.specs.Store.{StoreState, is_committed, is_held, AgreesWith, HoldsAll, AllStand}

-- a store, its book and the disk under it
pub record Stock : Type 0 where
  pub store : StoreState
  pub book : LookUp
  pub disk : DiskState

-- The gates of these chunks may be open: the committed ones', and the pending ones' too once a commit was refused.
abbrev pub may_be_open : StoreState → ℕ → Bool
may_be_open s i = if s.live then is_committed s i else is_held s i

-- What holds between calls, of every image since a moment, over a disk that is honest and tells.
pub record IsKept (since : ℕ) (s : Stock) : Type 0 where
  pub known : IsKnown s.disk
  pub past : since ≤ moment_of s.disk.history
  pub agrees : AgreesWith s.store s.book s.disk.history.reads
  -- while the store may be written to, each chunk that is committed or pending is there
  pub holds : s.store.live ≡ true → HoldsAll s.store s.disk.history.reads
  pub gated : Throughout s.disk.history since (IsGated s.store.descriptor (may_be_open s.store))
  -- each committed chunk stands in whatever a crash may leave
  pub stands : AllStand s.store.descriptor s.store.committed s.disk.history

-- What a row of calls does, whatever they answered.
pub record Advances (old new : Stock) : Type 0 where
  pub descriptor : new.store.descriptor ≡ old.store.descriptor
  -- what was committed stays so, and nothing that was held is lost
  pub committed : (i : ℕ) → is_committed old.store i ≡ true → is_committed new.store i ≡ true
  pub held : (i : ℕ) → is_held old.store i ≡ true → is_held new.store i ≡ true
  pub entries : KeepsEntries old.book new.book
  pub disk : KeepsDisk old.disk new.disk
  -- each committed chunk goes on standing in every image, since whatever moment it does
  pub goes_on : IsKnown old.disk → (i : ℕ) → is_committed old.store i ≡ true
      → GoesOnSince old.store.descriptor i old.disk.history new.disk.history
  pub kept : (since : ℕ) → IsKept since old → IsKept since new
  -- images that were sound stay so
  pub sound : (since : ℕ) → IsKept since old → StaysSound old.store.descriptor old.disk.history new.disk.history
