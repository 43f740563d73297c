-- How the gates of chunks are opened.
use Rattle.std.specs.Prelude.{◌≡◌, ◌⊎◌, ℕ, suc, Bool, true, false, cond, List, [], ◌∷◌, take, slice_index_or}
use Rattle.pp_terms.specs.format.Descriptor.{Descriptor}
use Rattle.pp_terms.specs.disk.Store.{gate_place, open_gate}
use Rattle.pp_terms.specs.disk.Disk.{History, Write, IsRefusedWrite}
use Rattle.pp_scan.specs.Look.{synced}
use Rattle.pp_store.specs.Writes.{after_writes}

-- the write that opens the gate of chunk i
abbrev pub gate_write : Descriptor → ℕ → Write
gate_write d i = record { place = gate_place d.chunk i; bytes = open_gate }

-- the writes of the gates of the chunks of a set whose first is chunk i, by rising chunk
abbrev pub gate_writes_from : Descriptor → ℕ → List Bool → List Write
gate_writes_from d i [] = []
gate_writes_from d i (b ∷ bs) = cond b (gate_write d i ∷ gate_writes_from d (suc i) bs) (gate_writes_from d (suc i) bs)

abbrev pub gate_writes : Descriptor → List Bool → List Write
gate_writes d set = gate_writes_from d 0 set

-- the disk with the gates of these chunks open
abbrev pub gates_opened : Descriptor → List Bool → History → History
gates_opened d set h = after_writes h (gate_writes d set)

-- The disk once these chunks are made durable: what was written is synced, and then their gates are opened and synced.
abbrev pub made_durable : Descriptor → List Bool → History → History
made_durable d set h = synced (gates_opened d set (synced h))

-- The gate of a chunk of the set was refused, after those of the chunks below it were opened.
pub record IsRefusedGate (d : Descriptor) (set : List Bool) (old new : History) : Type 0 where
  pub chunk : ℕ
  pub among : slice_index_or set chunk false ≡ true
  pub refused : IsRefusedWrite (gates_opened d (take chunk set) old) (gate_place d.chunk chunk) open_gate new

-- a gate was refused, or the sync of the gates
abbrev pub IsRefusedOpening : Descriptor → List Bool → History → History → Type 0
IsRefusedOpening d set old new = IsRefusedGate d set old new ⊎ (new ≡ gates_opened d set old)

-- the gates were refused, or the sync before them
abbrev pub IsRefusedCommit : Descriptor → List Bool → History → History → Type 0
IsRefusedCommit d set old new = (new ≡ old) ⊎ IsRefusedOpening d set (synced old) new
