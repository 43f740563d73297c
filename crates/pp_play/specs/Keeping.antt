-- What each session of a peer of a schedule promises, by the peer's role.
use Rattle.std.specs.Prelude.{◌≡◌, ℕ, None, Some, List, [], ◌∷◌, map}
use Rattle.pp_terms.specs.format.Descriptor.{Descriptor}
use Rattle.pp_promises.specs.Promises.{Task, Seeding, Fetching, Promises}
use Rattle.pp_outside.specs.Outside as outside
use Rattle.pp_avail.specs.declared.ranker.Rank.{Rank}
use Rattle.pp_world.specs.Outcome.{RunPromise}
use Rattle.pp_world.specs.Schedule.{Role, Seeds, Fetches}
use Rattle.pp_world.specs.World.{PeerState, address_of}
use Rattle.pp_actor.specs.Keeping.{AllKeep, Part, devices_of}

-- ---- roles

-- what is asked of a peer of a role, in a session of so many turns
abbrev pub task_for : Role → (turns : ℕ) → Task
task_for Seeds turns = Seeding turns
task_for (Fetches order dialled) turns = Fetching turns (map address_of dialled)

-- A peer that is told so has the role.
abbrev pub HasRole : Role → Part → Type 0
HasRole Seeds part = part.asks ≡ None
HasRole (Fetches order dialled) part =
    (rank : Rank) × (part.asks ≡ Some rank) × (map outside.address_of part.dialled ≡ map address_of dialled)

-- Each of these peers has its role.
abbrev pub HaveRoles : List Role → List Part → Type 0
HaveRoles [] [] = Unit {0}
HaveRoles [] (part ∷ parts) = ⊥
HaveRoles (role ∷ roles) [] = ⊥
HaveRoles (role ∷ roles) (part ∷ parts) = HasRole role part × HaveRoles roles parts

-- ---- runs

-- A session keeps the whole promise of a run that seeds, or of one that fetches from those whom its role dials.
abbrev pub KeepsRun : RunPromise
KeepsRun d role run = Promises d (task_for role run.turns) (devices_of run.disk run.link) (devices_of run.disk' run.link')
    (record { book = run.book; taken = run.turns; added = run.traffic })

-- All sessions of these peers kept the promise of a run, by what each is told.
abbrev pub KeepAll : Descriptor → List Part → List PeerState → Type 0
KeepAll d [] [] = Unit {0}
KeepAll d [] (x ∷ xs) = ⊥
KeepAll d (part ∷ parts) [] = ⊥
KeepAll d (part ∷ parts) (x ∷ xs) = AllKeep d part x.disk x.sessions × KeepAll d parts xs
