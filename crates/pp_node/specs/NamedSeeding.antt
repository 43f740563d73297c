-- What a run of `seed STORE DESC LISTEN TURNS` promises where DESC names a swarm without its size, which the store's header tells.
use Rattle.std.specs.Prelude.{◌≡◌, ◌⊎◌, ℕ, true, List, []}
use Rattle.pp_terms.specs.disk.Disk.{DiskState, IsKnown, GainsName}
use Rattle.pp_terms.specs.disk.Image.{known}
use Rattle.pp_terms.specs.disk.Untouched.{IsSyncedAtMost}
use Rattle.pp_terms.specs.format.Descriptor.{Descriptor}
use Rattle.pp_terms.specs.format.Traffic.{Address, GainsAddress}
use Rattle.pp_tree.specs.Book.{entry, IsBookOf}
use Rattle.pp_targets.specs.Target.{SwarmName, Target, Sized, Auto}
use Rattle.pp_named.specs.Shape.{IsMisshapen, IsFirstMisshapen}
use Rattle.pp_node.specs.Looking.{Lasts}
use Rattle.pp_node.specs.Naming.{IsTold, HasAttached, IsOtherFile, IsWrongSize, IsRefusedByDisk, shape_line}
use Rattle.pp_node.specs.Outside.{Outside}
use Rattle.pp_node.specs.Preparing.{IsUnsent}
use Rattle.pp_node.specs.Promising.{PeerWords, SeedEnds}
use Rattle.pp_node.specs.Status.{number_of}
use Rattle.pp_node.specs.Text.{Says}
use Rattle.pp_outside.specs.Outside.{address_of}
use Rattle.pp_node.specs.declared.named_seeding.Sharing.{Sharing}
use Rattle.pp_node.specs.declared.status.Status.{Status}
use Rattle.pp_node.specs.declared.status.Status.TheVariants.{NotAStore, DiskFault, ContentSize, Shape}

-- what the words of a `seed` name, where they name a swarm without its size
pub record NamedWords : Type 0 where
  pub store : List ℕ
  pub name : SwarmName
  pub listen : Address
  pub turns : ℕ

-- the same words, with a descriptor
abbrev pub words_with : NamedWords → Descriptor → PeerWords
words_with w e = record { store = w.store; descriptor = e; listen = w.listen; turns = w.turns }

-- the words of a seed, for a descriptor
abbrev pub words_for : Sharing → Descriptor → PeerWords
words_for w e = record { store = w.store.now; descriptor = e; listen = address_of w.listen.now; turns = w.turns }

-- Why the header told no descriptor of the name, and what was said.
abbrev pub UntoldIn : Status → SwarmName → Outside → Outside → Type 0
UntoldIn NotAStore name old new = IsOtherFile true name old new
UntoldIn DiskFault name old new = IsRefusedByDisk true old new
UntoldIn ContentSize name old new = IsWrongSize true name old new
UntoldIn _ name old new = ⊥

-- The header told no descriptor of the name: the store was only read, and neither the link nor the book was touched.
pub record UntoldEnds (result : ℕ) (store : List ℕ) (name : SwarmName) (old new : Outside) : Type 0 where
  pub status : Status
  pub number : result ≡ number_of status
  pub ends : UntoldIn status name old new
  pub attached : HasAttached store old.disk new.disk
  pub link : new.link ≡ old.link
  pub unread : new.source ≡ old.source
  pub book : new.book ≡ old.book

-- The book that was scanned has a node that covers no chunk and isn't 32 zero bytes. The first was named, and no turn was taken.
pub record IsMisshapedPeer (result : ℕ) (w : PeerWords) (old new : Outside) : Type 0 where
  pub number : result ≡ number_of Shape
  pub layer : ℕ
  pub offset : ℕ
  pub first : IsFirstMisshapen w.descriptor (entry new.book) layer offset
  pub rooted : IsBookOf w.descriptor new.book
  pub said : Says (shape_line layer offset) old.sink new.sink
  pub unsent : IsUnsent old.link new.link
  pub bound : GainsAddress old.link.bound w.listen new.link.bound
  pub named : IsKnown old.disk → GainsName old.disk.history.names w.store new.disk.history.names
  pub unwritten : IsKnown old.disk → IsSyncedAtMost new.disk.history
  pub lasts : IsKnown old.disk → Lasts w.descriptor new.disk.history
  pub unread : new.source ≡ old.source

-- over a disk that is honest and tells, each node that was known at the attachment and covers no chunk is 32 zero bytes
abbrev pub WasInShape : Descriptor → DiskState → DiskState → Type 0
WasInShape e old new = IsKnown old → (k j : ℕ) → IsMisshapen e (known e new.history.found) k j → ⊥

-- The descriptor that the header told was seeded; its turns were taken only where the nodes were in shape.
pub record IsSeededTold (result : ℕ) (w : PeerWords) (old new : Outside) : Type 0 where
  pub seeds : SeedEnds result w old new
  pub shaped : WasInShape w.descriptor old.disk new.disk ⊎ ((seeds.run.added ≡ []) × (new.link.nexts ≡ old.link.nexts))

-- The descriptor that the header told was seeded, or its nodes are out of shape.
abbrev pub ToldSeedEnds : ℕ → PeerWords → Outside → Outside → Type 0
ToldSeedEnds result w old new = IsSeededTold result w old new ⊎ IsMisshapedPeer result w old new

-- what reads gave at the attachment is remembered
abbrev pub KeepsFound : DiskState → DiskState → Type 0
KeepsFound old new = IsKnown old → new.history.found ≡ old.history.found

-- A run of `seed` by a name, by the number that it answers.
abbrev pub NamedSeedEnds : ℕ → NamedWords → Outside → Outside → Type 0
NamedSeedEnds result w old new = UntoldEnds result w.store w.name old new
    ⊎ ((e : Descriptor) × IsTold w.name e old.disk new.disk × ToldSeedEnds result (words_with w e) old new)

-- A run of `seed`, by either form of a swarm's text.
abbrev pub TargetSeedEnds : ℕ → (store : List ℕ) → Target → (listen : Address) (turns : ℕ) → Outside → Outside → Type 0
TargetSeedEnds result store (Sized d) listen turns old new =
    SeedEnds result (record { store = store; descriptor = d; listen = listen; turns = turns }) old new
TargetSeedEnds result store (Auto name) listen turns old new =
    NamedSeedEnds result (record { store = store; name = name; listen = listen; turns = turns }) old new
