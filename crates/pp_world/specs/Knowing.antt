-- What a peer told by an announcement it knows: from the announcement on, and in each later session from the end of the opening on, its
-- book has the nodes that the announcement tells.
use Rattle.std.specs.Prelude.{◌≡◌, ℕ, Bool, true, is_some, List, [], ◌∷◌}
use Rattle.std.specs.List.{AllByRecursion}
use Rattle.pp_terms.specs.format.Descriptor.{Descriptor, chunks_of}
use Rattle.pp_terms.specs.tree.Book.{LookUp}
use Rattle.pp_terms.specs.tree.Tree.{Node}
use Rattle.pp_traffic.specs.Hashes.{tells}
use Rattle.pp_traffic.specs.Keeping.{EachAnnounced}
use Rattle.pp_world.specs.Session.{Session}
use Rattle.pp_world.specs.World.{World}

-- who announces the chunk tells of the node
abbrev pub is_told_by : (chunks : ℕ) → (i : ℕ) → Node → Bool
is_told_by chunks i n = tells chunks (record { first = i; last = i }) n

-- The book has each node that an announcement of the chunk tells.
abbrev pub KnowsTold : Descriptor → LookUp → ℕ → Type 0
KnowsTold d book i = (n : Node) → is_told_by (chunks_of d) i n ≡ true → is_some (book n.layer n.offset) ≡ true

-- The session's book has what another one, or it itself, told.
abbrev pub KnowsToldIn : Descriptor → (s told : Session) → Type 0
KnowsToldIn d s told = EachAnnounced d (λ moment i. KnowsTold d s.book i) told.traffic

-- Each of these sessions knows what it told and what those before it did; the newest stands first.
abbrev pub AllKnowTold : Descriptor → List Session → Type 0
AllKnowTold d [] = Unit {0}
AllKnowTold d (s ∷ earlier) = AllByRecursion (KnowsToldIn d s) (s ∷ earlier) × AllKnowTold d earlier

-- The sessions of each peer of a world know what was told.
abbrev pub PeersKnowTold : Descriptor → World → Type 0
PeersKnowTold d w = AllByRecursion (λ x. AllKnowTold d x.sessions) w.peers
