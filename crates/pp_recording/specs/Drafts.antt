-- A recording as far as its lines were read, and what a line does to it.
use Rattle.std.specs.Prelude.{◌≡◌, ◌⊎◌, ℕ, ◌<◌, ◌≤◌, Bool, true, false, None, List, [], ◌∷◌, ◌++◌, length, codes}
use Rattle.pp_terms.specs.tree.Book.{LookUp}
use Rattle.pp_terms.specs.format.Traffic.{Record}
use Rattle.pp_tree.specs.Book.{entry, IsInTree, IsPreparedFor}
use Rattle.pp_tree.specs.declared.node.Node.{Node}
use Rattle.pp_recording.specs.Spelling.{KnownNode, node_line, record_line}
use Rattle.pp_recording.specs.Recording.{Recorded, AreRising, IsRecording, front_text, recording_text, most_nodes}
use Rattle.pp_recording.specs.State.{recorded, Fill}
use Rattle.pp_recording.specs.declared.draft.Draft.{Draft}

-- all nodes from (k, j) on are absent
pub record AreAbsentFrom (book : LookUp) (k j : ℕ) : Type 0 where
  pub here : (i : ℕ) → j ≤ i → book k i ≡ None
  pub above : (l i : ℕ) → k < l → book l i ≡ None

abbrev pub drafted : Draft → Recorded
drafted d = recorded (record { descriptor = d.descriptor; book = d.book; entries = d.entries.items; bytes = d.bytes.items })

-- (l, i) is (k, j) or stands behind it
abbrev pub IsFrom : ℕ → ℕ → ℕ → ℕ → Type 0
IsFrom k j l i = (k < l) ⊎ ((k ≡ l) × (j ≤ i))

-- The draft's nodes stand before the place, and a node that may follow them stands there or behind it.
pub record IsDraft (d : Draft) : Type 0 where
  pub book : IsPreparedFor d.descriptor d.book
  pub absent : AreAbsentFrom (entry d.book) d.layer d.offset
  pub filled : Fill 0 d.entries.items (length d.bytes.items)
  pub kept : IsRecording (drafted d)
  pub count : d.nodes ≡ length (drafted d).nodes
  pub next : (n : KnownNode) (ns : List KnownNode) → AreRising ((drafted d).nodes ++ n ∷ ns) → IsFrom d.layer d.offset n.layer n.offset

-- The node may come next.
pub record MayCome (d : Draft) (n : Node) : Type 0 where
  pub first : d.entries.items ≡ []
  pub few : d.nodes < most_nodes
  pub in_tree : IsInTree d.descriptor n.layer n.offset
  pub behind : IsFrom d.layer d.offset n.layer n.offset

-- Some recording goes on with the node.
pub record HasNode (r : Recorded) (n : KnownNode) : Type 0 where
  pub recording : Recorded
  pub later : List KnownNode
  pub kept : IsRecording recording
  pub descriptor : recording.descriptor ≡ r.descriptor
  pub first : r.records ≡ []
  pub nodes : recording.nodes ≡ r.nodes ++ n ∷ later

-- Some recording goes on with the record.
pub record HasRecord (r : Recorded) (q : Record) : Type 0 where
  pub recording : Recorded
  pub later : List Record
  pub kept : IsRecording recording
  pub records : recording.records ≡ later ++ q ∷ r.records

-- Some recording's text goes on with more behind the front.
pub record GoesOn (front more : List ℕ) : Type 0 where
  pub recording : Recorded
  pub rest : List ℕ
  pub kept : IsRecording recording
  pub text : recording_text recording ≡ front ++ (more ++ rest)

-- what follows where a line is taken into a draft
pub record IsTaken (old : Draft) (line : List ℕ) (new : Draft) : Type 0 where
  pub draft : IsDraft new
  pub text : front_text (drafted new) ≡ front_text (drafted old) ++ line

abbrev pub TakesNode : Draft → KnownNode → Bool → Draft → Type 0
TakesNode old n true new = IsTaken old (node_line n) new
TakesNode old n false new = HasNode (drafted old) n → ⊥

abbrev pub TakesRecord : Draft → Record → Bool → Draft → Type 0
TakesRecord old q true new = IsTaken old (record_line q) new
TakesRecord old q false new = HasRecord (drafted old) q → ⊥

abbrev pub Takes : Draft → List ℕ → Bool → Draft → Type 0
Takes old row true new = IsTaken old (row ++ codes "\n") new
Takes old row false new = GoesOn (front_text (drafted old)) (row ++ codes "\n") → ⊥
