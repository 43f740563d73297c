-- What is told and planned in examples.
use Rattle.std.specs.Prelude.{◌≡◌, ℕ, true, false, List, [], ◌∷◌}
use Rattle.pp_terms.specs.tree.Tree.{Node}
use Rattle.pp_terms.specs.format.Messages.{Have}
use Rattle.pp_traffic.specs.Story.{Line, Heard}
use Rattle.pp_traffic.specs.Hashes.{is_told}
use Rattle.pp_traffic.specs.Laws.{plan}

abbrev pub node : ℕ → ℕ → Node
node layer offset = record { layer = layer; offset = offset }

-- a HAVE of chunks was heard
abbrev pub have : ℕ → ℕ → List Line
have first last = Heard 0 (Have (record { first = first; last = last })) ∷ []

pub record PlanExamples : Type 0 where
  -- of seven chunks: before anything is told, for the first and the last, which is a peak itself
  pub first : plan 7 (is_told 7 []) 0 ≡ node 2 0 ∷ node 1 2 ∷ node 0 6 ∷ node 1 1 ∷ node 0 1 ∷ []
  pub last : plan 7 (is_told 7 []) 6 ≡ node 2 0 ∷ node 1 2 ∷ node 0 6 ∷ []
  -- and once the first is told, for the next two
  pub next : plan 7 (is_told 7 (have 0 0)) 1 ≡ []
  pub third : plan 7 (is_told 7 (have 0 0)) 2 ≡ node 0 3 ∷ []
  -- of five chunks, a HAVE that goes past them tells no node beside the last
  pub cut : (is_told 5 (have 0 7) (node 0 6) ≡ false) × (is_told 5 (have 0 7) (node 0 5) ≡ true) × (is_told 5 (have 0 7) (node 2 1) ≡ true)
