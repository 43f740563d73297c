-- A claim as the code keeps it.
use Rattle.std.specs.Prelude.{ℕ, ◌==◌, ◌&&◌, Bool}
use Rattle.pp_terms.specs.tree.Claims as plain
use Rattle.pp_tree.specs.Node.{node_of}
use Rattle.pp_paths.specs.declared.claims.Claim.{Claim}

abbrev pub claimed_of : Claim → plain.Claim
claimed_of c = record { node = node_of c.node; digest = c.digest }

-- whether a claim is one of the node
abbrev pub is_claim_of : ℕ → ℕ → Claim → Bool
is_claim_of k j c = c.node.layer == k && c.node.offset == j
