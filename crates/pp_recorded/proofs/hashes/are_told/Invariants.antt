use Rattle.std.proofs.Common.{◌≡◌, drop}
use Rattle.std.specs.List.{list_all}
use Rattle.pp_promises.specs.Datagrams.{is_read_told}
use Rattle.pp_tree.specs.Node.{node_of}
use Rattle.pp_recorded.specs.Entries.{past, life_of}
use Rattle.pp_recorded.proofs.hashes.are_told.Given as goal

abbrev pub invariant-loop-node : goal.invariant-loop-node
invariant-loop-node l =
    list_all (λ node. is_read_told l.descriptor (life_of l.life) (past l.entries) (node_of node)) l.nodes
    ≡ list_all (λ node. is_read_told l.descriptor (life_of l.life) (past l.entries) (node_of node)) (drop l.node-index l.nodes)
