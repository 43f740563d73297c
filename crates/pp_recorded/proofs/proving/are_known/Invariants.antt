use Rattle.std.proofs.Common.{◌≡◌, drop}
use Rattle.std.specs.Prelude.{is_some}
use Rattle.std.specs.List.{list_all}
use Rattle.pp_recorded.specs.Claims.{known_of}
use Rattle.pp_recorded.proofs.proving.are_known.Given as goal

abbrev pub invariant-loop-node : goal.invariant-loop-node
invariant-loop-node l =
    list_all (λ node. is_some (known_of l.claims node.layer node.offset)) l.nodes
    ≡ list_all (λ node. is_some (known_of l.claims node.layer node.offset)) (drop l.node-index l.nodes)
