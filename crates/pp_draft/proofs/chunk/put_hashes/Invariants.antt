use Rattle.std.proofs.Common.{◌≡◌, ◌≤◌, ◌+◌, ◌*◌, map, length, take}
use Rattle.pp_tree.specs.Book.{entry}
use Rattle.pp_tree.specs.Node.{node_of}
use Rattle.pp_draft.specs.Datagrams.{hash_of}
use Rattle.pp_draft.specs.Puts.{Adds}
use Rattle.pp_draft.proofs.chunk.put_hashes.Given as goal

abbrev pub invariant-loop-node : goal.invariant-loop-node
invariant-loop-node l = record {
  adds : Adds l.descriptor (map (hash_of (entry l.book)) (map node_of (take l.node-index l.nodes))) l.initial.out l.at l.end l.out;
  ends : l.end ≤ l.at + 49 * l.node-index;
  size : length l.out ≡ length l.initial.out;
}
