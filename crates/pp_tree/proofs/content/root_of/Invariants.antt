use Rattle.std.proofs.Common.{length}
use Rattle.pp_terms.specs.tree.Content.{chunk_count}
use Rattle.pp_terms.specs.tree.Tree.{leaf_of}
use Rattle.pp_tree.proofs.Layers.{IsLayer}
use Rattle.pp_tree.proofs.content.root_of.Given as goal

abbrev pub invariant-loop : goal.invariant-loop
invariant-loop l = IsLayer (leaf_of l.fn.content l.fn.chunk) (chunk_count (length l.fn.content) l.fn.chunk) l.counter l.layer.items
