-- A node as plain data.
use Rattle.pp_terms.specs.tree.Tree as terms
use Rattle.pp_tree.specs.declared.node.Node.{Node}

abbrev pub node_of : Node → terms.Node
node_of at = record { layer = at.layer; offset = at.offset }
