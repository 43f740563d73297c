-- The node at which a climb ends.
use Rattle.pp_tree.specs.declared.node.Node.{Node}
use Rattle.pp_paths.specs.declared.climbing.Climb.{Climb}
use Rattle.pp_paths.specs.declared.climbing.Climb.TheVariants.{Reached, Lacks}

abbrev pub end_of : Climb → Node
end_of (Reached at found kept) = at
end_of (Lacks at) = at
