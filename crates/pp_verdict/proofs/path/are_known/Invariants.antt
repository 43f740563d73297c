use Rattle.std.proofs.Common.{◌≡◌, List, drop}
use Rattle.std.specs.List.{list_all}
use Rattle.pp_traffic.specs.Story.{Line}
use Rattle.pp_tree.specs.Node.{node_of}
use Rattle.pp_story.specs.Stories.{StandsFor}
use Rattle.pp_verdict.specs.Courses.{is_known}
use Rattle.pp_verdict.proofs.path.are_known.Given as goal

abbrev pub invariant-loop-node : goal.invariant-loop-node
invariant-loop-node l = (s : List Line) → StandsFor l.story l.descriptor s
    → list_all (λ node. is_known l.descriptor l.chunk s (node_of node)) l.nodes
    ≡ list_all (λ node. is_known l.descriptor l.chunk s (node_of node)) (drop l.node-index l.nodes)
