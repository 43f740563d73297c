use Rattle.pp_scan.proofs.layers.+know_under.Given as goal

abbrev pub decreases-know_under : goal.decreases-know_under
decreases-know_under g l = l.node.layer
