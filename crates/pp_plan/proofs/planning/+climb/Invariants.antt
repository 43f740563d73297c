use Rattle.pp_plan.proofs.planning.+climb.Given as goal

abbrev pub decreases-climb : goal.decreases-climb
decreases-climb l = l.layers
