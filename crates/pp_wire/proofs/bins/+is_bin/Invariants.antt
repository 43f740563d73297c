use Rattle.pp_wire.proofs.bins.+is_bin.Given as goal

abbrev pub decreases-is_bin : goal.decreases-is_bin
decreases-is_bin l = l.last
