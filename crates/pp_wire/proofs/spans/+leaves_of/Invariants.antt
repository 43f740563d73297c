use Rattle.pp_wire.proofs.spans.+leaves_of.Given as goal

abbrev pub decreases-leaves_of : goal.decreases-leaves_of
decreases-leaves_of l = l.bin
