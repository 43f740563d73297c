use Rattle.pp_wanting.proofs.Wantings.{AreSorted}
use Rattle.pp_wanting.proofs.wanting.sort_out.Given as goal

abbrev pub invariant-loop-i : goal.invariant-loop-i
invariant-loop-i l = AreSorted l.held l.had l.wanted l.chunks l.i
