use Rattle.pp_swarms.specs.Sharing.{RefusesIf}
use Rattle.pp_swarms.proofs.Loops.{EachUpTo}
use Rattle.pp_swarms.proofs.hearing.refuse_all.Given as goal

abbrev pub invariant-loop-peer : goal.invariant-loop-peer
invariant-loop-peer l = EachUpTo RefusesIf l.peer-index l.initial.peers l.peers
