use Rattle.pp_play.specs.Playing.{EndAs}
use Rattle.pp_play.proofs.replaying.end_all.Given as goal

abbrev pub invariant-loop-actor : goal.invariant-loop-actor
invariant-loop-actor l = EndAs l.descriptor l.yielded l.ends.items
