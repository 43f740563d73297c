use Rattle.std.proofs.Common.{length, ◌-◌}
use Rattle.pp_turns.specs.Turning.{post}
use Rattle.pp_turns.proofs.Loops.{HasTaken}
use Rattle.pp_turns.proofs.turning.take_turns.Given as goal

abbrev pub invariant-loop-taken : goal.invariant-loop-taken
invariant-loop-taken g l =
    HasTaken l.taken l.turns l.fetches (post l.initial.peer (g.D.Disk.state l.initial.disk) (g.L.Link.seen l.initial.link))
    (post l.peer (g.D.Disk.state l.disk) (g.L.Link.seen l.link)) (length l.buffer)

abbrev pub decreases-loop-taken : goal.decreases-loop-taken
decreases-loop-taken g l = l.turns - l.taken
