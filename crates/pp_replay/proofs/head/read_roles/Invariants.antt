use Rattle.std.proofs.Common.{length, map}
use Rattle.pp_replay.specs.Views.{as_role}
use Rattle.pp_replay.proofs.RolesRead.{AreDeclared}
use Rattle.pp_replay.proofs.head.read_roles.Given as goal

abbrev pub invariant-loop-row : goal.invariant-loop-row
invariant-loop-row l = AreDeclared l.text l.rest (map as_role l.roles.items)

abbrev pub decreases-loop-row : goal.decreases-loop-row
decreases-loop-row l = length l.rest
