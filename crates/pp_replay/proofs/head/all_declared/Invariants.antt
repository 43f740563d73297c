use Rattle.std.proofs.Common.{length, map, drop}
use Rattle.pp_replay.specs.Views.{as_role}
use Rattle.pp_replay.proofs.RolesRead.{AreAllDeclared}
use Rattle.pp_replay.proofs.head.all_declared.Given as goal

abbrev pub invariant-loop-role : goal.invariant-loop-role
invariant-loop-role l = AreAllDeclared (length l.roles) l.line l.role-index (map as_role l.roles) (map as_role (drop l.role-index l.roles))
