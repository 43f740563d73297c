use Rattle.std.specs.Prelude.{◌≡◌, length, take}
use Rattle.pp_store.specs.Imported.{imported}
use Rattle.pp_play.specs.First.{BeginAs}
use Rattle.pp_play.proofs.first.actors_of.Given as goal

abbrev pub invariant-loop-role : goal.invariant-loop-role
invariant-loop-role l =
    BeginAs (imported l.content l.chunk) l.content (take l.role-index l.roles) l.actors.items × (length l.actors.items ≡ l.role-index)
