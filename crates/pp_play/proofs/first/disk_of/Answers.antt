use Rattle.std.proofs.Common.{refl, subst, sym}
use Rattle.pp_replay.specs.declared.types.Role.{Role}
use Rattle.pp_play.specs.First.{BeginsAs}
use Rattle.pp_play.proofs.Firsts.{both_ok, empty_shown}
use Rattle.pp_store.specs.Imported.{imported}
use Rattle.std.specs.Prelude.{IfOk}
use Rattle.pp_world.specs.Worlds.{empty_disk}
use Rattle.pp_play.proofs.first.disk_of.Goals as goal

pub returns-in-Fetches : goal.returns-in-Fetches
returns-in-Fetches c =
    subst (λ (role : Role). IfOk c.new.result (BeginsAs (imported c.args.content.now c.args.chunk) c.args.content.now role)) (sym c.in-Fetches.is)
    (both_ok c.new.result c.new.ensures.state c.new.ensures.nothing_ordered (λ disk state none.
    record { calls = empty_disk; has = refl; shows = empty_shown disk state none }))
