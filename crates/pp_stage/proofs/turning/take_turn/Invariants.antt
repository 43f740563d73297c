use Rattle.pp_watch.specs.Done as doings
use Rattle.pp_watch.specs.Sent as sendings
use Rattle.pp_stage.proofs.turning.take_turn.Given as goal

abbrev pub ghosts-act : goal.ghosts-act
ghosts-act a = record { disk = doings.as_before a.devices.disk; link = sendings.as_before a.devices.link }
