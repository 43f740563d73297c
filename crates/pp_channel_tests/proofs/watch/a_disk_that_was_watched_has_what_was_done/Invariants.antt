use Rattle.pp_watch.specs.Done.{as_before}
use Rattle.pp_watch.specs.Sent.{blank_link}
use Rattle.pp_channel_tests.proofs.watch.a_disk_that_was_watched_has_what_was_done.Given as goal

abbrev pub ghosts-filled : goal.ghosts-filled
ghosts-filled g a = record { disk = as_before a.disk; link = blank_link }
