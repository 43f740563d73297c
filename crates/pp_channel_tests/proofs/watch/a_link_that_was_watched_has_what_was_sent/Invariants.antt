use Rattle.pp_watch.specs.Done.{blank_disk}
use Rattle.pp_watch.specs.Sent.{as_before}
use Rattle.pp_channel_tests.proofs.watch.a_link_that_was_watched_has_what_was_sent.Given as goal

abbrev pub ghosts-spoken : goal.ghosts-spoken
ghosts-spoken g a = record { disk = blank_disk; link = as_before a.link }
