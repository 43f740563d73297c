use Rattle.std.proofs.Common.{take}
use Rattle.pp_news.specs.News.{AreIn}
use Rattle.pp_store_tests.proofs.news.are_in.Given as goal

abbrev pub invariant-loop-ticket : goal.invariant-loop-ticket
invariant-loop-ticket l = AreIn l.committed (take l.ticket-index l.tickets)
