use Rattle.pp_traffic.proofs.OneMore.{lives_stay, lives_began, stories_grow, told_stays}
use Rattle.pp_traffic.proofs.Paths.{paths_grow, plans_complete}
use Rattle.pp_traffic.proofs.PlansInBooks.{plans_in_books}
use Rattle.pp_traffic.proofs.Served.{served_stays}
use Rattle.pp_traffic.proofs.Awaited.{plain_grows}
use Rattle.pp_traffic.proofs.Chokes.{chokes_end_asking}
use Rattle.pp_traffic.proofs.Sending.{sent_is_said}
use Rattle.pp_traffic.proofs.laws_of_traffic.Goals as goal

pub returns : goal.returns
returns c = record {
  lives_stay = lives_stay;
  lives_began = lives_began;
  stories = stories_grow;
  told = told_stays;
  paths = paths_grow;
  plans = plans_complete;
  books = plans_in_books;
  served = served_stays;
  plain = plain_grows;
  chokes = chokes_end_asking;
  sent = sent_is_said;
}
