use Rattle.pp_traffic.proofs.LifePlaces.{lives_by_places}
use Rattle.pp_traffic.proofs.AskedPlaces.{asked_by_places, choked_by_places}
use Rattle.pp_traffic.proofs.PathPlaces.{paths_by_places}
use Rattle.pp_traffic.proofs.PlainPlaces.{plain_by_places, heard_by_places}
use Rattle.pp_traffic.proofs.Standing.{now_at-split}
use Rattle.pp_traffic.proofs.words_by_places.Goals as goal

pub returns-clause-lives : goal.returns-clause-lives
returns-clause-lives c = lives_by_places

pub returns-clause-asked : goal.returns-clause-asked
returns-clause-asked c = asked_by_places

pub returns-clause-choked : goal.returns-clause-choked
returns-clause-choked c = choked_by_places

pub returns-clause-paths : goal.returns-clause-paths
returns-clause-paths c = paths_by_places

pub returns-clause-heard : goal.returns-clause-heard
returns-clause-heard c = heard_by_places

pub returns-clause-plain : goal.returns-clause-plain
returns-clause-plain c = plain_by_places

pub returns-clause-moments : goal.returns-clause-moments
returns-clause-moments c = now_at-split
