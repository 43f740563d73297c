use Rattle.pp_requests.proofs.Calls.{calls_stand, lists_are_asked}
use Rattle.pp_requests.proofs.laws.laws_of_requests.Goals as goal

pub returns : goal.returns
returns c = record {
  calls = calls_stand;
  lists = lists_are_asked;
}
