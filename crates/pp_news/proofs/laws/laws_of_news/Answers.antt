use Rattle.pp_news.proofs.Telling.{all_are_told, all_are_acknowledged, none_else, own_are_in}
use Rattle.pp_news.proofs.laws.laws_of_news.Goals as goal

pub returns : goal.returns
returns c = record { told = all_are_told; acknowledged = all_are_acknowledged; none_else = none_else; own = own_are_in }
