use Rattle.pp_fetching.proofs.Owners.{tie_stays, not_elsewhere, awaited_is_asked, on_one_seat, picks_fit}
use Rattle.pp_fetching.proofs.laws.laws_of_fetching.Goals as goal

pub returns : goal.returns
returns c = record { stays = tie_stays; not_elsewhere = not_elsewhere; awaited = awaited_is_asked; one_seat = on_one_seat; fit = picks_fit }
