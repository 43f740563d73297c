use Rattle.pp_peer.proofs.Content.{whole_on}
use Rattle.pp_peer.proofs.laws.laws_of_parts.Goals as goal

pub returns : goal.returns
returns c = whole_on
