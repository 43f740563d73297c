use Rattle.pp_terms.proofs.DatagramLaws as laws
use Rattle.pp_wire.proofs.laws.one_datagram.Goals as goal

pub returns : goal.returns
returns c = record { parts = laws.one_by_one; grows = laws.grows_by_one }
