use Rattle.pp_store.proofs.Marking.{slot_made}
use Rattle.pp_store.proofs.pairing.pair_slot.Goals as goal

pub returns : goal.returns
returns c = slot_made c.args.layer c.args.offset c.requires.low
