use Rattle.pp_terms.proofs.MessageLaws as laws
use Rattle.pp_wire.proofs.laws.one_message.Goals as goal

pub returns : goal.returns
returns c = record { again = laws.spelt_is_read; one = laws.one_message }
