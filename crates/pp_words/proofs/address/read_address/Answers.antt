use Rattle.pp_outside.specs.Outside.{address_of}
use Rattle.pp_words.proofs.AddressParts.{each_address}
use Rattle.pp_words.proofs.address.read_address.Goals as goal

pub returns-clause-each : goal.returns-clause-each
returns-clause-each c = each_address address_of c.args.text.now c.spelled_address.result c.spelled_address.ensures
