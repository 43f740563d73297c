use Rattle.pp_words.proofs.AddressParts.{zero_port}
use Rattle.pp_words.proofs.address.port_number.Goals as goal

pub returns-then-port-eq0 : goal.returns-then-port-eq0
returns-then-port-eq0 c = λ n. zero_port c.args.text.now c.in_ok-port.port n c.in_ok-port.ensures.1 c.if-port-eq0.true
