use Rattle.std.proofs.Common.{arith, rules}
use Rattle.pp_words.proofs.AddressParts.{wrong_port, wrong_v6, wrong_v4, right_v6}
use Rattle.pp_words.proofs.address.spelled_address.Goals as goal

pub returns-in_err-port : goal.returns-in_err-port
returns-in_err-port c = rw c.from_residual-in_err-port.ensures
    (λ address. wrong_port c.args.text.now c.in_ok-host.host.now c.in_ok-host.port.now address (search rules) (search rules) c.in_err-port.ensures)

pub returns-in_err-bytes-in-Some : goal.returns-in_err-bytes-in-Some
returns-in_err-bytes-in-Some c = rw c.from_residual-in_err-bytes-in-Some.ensures
    (λ address. wrong_v6 c.args.text.now c.in_ok-host.host.now c.in_ok-host.port.now c.in-Some.inner.now address (search rules) (search rules)
    (search rules) c.in_err-bytes-in-Some.ensures)

pub returns-in_err-bytes-in-None : goal.returns-in_err-bytes-in-None
returns-in_err-bytes-in-None c = rw c.from_residual-in_err-bytes-in-None.ensures
    (λ address. wrong_v4 c.args.text.now c.in_ok-host.host.now c.in_ok-host.port.now address (search rules) (search rules)
    c.in-None.ensures c.in_err-bytes-in-None.ensures)

pub returns-in_ok-bytes-in-Some : goal.returns-in_ok-bytes-in-Some
returns-in_ok-bytes-in-Some c =
    let bytes = c.in_ok-bytes-in-Some.ensures in
    right_v6 c.args.text.now c.in_ok-host.host.now c.in_ok-host.port.now c.in-Some.inner.now bytes.0 c.in_ok-bytes-in-Some.bytes c.in_ok-port.port
    (search rules) c.in_ok-port.ensures.1 c.in_ok-port.ensures.0 (omega arith) (search rules) bytes.1 bytes.2
