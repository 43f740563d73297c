use Rattle.pp_words.proofs.address.ipv4_bytes.Goals as goal

pub returns-in-Err : goal.returns-in-Err
returns-in-Err c = λ bytes dotted. c.in-Err.ensures (record { octets = bytes }) dotted
