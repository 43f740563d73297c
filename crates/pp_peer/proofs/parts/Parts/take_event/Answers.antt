use Rattle.std.proofs.Common.{sym, subst}
use Rattle.std.specs.Prelude.{OnOk}
use Rattle.pp_terms.specs.format.Traffic.{Record}
use Rattle.pp_peer.specs.Absorbing.{Readies}
use Rattle.pp_peer.proofs.Arrived.{datagram_is}
use Rattle.pp_peer.proofs.parts.Parts.take_event.Goals as goal

pub returns-in-Datagram-clause-readies : goal.returns-in-Datagram-clause-readies
returns-in-Datagram-clause-readies g c =
    subst (λ (r : Record). OnOk c.take_datagram.result (Readies r c.args.self.now c.take_datagram.new.self))
    (sym (datagram_is c.args.event.now c.args.bytes.now c.in-Datagram.from c.in-Datagram.len c.in-Datagram.at c.in-Datagram.is c.requires)) c.take_datagram.ensures.readies
