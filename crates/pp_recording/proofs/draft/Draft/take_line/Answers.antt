use Rattle.std.proofs.Common.{subst}
use Rattle.pp_outside.specs.Outside.{address_of}
use Rattle.pp_terms.specs.format.Traffic as terms
use Rattle.pp_recording.specs.Lines.{Says}
use Rattle.pp_recording.specs.declared.lines.Line.{Line}
use Rattle.pp_recording.proofs.Draftings.{takes_node, takes_nothing, quiet_taken, received_taken, sent_taken}
use Rattle.pp_recording.proofs.draft.Draft.take_line.Goals as goal

pub take_node-requires-clause-size : goal.take_node-requires-clause-size
take_node-requires-clause-size c = let says = subst (λ (l : Line). Says c.args._row.now l) c.in-Node.is c.requires.says in says.1.size

pub take_node-requires-clause-bytes : goal.take_node-requires-clause-bytes
take_node-requires-clause-bytes c = let says = subst (λ (l : Line). Says c.args._row.now l) c.in-Node.is c.requires.says in says.1.bytes

pub take_received-requires-clause-peer : goal.take_received-requires-clause-peer
take_received-requires-clause-peer c = let says = subst (λ (l : Line). Says c.args._row.now l) c.in-Received.is c.requires.says in says.1

pub take_received-requires-clause-digits : goal.take_received-requires-clause-digits
take_received-requires-clause-digits c = let says = subst (λ (l : Line). Says c.args._row.now l) c.in-Received.is c.requires.says in says.2

pub take_sent-requires-clause-peer : goal.take_sent-requires-clause-peer
take_sent-requires-clause-peer c = let says = subst (λ (l : Line). Says c.args._row.now l) c.in-Sent.is c.requires.says in says.1

pub take_sent-requires-clause-digits : goal.take_sent-requires-clause-digits
take_sent-requires-clause-digits c = let says = subst (λ (l : Line). Says c.args._row.now l) c.in-Sent.is c.requires.says in says.2

pub returns-in-Node : goal.returns-in-Node
returns-in-Node c =
    let says = subst (λ (l : Line). Says c.args._row.now l) c.in-Node.is c.requires.says in
    takes_node c.args.self.now c.take_node.new.self c.args._row.now (record { layer = c.in-Node.node.layer; offset = c.in-Node.node.offset; digest = c.in-Node.digest })
    c.take_node.result c.requires.draft says.0 says.1 c.take_node.ensures

pub returns-in-Quiet : goal.returns-in-Quiet
returns-in-Quiet c =
    let says = subst (λ (l : Line). Says c.args._row.now l) c.in-Quiet.is c.requires.says in
    quiet_taken c.args.self.now c.take_quiet.new.self c.args._row.now (terms.Quiet c.in-Quiet.at) c.take_quiet.result c.requires.draft says.0 says.1 c.take_quiet.ensures

pub returns-in-Received : goal.returns-in-Received
returns-in-Received c =
    let says = subst (λ (l : Line). Says c.args._row.now l) c.in-Received.is c.requires.says in
    received_taken c.args.self.now c.take_received.new.self c.args._row.now c.in-Received.at (address_of c.in-Received.from) c.in-Received.digits.now
    c.take_received.result c.requires.draft says.0 says.3 says.1 says.2 c.take_received.ensures

pub returns-in-Sent : goal.returns-in-Sent
returns-in-Sent c =
    let says = subst (λ (l : Line). Says c.args._row.now l) c.in-Sent.is c.requires.says in
    sent_taken c.args.self.now c.take_sent.new.self c.args._row.now c.in-Sent.moment (address_of c.in-Sent.to) c.in-Sent.digits.now
    c.take_sent.result c.requires.draft says.0 says.3 says.1 says.2 c.take_sent.ensures

pub returns-in-Wrong : goal.returns-in-Wrong
returns-in-Wrong c =
    let says = subst (λ (l : Line). Says c.args._row.now l) c.in-Wrong.is c.requires.says in
    takes_nothing c.args.self.now c.args._row.now c.requires.draft c.requires.clean c.requires.other says
