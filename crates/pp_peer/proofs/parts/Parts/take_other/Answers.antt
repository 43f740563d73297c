use Rattle.pp_peer.proofs.Heard.{other_takes}
use Rattle.pp_peer.proofs.Messages.{other_exact}
use Rattle.pp_wire.specs.Views.{message_of}
use Rattle.pp_peer.proofs.parts.Parts.take_other.Goals as goal

pub returns-clause-takes : goal.returns-clause-takes
returns-clause-takes c disk = other_takes c.args.seat (message_of c.args.message.now) c.args.self.now c.heed_message.new.self c.note.new.self c.hear-noted.new.self c.hear-noted.result disk
    c.heed_message.ensures.rest c.heed_message.ensures.heeds c.hear-noted.ensures c.note.ensures

pub returns-clause-exact : goal.returns-clause-exact
returns-clause-exact c = other_exact c.args.seat (message_of c.args.message.now) c.args.self.now c.heed_message.new.self c.note.new.self c.hear-noted.new.self c.hear-noted.result
    c.heed_message.ensures.heeds c.hear-noted.ensures c.note.ensures
