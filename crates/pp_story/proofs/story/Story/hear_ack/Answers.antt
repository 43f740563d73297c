use Rattle.pp_wire.specs.Views.{span_of}
use Rattle.pp_story.proofs.Steps.{hears_by, hears_ack}
use Rattle.pp_story.proofs.story.Story.hear_ack.Goals as goal

pub returns : goal.returns
returns c =
    hears_by c.self.view_is
    (hears_ack _ c.tell.new.told c.acknowledge.new.self (span_of c.args.span) c.args.delay c.args.now
    c.tell.ensures.chunks c.tell.ensures.more c.acknowledge.ensures)
