use Rattle.std.proofs.Common.{codes, subst}
use Rattle.pp_play.specs.Recording.{IsRecordFault}
use Rattle.pp_play.specs.declared.recording.RecordFault.{RecordFault}
use Rattle.pp_node.specs.Recordings.{too_large_line}
use Rattle.pp_node.proofs.Lines.{says}
use Rattle.pp_node.proofs.Recordings.{too_large_is}
use Rattle.pp_node.proofs.recording.put_life.Goals as goal

pub returns-in-Err-Limit : goal.returns-in-Err-Limit
returns-in-Err-Limit g c = (
  (
    c.in-Err-Limit.field-0-0,
    c.in-Err-Limit.field-0-1,
    c.in-Err-Limit.field-0-2,
    subst (λ (f : RecordFault). IsRecordFault c.args.outcome.now c.args.peer c.args.life f) c.in-Err-Limit.field-0-is c.in-Err-Limit.ensures.fault,
  ),
  says too_large_line (codes "recording: too large\n") (g.K.Sink.state c.args.sink.now) (g.K.Sink.state c.put_all-in-Err-Limit.new.sink)
      c.put_all-in-Err-Limit.result too_large_is c.put_all-in-Err-Limit.ensures.gained c.put_all-in-Err-Limit.ensures.cause,
)
