use Rattle.std.proofs.Common.{arith}
use Rattle.pp_replay.proofs.ContentBytes.{one_written}
use Rattle.pp_replay.proofs.schedule.Schedule.write_content.Goals as goal

pub loop-byte-preserved : goal.loop-byte-preserved
loop-byte-preserved c =
    one_written c.args.self.now.shift c.args.from c.loop-byte.place c.loop-byte.byte-index c.loop-byte.into c.byte_at.result
    c.loop-byte.invariant (omega arith) c.byte_at.ensures
