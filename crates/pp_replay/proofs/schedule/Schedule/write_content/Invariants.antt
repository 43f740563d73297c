use Rattle.pp_replay.proofs.ContentBytes.{AreWritten}
use Rattle.pp_replay.proofs.schedule.Schedule.write_content.Given as goal

abbrev pub invariant-loop-byte : goal.invariant-loop-byte
invariant-loop-byte l = AreWritten l.self.shift l.from l.place l.byte-index l.into
