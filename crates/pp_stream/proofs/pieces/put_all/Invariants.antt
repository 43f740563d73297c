use Rattle.std.proofs.Common.{length, ◌-◌}
use Rattle.pp_stream.proofs.Written.{IsWritten}
use Rattle.pp_stream.proofs.pieces.put_all.Given as goal

abbrev pub invariant-loop-written : goal.invariant-loop-written
invariant-loop-written g l = IsWritten (g.K.Sink.state l.initial.sink) (g.K.Sink.state l.sink) l.bytes l.written

abbrev pub decreases-loop-written : goal.decreases-loop-written
decreases-loop-written g l = length l.bytes - l.written
