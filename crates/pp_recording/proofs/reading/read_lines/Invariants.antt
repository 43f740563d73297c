use Rattle.std.proofs.Common.{length}
use Rattle.pp_recording.specs.Reading.{IsReading}
use Rattle.pp_recording.proofs.reading.read_lines.Given as goal

abbrev pub invariant-loop-row : goal.invariant-loop-row
invariant-loop-row l = IsReading l.text l.draft l.rest l.line

abbrev pub decreases-loop-row : goal.decreases-loop-row
decreases-loop-row l = length l.rest
