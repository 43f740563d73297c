use Rattle.std.proofs.Common.{◌≤◌, length}
use Rattle.pp_adapt.proofs.file_disk.read_filled.Given as goal

abbrev pub invariant-loop : goal.invariant-loop
invariant-loop l = l.at ≤ length l.into
