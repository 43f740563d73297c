-- A refused read takes nothing from the reader.
use Rattle.std.specs.Io.KnownBytes.{Keeps}
use Rattle.pp_adapt.proofs.stdin_source.read_some.Given as goal

abbrev pub invariant-loop : goal.invariant-loop
invariant-loop g l = Keeps (g.R.Read.remaining l.initial.reader) (g.R.Read.remaining l.reader)
