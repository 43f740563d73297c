use Rattle.std.proofs.Common.{◌≡◌, ℕ, ltb, false, length, get_or}
use Rattle.std.specs.Prelude.{◌&&◌, ◌||◌}
use Rattle.pp_terms.specs.tree.Range.{within}
use Rattle.pp_wire.specs.Views.{span_of}
use Rattle.pp_outcome.proofs.announced.add_span.Given as goal

abbrev pub invariant-loop-i : goal.invariant-loop-i
invariant-loop-i l = record {
  size : length l.set ≡ length l.initial.set;
  each : (k : ℕ) → get_or l.set k false ≡ ((within (span_of l.fn.span) k && ltb k l.i) || get_or l.initial.set k false);
}
