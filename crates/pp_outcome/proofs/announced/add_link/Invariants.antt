use Rattle.std.proofs.Common.{◌≡◌, ℕ, ◌<◌, false, length, get_or, take}
use Rattle.std.specs.Prelude.{◌||◌}
use Rattle.std.specs.List.{list_any}
use Rattle.pp_outside.specs.MemoryLink.{in_order}
use Rattle.pp_outcome.specs.Announced.{record_announces}
use Rattle.pp_outcome.proofs.announced.add_link.Given as goal

abbrev pub invariant-loop-n : goal.invariant-loop-n
invariant-loop-n l = record {
  size : length l.set ≡ length l.initial.set;
  each : (i : ℕ) → i < length l.initial.set
      → get_or l.set i false ≡ (list_any (record_announces l.descriptor i) (take l.n (in_order l.link)) || get_or l.initial.set i false);
}
