use Rattle.std.proofs.Common.{◌≡◌, ◌≤◌, drop, map}
use Rattle.pp_terms.specs.disk.Calls.{crash_from}
use Rattle.pp_outside.specs.Steps.{did_of, writes_of}
use Rattle.pp_outside.proofs.log.crashed.Given as goal

abbrev pub invariant-loop-step : goal.invariant-loop-step
invariant-loop-step l = record {
  few : l.number ≤ l.step-index;
  rest : crash_from l.pick l.number (writes_of (map did_of (drop l.step-index l.steps))) l.image.items
      ≡ crash_from l.pick 0 (writes_of (map did_of l.steps)) l.durable;
}
