use Rattle.std.proofs.Common.{◌≡◌, ◌≤◌}
use Rattle.pp_traffic.specs.Claims.{node_below}
use Rattle.pp_wire.specs.Views.{span_of}
use Rattle.pp_recorded.proofs.claims.node_below.Given as goal

abbrev pub invariant-layers : goal.invariant-layers
invariant-layers l = record {
  low : l.layer ≤ 21;
  same : node_below 21 (span_of l.span) ≡ node_below l.layer (span_of l.span);
}

abbrev pub decreases-layers : goal.decreases-layers
decreases-layers l = l.layer
