use Rattle.std.proofs.Common.{◌≡◌, ◌≤◌, ◌+◌}
use Rattle.pp_terms.specs.format.Descriptor.{chunks_of}
use Rattle.pp_terms.specs.tree.Proves.{climbed}
use Rattle.pp_recorded.specs.Claims.{known_of}
use Rattle.pp_recorded.specs.Provings.{looked_up}
use Rattle.pp_recorded.proofs.proving.climb.Given as goal

abbrev pub invariant-steps : goal.invariant-steps
invariant-steps l = record {
  low : l.node.layer + l.left ≤ 200;
  same : climbed (looked_up l.is_filled (chunks_of l.claims.descriptor.now) (known_of l.claims)) l.fn.layers l.fn.from.layer l.fn.from.offset l.fn.digest
      ≡ climbed (looked_up l.is_filled (chunks_of l.claims.descriptor.now) (known_of l.claims)) l.left l.node.layer l.node.offset l.reached;
}

abbrev pub decreases-steps : goal.decreases-steps
decreases-steps l = l.left
