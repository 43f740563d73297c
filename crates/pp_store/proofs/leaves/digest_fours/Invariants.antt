use Rattle.std.proofs.Common.{◌≡◌, ◌≤◌, ◌-◌, ◌*◌, length}
use Rattle.pp_store.specs.Leaves.{HasLeaves}
use Rattle.pp_store.proofs.leaves.digest_fours.Given as goal

abbrev pub invariant-loop-start : goal.invariant-loop-start
invariant-loop-start l = record {
  start_is : l.start ≡ l.i * l.chunk;
  inside : l.start ≤ length l.pieces;
  room : length l.digests ≡ 256;
  digests : HasLeaves l.pieces l.chunk l.i l.digests;
}

abbrev pub decreases-loop-start : goal.decreases-loop-start
decreases-loop-start l = length l.pieces - l.start
