use Rattle.std.proofs.Common.{◌≡◌, map, length, take}
use Rattle.pp_draft.specs.Puts.{Adds, message_at}
use Rattle.pp_draft.proofs.ranges.put_cover.Given as goal

abbrev pub invariant-loop-node : goal.invariant-loop-node
invariant-loop-node l = record {
  adds : Adds l.descriptor (map (message_at l.kind) (take l.node-index l.nodes)) l.initial.out l.at l.end l.out;
  size : length l.out ≡ length l.initial.out;
}
