use Rattle.std.proofs.Common.{◌≡◌, ◌≤◌, take, drop, vec_len, vec_capacity}
use Rattle.pp_adapt.specs.Extents.{whole_of, rest_of}
use Rattle.pp_adapt.proofs.extents.take_met.Given as goal

abbrev pub invariant-loop-extents : goal.invariant-loop-extents
invariant-loop-extents l = record {
  within : l.at ≤ vec_len l.extents;
  before : take l.at l.extents.items ≡ take l.at l.initial.extents.items;
  rest : rest_of (drop l.at l.extents.items) l.whole ≡ rest_of (drop l.at l.initial.extents.items) l.initial.whole;
  whole : whole_of (drop l.at l.extents.items) l.whole ≡ whole_of (drop l.at l.initial.extents.items) l.initial.whole;
  capacity : vec_capacity l.extents ≡ vec_capacity l.initial.extents;
}

abbrev pub decreases-loop-extents : goal.decreases-loop-extents
decreases-loop-extents l = vec_len l.extents
