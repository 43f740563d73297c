use Rattle.std.proofs.Common.{◌≡◌, map, take}
use Rattle.pp_recorded.specs.Entries.{life_of}
use Rattle.pp_verdict.specs.Reaches.{reached, AreCovered}
use Rattle.pp_verdict.proofs.reaches.reaches_of.Given as goal

abbrev pub invariant-loop-life : goal.invariant-loop-life
invariant-loop-life l = record {
  same : map reached l.reaches.items ≡ map life_of (take l.life-index l.life-items);
  covered : AreCovered l.descriptor l.entries l.reaches.items;
}
