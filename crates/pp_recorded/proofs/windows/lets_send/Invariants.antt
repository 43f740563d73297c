use Rattle.std.proofs.Common.{◌≡◌, ◌≤◌, ◌-◌, ◌^◌, drop}
use Rattle.pp_traffic.specs.Meter.{meter}
use Rattle.pp_traffic.specs.Story.{story}
use Rattle.pp_recorded.specs.Entries.{past, life_of}
use Rattle.pp_recorded.specs.Acts.{ahead, number, run}
use Rattle.pp_recorded.specs.Gauges.{metered}
use Rattle.pp_recorded.proofs.windows.lets_send.Given as goal

abbrev pub invariant-acts : goal.invariant-acts
invariant-acts l = record {
  run : run (metered l.descriptor (life_of l.life) l.entries l.row l.gauge) (ahead l.descriptor (life_of l.life) l.entries l.at)
      ≡ meter l.descriptor.chunk (story l.descriptor (life_of l.life) (past l.entries));
  behind : drop l.row.count (ahead l.descriptor (life_of l.life) l.entries l.row.from) ≡ ahead l.descriptor (life_of l.life) l.entries l.at;
  few : l.row.count ≤ number l.at;
}

abbrev pub decreases-acts : goal.decreases-acts
decreases-acts l = 2 ^ 128 - number l.at
