use Rattle.pp_outside.specs.MemoryLink.{in_order}
use Rattle.pp_recording.specs.Sessions.{IsTraffic}
use Rattle.pp_recording.proofs.session.gather.Given as goal

abbrev pub invariant-loop-n : goal.invariant-loop-n
invariant-loop-n l = IsTraffic l.n (in_order l.link) l.traffic
