use Rattle.std.proofs.Common.{◌≡◌, length}
use Rattle.pp_terms.specs.disk.Disk.{moment_of}
use Rattle.pp_learner.specs.Learners.{IsWhole}
use Rattle.pp_learner.specs.Sending.{EachBelow}
use Rattle.pp_learner.specs.Dialling.{DialsAt}
use Rattle.pp_learner.proofs.parts.Parts.dial_all.Given as goal

abbrev pub invariant-loop-i : goal.invariant-loop-i
invariant-loop-i g l = record {
  each : EachBelow l.i (DialsAt (moment_of (g.D.Disk.state l.disk).history))
      (record { parts = l.initial.self; link = g.L.Link.seen l.initial.link }) (record { parts = l.self; link = g.L.Link.seen l.link });
  whole : IsWhole l.self;
  count : length l.self.dials ≡ l.count;
}
