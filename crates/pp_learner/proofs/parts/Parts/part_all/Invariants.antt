use Rattle.pp_terms.specs.disk.Disk.{moment_of}
use Rattle.pp_learner.specs.Learners.{IsWhole}
use Rattle.pp_learner.specs.Sending.{EachBelow, PartsAt}
use Rattle.pp_learner.proofs.parts.Parts.part_all.Given as goal

abbrev pub invariant-loop-seat : goal.invariant-loop-seat
invariant-loop-seat g l = record {
  each : EachBelow l.seat (PartsAt (moment_of (g.D.Disk.state l.disk).history))
      (record { parts = l.initial.self; link = g.L.Link.seen l.initial.link }) (record { parts = l.self; link = g.L.Link.seen l.link });
  whole : IsWhole l.self;
}
