use Rattle.std.proofs.Common.{arith}
use Rattle.pp_terms.specs.disk.Disk.{moment_of}
use Rattle.pp_learner.specs.Sending.{SpeaksAt}
use Rattle.pp_learner.proofs.Each.{each_none, each_more, each_all}
use Rattle.pp_learner.proofs.parts.Parts.speak_all.Goals as goal

pub loop-seat-init : goal.loop-seat-init
loop-seat-init g c = record {
  each = each_none (SpeaksAt (moment_of (g.D.Disk.state c.args.disk.now).history)) (record { parts = c.args.self.now; link = g.L.Link.seen c.args.link.now });
  whole = c.requires;
}

pub loop-seat-preserved : goal.loop-seat-preserved
loop-seat-preserved g c = record {
  each = each_more c.loop-seat.seat (SpeaksAt (moment_of (g.D.Disk.state c.args.disk.now).history)) _ _ _ c.loop-seat.invariant.each c.speak.ensures.speaks;
  whole = c.speak.ensures.whole;
}

pub returns-clause-speaks : goal.returns-clause-speaks
returns-clause-speaks g c = each_all c.loop-seat.seat 64 (SpeaksAt (moment_of (g.D.Disk.state c.args.disk.now).history)) _ _ (omega arith) c.loop-seat.invariant.each
