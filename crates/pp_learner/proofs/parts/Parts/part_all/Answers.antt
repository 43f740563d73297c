use Rattle.std.proofs.Common.{arith}
use Rattle.pp_terms.specs.disk.Disk.{moment_of}
use Rattle.pp_learner.specs.Sending.{PartsAt}
use Rattle.pp_learner.proofs.Each.{each_none, each_more, each_all}
use Rattle.pp_learner.proofs.parts.Parts.part_all.Goals as goal

pub loop-seat-init : goal.loop-seat-init
loop-seat-init g c = record {
  each = each_none (PartsAt (moment_of (g.D.Disk.state c.args.disk.now).history)) (record { parts = c.args.self.now; link = g.L.Link.seen c.args.link.now });
  whole = c.requires;
}

pub loop-seat-preserved : goal.loop-seat-preserved
loop-seat-preserved g c = record {
  each = each_more c.loop-seat.seat (PartsAt (moment_of (g.D.Disk.state c.args.disk.now).history)) _ _ _ c.loop-seat.invariant.each c.part.ensures.parts;
  whole = c.part.ensures.whole;
}

pub returns-clause-parts : goal.returns-clause-parts
returns-clause-parts g c = each_all c.loop-seat.seat 64 (PartsAt (moment_of (g.D.Disk.state c.args.disk.now).history)) _ _ (omega arith) c.loop-seat.invariant.each
