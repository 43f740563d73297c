use Rattle.std.proofs.Common.{arith, sym, ◌∙◌}
use Rattle.pp_terms.specs.disk.Disk.{moment_of}
use Rattle.pp_learner.specs.Dialling.{DialsAt}
use Rattle.pp_learner.proofs.Each.{each_none, each_more, each_all}
use Rattle.pp_learner.proofs.parts.Parts.dial_all.Goals as goal

pub loop-i-init : goal.loop-i-init
loop-i-init g c = record {
  each = each_none (DialsAt (moment_of (g.D.Disk.state c.args.disk.now).history)) (record { parts = c.args.self.now; link = g.L.Link.seen c.args.link.now });
  whole = c.requires;
  count = sym c.count-count.ensures.exact;
}

pub loop-i-preserved : goal.loop-i-preserved
loop-i-preserved g c = record {
  each = each_more c.loop-i.i (DialsAt (moment_of (g.D.Disk.state c.args.disk.now).history)) _ _ _ c.loop-i.invariant.each c.dial_at.ensures.dials;
  whole = c.dial_at.ensures.whole;
  count = c.dial_at.ensures.count ∙ c.loop-i.invariant.count;
}

pub returns-clause-dials : goal.returns-clause-dials
returns-clause-dials g c = each_all c.loop-i.i _ (DialsAt (moment_of (g.D.Disk.state c.args.disk.now).history)) _ _ (omega (arith, c.count-count.ensures.exact)) c.loop-i.invariant.each
