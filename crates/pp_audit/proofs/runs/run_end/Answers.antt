use Rattle.std.proofs.Common.{List, subst, arith}
use Rattle.std.proofs.lemmas.List.{get_or_default}
use Rattle.pp_terms.specs.format.Traffic.{Record}
use Rattle.pp_audit.specs.Alike.{AreAlike}
use Rattle.pp_recorded.proofs.Pasts.{first_all}
use Rattle.pp_audit.proofs.AlikeNumbers.{alike_more}
use Rattle.pp_audit.proofs.runs.run_end.Goals as goal

pub loop-entry-preserved : goal.loop-entry-preserved
loop-entry-preserved c = record {
  low = c.datagram_end-end.ensures.low;
  high = omega (arith, c.datagram_end-end.ensures.high, c.loop-entry.invariant.high);
  same = λ j le under. alike_more c.args.descriptor.now c.args.at j c.args.entries.now c.loop-entry.entry-index _ c.bytes_of.result.now c.loop-entry-test.true
      (get_or_default c.args.entries.now c.loop-entry.entry-index _ _ c.loop-entry-test.true) c.bytes_of.ensures (c.datagram_end-end.ensures.same j le under)
      (c.loop-entry.invariant.same j le (omega (arith, under, c.datagram_end-end.ensures.high)));
}

pub returns-clause-same : goal.returns-clause-same
returns-clause-same c = λ j le under.
    subst (λ (rs : List Record). AreAlike c.args.descriptor.now c.args.at j rs) (first_all c.args.entries.now c.loop-entry.entry-index c.loop-entry-test.false)
    (c.loop-entry.invariant.same j le under)
