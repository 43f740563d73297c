use Rattle.std.proofs.Common.{List, sym, subst, arith}
use Rattle.std.specs.List.{AllByRecursion}
use Rattle.pp_terms.specs.format.Messages.{Message}
use Rattle.pp_audit.specs.Alike.{IsAlike}
use Rattle.pp_audit.proofs.runs.datagram_end.Goals as goal

pub messages-preserved : goal.messages-preserved
messages-preserved c = record {
  within = c.in-Some.ensures.within;
  low = c.message_end-end.ensures.low;
  high = omega (arith, c.message_end-end.ensures.high, c.messages.invariant.high);
  same = λ j le under all. c.messages.invariant.same j le (omega (arith, under, c.message_end-end.ensures.high))
      (subst (λ (ms : List Message). AllByRecursion (IsAlike c.args.at j) ms) (sym c.in-Some.ensures.before) (c.message_end-end.ensures.same j le under, all));
}

pub returns-clause-same : goal.returns-clause-same
returns-clause-same c = λ j le under. c.messages.invariant.same j le under
    (subst (λ (ms : List Message). AllByRecursion (IsAlike c.args.at j) ms) (sym c.in_default.ensures) tt)
