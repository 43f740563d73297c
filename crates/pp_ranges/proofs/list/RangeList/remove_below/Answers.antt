use Rattle.std.proofs.Common.{rules, ◌≡◌, drop, ◌≤◌, List, length, sym, ◌∙◌, subst, ap, arith}
use Rattle.pp_terms.specs.tree.Range.{Span, has, IsRunsFrom}
use Rattle.pp_ranges.proofs.Runs.{runs_weaken}
use Rattle.pp_ranges.proofs.Fronts.{below_has, below_runs, below_few}
use Rattle.pp_ranges.proofs.list.RangeList.remove_below.Goals as goal

pub invariant_of-self : goal.invariant_of-self
invariant_of-self c =
    let rest : c.drop-drain.new.self.0.items ≡ drop c.ended_below-ended.result.0 c.deref.result.now = search rules in
    subst (λ (xs : List Span). IsRunsFrom 0 xs) (sym rest)
    (runs_weaken 0 c.ended_below-ended.result.1 (drop c.ended_below-ended.result.0 c.deref.result.now) (omega arith) c.ended_below-ended.ensures.runs)

pub returns-clause-exact : goal.returns-clause-exact
returns-clause-exact c = search rules

pub returns-clause-rest : goal.returns-clause-rest
returns-clause-rest c j =
    let runs = subst (λ (xs : List Span). IsRunsFrom 0 xs) c.self.view_is c.self.invariant in
    ap (λ (xs : List Span). has xs j) (returns-clause-exact c) ∙ below_has c.args.i c.args.self.now 0 j runs

pub returns-clause-few : goal.returns-clause-few
returns-clause-few c = subst (λ (xs : List Span). length xs ≤ length c.args.self.now) (sym (returns-clause-exact c)) (below_few c.args.i c.args.self.now)

pub returns-clause-runs : goal.returns-clause-runs
returns-clause-runs c =
    subst (λ (xs : List Span). IsRunsFrom 0 xs) (sym (returns-clause-exact c))
    (below_runs c.args.i c.args.self.now 0 (subst (λ (xs : List Span). IsRunsFrom 0 xs) c.self.view_is c.self.invariant))
