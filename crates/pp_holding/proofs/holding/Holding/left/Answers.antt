use Rattle.std.proofs.Common.{◌≡◌, ◌∙◌, ◌-◌, ◌≤◌, Bool, List, ap, subst}
use Rattle.std.specs.Prelude.{◌==◌, count_by}
use Rattle.pp_promises.specs.Batches.{is_all_in}
use Rattle.pp_holding.specs.Holding.{HoldingState, batch_of, IsLeft}
use Rattle.pp_holding.proofs.Lefts.{Lefts, left_value}
use Rattle.pp_holding.proofs.holding.Holding.left.Goals as goal

value : (c : goal.After-pending) → (c.pending.result ≤ c.self.inside.chunks - c.count.result)
    × Lefts c.self.inside.store c.self.inside.queue.waiting (c.self.inside.chunks - c.count.result - c.pending.result)
value c =
    left_value c.self.inside.store c.self.inside.queue.waiting c.self.inside.chunks c.count.result c.pending.result c.self.invariant.1.waits c.self.invariant.0
    (c.count.ensures ∙ ap (λ (xs : List Bool). count_by (λ (b : Bool). b) xs) c.committed.ensures) c.pending.ensures

pub overflow_sub-result-2 : goal.overflow_sub-result-2
overflow_sub-result-2 c = (value c).0

pub returns-clause-left : goal.returns-clause-left
returns-clause-left c = subst (λ (s : HoldingState). IsLeft s (c.self.inside.chunks - c.count.result - c.pending.result)) c.self.view_is (value c).1.sum

pub returns-clause-none : goal.returns-clause-none
returns-clause-none c =
    subst (λ (s : HoldingState). ((c.self.inside.chunks - c.count.result - c.pending.result) == 0) ≡ is_all_in (batch_of s)) c.self.view_is (value c).1.all
