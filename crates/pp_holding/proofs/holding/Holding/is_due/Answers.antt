use Rattle.std.proofs.Common.{◌∙◌, ap, sym}
use Rattle.pp_promises.specs.Batches.{is_all_in, is_late}
use Rattle.pp_holding.specs.Holding.{HoldingState, batch_of}
use Rattle.pp_holding.proofs.Lefts.{late_is, due_late}
use Rattle.pp_holding.proofs.holding.Holding.is_due.Goals as goal
use Rattle.pp_holding.proofs.holding.Holding.is_due.Goals.{then-is_quiet, else-is_quiet}

pub returns-else-left-eq0 : goal.returns-else-left-eq0
returns-else-left-eq0 c = elim c.if-is_quiet.branch [
  | then-is_quiet w ↦ absurd cc
  | else-is_quiet w ↦
      due_late c.args.is_quiet (is_all_in (batch_of c.args.self.now)) (is_late c.args.now (batch_of c.args.self.now)) c.is_late.result w.if-is_quiet.false
      (sym w.left.ensures.none ∙ sym w.value-is ∙ c.if-left-eq0.false)
      (c.is_late.ensures ∙ late_is c.self.inside.store c.args.now c.self.inside.queue.waiting
      ∙ ap (λ (s : HoldingState). is_late c.args.now (batch_of s)) c.self.view_is)
]
