use Rattle.std.proofs.Common.{◌∙◌, ap}
use Rattle.pp_holding.specs.Queue.{QueueState, is_any_late}
use Rattle.pp_holding.proofs.Tickets.{is_any_late-reverse}
use Rattle.pp_holding.proofs.queue.Queue.is_late.Goals as goal

pub returns : goal.returns
returns c = c.is_any_late.ensures ∙ ap (is_any_late c.args.now) c.as_slice.ensures.value ∙ is_any_late-reverse c.args.now c.self.inside.waiting.items
    ∙ ap (λ (q : QueueState). is_any_late c.args.now q.waiting) c.self.view_is
