use Rattle.std.proofs.Common.{Bool, false, List, get_or, ap, sym, ◌∙◌, subst}
use Rattle.pp_holding.specs.Queue.{QueueState}
use Rattle.pp_holding.specs.Holding.{AreCommitted}
use Rattle.pp_holding.proofs.Committed.{with_one}
use Rattle.pp_holding.proofs.holding.heed.Goals as goal
use Rattle.pp_holding.proofs.holding.heed.Goals.{then-contains, else-contains}

pub returns-after-contains-clause-again : goal.returns-after-contains-clause-again
returns-after-contains-clause-again g c all = elim c.if-contains.branch [
  | then-contains w ↦
      subst (λ (q : QueueState). AreCommitted c.args.store.now q.repeats) (sym (w.queue-is ∙ w.acknowledge.ensures))
      (with_one c.args.store.now c.args.queue.now.repeats c.args.parcel.now.ticket
      (sym (ap (λ (set : List Bool). get_or set c.args.parcel.now.ticket.chunk false) c.committed.ensures) ∙ sym c.contains.ensures ∙ w.if-contains.true) all)
  | else-contains w ↦ subst (λ (q : QueueState). AreCommitted c.args.store.now q.repeats) (sym w.queue-is) all
]
