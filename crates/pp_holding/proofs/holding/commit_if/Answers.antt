use Rattle.std.proofs.Common.{Bool, ap, sym, ◌∙◌, subst}
use Rattle.std.specs.Prelude.{count_by, if◌then◌else◌}
use Rattle.pp_terms.specs.disk.Disk.{DiskState}
use Rattle.pp_promises.specs.Batches.{after_commit}
use Rattle.pp_holding.specs.Queue.{QueueState}
use Rattle.pp_store.specs.Store.{StoreState}
use Rattle.pp_holding.specs.Holding.{batch_from, AreCommitted}
use Rattle.pp_holding.proofs.Committed.{committed_same, committed_more, committed_released}
use Rattle.pp_holding.proofs.Images.{commit_lengthens, refused_lengthens}
use Rattle.pp_holding.proofs.Advancing.{commit_advances, refused_advances}
use Rattle.pp_holding.proofs.Waitings.{batch_committed}
use Rattle.pp_holding.proofs.holding.commit_if.Goals as goal

pub returns-in-Ok-clause-advances : goal.returns-in-Ok-clause-advances
returns-in-Ok-clause-advances g c book rooted =
    commit_advances c.args.store.now c.commit.new.self book (g.D.Disk.state c.args.disk.now) (g.D.Disk.state c.commit.new.disk) c.requires.live c.requires.waits.apart rooted
    c.commit.ensures.disk
    (λ known. commit_lengthens c.args.store.now.descriptor c.args.store.now.pending (g.D.Disk.state c.args.disk.now).history (g.D.Disk.state c.commit.new.disk).history
    (count_by (λ (b : Bool). b) c.args.store.now.pending)
    (λ none. ap (λ (s : DiskState). s.history) (c.commit.ensures.nothing none).2) (c.in-Ok.ensures.durable known))
    c.commit.ensures.goes_on c.commit.ensures.agrees c.commit.ensures.gated c.in-Ok.ensures.committed (g.met.D.Disk.whole c.commit.new.disk) c.in-Ok.ensures.stands

pub returns-in-Err-clause-advances : goal.returns-in-Err-clause-advances
returns-in-Err-clause-advances g c book rooted =
    refused_advances c.args.store.now c.commit.new.self book (g.D.Disk.state c.args.disk.now) (g.D.Disk.state c.commit.new.disk) c.requires.live c.requires.waits.apart rooted
    c.commit.ensures.disk
    (λ known. refused_lengthens c.args.store.now.descriptor c.args.store.now.pending (g.D.Disk.state c.args.disk.now).history (g.D.Disk.state c.commit.new.disk).history
    (c.in-Err.ensures.refused known))
    c.commit.ensures.goes_on c.commit.ensures.agrees c.commit.ensures.gated c.in-Err.ensures.dead

pub returns-in-Ok-clause-batch : goal.returns-in-Ok-clause-batch
returns-in-Ok-clause-batch g c =
    let before = batch_from c.args.store.now c.args.queue.now.waiting in
    ap (λ (q : QueueState). batch_from c.commit.new.self q.waiting) c.release.ensures
    ∙ batch_committed c.args.store.now c.commit.new.self c.args.queue.now.waiting c.requires.waits c.in-Ok.ensures.committed
    ∙ ap (λ (b : Bool). if b then after_commit before else before) (sym c.if-not-is_due.false)

pub returns-in-Ok-clause-came : goal.returns-in-Ok-clause-came
returns-in-Ok-clause-came g c came =
    subst (λ (q : QueueState). AreCommitted c.commit.new.self q.tickets) (sym c.release.ensures)
    (committed_released c.args.store.now c.commit.new.self c.args.queue.now c.requires.waits c.in-Ok.ensures.committed came)

pub returns-in-Ok-clause-again : goal.returns-in-Ok-clause-again
returns-in-Ok-clause-again g c again =
    subst (λ (q : QueueState). AreCommitted c.commit.new.self q.repeats) (sym c.release.ensures)
    (committed_more c.args.store.now c.commit.new.self c.args.queue.now.repeats c.in-Ok.ensures.committed again)

pub returns-in-Err-clause-came : goal.returns-in-Err-clause-came
returns-in-Err-clause-came g c came =
    committed_same c.args.store.now c.commit.new.self c.args.queue.now.tickets (ap (λ (s : StoreState). s.committed) c.in-Err.ensures.dead) came

pub returns-in-Err-clause-again : goal.returns-in-Err-clause-again
returns-in-Err-clause-again g c again =
    committed_same c.args.store.now c.commit.new.self c.args.queue.now.repeats (ap (λ (s : StoreState). s.committed) c.in-Err.ensures.dead) again
