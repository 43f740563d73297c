use Rattle.std.proofs.Common.{◌≡◌, ◌∙◌, ◌<◌, false, length, replicate, ap, subst, sym, arith}
use Rattle.pp_terms.specs.format.Descriptor.{Descriptor, chunks_of}
use Rattle.pp_terms.specs.disk.Disk.{Throughout, moment_of}
use Rattle.pp_tree.specs.Book.{entry, IsBookOf}
use Rattle.pp_store.specs.Sound.{IsGated}
use Rattle.pp_store.specs.Store.{is_committed, AllStand}
use Rattle.pp_promises.specs.Batches.{most_pending}
use Rattle.pp_holding.specs.Queue.{QueueState, HasRoom}
use Rattle.pp_holding.specs.Holding.{HasWaiting, AreCommitted}
use Rattle.pp_holding.proofs.Advancing.{known_kept}
use Rattle.pp_holding.proofs.Begins.{begun_waiting, begun_kept}
use Rattle.pp_holding.proofs.holding.Holding.open.Goals as goal

none : (g : _) (c : goal.After-chunks g) → c.in-Ok-open.store.pending ≡ replicate (chunks_of c.in-Ok-open.store.descriptor) false
none g c = c.in-Ok-open.ensures.begun.2 ∙ ap (λ (d : Descriptor). replicate (chunks_of d) false) (sym c.in-Ok-open.ensures.begun.0)

pub invariant_of-result : goal.invariant_of-result
invariant_of-result g c =
    let same = c.in-Ok-open.ensures.begun.0 in
    let queue = c.in-Ok.ensures.queue in (
      c.chunks.ensures.chunks ∙ ap (λ (d : Descriptor). chunks_of d) (sym same),
      record {
        book_is = subst (λ (d : Descriptor). IsBookOf d c.open.new.book) (sym same) c.open.ensures.book;
        knows = c.in-Ok-open.ensures.knows;
        waits = subst (λ (q : QueueState). HasWaiting c.in-Ok-open.store q.waiting) (sym queue)
            (begun_waiting c.in-Ok-open.store (none g c) (c.in-Ok-open.ensures.found.count ∙ ap (λ (d : Descriptor). chunks_of d) (sym same)));
        few = λ live. subst (λ (q : QueueState). length q.waiting < most_pending) (sym queue) (omega arith);
        room = subst (λ (q : QueueState). HasRoom q) (sym queue) (record { tickets = omega arith; repeats = omega arith });
        came = subst (λ (q : QueueState). AreCommitted c.in-Ok-open.store q.tickets) (sym queue) tt;
        again = subst (λ (q : QueueState). AreCommitted c.in-Ok-open.store q.repeats) (sym queue) tt;
      },
    )

pub returns-in-Ok-open-clause-kept : goal.returns-in-Ok-open-clause-kept
returns-in-Ok-open-clause-kept g c known sound =
    let same = c.in-Ok-open.ensures.begun.0 in
    begun_kept c.in-Ok-open.store (none g c) (entry c.open.new.book) (g.D.Disk.state c.open.new.disk)
    (known_kept (g.D.Disk.state c.args.disk.now) (g.D.Disk.state c.open.new.disk) c.open.ensures.disk known)
    (g.met.D.Disk.whole c.open.new.disk (known_kept (g.D.Disk.state c.args.disk.now) (g.D.Disk.state c.open.new.disk) c.open.ensures.disk known))
    (c.in-Ok-open.ensures.agrees known sound)
    (subst (λ (d : Descriptor). AllStand d c.in-Ok-open.store.committed (g.D.Disk.state c.open.new.disk).history) (sym same) (c.in-Ok-open.ensures.stands known sound))
    (subst (λ (d : Descriptor). Throughout (g.D.Disk.state c.open.new.disk).history (moment_of (g.D.Disk.state c.open.new.disk).history) (IsGated d (is_committed c.in-Ok-open.store)))
    (sym same) (c.in-Ok-open.ensures.gated known sound))
