use Rattle.std.proofs.Common.{◌≡◌, ◌<◌, Bool, List, length, ap, sym, ◌∙◌, subst, arith}
use Rattle.pp_terms.specs.tree.Book.{IsRooted}
use Rattle.pp_tree.specs.Book.{entry, IsBookOf}
use Rattle.pp_terms.specs.tree.Claims.{latest}
use Rattle.pp_terms.specs.format.Descriptor.{Descriptor, chunks_of}
use Rattle.pp_holding.specs.Stock.{Advances}
use Rattle.pp_holding.specs.Holding.{HoldingState, stock_of}
use Rattle.pp_holding.proofs.Advancing.{put_advances}
use Rattle.pp_holding.proofs.Committed.{committed_same}
use Rattle.pp_holding.proofs.Puts.{live_after, same_committed, held_on, waiting_after, dead_after, few_tickets, PutDone, put_done}
use Rattle.pp_holding.proofs.Tying.{book_on, tied_refused, tied_after}
use Rattle.pp_holding.proofs.holding.Holding.put.Goals as goal

pub invariant_of-self : goal.invariant_of-self
invariant_of-self g c = (
  c.self.invariant.0 ∙ ap (λ (d : Descriptor). chunks_of d) (sym c.put.ensures.descriptor),
  tied_refused c.self.inside.store c.put.new.self c.self.inside.book c.put.new.book c.self.inside.queue c.self.invariant.1 c.in_err-put.ensures.dead
      (book_on c.self.inside.store.descriptor c.put.new.self.descriptor c.self.inside.book c.put.new.book c.self.invariant.1.book_is c.put.ensures.descriptor c.put.ensures.book
      c.put.ensures.rooted)
      (c.put.ensures.knows c.self.invariant.1.knows),
)

pub returns-in_err-put-clause-advances : goal.returns-in_err-put-clause-advances
returns-in_err-put-clause-advances g c =
    subst (λ (s : HoldingState). Advances (stock_of s (g.D.Disk.state c.args.disk.now))
    (record { store = c.put.new.self; book = entry c.put.new.book; disk = g.D.Disk.state c.put.new.disk })) c.self.view_is
    (put_advances c.self.inside.store c.put.new.self (entry c.self.inside.book) (entry c.put.new.book) (g.D.Disk.state c.args.disk.now) (g.D.Disk.state c.put.new.disk)
    (sym c.is_live.ensures ∙ c.if-not-is_live.false) c.put.ensures.descriptor
    (same_committed c.put.result c.args.parcel.now.ticket.chunk c.self.inside.store c.put.new.self c.put.ensures.store c.put.ensures.dead)
    (held_on c.put.result c.args.parcel.now.ticket.chunk c.self.inside.store c.put.new.self c.put.ensures.store c.put.ensures.dead)
    c.put.ensures.kept c.put.ensures.behind c.put.ensures.goes_on c.put.ensures.gated c.put.ensures.agrees c.put.ensures.holds)

pub heed-requires-clause-live : goal.heed-requires-clause-live
heed-requires-clause-live g c =
    live_after c.in_ok-put.put c.args.parcel.now.ticket.chunk c.self.inside.store c.put.new.self c.in_ok-put.ensures.store (sym c.is_live.ensures ∙ c.if-not-is_live.false)

pub heed-requires-clause-waits : goal.heed-requires-clause-waits
heed-requires-clause-waits g c =
    waiting_after c.in_ok-put.put c.args.parcel.now.ticket c.args.parcel.now.at c.self.inside.store c.put.new.self c.self.inside.queue.waiting (entry c.self.inside.book)
    (latest c.args.claims.now) c.args.parcel.now.bytes.now c.self.invariant.1.waits
    (let same = ap (λ (s : HoldingState). chunks_of s.store.descriptor) c.self.view_is in omega (arith, same, c.requires)) c.in_ok-put.ensures.answer c.in_ok-put.ensures.store

pub heed-requires-clause-within : goal.heed-requires-clause-within
heed-requires-clause-within g c =
    let same = ap (λ (s : HoldingState). chunks_of s.store.descriptor) c.self.view_is in
    let size = c.self.invariant.1.waits.committed_size in
    subst (λ (xs : List Bool). c.args.parcel.now.ticket.chunk < length xs)
    (sym (same_committed c.put.result c.args.parcel.now.ticket.chunk c.self.inside.store c.put.new.self c.put.ensures.store c.put.ensures.dead))
    (omega (arith, same, size, c.requires))

done : (g : _) (c : goal.After-heed g)
    → PutDone c.args.self.now (record { store = c.heed.new.store; book = c.put.new.book; queue = c.heed.new.queue }) (latest c.args.claims.now) c.args.parcel.now.ticket
    c.args.parcel.now.at c.args.parcel.now.bytes.now c.heed.result (g.D.Disk.state c.args.disk.now) (g.D.Disk.state c.heed.new.disk)
done g c =
    subst (λ (s : HoldingState). PutDone s (record { store = c.heed.new.store; book = c.put.new.book; queue = c.heed.new.queue }) (latest c.args.claims.now)
    c.args.parcel.now.ticket c.args.parcel.now.at c.args.parcel.now.bytes.now c.heed.result (g.D.Disk.state c.args.disk.now) (g.D.Disk.state c.heed.new.disk)) c.self.view_is
    (put_done c.self.inside.store c.put.new.self c.heed.new.store c.self.inside.book c.put.new.book c.self.inside.queue c.heed.new.queue
    (g.D.Disk.state c.args.disk.now) (g.D.Disk.state c.put.new.disk) (g.D.Disk.state c.heed.new.disk) c.self.invariant.1 c.in_ok-put.put c.args.parcel.now.ticket
    c.args.parcel.now.at c.args.parcel.now.bytes.now (latest c.args.claims.now) c.heed.result
    (let same = ap (λ (s : HoldingState). chunks_of s.store.descriptor) c.self.view_is in omega (arith, same, c.requires))
    c.in_ok-put.ensures.answer c.in_ok-put.ensures.store c.in_ok-put.ensures.untouched c.put.ensures.learned
    (put_advances c.self.inside.store c.put.new.self (entry c.self.inside.book) (entry c.put.new.book) (g.D.Disk.state c.args.disk.now) (g.D.Disk.state c.put.new.disk)
    (sym c.is_live.ensures ∙ c.if-not-is_live.false) c.put.ensures.descriptor
    (same_committed c.put.result c.args.parcel.now.ticket.chunk c.self.inside.store c.put.new.self c.put.ensures.store c.put.ensures.dead)
    (held_on c.put.result c.args.parcel.now.ticket.chunk c.self.inside.store c.put.new.self c.put.ensures.store c.put.ensures.dead)
    c.put.ensures.kept c.put.ensures.behind c.put.ensures.goes_on c.put.ensures.gated c.put.ensures.agrees c.put.ensures.holds)
    c.heed.ensures.same c.heed.ensures.idle c.heed.ensures.queue c.heed.ensures.batch c.heed.ensures.dead
    (c.heed.ensures.advances (entry c.put.new.book) (subst (λ (d : Descriptor). IsRooted d (entry c.put.new.book)) (sym c.put.ensures.descriptor) c.put.ensures.rooted)))

pub returns-clause-answer : goal.returns-clause-answer
returns-clause-answer g c = (done g c).answer

pub returns-clause-refused : goal.returns-clause-refused
returns-clause-refused g c = (done g c).refused

pub returns-clause-batch : goal.returns-clause-batch
returns-clause-batch g c = (done g c).batch

pub returns-clause-queue : goal.returns-clause-queue
returns-clause-queue g c = (done g c).queue

pub returns-clause-failed : goal.returns-clause-failed
returns-clause-failed g c = (done g c).failed

pub returns-clause-untouched : goal.returns-clause-untouched
returns-clause-untouched g c = (done g c).untouched

pub returns-clause-held : goal.returns-clause-held
returns-clause-held g c = (done g c).held

pub returns-clause-learned : goal.returns-clause-learned
returns-clause-learned g c = (done g c).learned

pub returns-clause-room : goal.returns-clause-room
returns-clause-room g c = (done g c).room

pub returns-clause-advances : goal.returns-clause-advances
returns-clause-advances g c = (done g c).advances

same_set : (g : _) (c : goal.After-heed g) → c.put.new.self.committed ≡ c.self.inside.store.committed
same_set g c = same_committed c.put.result c.args.parcel.now.ticket.chunk c.self.inside.store c.put.new.self c.put.ensures.store c.put.ensures.dead

pub invariant_of-self-2 : goal.invariant_of-self-2
invariant_of-self-2 g c = (
  c.self.invariant.0 ∙ ap (λ (d : Descriptor). chunks_of d) (sym (c.heed.ensures.descriptor ∙ c.put.ensures.descriptor)),
  tied_after c.heed.new.store c.put.new.book c.heed.new.queue c.heed.result
      (let is = book_on c.self.inside.store.descriptor c.put.new.self.descriptor c.self.inside.book c.put.new.book c.self.invariant.1.book_is c.put.ensures.descriptor
      c.put.ensures.book c.put.ensures.rooted in subst (λ (d : Descriptor). IsBookOf d c.put.new.book) (sym c.heed.ensures.descriptor) is)
      (c.heed.ensures.knows (entry c.put.new.book) (c.put.ensures.knows c.self.invariant.1.knows)) c.heed.ensures.waits c.heed.ensures.few
      (dead_after c.heed.result c.put.new.self c.heed.new.store _ c.heed.new.queue c.heed.ensures.dead) (few_tickets c.heed.result c.in_ok-put.put _ c.args.parcel.now.ticket c.args.parcel.now.at c.put.new.self c.heed.new.store
      c.self.inside.queue c.heed.new.queue c.self.invariant.1.room
      c.heed.ensures.queue c.heed.ensures.dead)
      (c.heed.ensures.came (committed_same c.self.inside.store c.put.new.self c.self.inside.queue.tickets (same_set g c) c.self.invariant.1.came))
      (c.heed.ensures.again (committed_same c.self.inside.store c.put.new.self c.self.inside.queue.repeats (same_set g c) c.self.invariant.1.again)),
)
