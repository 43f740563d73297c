use Rattle.std.proofs.Common.{◌≡◌, ◌∙◌, [], ap, subst, sym}
use Rattle.pp_terms.specs.format.Descriptor.{Descriptor, chunks_of}
use Rattle.pp_tree.specs.Book.{entry, IsBookOf}
use Rattle.pp_holding.specs.Stock.{Advances}
use Rattle.pp_holding.specs.Holding.{HoldingState, stock_of}
use Rattle.pp_holding.proofs.Tying.{tied_after}
use Rattle.pp_holding.proofs.Settling.{few_settled, dead_settled, room_settled, same_queue}
use Rattle.pp_holding.proofs.holding.Holding.settle.Goals as goal

pub invariant_of-self : goal.invariant_of-self
invariant_of-self g c = (
  c.self.invariant.0 ∙ ap (λ (d : Descriptor). chunks_of d) (sym c.commit_if.ensures.descriptor),
  tied_after c.commit_if.new.store c.self.inside.book c.commit_if.new.queue c.commit_if.result
      (subst (λ (d : Descriptor). IsBookOf d c.self.inside.book) (sym c.commit_if.ensures.descriptor) c.self.invariant.1.book_is)
      (c.commit_if.ensures.knows (entry c.self.inside.book) c.self.invariant.1.knows) c.commit_if.ensures.waits
      (few_settled c.commit_if.result c.is_due-is_due.result c.self.inside.queue c.commit_if.new.queue
      (c.self.invariant.1.few (sym c.is_live.ensures ∙ c.if-not-is_live.false)) c.commit_if.ensures.queue)
      (dead_settled c.commit_if.result c.self.inside.store c.commit_if.new.store c.self.inside.queue c.commit_if.new.queue c.commit_if.ensures.dead)
      (room_settled c.commit_if.result c.is_due-is_due.result c.self.inside.store c.commit_if.new.store c.self.inside.queue c.commit_if.new.queue c.self.invariant.1.room
      c.commit_if.ensures.queue c.commit_if.ensures.dead)
      (c.commit_if.ensures.came c.self.invariant.1.came) (c.commit_if.ensures.again c.self.invariant.1.again),
)

pub returns-clause-nothing : goal.returns-clause-nothing
returns-clause-nothing g c live none =
    let none' : c.self.inside.queue.waiting ≡ [] = ap (λ (s : HoldingState). s.queue.waiting) c.self.view_is ∙ none in
    let done = c.commit_if.ensures.nothing none' in (
      done.0,
      (λ t. record {
        store = done.1 t;
        book = c.self.inside.book;
        queue = same_queue c.commit_if.result c.is_due-is_due.result c.self.inside.queue c.commit_if.new.queue c.self.invariant.1.room none' done.0 c.commit_if.ensures.queue t;
      }) ∙ c.self.view_is,
      done.2,
    )

pub returns-clause-advances : goal.returns-clause-advances
returns-clause-advances g c =
    subst (λ (s : HoldingState). Advances (stock_of s (g.D.Disk.state c.args.disk.now))
    (record { store = c.commit_if.new.store; book = entry c.self.inside.book; disk = g.D.Disk.state c.commit_if.new.disk })) c.self.view_is
    (c.commit_if.ensures.advances (entry c.self.inside.book) c.self.invariant.1.book_is.rooted)
