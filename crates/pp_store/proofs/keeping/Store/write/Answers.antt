use Rattle.std.proofs.Common.{◌≡◌, ap, subst, sym, ◌∙◌, List, Bool, false, None}
use Rattle.pp_terms.specs.tree.Book.{IsBacked}
use Rattle.pp_terms.specs.format.Descriptor.{chunks_of}
use Rattle.pp_terms.specs.tree.Proves.{first_absent}
use Rattle.pp_tree.specs.Book.{entry}
use Rattle.pp_store.specs.Store.{StoreState, IsSized, is_held, AgreesWith, KnowsHeld}
use Rattle.pp_store.proofs.Puttings.{sized_done, sized_refused, put_goes_on, put_gated, agrees_done, agrees_refused, knows_done, knows_dead}
use Rattle.pp_store.proofs.keeping.Store.write.Goals as goal

pub invariant_of-self : goal.invariant_of-self
invariant_of-self g c =
    subst (λ (ps : List Bool). IsSized c.self.inside.descriptor c.self.inside.committed ps c.put_pieces.new.pairs) (sym c.insert.ensures)
    (sized_done c.self.inside.descriptor c.self.inside.committed c.self.inside.pending c.self.inside.pairs c.put_pieces.new.pairs (entry c.args.book.now) c.args.i
    (g.D.Disk.state c.args.disk.now) (g.D.Disk.state c.put_pieces.new.disk) c.self.invariant c.put_pieces.ensures.puts
    (ap (λ (t : StoreState). is_held t c.args.i) c.self.view_is ∙ c.requires.absent) c.in-Ok.ensures.stored)

pub invariant_of-self-in-Err : goal.invariant_of-self-in-Err
invariant_of-self-in-Err g c =
    sized_refused c.self.inside.descriptor c.self.inside.committed c.self.inside.pending c.self.inside.pairs c.put_pieces.new.pairs (entry c.args.book.now) c.args.i
    (g.D.Disk.state c.args.disk.now) (g.D.Disk.state c.put_pieces.new.disk) c.self.invariant c.put_pieces.ensures.puts

pub returns-in-Ok-clause-goes_on : goal.returns-in-Ok-clause-goes_on
returns-in-Ok-clause-goes_on g c known =
    put_goes_on c.self.inside.descriptor c.self.inside.committed c.self.inside.pending c.self.inside.pairs c.put_pieces.new.pairs (entry c.args.book.now) c.args.i
    (g.D.Disk.state c.args.disk.now) (g.D.Disk.state c.put_pieces.new.disk) c.self.invariant c.put_pieces.ensures.puts c.args.self.now c.self.inside.live c.self.view_is
    c.requires.absent known

pub returns-in-Ok-clause-agrees : goal.returns-in-Ok-clause-agrees
returns-in-Ok-clause-agrees g c known agrees =
    subst (λ (ps : List Bool). AgreesWith (record {
      descriptor = c.self.inside.descriptor;
      committed = c.self.inside.committed;
      pending = ps;
      pairs = c.put_pieces.new.pairs;
      live = c.self.inside.live;
    }) (entry c.args.book.now) (g.D.Disk.state c.put_pieces.new.disk).history.reads) (sym c.insert.ensures)
    (agrees_done c.self.inside.descriptor c.self.inside.committed c.self.inside.pending c.self.inside.pairs c.put_pieces.new.pairs (entry c.args.book.now) c.args.i
    (g.D.Disk.state c.args.disk.now) (g.D.Disk.state c.put_pieces.new.disk) c.self.invariant c.put_pieces.ensures.puts c.args.self.now c.self.inside.live c.self.view_is
    c.requires.absent known c.self.inside.live c.put_pieces.ensures.valid (c.in-Ok.ensures.there known) agrees)

pub returns-in-Ok-clause-supported : goal.returns-in-Ok-clause-supported
returns-in-Ok-clause-supported g c l held =
    (sized_done c.self.inside.descriptor c.self.inside.committed c.self.inside.pending c.self.inside.pairs c.put_pieces.new.pairs (entry c.args.book.now) c.args.i
    (g.D.Disk.state c.args.disk.now) (g.D.Disk.state c.put_pieces.new.disk) c.self.invariant c.put_pieces.ensures.puts
    (ap (λ (t : StoreState). is_held t c.args.i) c.self.view_is ∙ c.requires.absent) c.in-Ok.ensures.stored).supported l
    (ap (λ (ps : List Bool). is_held (record {
      descriptor = c.self.inside.descriptor;
      committed = c.self.inside.committed;
      pending = ps;
      pairs = c.put_pieces.new.pairs;
      live = c.self.inside.live;
    }) l) (sym c.insert.ensures) ∙ held)

pub returns-in-Err-clause-goes_on : goal.returns-in-Err-clause-goes_on
returns-in-Err-clause-goes_on g c known =
    put_goes_on c.self.inside.descriptor c.self.inside.committed c.self.inside.pending c.self.inside.pairs c.put_pieces.new.pairs (entry c.args.book.now) c.args.i
    (g.D.Disk.state c.args.disk.now) (g.D.Disk.state c.put_pieces.new.disk) c.self.invariant c.put_pieces.ensures.puts c.args.self.now c.self.inside.live c.self.view_is
    c.requires.absent known

pub returns-in-Err-clause-agrees : goal.returns-in-Err-clause-agrees
returns-in-Err-clause-agrees g c known =
    agrees_refused c.self.inside.descriptor c.self.inside.committed c.self.inside.pending c.self.inside.pairs c.put_pieces.new.pairs (entry c.args.book.now) c.args.i
    (g.D.Disk.state c.args.disk.now) (g.D.Disk.state c.put_pieces.new.disk) c.self.invariant c.put_pieces.ensures.puts c.args.self.now c.self.inside.live c.self.view_is
    c.requires.absent known false c.put_pieces.ensures.valid

pub returns-in-Err-clause-supported : goal.returns-in-Err-clause-supported
returns-in-Err-clause-supported g c l held =
    (sized_refused c.self.inside.descriptor c.self.inside.committed c.self.inside.pending c.self.inside.pairs c.put_pieces.new.pairs (entry c.args.book.now) c.args.i
    (g.D.Disk.state c.args.disk.now) (g.D.Disk.state c.put_pieces.new.disk) c.self.invariant c.put_pieces.ensures.puts).supported l held

pub returns-in-Ok-clause-knows : goal.returns-in-Ok-clause-knows
returns-in-Ok-clause-knows g c knows =
    subst (λ (ps : List Bool). KnowsHeld (record {
      descriptor = c.self.inside.descriptor;
      committed = c.self.inside.committed;
      pending = ps;
      pairs = c.put_pieces.new.pairs;
      live = c.self.inside.live;
    }) (entry c.args.book.now)) (sym c.insert.ensures)
    (knows_done c.args.self.now c.self.inside.descriptor c.self.inside.committed c.self.inside.pending c.self.inside.pairs c.put_pieces.new.pairs c.self.inside.live
    c.self.inside.live (entry c.args.book.now) c.args.i c.args.chunk.now c.self.view_is
    (subst (λ (s : StoreState). IsBacked s.descriptor (entry c.args.book.now) c.args.i c.args.chunk.now) (sym c.self.view_is) c.requires.backed)
    (subst (λ (s : StoreState). first_absent (entry c.args.book.now) (chunks_of s.descriptor) ≡ None) (sym c.self.view_is) c.requires.peaks) knows)

pub returns-in-Err-clause-knows : goal.returns-in-Err-clause-knows
returns-in-Err-clause-knows g c =
    knows_dead c.args.self.now c.self.inside.descriptor c.self.inside.committed c.self.inside.pending c.self.inside.pairs c.put_pieces.new.pairs c.self.inside.live false
    (entry c.args.book.now) c.self.view_is

pub returns-in-Ok-clause-gated : goal.returns-in-Ok-clause-gated
returns-in-Ok-clause-gated g c known =
    put_gated c.self.inside.descriptor c.self.inside.committed c.self.inside.pending c.self.inside.pairs c.put_pieces.new.pairs (entry c.args.book.now) c.args.i
    (g.D.Disk.state c.args.disk.now) (g.D.Disk.state c.put_pieces.new.disk) c.self.invariant c.put_pieces.ensures.puts c.args.self.now c.self.inside.live c.self.view_is
    c.requires.absent known

pub returns-in-Err-clause-gated : goal.returns-in-Err-clause-gated
returns-in-Err-clause-gated g c known =
    put_gated c.self.inside.descriptor c.self.inside.committed c.self.inside.pending c.self.inside.pairs c.put_pieces.new.pairs (entry c.args.book.now) c.args.i
    (g.D.Disk.state c.args.disk.now) (g.D.Disk.state c.put_pieces.new.disk) c.self.invariant c.put_pieces.ensures.puts c.args.self.now c.self.inside.live c.self.view_is
    c.requires.absent known
