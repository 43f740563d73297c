use Rattle.std.proofs.Common.{refl, length}
use Rattle.pp_node.specs.Outside.{Outside, outside}
use Rattle.pp_node.specs.Seeding.{earlier_of}
use Rattle.pp_core.proofs.Offered.{begun_fetches}
use Rattle.pp_node.proofs.Peers.{WasReady, was_ready, b, has_begun}
use Rattle.pp_node.proofs.Endings.{Leaves, seed_fault, fetch_fault, fault_ends, seed_served, fetch_served}
use Rattle.pp_node.proofs.seeding.share.Goals as goal

pub returns-in-Ok-clause-seeds : goal.returns-in-Ok-clause-seeds
returns-in-Ok-clause-seeds g c none alone source =
    let old : Outside = outside (g.D.Disk.state c.args.disk.now) (g.L.Link.seen c.args.link.now) source (g.K.Sink.state c.args.sink.now) c.args.book.now in
    let new : Outside = outside (g.D.Disk.state c.serve.new.disk) (g.L.Link.seen c.serve.new.link) source (g.K.Sink.state c.serve.new.sink) c.serve.new.book in
    let r : WasReady c.args.words.now old new (g.D.Disk.state c.prepare.new.disk) (g.L.Link.seen c.prepare.new.link) c.in-Ok.ready.peer =
    was_ready c.args.words.now old new (g.D.Disk.state c.prepare.new.disk) (g.L.Link.seen c.prepare.new.link) c.in-Ok.ready.peer
    (length c.in-Ok.ready.buffer.items) c.in-Ok.ensures.prepared c.prepare.ensures.unsent c.in-Ok.ensures.link c.prepare.ensures.lasts
    c.prepare.ensures.named refl in
    let s = c.serve.ensures (b c.args.words.now old new (g.D.Disk.state c.prepare.new.disk) (g.L.Link.seen c.prepare.new.link) c.in-Ok.ready.peer r)
    (has_begun c.args.words.now old new (g.D.Disk.state c.prepare.new.disk) (g.L.Link.seen c.prepare.new.link) c.in-Ok.ready.peer r) in
    seed_served c.args.words.now old new (g.D.Disk.state c.prepare.new.disk) (g.L.Link.seen c.prepare.new.link) c.in-Ok.ready.peer r
    s.last (record { book_is = s.book_is; rooted = s.rooted }) c.serve.result none alone s.serves

pub returns-in-Ok-clause-fetches : goal.returns-in-Ok-clause-fetches
returns-in-Ok-clause-fetches g c asked source =
    let old : Outside = outside (g.D.Disk.state c.args.disk.now) (g.L.Link.seen c.args.link.now) source (g.K.Sink.state c.args.sink.now) c.args.book.now in
    let new : Outside = outside (g.D.Disk.state c.serve.new.disk) (g.L.Link.seen c.serve.new.link) source (g.K.Sink.state c.serve.new.sink) c.serve.new.book in
    let r : WasReady c.args.words.now old new (g.D.Disk.state c.prepare.new.disk) (g.L.Link.seen c.prepare.new.link) c.in-Ok.ready.peer =
    was_ready c.args.words.now old new (g.D.Disk.state c.prepare.new.disk) (g.L.Link.seen c.prepare.new.link) c.in-Ok.ready.peer
    (length c.in-Ok.ready.buffer.items) c.in-Ok.ensures.prepared c.prepare.ensures.unsent c.in-Ok.ensures.link c.prepare.ensures.lasts
    c.prepare.ensures.named refl in
    let s = c.serve.ensures (b c.args.words.now old new (g.D.Disk.state c.prepare.new.disk) (g.L.Link.seen c.prepare.new.link) c.in-Ok.ready.peer r)
    (has_begun c.args.words.now old new (g.D.Disk.state c.prepare.new.disk) (g.L.Link.seen c.prepare.new.link) c.in-Ok.ready.peer r) in
    fetch_served c.args.words.now old new (g.D.Disk.state c.prepare.new.disk) (g.L.Link.seen c.prepare.new.link) c.in-Ok.ready.peer r
    s.last (record { book_is = s.book_is; rooted = s.rooted }) c.serve.result asked
    (begun_fetches c.args.words.now.descriptor.now c.args.words.now.random c.args.words.now.asks c.args.words.now.dial.now.items c.in-Ok.ready.peer
    c.in-Ok.ensures.prepared.begun asked) s.serves

pub returns-in-Err-clause-seeds : goal.returns-in-Err-clause-seeds
returns-in-Err-clause-seeds g c none alone source =
    let old : Outside = outside (g.D.Disk.state c.args.disk.now) (g.L.Link.seen c.args.link.now) source (g.K.Sink.state c.args.sink.now) c.args.book.now in
    let new : Outside = outside (g.D.Disk.state c.prepare.new.disk) (g.L.Link.seen c.prepare.new.link) source (g.K.Sink.state c.report.new.sink) c.args.book.now in
    let leaves : Leaves c.args.words.now old new = record {
      lasts = c.prepare.ensures.lasts;
      named = c.prepare.ensures.named;
      unwritten = c.prepare.ensures.unwritten;
      unread = refl;
      unfilled = refl;
    } in
    seed_fault _ _ old new (fault_ends c.args.words.now old new leaves c.report.result c.in-Err.fault c.in-Err.ensures.prepared c.in-Err.ensures.disk c.in-Err.ensures.link
    c.prepare.ensures.unsent c.report.ensures)

pub returns-in-Err-clause-fetches : goal.returns-in-Err-clause-fetches
returns-in-Err-clause-fetches g c asked source =
    let old : Outside = outside (g.D.Disk.state c.args.disk.now) (g.L.Link.seen c.args.link.now) source (g.K.Sink.state c.args.sink.now) c.args.book.now in
    let new : Outside = outside (g.D.Disk.state c.prepare.new.disk) (g.L.Link.seen c.prepare.new.link) source (g.K.Sink.state c.report.new.sink) c.args.book.now in
    let leaves : Leaves c.args.words.now old new = record {
      lasts = c.prepare.ensures.lasts;
      named = c.prepare.ensures.named;
      unwritten = c.prepare.ensures.unwritten;
      unread = refl;
      unfilled = refl;
    } in
    fetch_fault _ (earlier_of c.args.words.now) _ _ old new (fault_ends c.args.words.now old new leaves c.report.result c.in-Err.fault c.in-Err.ensures.prepared c.in-Err.ensures.disk c.in-Err.ensures.link
    c.prepare.ensures.unsent c.report.ensures)
