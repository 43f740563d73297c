use Rattle.std.proofs.Common.{◌∙◌, ℕ, Err, refl, sym, length, arith}
use Rattle.pp_terms.proofs.Knowing.{known_on}
use Rattle.pp_terms.specs.disk.Disk.{DiskState, IsKnown}
use Rattle.pp_terms.specs.format.Traffic.{LinkState}
use Rattle.pp_outside.specs.Outside.{address_of}
use Rattle.pp_core.specs.Peers.{PeerState}
use Rattle.pp_core.proofs.Offered.{begun_fetches}
use Rattle.pp_node.specs.Outside.{Outside, outside}
use Rattle.pp_node.specs.Preparing.{IsUnsent}
use Rattle.pp_node.specs.Seeding.{words_of, dials_of, earlier_of}
use Rattle.pp_node.specs.Status.{number_of}
use Rattle.pp_node.proofs.Peers.{WasReady, HasBook, b, has_begun}
use Rattle.pp_node.proofs.Readies.{prepared_since, bound_open}
use Rattle.pp_node.proofs.Endings.{Leaves, HasFault, fetch_fault, fault_ends, fetch_served, found_served}
use Rattle.pp_node.proofs.Looks.{named_later}
use Rattle.pp_node.proofs.NamedFetches.{opened_prepared}
use Rattle.pp_node.proofs.NamedSeeds.{was_ready_told}
use Rattle.pp_node.proofs.named_fetching.fetch_learned.Goals as goal

pub returns-in-Ok : goal.returns-in-Ok
returns-in-Ok g c before bound source a gains =
    let mid : DiskState = g.D.Disk.state c.args.disk.now in
    let opened : DiskState = g.D.Disk.state c.open_peer.new.disk in
    let listens : LinkState = g.L.Link.seen c.args.link.now in
    let first : PeerState = c.in-Ok.ready.peer in
    let len : ℕ = length c.in-Ok.ready.buffer.items in
    let old : Outside = outside before (record listens { bound = bound }) source (g.K.Sink.state c.args.sink.now) c.args.book.now in
    let new : Outside = outside (g.D.Disk.state c.serve.new.disk) (g.L.Link.seen c.serve.new.link) source (g.K.Sink.state c.serve.new.sink) c.serve.new.book in
    let unsent : IsUnsent old.link listens = record { traffic = refl; nexts = refl; later = omega arith } in
    let r : WasReady c.args.words.now old new opened listens first =
    was_ready_told c.args.words.now old new mid opened listens first len a c.in-Ok.ensures.opened unsent gains
    c.open_peer.ensures.lasts c.open_peer.ensures.names refl in
    let s = c.serve.ensures (b c.args.words.now old new opened listens first r) (has_begun c.args.words.now old new opened listens first r) in
    let k : HasBook s.last new.book = record { book_is = s.book_is; rooted = s.rooted } in
    let found = found_served c.args.words.now old new opened listens first r s.last k c.serve.result s.serves in (
      λ known. found (known_on mid before (sym a.tells) (sym a.honest) known) ∙ c.open_peer.ensures.found known,
      fetch_served c.args.words.now old new opened listens first r s.last k c.serve.result c.requires.asks
          (begun_fetches c.args.words.now.descriptor.now c.args.words.now.random c.args.words.now.asks c.args.words.now.dial.now.items first
          c.in-Ok.ensures.opened.begun c.requires.asks) s.serves,
    )

pub returns-in-Err : goal.returns-in-Err
returns-in-Err g c before bound source a gains =
    let mid : DiskState = g.D.Disk.state c.args.disk.now in
    let opened : DiskState = g.D.Disk.state c.open_peer.new.disk in
    let listens : LinkState = g.L.Link.seen c.args.link.now in
    let old : Outside = outside before (record listens { bound = bound }) source (g.K.Sink.state c.args.sink.now) c.args.book.now in
    let new : Outside = outside opened listens source (g.K.Sink.state c.report.new.sink) c.args.book.now in
    let knows : IsKnown before → IsKnown mid = known_on before mid a.tells a.honest in
    let unsent : IsUnsent old.link listens = record { traffic = refl; nexts = refl; later = omega arith } in
    let leaves : Leaves c.args.words.now old new = record {
      lasts = λ known. c.open_peer.ensures.lasts (knows known);
      named = λ known. named_later before.history.names c.args.words.now.store.now mid.history.names opened.history.names (a.named known) (c.open_peer.ensures.names (knows known));
      unwritten = λ known. c.open_peer.ensures.unwritten (knows known);
      unread = refl;
      unfilled = refl;
    } in
    let f : HasFault (number_of c.report.result) (words_of c.args.words.now) old new =
    fault_ends c.args.words.now old new leaves c.report.result c.in-Err.fault
    (prepared_since c.args.words.now before mid opened old.link listens a.tells a.honest a.faults a.hard (Err c.in-Err.fault)
    (opened_prepared c.args.words.now mid opened old.link listens c.in-Err.fault c.in-Err.ensures.opened))
    (λ known. c.in-Err.ensures.disk (knows known))
    (bound_open c.args.words.now mid opened bound (address_of c.args.words.now.listen.now) listens.bound (Err c.in-Err.fault) gains c.in-Err.ensures.opened)
    unsent c.report.ensures in
    (c.open_peer.ensures.found, fetch_fault (number_of c.report.result) (earlier_of c.args.words.now) (words_of c.args.words.now) (dials_of c.args.words.now) old new f)
