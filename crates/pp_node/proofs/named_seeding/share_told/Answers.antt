use Rattle.std.specs.Prelude.{is_some}
use Rattle.std.proofs.Common.{◌≡◌, ◌∙◌, ◌<◌, true, None, List, ℕ, Err, inl, inr, refl, sym, subst, length}
use Rattle.pp_terms.proofs.Knowing.{known_on}
use Rattle.pp_terms.specs.disk.Disk.{DiskState, IsKnown}
use Rattle.pp_terms.specs.format.Descriptor.{Descriptor}
use Rattle.pp_terms.specs.format.Traffic.{LinkState}
use Rattle.pp_tree.specs.Book.{BookState, entry, IsBookOf}
use Rattle.pp_named.specs.Shape.{IsFirstMisshapen}
use Rattle.pp_core.specs.Peers.{PeerState}
use Rattle.pp_core.proofs.Offered.{begun_fetches}
use Rattle.pp_node.specs.NamedSeeding.{IsSeededTold, IsMisshapedPeer}
use Rattle.pp_node.specs.Outside.{Outside, outside}
use Rattle.pp_node.specs.NamedFetching.{IsFetchedTold}
use Rattle.pp_node.specs.Seeding.{words_of, dials_of}
use Rattle.pp_node.specs.Status.{number_of}
use Rattle.pp_node.proofs.Lines.{says}
use Rattle.pp_node.proofs.Peers.{WasReady, HasBook, b, has_begun}
use Rattle.pp_node.proofs.Readies.{prepared_since}
use Rattle.pp_node.proofs.Endings.{Leaves, HasFault, seed_unsent, fetch_unsent, fault_ends, seed_served, fetch_served, fetched_alone, found_served}
use Rattle.pp_node.proofs.Looks.{named_later}
use Rattle.pp_node.proofs.NamedSeeds.{was_ready_told, was_in_shape, none_misshapen, some_misshapen}
use Rattle.pp_node.proofs.named_seeding.share_told.Goals as goal

pub returns-in-None : goal.returns-in-None
returns-in-None g c before source a =
    let mid : DiskState = g.D.Disk.state c.args.disk.now in
    let opened : DiskState = g.D.Disk.state c.listen_and_open.new.disk in
    let listens : LinkState = g.L.Link.seen c.listen_and_open.new.link in
    let first : PeerState = c.in-Ok.ready.peer in
    let len : ℕ = length c.in-Ok.ready.buffer.items in
    let old : Outside = outside before (g.L.Link.seen c.args.link.now) source (g.K.Sink.state c.args.sink.now) c.args.book.now in
    let new : Outside = outside (g.D.Disk.state c.serve.new.disk) (g.L.Link.seen c.serve.new.link) source (g.K.Sink.state c.serve.new.sink) c.serve.new.book in
    let r : WasReady c.args.words.now old new opened listens first =
    was_ready_told c.args.words.now old new mid opened listens first len a c.in-Ok.ensures.prepared c.listen_and_open.ensures.unsent c.in-Ok.ensures.link
    c.listen_and_open.ensures.lasts c.listen_and_open.ensures.names refl in
    let s = c.serve.ensures (b c.args.words.now old new opened listens first r) (has_begun c.args.words.now old new opened listens first r) in
    let k : HasBook s.last new.book = record { book_is = s.book_is; rooted = s.rooted } in
    let found = found_served c.args.words.now old new opened listens first r s.last k c.serve.result s.serves in
    let shaped = none_misshapen c.args.words.now.descriptor.now first.parts.holding.store.descriptor c.book.result.now first.parts.holding.book c.book.ensures.same
    c.book.ensures.tied.book_is r.swarm c.in-None.ensures in
    let was = was_in_shape c.args.words.now old new mid opened listens first len a c.in-Ok.ensures.prepared shaped found in
    let seeded : c.args.words.now.asks ≡ None → IsSeededTold (number_of c.serve.result) (words_of c.args.words.now) old new = λ none. record {
      seeds = seed_served c.args.words.now old new opened listens first r s.last k c.serve.result none c.requires.alone s.serves;
      shaped = inl was;
    } in
    let fetched : is_some c.args.words.now.asks ≡ true → IsFetchedTold (number_of c.serve.result) (words_of c.args.words.now) (dials_of c.args.words.now) old new = λ asked. record {
      fetches = fetched_alone c.args.words.now old new opened listens first r s.last k c.serve.result c.requires.alone
          (fetch_served c.args.words.now old new opened listens first r s.last k c.serve.result asked
          (begun_fetches c.args.words.now.descriptor.now c.args.words.now.random c.args.words.now.asks c.args.words.now.dial.now.items first
          c.in-Ok.ensures.prepared.begun asked) s.serves);
      shaped = inl was;
    } in (
      λ known. found (known_on mid before (sym a.tells) (sym a.honest) known) ∙ c.listen_and_open.ensures.found known,
      (λ none. inl (seeded none), λ asked. inl (fetched asked)),
    )

pub returns-in-Some : goal.returns-in-Some
returns-in-Some g c before source a =
    let mid : DiskState = g.D.Disk.state c.args.disk.now in
    let opened : DiskState = g.D.Disk.state c.listen_and_open.new.disk in
    let first : PeerState = c.in-Ok.ready.peer in
    let d : Descriptor = c.args.words.now.descriptor.now in
    let old : Outside = outside before (g.L.Link.seen c.args.link.now) source (g.K.Sink.state c.args.sink.now) c.args.book.now in
    let new : Outside = outside (g.D.Disk.state c.listen_and_open.new.disk) (g.L.Link.seen c.listen_and_open.new.link) source (g.K.Sink.state c.put_shape.new.sink) c.into_book.result in
    let swarm = c.in-Ok.ensures.prepared.begun.holding.descriptor in
    let at = some_misshapen d first.parts.holding.store.descriptor c.book.result.now first.parts.holding.book c.book.ensures.same
    c.book.ensures.tied.book_is swarm c.in-Some.node c.in-Some.ensures in
    let knows : IsKnown before → IsKnown mid = known_on before mid a.tells a.honest in
    let named : IsMisshapedPeer 13 (words_of c.args.words.now) old new = record {
      number = refl;
      layer = c.in-Some.node.layer;
      offset = c.in-Some.node.offset;
      first = subst (λ (s : BookState). IsFirstMisshapen d (entry s) c.in-Some.node.layer c.in-Some.node.offset) (sym c.into_book.ensures.same) at;
      rooted = subst (λ (e : Descriptor). IsBookOf e c.into_book.result) swarm c.into_book.ensures.book;
      said = says _ _ _ _ c.put_shape.result refl c.put_shape.ensures.gained c.put_shape.ensures.cause;
      unsent = c.listen_and_open.ensures.unsent;
      bound = c.in-Ok.ensures.link;
      named = λ known. named_later before.history.names c.args.words.now.store.now mid.history.names opened.history.names (a.named known) (c.listen_and_open.ensures.names (knows known));
      unwritten = λ known. c.listen_and_open.ensures.unwritten (knows known)
          (subst (λ (l : List ℕ). 0 < length l) (sym (c.listen_and_open.ensures.found (knows known) ∙ (c.requires.attached (knows known)).showed)) (c.requires.some (knows known)));
      lasts = λ known. c.listen_and_open.ensures.lasts (knows known);
      unread = refl;
    } in
    (c.listen_and_open.ensures.found, (λ none. inr named, λ asked. inr named))

pub returns-in-Err : goal.returns-in-Err
returns-in-Err g c before source a =
    let mid : DiskState = g.D.Disk.state c.args.disk.now in
    let opened : DiskState = g.D.Disk.state c.listen_and_open.new.disk in
    let old : Outside = outside before (g.L.Link.seen c.args.link.now) source (g.K.Sink.state c.args.sink.now) c.args.book.now in
    let new : Outside = outside (g.D.Disk.state c.listen_and_open.new.disk) (g.L.Link.seen c.listen_and_open.new.link) source (g.K.Sink.state c.report.new.sink) c.args.book.now in
    let knows : IsKnown before → IsKnown mid = known_on before mid a.tells a.honest in
    let leaves : Leaves c.args.words.now old new = record {
      lasts = λ known. c.listen_and_open.ensures.lasts (knows known);
      named = λ known. named_later before.history.names c.args.words.now.store.now mid.history.names opened.history.names (a.named known) (c.listen_and_open.ensures.names (knows known));
      unwritten = λ known. c.listen_and_open.ensures.unwritten (knows known);
      unread = refl;
      unfilled = refl;
    } in
    let f : HasFault (number_of c.report.result) (words_of c.args.words.now) old new =
    fault_ends c.args.words.now old new leaves c.report.result c.in-Err.fault
    (prepared_since c.args.words.now before mid opened (g.L.Link.seen c.args.link.now) (g.L.Link.seen c.listen_and_open.new.link) a.tells a.honest a.faults a.hard
    (Err c.in-Err.fault) c.in-Err.ensures.prepared)
    (λ known. c.in-Err.ensures.disk (knows known)) c.in-Err.ensures.link c.listen_and_open.ensures.unsent c.report.ensures in
    let seeds = seed_unsent (number_of c.report.result) (words_of c.args.words.now) old new f in
    let fetches = fetch_unsent (number_of c.report.result) (words_of c.args.words.now) (dials_of c.args.words.now) old new f in
    let seeded : IsSeededTold (number_of c.report.result) (words_of c.args.words.now) old new = record {
      seeds = seeds.0;
      shaped = inr (seeds.1, c.listen_and_open.ensures.unsent.nexts);
    } in
    let fetched : IsFetchedTold (number_of c.report.result) (words_of c.args.words.now) (dials_of c.args.words.now) old new = record {
      fetches = fetches.0;
      shaped = inr (fetches.1, c.listen_and_open.ensures.unsent.nexts);
    } in
    (c.listen_and_open.ensures.found, (λ none. inl seeded, λ asked. inl fetched))
