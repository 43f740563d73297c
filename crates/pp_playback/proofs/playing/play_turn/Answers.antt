use Rattle.std.proofs.Common.{◌∙◌, ap, subst, sym, Ok, Err}
use Rattle.pp_terms.specs.format.Descriptor.{Descriptor, IsDescriptor, chunks_of}
use Rattle.pp_store.specs.Store.{StoreState}
use Rattle.pp_stream.specs.Player.{PlayerState}
use Rattle.pp_core.specs.Offering.{limit_of}
use Rattle.pp_core.specs.Peers.{PeerState}
use Rattle.pp_turns.specs.Taking.{Finishes}
use Rattle.pp_turns.specs.Turning.{Post, post}
use Rattle.pp_playback.specs.Turns.{Stand, stand}
use Rattle.pp_playback.proofs.Played.{played_broken, played_halted, played_on}
use Rattle.pp_playback.proofs.playing.play_turn.Goals as goal

pub returns-in-Err-clause-turn : goal.returns-in-Err-clause-turn
returns-in-Err-clause-turn g c = λ b taken first goes.
    let old : Stand = stand (post c.args.peer.now (g.D.Disk.state c.args.disk.now) (g.L.Link.seen c.args.link.now)) c.args.player.now (g.K.Sink.state c.args.sink.now) in
    let heard : Post = post c.hear-heard.new.peer (g.D.Disk.state c.hear-heard.new.disk) (g.L.Link.seen c.next-came.new.self) in
    played_broken b taken first old heard goes c.hear-heard.ensures.advances c.book.ensures.tied.book_is.rooted
    (c.in-Err.ensures.waits _ _ c.next-came.ensures b taken first.post goes.gone.turns)

pub returns-in-Err-step-clause-turn : goal.returns-in-Err-step-clause-turn
returns-in-Err-step-clause-turn g c = λ b taken first goes.
    let old : Stand = stand (post c.args.peer.now (g.D.Disk.state c.args.disk.now) (g.L.Link.seen c.args.link.now)) c.args.player.now (g.K.Sink.state c.args.sink.now) in
    let heard : Post = post c.hear-heard.new.peer (g.D.Disk.state c.hear-heard.new.disk) (g.L.Link.seen c.next-came.new.self) in
    played_halted b taken first old heard goes c.hear-heard.ensures.advances c.book.ensures.tied.book_is.rooted
    c.step.new.self (g.D.Disk.state c.step.new.disk) (g.K.Sink.state c.step.new.sink) (Err c.in-Err-step.fault)
    (subst IsDescriptor c.descriptor.ensures c.chunk.ensures.valid) c.in-Err-step.ensures c.in-Ok.ensures.limit
    (c.in-Ok.ensures.waits _ _ c.next-came.ensures b taken first.post goes.gone.turns) c.in-Err-step.fault c.in-Err-step.ensures.stops

pub returns-clause-turn : goal.returns-clause-turn
returns-clause-turn g c = λ b taken first goes.
    let old : Stand = stand (post c.args.peer.now (g.D.Disk.state c.args.disk.now) (g.L.Link.seen c.args.link.now)) c.args.player.now (g.K.Sink.state c.args.sink.now) in
    let heard : Post = post c.hear-heard.new.peer (g.D.Disk.state c.hear-heard.new.disk) (g.L.Link.seen c.next-came.new.self) in
    let left : Post = post c.finish_turn.new.peer (g.D.Disk.state c.finish_turn.new.disk) (g.L.Link.seen c.finish_turn.new.link) in
    played_on b taken first old heard goes c.hear-heard.ensures.advances c.book.ensures.tied.book_is.rooted
    c.step.new.self (g.D.Disk.state c.step.new.disk) (g.K.Sink.state c.step.new.sink) (Ok tt)
    (subst IsDescriptor c.descriptor.ensures c.chunk.ensures.valid) c.in-Ok-step.ensures c.in-Ok.ensures.limit
    (c.in-Ok.ensures.waits _ _ c.next-came.ensures b taken first.post goes.gone.turns) c.limit.result left c.in-Ok-step.ensures.stops c.limit.ensures
    (subst (λ (p : PeerState). Finishes (post p (g.D.Disk.state c.step.new.disk) (g.L.Link.seen c.next-came.new.self)) left) c.want_below.ensures.exact c.finish_turn.ensures.ends)
    (c.finish_turn.ensures.store ∙ ap (λ (p : PeerState). p.parts.holding.store) c.want_below.ensures.exact)
    (c.finish_turn.ensures.book ∙ ap (λ (p : PeerState). p.parts.holding.book) c.want_below.ensures.exact)
    (c.finish_turn.ensures.limit ∙ ap (λ (p : PeerState). limit_of p.parts.fetching) c.want_below.ensures.exact)

pub returns-in-Err-clause-of : goal.returns-in-Err-clause-of
returns-in-Err-clause-of g c = c.requires.of ∙ sym (ap (λ (d : Descriptor). chunks_of d) c.hear-heard.ensures.advances.descriptor)

pub returns-in-Err-step-clause-of : goal.returns-in-Err-step-clause-of
returns-in-Err-step-clause-of g c =
    ap (λ (q : PlayerState). q.chunks) c.step.ensures.rest.player ∙ c.requires.of
    ∙ sym (ap (λ (d : Descriptor). chunks_of d) c.hear-heard.ensures.advances.descriptor)

pub returns-clause-of : goal.returns-clause-of
returns-clause-of g c =
    ap (λ (q : PlayerState). q.chunks) c.step.ensures.rest.player ∙ c.requires.of
    ∙ sym (ap (λ (d : Descriptor). chunks_of d) c.hear-heard.ensures.advances.descriptor)
    ∙ sym (ap (λ (p : PeerState). chunks_of p.parts.holding.store.descriptor) c.want_below.ensures.exact)
    ∙ sym (ap (λ (t : StoreState). chunks_of t.descriptor) c.finish_turn.ensures.store)

pub returns-in-Err-step-clause-chunks : goal.returns-in-Err-step-clause-chunks
returns-in-Err-step-clause-chunks g c = ap (λ (q : PlayerState). q.chunks) c.step.ensures.rest.player

pub returns-clause-chunks : goal.returns-clause-chunks
returns-clause-chunks g c = ap (λ (q : PlayerState). q.chunks) c.step.ensures.rest.player
