use Rattle.std.proofs.Common.{inl, inr, ◌∙◌, refl, sym, ap, subst, Ok, Err}
use Rattle.pp_terms.specs.format.Descriptor.{IsDescriptor, chunks_of}
use Rattle.pp_stream.specs.Player.{PlayerState}
use Rattle.pp_core.specs.Peers.{PeerState}
use Rattle.pp_turns.specs.Turning.{post}
use Rattle.pp_playback.specs.Turns.{Stand, stand, asking_at, GoesOn}
use Rattle.pp_playback.proofs.Starting.{started_halted, started_on}
use Rattle.pp_playback.proofs.playing.begin.Goals as goal

pub returns-in-Err-clause-begins : goal.returns-in-Err-clause-begins
returns-in-Err-clause-begins g c = λ link b is.
    let old : Stand = stand (post c.args.peer.now (g.D.Disk.state c.args.disk.now) link) c.args.player.now (g.K.Sink.state c.args.sink.now) in (
      old,
      inl refl,
      started_halted old c.step.new.self (g.D.Disk.state c.step.new.disk) (g.K.Sink.state c.step.new.sink) (Err c.in-Err.why)
          (subst IsDescriptor c.descriptor.ensures c.chunk.ensures.valid) c.book.ensures.tied.book_is.rooted c.in-Err.ensures b is c.in-Err.why c.in-Err.ensures.stops,
    )

pub returns-clause-begins : goal.returns-clause-begins
returns-clause-begins g c = λ link b is.
    let old : Stand = stand (post c.args.peer.now (g.D.Disk.state c.args.disk.now) link) c.args.player.now (g.K.Sink.state c.args.sink.now) in (
      asking_at c.limit-limit.result old,
      inr (c.limit-limit.result, refl),
      subst (λ (p : PeerState). GoesOn b 0 (asking_at c.limit-limit.result old) (stand (post p (g.D.Disk.state c.step.new.disk) link) c.step.new.self (g.K.Sink.state c.step.new.sink)))
          (sym c.want_below.ensures.exact)
          (started_on old c.step.new.self (g.D.Disk.state c.step.new.disk) (g.K.Sink.state c.step.new.sink) (Ok tt)
          (subst IsDescriptor c.descriptor.ensures c.chunk.ensures.valid) c.book.ensures.tied.book_is.rooted c.in-Ok.ensures b is c.limit-limit.result c.in-Ok.ensures.stops
          c.limit-limit.ensures),
    )

pub returns-in-Err-clause-of : goal.returns-in-Err-clause-of
returns-in-Err-clause-of g c = ap (λ (q : PlayerState). q.chunks) c.step.ensures.rest.player ∙ c.requires

pub returns-clause-of : goal.returns-clause-of
returns-clause-of g c =
    ap (λ (q : PlayerState). q.chunks) c.step.ensures.rest.player ∙ c.requires
    ∙ sym (ap (λ (p : PeerState). chunks_of p.parts.holding.store.descriptor) c.want_below.ensures.exact)
