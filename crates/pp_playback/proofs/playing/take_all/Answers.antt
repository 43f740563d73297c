use Rattle.std.proofs.Common.{◌∙◌, ℕ, List, length, ap, sym, arith}
use Rattle.std.proofs.lemmas.Result.{err_from_is_err_and}
use Rattle.pp_terms.specs.format.Descriptor.{Descriptor, chunks_of}
use Rattle.pp_turns.specs.Turning.{post}
use Rattle.pp_playback.specs.Turns.{stand}
use Rattle.pp_playback.proofs.Loops.{takes_none, takes_more, takes_stop, takes_early, takes_all, room_kept}
use Rattle.pp_playback.proofs.playing.take_all.Goals as goal

pub loop-taken-init : goal.loop-taken-init
loop-taken-init g c = record {
  few = omega arith;
  room = c.requires.room;
  of = c.requires.of;
  all = c.chunks-chunks.ensures.chunks ∙ ap (λ (d : Descriptor). chunks_of d) c.descriptor.ensures ∙ sym c.requires.of;
  on = λ first. takes_none first (stand (post c.args.show.now.peer (g.D.Disk.state c.args.disk.now) (g.L.Link.seen c.args.link.now)) c.args.show.now.player (g.K.Sink.state c.args.sink.now));
}

pub returns-then-base-chunks : goal.returns-then-base-chunks
returns-then-base-chunks g c first =
    takes_early c.loop-taken.taken c.args.turns first (stand (post c.args.show.now.peer (g.D.Disk.state c.args.disk.now) (g.L.Link.seen c.args.link.now)) c.args.show.now.player (g.K.Sink.state c.args.sink.now))
    (stand (post c.loop-taken.show.peer (g.D.Disk.state c.loop-taken.disk) (g.L.Link.seen c.loop-taken.link)) c.loop-taken.show.player (g.K.Sink.state c.loop-taken.sink))
    (stand (post c.loop-taken.show.peer (g.D.Disk.state c.loop-taken.disk) (g.L.Link.seen c.loop-taken.link)) c.loop-taken.show.player (g.K.Sink.state c.loop-taken.sink))
    (c.loop-taken.invariant.on first) c.loop-taken-test.true (omega (arith, c.if-base-chunks.true, c.base.ensures.base, c.loop-taken.invariant.all))

pub returns-in_err-play_turn : goal.returns-in_err-play_turn
returns-in_err-play_turn g c =
    let p = err_from_is_err_and c.from_residual.result c.from_residual.ensures.1 in
    rw (p.1, p.2) (λ first. takes_stop c.loop-taken.taken c.args.turns first (stand (post c.args.show.now.peer (g.D.Disk.state c.args.disk.now) (g.L.Link.seen c.args.link.now)) c.args.show.now.player (g.K.Sink.state c.args.sink.now))
    (stand (post c.loop-taken.show.peer (g.D.Disk.state c.loop-taken.disk) (g.L.Link.seen c.loop-taken.link)) c.loop-taken.show.player (g.K.Sink.state c.loop-taken.sink))
    (stand (post c.play_turn.new.peer (g.D.Disk.state c.play_turn.new.disk) (g.L.Link.seen c.play_turn.new.link)) c.play_turn.new.player (g.K.Sink.state c.play_turn.new.sink))
    (c.loop-taken.invariant.on first) c.loop-taken-test.true c.in_err-play_turn.field-0.0 c.in_err-play_turn.ensures.turn)

pub loop-taken-preserved : goal.loop-taken-preserved
loop-taken-preserved g c = record {
  few = omega (arith, c.loop-taken-test.true);
  room = room_kept c.loop-taken.show.buffer.len c.loop-taken.show.buffer.items c.play_turn.new.buffer c.loop-taken.invariant.room
      (sym c.deref_mut.ensures.len ∙ ap (λ (xs : List ℕ). length xs) c.deref_mut.ensures.value) (c.play_turn.auto.buffer ∙ ap (λ (xs : List ℕ). length xs) c.deref_mut.ensures.value);
  of = c.in_ok-play_turn.ensures.of;
  all = c.loop-taken.invariant.all ∙ sym c.in_ok-play_turn.ensures.chunks;
  on = λ first. takes_more c.loop-taken.taken c.args.turns first (stand (post c.args.show.now.peer (g.D.Disk.state c.args.disk.now) (g.L.Link.seen c.args.link.now)) c.args.show.now.player (g.K.Sink.state c.args.sink.now))
      (stand (post c.loop-taken.show.peer (g.D.Disk.state c.loop-taken.disk) (g.L.Link.seen c.loop-taken.link)) c.loop-taken.show.player (g.K.Sink.state c.loop-taken.sink))
      (stand (post c.play_turn.new.peer (g.D.Disk.state c.play_turn.new.disk) (g.L.Link.seen c.play_turn.new.link)) c.play_turn.new.player (g.K.Sink.state c.play_turn.new.sink))
      (c.loop-taken.invariant.on first) tt c.in_ok-play_turn.ensures.turn;
}

pub returns : goal.returns
returns g c first =
    takes_all c.loop-taken.taken c.args.turns first (stand (post c.args.show.now.peer (g.D.Disk.state c.args.disk.now) (g.L.Link.seen c.args.link.now)) c.args.show.now.player (g.K.Sink.state c.args.sink.now))
    (stand (post c.loop-taken.show.peer (g.D.Disk.state c.loop-taken.disk) (g.L.Link.seen c.loop-taken.link)) c.loop-taken.show.player (g.K.Sink.state c.loop-taken.sink))
    (stand (post c.loop-taken.show.peer (g.D.Disk.state c.loop-taken.disk) (g.L.Link.seen c.loop-taken.link)) c.loop-taken.show.player (g.K.Sink.state c.loop-taken.sink))
    (c.loop-taken.invariant.on first) (omega (arith, c.loop-taken-test.false, c.loop-taken.invariant.few))
