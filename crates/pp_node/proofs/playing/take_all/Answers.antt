use Rattle.std.proofs.Common.{◌∙◌, refl, sym, ap, inl}
use Rattle.pp_terms.specs.format.Descriptor.{chunks_of}
use Rattle.pp_turns.specs.Turning.{post}
use Rattle.pp_playback.specs.Turns.{Stand, stand}
use Rattle.pp_node.proofs.Plays.{chunks_kept}
use Rattle.pp_node.proofs.playing.take_all.Goals as goal

pub returns-in-Ok : goal.returns-in-Ok
returns-in-Ok g c b unplayed =
    let old : Stand = stand (post c.args.show.now.peer (g.D.Disk.state c.args.disk.now) (g.L.Link.seen c.args.link.now)) c.args.show.now.player (g.K.Sink.state c.args.sink.now) in
    let mid : Stand = stand (post c.play_turns.new.show.peer (g.D.Disk.state c.play_turns.new.disk) (g.L.Link.seen c.play_turns.new.link)) c.play_turns.new.show.player
    (g.K.Sink.state c.play_turns.new.sink) in
    let out = c.in-Ok.ensures b unplayed in (
      out.0,
      out.1,
      inl (
        record {
          mid = mid;
          plays = out.2;
          closes = c.close.ensures.exact;
          disk = refl;
          player = refl;
          sink = refl;
          sized = c.book.ensures.tied.waits.committed_size;
        },
        c.judge.ensures (chunks_kept b c.args.turns old out.0 mid out.1 out.2 ∙ c.requires.of ∙ ap chunks_of (sym c.descriptor.ensures) ∙ sym c.chunks-chunks.ensures.chunks),
      ),
    )
