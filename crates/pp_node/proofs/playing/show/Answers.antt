use Rattle.std.proofs.Common.{◌≡◌, ◌∙◌, ℕ, ap, subst}
use Rattle.pp_terms.specs.format.Descriptor.{chunks_of}
use Rattle.pp_turns.specs.Turning.{post}
use Rattle.pp_stream.specs.Player.{PlayerState}
use Rattle.pp_playback.specs.Turns.{Stand, stand}
use Rattle.pp_node.specs.Playing.{Shows, player_of}
use Rattle.pp_node.proofs.playing.show.Goals as goal

pub returns : goal.returns
returns g c b =
    let start : PlayerState → Stand = λ p. stand (post c.args.ready.peer (g.D.Disk.state c.args.disk.now) (g.L.Link.seen c.args.link.now)) p (g.K.Sink.state c.args.sink.now) in
    let end : Stand = stand (post c.take_all-status.new.show.peer (g.D.Disk.state c.take_all-status.new.disk) (g.L.Link.seen c.take_all-status.new.link))
    c.take_all-status.new.show.player (g.K.Sink.state c.take_all-status.new.sink) in
    let is : c.new.result ≡ player_of c.args.ready.peer c.args.window =
    c.new.ensures ∙ ap (λ (n : ℕ). record { chunks = n; window = c.args.window; base = 0 }) (c.chunks-chunks.ensures.chunks ∙ ap chunks_of c.descriptor.ensures) in
    record {
      last = c.take_all-status.new.show.peer;
      player = c.take_all-status.new.show.player;
      shows = subst (λ (p : PlayerState). Shows c.take_all-status.result b c.args.turns (start p) end) is (c.take_all-status.ensures b);
      book_is = c.into_book.ensures.same;
      rooted = c.into_book.ensures.book;
    }
