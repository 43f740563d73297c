use Rattle.std.proofs.Common.{refl, length}
use Rattle.pp_node.specs.Outside.{Outside, outside}
use Rattle.pp_node.proofs.Peers.{WasReady, was_ready, b}
use Rattle.pp_node.proofs.Endings.{Leaves}
use Rattle.pp_node.proofs.Plays.{unplayed, show_ends, fetches_some}
use Rattle.pp_node.proofs.playing.play.Goals as goal

pub returns-in-Ok : goal.returns-in-Ok
returns-in-Ok g c source =
    let old : Outside = outside (g.D.Disk.state c.args.disk.now) (g.L.Link.seen c.args.link.now) source (g.K.Sink.state c.args.sink.now) c.args.book.now in
    let new : Outside = outside (g.D.Disk.state c.show.new.disk) (g.L.Link.seen c.show.new.link) source (g.K.Sink.state c.show.new.sink) c.show.new.book in
    let r : WasReady c.args.words.now old new (g.D.Disk.state c.prepare.new.disk) (g.L.Link.seen c.prepare.new.link) c.in-Ok.ready.peer =
    was_ready c.args.words.now old new (g.D.Disk.state c.prepare.new.disk) (g.L.Link.seen c.prepare.new.link) c.in-Ok.ready.peer
    (length c.in-Ok.ready.buffer.items) c.in-Ok.ensures.prepared c.prepare.ensures.unsent c.in-Ok.ensures.link c.prepare.ensures.lasts
    c.prepare.ensures.named refl in
    show_ends c.args.words.now c.args.window old new (g.D.Disk.state c.prepare.new.disk) (g.L.Link.seen c.prepare.new.link) c.in-Ok.ready.peer r
    (fetches_some c.args.words.now c.in-Ok.ready.peer c.in-Ok.ensures.prepared.begun c.requires.asks) c.show.result
    (c.show.ensures (b c.args.words.now old new (g.D.Disk.state c.prepare.new.disk) (g.L.Link.seen c.prepare.new.link) c.in-Ok.ready.peer r))

pub returns-in-Err : goal.returns-in-Err
returns-in-Err g c source =
    let old : Outside = outside (g.D.Disk.state c.args.disk.now) (g.L.Link.seen c.args.link.now) source (g.K.Sink.state c.args.sink.now) c.args.book.now in
    let new : Outside = outside (g.D.Disk.state c.prepare.new.disk) (g.L.Link.seen c.prepare.new.link) source (g.K.Sink.state c.args.sink.now) c.args.book.now in
    let leaves : Leaves c.args.words.now old new = record {
      lasts = c.prepare.ensures.lasts;
      named = c.prepare.ensures.named;
      unwritten = c.prepare.ensures.unwritten;
      unread = refl;
      unfilled = refl;
    } in
    rw c.status.ensures (unplayed c.args.words.now c.args.window old new leaves refl c.prepare.ensures.unsent c.in-Err.fault c.in-Err.ensures.prepared
    c.in-Err.ensures.disk c.in-Err.ensures.link)
