use Rattle.std.proofs.Common.{◌≡◌, ◌-◌, ◌≤◌, length}
use Rattle.pp_terms.specs.format.Descriptor.{chunks_of}
use Rattle.pp_turns.specs.Turning.{post}
use Rattle.pp_playback.specs.Turns.{Stand, stand}
use Rattle.pp_playback.proofs.Loops.{HasPlayedOn}
use Rattle.pp_playback.proofs.playing.take_all.Given as goal

abbrev pub invariant-loop-taken : goal.invariant-loop-taken
invariant-loop-taken g l = record {
  few : l.taken ≤ l.turns;
  room : length l.show.buffer.items ≡ 65536;
  of : l.show.player.chunks ≡ chunks_of l.show.peer.parts.holding.store.descriptor;
  all : l.chunks ≡ l.show.player.chunks;
  on : (first : Stand) → HasPlayedOn l.taken first (stand (post l.initial.show.peer (g.D.Disk.state l.initial.disk) (g.L.Link.seen l.initial.link)) l.initial.show.player (g.K.Sink.state l.initial.sink))
      (stand (post l.show.peer (g.D.Disk.state l.disk) (g.L.Link.seen l.link)) l.show.player (g.K.Sink.state l.sink));
}

abbrev pub decreases-loop-taken : goal.decreases-loop-taken
decreases-loop-taken g l = l.turns - l.taken
