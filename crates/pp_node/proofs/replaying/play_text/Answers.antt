use Rattle.std.proofs.Common.{◌≡◌, List, length, map, sym, subst}
use Rattle.std.specs.List.{AllByRecursion}
use Rattle.pp_world.specs.Outcome.{AreLines}
use Rattle.pp_world.specs.Worlds.{swarm_of}
use Rattle.pp_outcome.specs.declared.outcome.PeerEnd.{PeerEnd}
use Rattle.pp_node.specs.Shown.{numbers_of}
use Rattle.pp_node.proofs.Replays.{lines_shown, sizes}
use Rattle.pp_node.proofs.replaying.play_text.Goals as goal

pub put_ends-requires : goal.put_ends-requires
put_ends-requires g c =
    let played = c.in-Ok.ensures.played in
    subst (AllByRecursion (λ end. length end.held ≡ c.in-Ok.outcome.chunks)) (sym c.deref.ensures.value)
    (sizes (swarm_of c.in-Ok.ensures.schedule) c.in-Ok.outcome.chunks c.in-Ok.outcome.ends.items played.peers played.show played.ended.numbers played.chunks)

pub returns-in-Ok-put_ends : goal.returns-in-Ok-put_ends
returns-in-Ok-put_ends g c =
    let played = c.in-Ok.ensures.played in
    let said = c.in-Ok-put_ends.ensures.said in record {
      schedule = c.in-Ok.ensures.schedule;
      read = c.in-Ok.ensures.read;
      peers = played.peers;
      ended = played.ended;
      lines = said.lines;
      are = lines_shown 0 c.in-Ok.outcome.ends.items played.peers said.lines played.show
          (subst (λ (ends : List PeerEnd). AreLines 0 (map numbers_of ends) said.lines) c.deref.ensures.value said.are);
      gained = said.gained;
    }
