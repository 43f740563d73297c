use Rattle.std.proofs.Common.{get_or, arith}
use Rattle.std.proofs.lemmas.Option.{slice_get-get_or}
use Rattle.pp_swarms.specs.Sharing.{RefusesIf}
use Rattle.pp_swarms.proofs.Loops.{each_none, each_more, each_all}
use Rattle.pp_swarms.proofs.hearing.refuse_all.Goals as goal

pub loop-peer-init : goal.loop-peer-init
loop-peer-init c = each_none RefusesIf c.args.peers.now

pub loop-peer-preserved : goal.loop-peer-preserved
loop-peer-preserved c =
    let within = c.loop-peer-test.true in
    let same = c.loop-peer.invariant.many in
    each_more RefusesIf c.loop-peer.peer-index c.args.peers.now c.loop-peer.peers
    (get_or c.loop-peer.peers c.loop-peer.peer-index c.peer-item.result) c.refuse_one.new.peer
    (slice_get-get_or c.loop-peer.peers c.loop-peer.peer-index c.peer-item.result (omega (arith, within, same))) c.refuse_one.ensures c.loop-peer.invariant

pub returns : goal.returns
returns c = record {
  peers = c.loop-peer.invariant.many;
  each = each_all RefusesIf c.loop-peer.peer-index c.args.peers.now c.loop-peer.peers c.loop-peer-test.false c.loop-peer.invariant;
}
