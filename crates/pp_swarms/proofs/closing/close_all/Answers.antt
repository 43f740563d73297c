use Rattle.std.proofs.Common.{◌+◌, List, length, map, get_or, refl, subst, arith}
use Rattle.std.specs.Prelude.{slice_set}
use Rattle.std.proofs.lemmas.Option.{slice_get_read, slice_get-get_or}
use Rattle.pp_terms.specs.disk.Disk.{DiskState}
use Rattle.pp_swarms.specs.Sharing.{fleet, swarm, ClosesIf}
use Rattle.pp_swarms.proofs.Lists.{get_map, set_same}
use Rattle.pp_swarms.proofs.Loops.{PartsUpTo, parts_none, parts_more, parts_order, parts_many}
use Rattle.pp_swarms.proofs.Shares.{closes_grows}
use Rattle.pp_swarms.proofs.closing.close_all.Goals as goal

pub loop-number-init : goal.loop-number-init
loop-number-init g c = parts_none ClosesIf closes_grows (fleet c.args.peers.now (map g.D.Disk.state c.args.disks.now)) (g.L.Link.seen c.args.link.now)

pub loop-number-preserved : goal.loop-number-preserved
loop-number-preserved g c =
    let number = c.loop-number.number in
    let within = c.loop-number-test.true in
    let u = c.loop-number.invariant in
    let peers_same = u.peers in
    let peer = get_or c.loop-number.peers number c.index-peers-number.result in
    let enough = c.requires.disks in
    let disk = slice_get_read c.args.disks.now (length c.args.disks.now) number c.index-disks-number.result refl
    (omega (arith, within, enough)) c.index-disks-number.is in
    let there = get_map g.D.Disk.state c.args.disks.now number c.index-disks-number.result disk in
    subst (λ (ds : List DiskState). PartsUpTo ClosesIf closes_grows (number + 1) (fleet c.args.peers.now (map g.D.Disk.state c.args.disks.now))
    (fleet (slice_set c.loop-number.peers number c.close_one.new.peer) ds) (g.L.Link.seen c.args.link.now) (g.L.Link.seen c.close_one.new.link))
    (set_same (map g.D.Disk.state c.args.disks.now) number (g.D.Disk.state c.index-disks-number.result) there)
    (parts_more ClosesIf closes_grows number _ (fleet c.loop-number.peers (map g.D.Disk.state c.args.disks.now))
    (swarm peer (g.D.Disk.state c.index-disks-number.result))
    (swarm c.close_one.new.peer (g.D.Disk.state c.index-disks-number.result)) c.close_one.ensures.0
    (g.L.Link.seen c.args.link.now) (g.L.Link.seen c.loop-number.link) (g.L.Link.seen c.close_one.new.link)
    (slice_get-get_or c.loop-number.peers number c.index-peers-number.result (omega (arith, within, peers_same)), there) c.close_one.ensures.1 c.close_one.ensures.2 u)

pub returns : goal.returns
returns g c = record {
  keeps = parts_order ClosesIf closes_grows c.loop-number.number _ _ _ _ c.loop-number-test.false c.loop-number.invariant;
  parts = c.loop-number.invariant.parts;
  many = parts_many ClosesIf closes_grows c.loop-number.number _ _ _ _ c.loop-number-test.false c.loop-number.invariant;
  gains = c.loop-number.invariant.gains;
  each = c.loop-number.invariant.done;
}
