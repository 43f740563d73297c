use Rattle.std.proofs.Common.{◌+◌, List, map, get_or, refl, sym, ◌∙◌, subst, arith}
use Rattle.std.specs.Prelude.{slice_set}
use Rattle.std.proofs.lemmas.List.{length-set}
use Rattle.std.proofs.lemmas.Option.{slice_get-get_or}
use Rattle.pp_terms.specs.disk.Disk.{DiskState}
use Rattle.pp_swarms.specs.Sharing.{fleet, swarm, SendsIf}
use Rattle.pp_swarms.proofs.Lists.{get_map, map_set}
use Rattle.pp_swarms.proofs.Loops.{PartsUpTo, parts_none, parts_more, parts_order, parts_many}
use Rattle.pp_swarms.proofs.Shares.{sends_grows}
use Rattle.pp_swarms.proofs.flushing.flush_all.Goals as goal

pub loop-number-init : goal.loop-number-init
loop-number-init g c = (refl, parts_none SendsIf sends_grows (fleet c.args.peers.now (map g.D.Disk.state c.args.disks.now)) (g.L.Link.seen c.args.link.now))

pub loop-number-preserved : goal.loop-number-preserved
loop-number-preserved g c =
    let number = c.loop-number.number in
    let within = c.loop-number-test.true in
    let u = c.loop-number.invariant.1 in
    let peers_same = u.peers in
    let peer = get_or c.loop-number.peers number c.index-peers-number.result in
    let disks_same = c.loop-number.invariant.0 in
    let enough = c.requires.disks in
    let disk = get_or c.loop-number.disks number c.index-disks-number.result in (
      length-set c.loop-number.disks number c.flush_one.new.disk ∙ c.loop-number.invariant.0,
      subst (λ (ds : List DiskState). PartsUpTo SendsIf sends_grows (number + 1) (fleet c.args.peers.now (map g.D.Disk.state c.args.disks.now))
          (fleet (slice_set c.loop-number.peers number c.flush_one.new.peer) ds) (g.L.Link.seen c.args.link.now) (g.L.Link.seen c.flush_one.new.link))
          (sym (map_set g.D.Disk.state c.loop-number.disks number c.flush_one.new.disk))
          (parts_more SendsIf sends_grows number _ (fleet c.loop-number.peers (map g.D.Disk.state c.loop-number.disks))
          (swarm peer (g.D.Disk.state disk))
          (swarm c.flush_one.new.peer (g.D.Disk.state c.flush_one.new.disk)) c.flush_one.ensures.0
          (g.L.Link.seen c.args.link.now) (g.L.Link.seen c.loop-number.link) (g.L.Link.seen c.flush_one.new.link) (
            slice_get-get_or c.loop-number.peers number c.index-peers-number.result (omega (arith, within, peers_same)),
            get_map g.D.Disk.state c.loop-number.disks number disk
                (slice_get-get_or c.loop-number.disks number c.index-disks-number.result (omega (arith, within, disks_same, enough))),
          )
          c.flush_one.ensures.1 c.flush_one.ensures.2 u),
    )

pub returns : goal.returns
returns g c = record {
  keeps = parts_order SendsIf sends_grows c.loop-number.number _ _ _ _ c.loop-number-test.false c.loop-number.invariant.1;
  parts = c.loop-number.invariant.1.parts;
  many = parts_many SendsIf sends_grows c.loop-number.number _ _ _ _ c.loop-number-test.false c.loop-number.invariant.1;
  gains = c.loop-number.invariant.1.gains;
  each = c.loop-number.invariant.1.done;
}
