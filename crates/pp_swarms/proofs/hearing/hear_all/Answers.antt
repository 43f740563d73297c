use Rattle.std.proofs.Common.{ℕ, ◌+◌, List, map, get_or, sym, ◌∙◌, subst, arith}
use Rattle.std.specs.Prelude.{slice_set}
use Rattle.std.proofs.lemmas.List.{length-set}
use Rattle.std.proofs.lemmas.Option.{slice_get-get_or}
use Rattle.pp_terms.specs.disk.Disk.{DiskState}
use Rattle.pp_outside.specs.declared.link.Event.{Event}
use Rattle.pp_swarms.specs.Sharing.{fleet, swarm, event_for, HearsIf}
use Rattle.pp_swarms.proofs.Lists.{get_map, map_set}
use Rattle.pp_swarms.proofs.Loops.{UpTo, up_to_more, up_to_all}
use Rattle.pp_swarms.proofs.hearing.hear_all.Goals as goal

pub loop-number-preserved : goal.loop-number-preserved
loop-number-preserved g c =
    let number = c.loop-number.number in
    let within = c.loop-number-test.true in
    let u = c.loop-number.invariant.1 in
    let peers_same = u.peers in
    let peer = get_or c.loop-number.peers number c.index-peers-number.result in
    let disks_same = c.loop-number.invariant.0 in
    let enough = c.requires.disks in
    let disk = get_or c.loop-number.disks number c.index-disks-number.result in (
      length-set c.loop-number.disks number c.hear_one.new.disk ∙ c.loop-number.invariant.0,
      subst (λ (ds : List DiskState). UpTo (λ (s : ℕ). HearsIf (event_for c.args.to s c.args.event.now) c.args.buffer.now) (number + 1) (fleet c.args.peers.now (map g.D.Disk.state c.args.disks.now))
          (fleet (slice_set c.loop-number.peers number c.hear_one.new.peer) ds)) (sym (map_set g.D.Disk.state c.loop-number.disks number c.hear_one.new.disk))
          (up_to_more (λ (s : ℕ). HearsIf (event_for c.args.to s c.args.event.now) c.args.buffer.now) number _ (fleet c.loop-number.peers (map g.D.Disk.state c.loop-number.disks))
          (swarm peer (g.D.Disk.state disk)) (swarm c.hear_one.new.peer (g.D.Disk.state c.hear_one.new.disk)) (
            slice_get-get_or c.loop-number.peers number c.index-peers-number.result (omega (arith, within, peers_same)),
            get_map g.D.Disk.state c.loop-number.disks number disk
                (slice_get-get_or c.loop-number.disks number c.index-disks-number.result (omega (arith, within, disks_same, enough))),
          )
          (subst (λ (e : Event). HearsIf e c.args.buffer.now (swarm peer (g.D.Disk.state disk))
          (swarm c.hear_one.new.peer (g.D.Disk.state c.hear_one.new.disk))) c.event_for-came.ensures c.hear_one.ensures) u),
    )

pub returns : goal.returns
returns g c =
    let all = up_to_all _ c.loop-number.number _ _ c.loop-number-test.false c.loop-number.invariant.1 in
    record { keeps = all.0; each = all.1 }
