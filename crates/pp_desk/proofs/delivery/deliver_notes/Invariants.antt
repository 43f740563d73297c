use Rattle.std.proofs.Common.{◌≡◌, ◌≤◌, ◌+◌, ◌-◌, length, take, drop}
use Rattle.pp_terms.specs.disk.Disk.{moment_of}
use Rattle.pp_outside.specs.Outside.{address_of}
use Rattle.pp_desk.specs.Delivers.{Delivers, none_delivered}
use Rattle.pp_desk.proofs.delivery.deliver_notes.Given as goal

abbrev pub invariant-loop-from : goal.invariant-loop-from
invariant-loop-from g l = record {
  within : l.from ≤ length l.outgoing.notes.now;
  few : l.so_far.sent + l.so_far.refused ≤ l.from;
  chunks : l.seat.told.chunks ≡ l.initial.seat.told.chunks;
  size : length l.out ≡ length l.initial.out;
  delivers : Delivers
      (record { d = l.descriptor; receiver = address_of l.outgoing.to.address; channel = l.outgoing.to.channel; moment = moment_of (g.D.Disk.state l.disk).history; now = l.outgoing.sent_at })
      (take l.from l.outgoing.notes.now) (drop l.from l.outgoing.notes.now)
      (record { seat = l.initial.seat; link = g.L.Link.seen l.initial.link; so_far = none_delivered })
      (record { seat = l.seat; link = g.L.Link.seen l.link; so_far = l.so_far });
}

abbrev pub decreases-loop-from : goal.decreases-loop-from
decreases-loop-from g l = length l.outgoing.notes.now - l.from
