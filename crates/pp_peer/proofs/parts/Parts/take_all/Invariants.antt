use Rattle.std.proofs.Common.{◌-◌, length}
use Rattle.pp_peer.specs.Taking.{HearsTo}
use Rattle.pp_peer.specs.Messages.{HearsSome}
use Rattle.pp_peer.proofs.parts.Parts.take_all.Given as goal

abbrev pub invariant-messages : goal.invariant-messages
invariant-messages g l = record {
  hears : HearsTo l.seat l.descriptor l.bytes l.start l.at l.initial.self l.self (g.D.Disk.state l.initial.disk) (g.D.Disk.state l.disk);
  exact : HearsSome l.seat l.descriptor l.bytes l.start l.at l.initial.self l.self;
}

abbrev pub decreases-messages : goal.decreases-messages
decreases-messages g l = length l.bytes - l.at
