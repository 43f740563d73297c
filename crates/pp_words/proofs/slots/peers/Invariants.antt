use Rattle.std.proofs.Common.{map}
use Rattle.pp_outside.specs.Outside.{address_of}
use Rattle.pp_words.specs.Views.{texts}
use Rattle.pp_words.proofs.Peers.{AreRead}
use Rattle.pp_words.proofs.slots.peers.Given as goal

abbrev pub invariant-loop-at : goal.invariant-loop-at
invariant-loop-at l = record {
  read : AreRead (texts l.words) l.first l.at (map address_of l.peers.items);
}
