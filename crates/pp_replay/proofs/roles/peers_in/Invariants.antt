use Rattle.std.proofs.Common.{length}
use Rattle.pp_replay.specs.Lines.{words_left}
use Rattle.pp_replay.proofs.Dialled.{AreDialled}
use Rattle.pp_replay.proofs.roles.peers_in.Given as goal

abbrev pub invariant-loop-word : goal.invariant-loop-word
invariant-loop-word l = AreDialled (words_left l.fn.words) (words_left l.words) l.peers.items

abbrev pub decreases-loop-word : goal.decreases-loop-word
decreases-loop-word l = length (words_left l.words)
