-- The lines of the peers at a replay's end, as they are printed.
use Rattle.std.specs.Prelude.{ℕ, List, map}
use Rattle.pp_terms.specs.command.Report.{AreRanges}
use Rattle.pp_terms.specs.command.Stream.{SinkState, Gains}
use Rattle.pp_terms.specs.tree.Range.{Span}
use Rattle.pp_world.specs.Outcome as terms
use Rattle.pp_world.specs.Outcome.{AreLines, peer_line}
use Rattle.pp_world.specs.Worlds.{empty_disk, idle}
use Rattle.pp_outcome.specs.Outcome.{end_as}
use Rattle.pp_outcome.specs.declared.outcome.PeerEnd.{PeerEnd}

-- the numbers of a peer at the end; no line tells of its state
abbrev pub numbers_of : PeerEnd → terms.PeerEnd
numbers_of end = end_as (idle empty_disk) end

-- The sink gained the line of a peer.
pub record HasLine (peer : ℕ) (end : PeerEnd) (old new : SinkState) : Type 0 where
  pub ranges : List Span
  pub are : AreRanges end.held ranges
  pub gained : Gains old.taken (peer_line peer (numbers_of end) ranges) new.taken

-- The sink gained the lines of all peers.
pub record HasLines (ends : List PeerEnd) (old new : SinkState) : Type 0 where
  pub lines : List ℕ
  pub are : AreLines 0 (map numbers_of ends) lines
  pub gained : Gains old.taken lines new.taken
