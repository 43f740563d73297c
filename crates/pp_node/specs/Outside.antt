-- What a run finds and leaves: its devices and its book, at one time.
use Rattle.pp_terms.specs.disk.Disk.{DiskState}
use Rattle.pp_terms.specs.format.Traffic.{LinkState}
use Rattle.pp_terms.specs.command.Stream.{SourceState, SinkState}
use Rattle.pp_tree.specs.Book.{BookState}

pub record Outside : Type 0 where
  pub disk : DiskState
  pub link : LinkState
  pub source : SourceState
  pub sink : SinkState
  pub book : BookState

abbrev pub outside : DiskState → LinkState → SourceState → SinkState → BookState → Outside
outside disk link source sink book = record { disk = disk; link = link; source = source; sink = sink; book = book }
