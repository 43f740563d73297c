use Rattle.std.proofs.Common.{◌≤◌, ◌-◌}
use Rattle.pp_terms.specs.format.Descriptor.{chunks_of}
use Rattle.pp_tree.specs.Book.{entry}
use Rattle.pp_scan.specs.Look.{KeepsAll}
use Rattle.pp_node.proofs.Exports.{Puts}
use Rattle.pp_node.proofs.exporting.put_chunks.Given as goal

abbrev pub invariant-loop-next : goal.invariant-loop-next
invariant-loop-next g l = record {
  within : l.next ≤ chunks_of l.descriptor;
  keeps : KeepsAll (g.D.Disk.state l.initial.disk) (g.D.Disk.state l.disk);
  later : (g.K.Sink.state l.initial.sink).faults ≤ (g.K.Sink.state l.sink).faults;
  put : Puts l.descriptor (g.K.Sink.state l.initial.sink) (g.K.Sink.state l.sink) (g.D.Disk.state l.initial.disk) (g.D.Disk.state l.disk) (entry l.book) l.next;
}

abbrev pub decreases-loop-next : goal.decreases-loop-next
decreases-loop-next g l = chunks_of l.descriptor - l.next
