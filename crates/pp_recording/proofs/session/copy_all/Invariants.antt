use Rattle.std.proofs.Common.{◌≡◌, ◌≤◌, ◌*◌, length}
use Rattle.pp_terms.specs.format.Descriptor.{height_of}
use Rattle.pp_tree.specs.Book.{entry, IsPreparedFor}
use Rattle.pp_recording.specs.Recording.{lowest_nodes, AreDigestsOf}
use Rattle.pp_recording.specs.Sessions.{IsCopied, IsLow}
use Rattle.pp_recording.proofs.session.copy_all.Given as goal

abbrev pub invariant-loop-layer : goal.invariant-loop-layer
invariant-loop-layer l = record {
  copied : IsCopied (IsLow (height_of l.descriptor) l.layer) (entry l.from) (entry l.initial.to) (entry l.to);
  count : l.nodes ≡ length (lowest_nodes (entry l.from) (height_of l.descriptor) l.layer);
  few : l.nodes ≤ l.layer * 1048576;
  prepared : IsPreparedFor l.descriptor l.to;
  digests : AreDigestsOf (entry l.to);
}
