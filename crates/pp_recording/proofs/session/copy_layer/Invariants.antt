use Rattle.std.proofs.Common.{◌≡◌, ◌≤◌, length}
use Rattle.pp_terms.specs.format.Descriptor.{Descriptor}
use Rattle.pp_tree.specs.Book.{entry, IsPreparedFor}
use Rattle.pp_recording.specs.Recording.{first_nodes, AreDigestsOf}
use Rattle.pp_recording.specs.Sessions.{IsCopied, IsFirst}
use Rattle.pp_recording.proofs.session.copy_layer.Given as goal

abbrev pub invariant-loop-offset : goal.invariant-loop-offset
invariant-loop-offset l = record {
  copied : IsCopied (IsFirst l.layer l.offset) (entry l.from) (entry l.initial.to) (entry l.to);
  count : l.nodes ≡ length (first_nodes (entry l.from) l.layer l.offset);
  few : l.nodes ≤ l.offset;
  prepared : (d : Descriptor) → IsPreparedFor d l.initial.to → IsPreparedFor d l.to;
  digests : AreDigestsOf (entry l.to);
}
