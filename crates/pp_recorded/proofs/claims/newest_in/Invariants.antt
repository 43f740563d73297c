use Rattle.std.proofs.Common.{◌≡◌, ◌≤◌, ◌-◌, length}
use Rattle.pp_terms.specs.format.Descriptor.{chunks_of}
use Rattle.pp_tree.specs.Node.{node_of}
use Rattle.pp_recorded.specs.Parts.{all, rest}
use Rattle.pp_recorded.specs.Claims.{newest_after}
use Rattle.pp_recorded.proofs.claims.newest_in.Given as goal

abbrev pub invariant-messages : goal.invariant-messages
invariant-messages l = record {
  within : l.place ≤ length l.bytes;
  same : newest_after (chunks_of l.descriptor) (node_of l.at) (all l.descriptor l.bytes) l.fn.newest
      ≡ newest_after (chunks_of l.descriptor) (node_of l.at) (rest l.descriptor l.bytes l.place) l.newest;
}

abbrev pub decreases-messages : goal.decreases-messages
decreases-messages l = length l.bytes - l.place
