use Rattle.std.proofs.Common.{◌≤◌, ◌-◌, length}
use Rattle.pp_terms.specs.format.Messages.{datagram}
use Rattle.pp_outside.specs.Outside.{address_of}
use Rattle.pp_recorded.specs.Parts.{all, rest}
use Rattle.pp_recorded.proofs.Sendings.{IsOn}
use Rattle.pp_verdict.proofs.Chunks.{IsBehind}
use Rattle.pp_verdict.proofs.chunk.chunk_in.Given as goal

abbrev pub invariant-messages : goal.invariant-messages
invariant-messages l = record {
  within : l.at ≤ length l.datagram;
  few : l.count ≤ l.at;
  on : IsOn (IsBehind (address_of l.to) (datagram l.descriptor.method l.descriptor.chunk l.datagram).channel (all l.descriptor l.datagram))
      (all l.descriptor l.datagram) l.count (rest l.descriptor l.datagram l.at);
}

abbrev pub decreases-messages : goal.decreases-messages
decreases-messages l = length l.datagram - l.at
