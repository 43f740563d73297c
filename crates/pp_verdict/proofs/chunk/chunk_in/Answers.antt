use Rattle.std.proofs.Common.{arith}
use Rattle.pp_terms.specs.format.Messages.{datagram}
use Rattle.pp_outside.specs.Outside.{address_of}
use Rattle.pp_recorded.specs.Parts.{all, rest}
use Rattle.pp_verdict.proofs.Chunks.{behind_more}
use Rattle.pp_verdict.proofs.chunk.chunk_in.Goals as goal

pub messages-preserved : goal.messages-preserved
messages-preserved c =
    let d = c.args.descriptor.now in
    let later = c.in-Some.ensures.later in
    let few = c.messages.invariant.few in
    record {
      within = c.in-Some.ensures.within;
      few = omega arith;
      on = behind_more (address_of c.args.to) (datagram d.method d.chunk c.args.datagram.now).channel (all d c.args.datagram.now)
          (rest d c.args.datagram.now c.messages.at) (rest d c.args.datagram.now c.in-Some.next) c.in-Some.message c.messages.count
          c.messages.invariant.on c.in-Some.ensures.before c.in_default-message.not-Data;
    }
