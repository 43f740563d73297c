use Rattle.std.proofs.Common.{arith}
use Rattle.pp_terms.specs.format.Messages.{datagram}
use Rattle.pp_traffic.specs.Meter.{lets_send}
use Rattle.pp_traffic.specs.Serving.{ServesFrom}
use Rattle.pp_tree.specs.Book.{entry}
use Rattle.pp_outside.specs.Outside.{address_of}
use Rattle.pp_wire.specs.Views.{message_of}
use Rattle.pp_recorded.specs.Entries.{past}
use Rattle.pp_recorded.specs.Parts.{all, rest}
use Rattle.pp_recorded.proofs.Sendings.{on_more, passes, passed}
use Rattle.pp_recorded.proofs.serving.serves_from.Goals as goal

pub messages-preserved : goal.messages-preserved
messages-preserved c =
    let later = c.in-Some.ensures.later in
    let few = c.messages.invariant.few in
    record {
      within = c.in-Some.ensures.within;
      few = omega arith;
      on = on_more
          (ServesFrom c.args.descriptor.now (entry c.args.book.now) (lets_send c.args.descriptor.now.chunk) (past c.args.entries.now) (address_of c.args.to)
          (datagram c.args.descriptor.now.method c.args.descriptor.now.chunk c.args.bytes.now).channel)
          (all c.args.descriptor.now c.args.bytes.now) (rest c.args.descriptor.now c.args.bytes.now c.messages.at) (rest c.args.descriptor.now c.args.bytes.now c.in-Some.next)
          (message_of c.in-Some.message) c.messages.count c.messages.invariant.on c.in-Some.ensures.before
          (passes c.args.descriptor.now (entry c.args.book.now) (lets_send c.args.descriptor.now.chunk) (past c.args.entries.now) (address_of c.args.to)
          (datagram c.args.descriptor.now.method c.args.descriptor.now.chunk c.args.bytes.now).channel (rest c.args.descriptor.now c.args.bytes.now c.in-Some.next)
          c.in-Some.message c.in_default-message.not-Data)
          (passed c.args.descriptor.now (entry c.args.book.now) (lets_send c.args.descriptor.now.chunk) (past c.args.entries.now) (address_of c.args.to)
          (datagram c.args.descriptor.now.method c.args.descriptor.now.chunk c.args.bytes.now).channel (rest c.args.descriptor.now c.args.bytes.now c.in-Some.next)
          c.in-Some.message c.in_default-message.not-Data);
    }
