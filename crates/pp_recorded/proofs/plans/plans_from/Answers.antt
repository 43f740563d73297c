use Rattle.std.proofs.Common.{take, arith}
use Rattle.pp_terms.specs.format.Messages.{datagram}
use Rattle.pp_traffic.specs.Meter.{lets_send}
use Rattle.pp_promises.specs.Datagrams.{PlansFrom}
use Rattle.pp_outside.specs.Outside.{address_of}
use Rattle.pp_wire.specs.Views.{message_of}
use Rattle.pp_recorded.specs.Entries.{past}
use Rattle.pp_recorded.specs.Parts.{all, rest}
use Rattle.pp_recorded.proofs.Plannings.{split_first}
use Rattle.pp_recorded.proofs.Sendings.{on_next}
use Rattle.pp_recorded.proofs.plans.plans_from.Goals as goal

pub messages-preserved : goal.messages-preserved
messages-preserved c =
    let later = c.in-Some.ensures.later in
    let few = c.messages.invariant.few in
    let channel = (datagram c.args.descriptor.now.method c.args.descriptor.now.chunk c.args.bytes.now).channel in
    let whole = all c.args.descriptor.now c.args.bytes.now in
    let both = split_first c.args.descriptor.now (lets_send c.args.descriptor.now.chunk) (past c.args.entries.now) (address_of c.args.to) channel (take c.messages.count whole)
    (message_of c.in-Some.message) (rest c.args.descriptor.now c.args.bytes.now c.in-Some.next) in
    record {
      within = c.in-Some.ensures.within;
      few = omega arith;
      on = on_next (PlansFrom c.args.descriptor.now (lets_send c.args.descriptor.now.chunk) (past c.args.entries.now) (address_of c.args.to) channel) whole
          (rest c.args.descriptor.now c.args.bytes.now c.messages.at) (rest c.args.descriptor.now c.args.bytes.now c.in-Some.next) (message_of c.in-Some.message) c.messages.count
          c.messages.invariant.on c.in-Some.ensures.before (λ s. (both.0 s).1) (λ s. both.1 (c.plans_message.ensures.0 c.if-not-plans_message.false, s));
    }
