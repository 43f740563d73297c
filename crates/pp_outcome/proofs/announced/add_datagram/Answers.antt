use Rattle.std.proofs.Common.{List, false, get_or, refl, ap, ◌∙◌, arith}
use Rattle.std.specs.Prelude.{◌||◌}
use Rattle.pp_terms.specs.format.Messages.{Message}
use Rattle.pp_traffic.specs.Keeping.{announces}
use Rattle.pp_wire.specs.Views.{message_of}
use Rattle.pp_recorded.specs.Parts.{all, rest}
use Rattle.pp_outcome.proofs.Gains.{message_more, messages_end}
use Rattle.pp_outcome.proofs.announced.add_datagram.Goals as goal

pub messages-init : goal.messages-init
messages-init c = record {
  within = c.first_place-at.ensures.within;
  size = refl;
  each = λ i lt. ap (λ (ms : List Message). announces i ms || get_or c.args.set.now i false) (c.first_place-at.ensures.all c.args.descriptor.now);
}

pub messages-preserved : goal.messages-preserved
messages-preserved c =
    let d = c.args.descriptor.now in
    let bytes = c.args.bytes.now in record {
      within = c.in-Some.ensures.within;
      size = c.add_message.ensures.size ∙ c.messages.invariant.size;
      each = λ i lt. c.messages.invariant.each i lt
          ∙ message_more i (message_of c.in-Some.message) (rest d bytes c.in-Some.next) (rest d bytes c.messages.at)
          (get_or c.messages.set i false) (get_or c.add_message.new.set i false) c.in-Some.ensures.before
          (c.add_message.ensures.each i (omega (arith, lt, c.messages.invariant.size)));
    }

pub returns : goal.returns
returns c =
    let d = c.args.descriptor.now in
    let bytes = c.args.bytes.now in record {
      size = c.messages.invariant.size;
      each = λ i lt. messages_end i (all d bytes) (rest d bytes c.messages.at) (get_or c.args.set.now i false) (get_or c.messages.set i false)
          c.in_default.ensures (c.messages.invariant.each i lt);
    }
