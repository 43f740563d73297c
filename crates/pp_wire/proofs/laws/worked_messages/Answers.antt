use Rattle.std.proofs.Common.{refl}
use Rattle.pp_terms.specs.format.Messages.{spell, leaves_of, span_in, handshake_at, data_at, ack_at, integrity_at, span_at, address_at, message_at, next_message, messages_from, datagram}
use Rattle.pp_terms.specs.format.Options.{spelling_of, fault_at, read_from, read_options}
use Rattle.pp_wire.proofs.laws.worked_messages.Goals as goal

pub returns : goal.returns
unfolding spell leaves_of span_in handshake_at data_at ack_at integrity_at span_at address_at message_at next_message messages_from datagram spelling_of fault_at read_from read_options
returns c = record {
  request = refl;
  end = refl;
  short = refl;
  unknown = refl;
  range = refl;
  wide = refl;
  first_fault = refl;
  bin = refl;
  bin_spelled = refl;
  no_bin = refl;
  content = refl;
  handshake = refl;
  bad_options = refl;
  two = refl;
  keep_alive = refl;
  no_channel = refl;
}
