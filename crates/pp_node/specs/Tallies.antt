-- What two parts of a run counted, together.
use Rattle.std.specs.Prelude.{◌+◌, Option, Some, None}
use Rattle.pp_terms.specs.Count.{capped}
use Rattle.pp_terms.specs.command.Tally.{Tally}

-- each count is the sum of both
abbrev pub total_of : Tally → Tally → Tally
total_of one two = record {
  turns = capped (one.turns + two.turns);
  datagrams = capped (one.datagrams + two.datagrams);
  sent = capped (one.sent + two.sent);
  stored = capped (one.stored + two.stored);
  keepalives = capped (one.keepalives + two.keepalives);
  short = capped (one.short + two.short);
  stranger = capped (one.stranger + two.stranger);
  refused_handshakes = capped (one.refused_handshakes + two.refused_handshakes);
  no_seat = capped (one.no_seat + two.no_seat);
  cut = capped (one.cut + two.cut);
  outside = capped (one.outside + two.outside);
  not_a_node = capped (one.not_a_node + two.not_a_node);
  full = capped (one.full + two.full);
  choked = capped (one.choked + two.choked);
  unheld = capped (one.unheld + two.unheld);
  missing = capped (one.missing + two.missing);
  wrong = capped (one.wrong + two.wrong);
  repeats = capped (one.repeats + two.repeats);
  damaged = capped (one.damaged + two.damaged);
  read_faults = capped (one.read_faults + two.read_faults);
  send_faults = capped (one.send_faults + two.send_faults);
  receive_faults = capped (one.receive_faults + two.receive_faults);
}

-- what was counted before, if anything was, and then
abbrev pub with_earlier : Option Tally → Tally → Tally
with_earlier None tally = tally
with_earlier (Some earlier) tally = total_of earlier tally
