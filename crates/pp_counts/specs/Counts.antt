-- Counts of what a peer did, and what a note changes in them.
use Rattle.std.specs.Prelude.{◌≡◌, ◌≢◌, ℕ, ◌+◌}
use Rattle.pp_terms.specs.Count.{capped, one_more}
use Rattle.pp_terms.specs.command.Tally.{Tally}
use Rattle.pp_counts.specs.declared.counts.Counts.{Counts}
use Rattle.pp_counts.specs.declared.note.Note.{Note}
use Rattle.pp_counts.specs.declared.note.Note.TheVariants.{Turn, Datagram, Sent, Stored, KeepAlive, Short, Stranger, RefusedHandshake, NoSeat, Cut, Outside, NotANode, Full, Choked, Unheld, Missing, Wrong, Repeat, Damaged, ReadFault, SendFault, ReceiveFault}

abbrev pub no_counts : Counts
no_counts = record {
  turns = 0;
  datagrams = 0;
  sent = 0;
  stored = 0;
  keepalives = 0;
  short = 0;
  stranger = 0;
  refused_handshakes = 0;
  no_seat = 0;
  cut = 0;
  outside = 0;
  not_a_node = 0;
  full = 0;
  choked = 0;
  unheld = 0;
  missing = 0;
  wrong = 0;
  repeats = 0;
  damaged = 0;
  read_faults = 0;
  send_faults = 0;
  receive_faults = 0;
}

-- the counts as plain data
abbrev pub tally_of : Counts → Tally
tally_of k = record {
  turns = k.turns;
  datagrams = k.datagrams;
  sent = k.sent;
  stored = k.stored;
  keepalives = k.keepalives;
  short = k.short;
  stranger = k.stranger;
  refused_handshakes = k.refused_handshakes;
  no_seat = k.no_seat;
  cut = k.cut;
  outside = k.outside;
  not_a_node = k.not_a_node;
  full = k.full;
  choked = k.choked;
  unheld = k.unheld;
  missing = k.missing;
  wrong = k.wrong;
  repeats = k.repeats;
  damaged = k.damaged;
  read_faults = k.read_faults;
  send_faults = k.send_faults;
  receive_faults = k.receive_faults;
}

-- the counts, with that of a note changed
abbrev pub with_count : Note → (ℕ → ℕ) → Counts → Counts
with_count Turn change k = record k { turns = change k.turns }
with_count Datagram change k = record k { datagrams = change k.datagrams }
with_count Sent change k = record k { sent = change k.sent }
with_count Stored change k = record k { stored = change k.stored }
with_count KeepAlive change k = record k { keepalives = change k.keepalives }
with_count Short change k = record k { short = change k.short }
with_count Stranger change k = record k { stranger = change k.stranger }
with_count RefusedHandshake change k = record k { refused_handshakes = change k.refused_handshakes }
with_count NoSeat change k = record k { no_seat = change k.no_seat }
with_count Cut change k = record k { cut = change k.cut }
with_count Outside change k = record k { outside = change k.outside }
with_count NotANode change k = record k { not_a_node = change k.not_a_node }
with_count Full change k = record k { full = change k.full }
with_count Choked change k = record k { choked = change k.choked }
with_count Unheld change k = record k { unheld = change k.unheld }
with_count Missing change k = record k { missing = change k.missing }
with_count Wrong change k = record k { wrong = change k.wrong }
with_count Repeat change k = record k { repeats = change k.repeats }
with_count Damaged change k = record k { damaged = change k.damaged }
with_count ReadFault change k = record k { read_faults = change k.read_faults }
with_count SendFault change k = record k { send_faults = change k.send_faults }
with_count ReceiveFault change k = record k { receive_faults = change k.receive_faults }

-- the counts after a note, and after one that came so many times
abbrev pub after_note : Note → Counts → Counts
after_note note k = with_count note one_more k

abbrev pub after_notes : Note → ℕ → Counts → Counts
after_notes note times k = with_count note (λ n. capped (n + times)) k

-- the count of a note
abbrev pub count_of : Note → Tally → ℕ
count_of Turn t = t.turns
count_of Datagram t = t.datagrams
count_of Sent t = t.sent
count_of Stored t = t.stored
count_of KeepAlive t = t.keepalives
count_of Short t = t.short
count_of Stranger t = t.stranger
count_of RefusedHandshake t = t.refused_handshakes
count_of NoSeat t = t.no_seat
count_of Cut t = t.cut
count_of Outside t = t.outside
count_of NotANode t = t.not_a_node
count_of Full t = t.full
count_of Choked t = t.choked
count_of Unheld t = t.unheld
count_of Missing t = t.missing
count_of Wrong t = t.wrong
count_of Repeat t = t.repeats
count_of Damaged t = t.damaged
count_of ReadFault t = t.read_faults
count_of SendFault t = t.send_faults
count_of ReceiveFault t = t.receive_faults

-- The count of this note rose by so many, to the greatest number at most, and each other count stands as it was.
pub record RaisesOnly (old new : Tally) (note : Note) (times : ℕ) : Type 0 where
  pub raised : count_of note new ≡ capped (count_of note old + times)
  pub others : (other : Note) → other ≢ note → count_of other new ≡ count_of other old

-- A note raises its own count, and no other.
abbrev pub NotesRaiseOneCount : Type 0
NotesRaiseOneCount = (note : Note) (times : ℕ) (k : Counts)
    → RaisesOnly (tally_of k) (tally_of (after_notes note times k)) note times

-- A note that came so many times, and then so many more, counts as one that came as often as both together.
abbrev pub NotesAddUp : Type 0
NotesAddUp = (note : Note) (first then : ℕ) (k : Counts)
    → after_notes note then (after_notes note first k) ≡ after_notes note (first + then) k
