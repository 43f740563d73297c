-- Worked examples of the lines that the program prints.
use Rattle.std.specs.Prelude.{◌≡◌, [], ◌∷◌, codes}
use Rattle.pp_terms.specs.command.Tally.{Tally, tally_text}
use Rattle.pp_terms.specs.command.Report.{held_line, not_a_store_line}

-- thirty turns, in which three datagrams came, two went out and ten waits were refused
abbrev pub thirty : Tally
thirty = record {
  turns = 30;
  datagrams = 3;
  sent = 2;
  stored = 0;
  keepalives = 0;
  short = 0;
  stranger = 0;
  refused_handshakes = 0;
  no_seat = 0;
  cut = 0;
  outside = 0;
  not_a_node = 0;
  full = 0;
  choked = 0;
  unheld = 0;
  missing = 0;
  wrong = 0;
  repeats = 0;
  damaged = 0;
  read_faults = 0;
  send_faults = 0;
  receive_faults = 10;
}

pub record ReportExamples : Type 0 where
  -- chunks 0 and 2 of three, and none
  pub two : held_line 2 3 (record { first = 0; last = 0 } ∷ record { first = 2; last = 2 } ∷ []) ≡ codes "held 2 of 3 0-0,2-2\n"
  pub none : held_line 0 3 [] ≡ codes "held 0 of 3 none\n"
  -- a file that begins with a zero where a T is wanted
  pub other : not_a_store_line 3 0 84 ≡ codes "not a store: byte 3 is 0, wanted 84\n"
  -- the line of each count, in this order
  pub counts : tally_text thirty ≡
      codes "turns 30\ndatagrams 3\nsent 2\nstored 0\nkeepalives 0\nshort 0\nstranger 0\nrefused_handshakes 0\nno_seat 0\ncut 0\noutside 0\nnot_a_node 0\nfull 0\nchoked 0\nunheld 0\nmissing 0\nwrong 0\nrepeats 0\ndamaged 0\nread_faults 0\nsend_faults 0\nreceive_faults 10\n"
