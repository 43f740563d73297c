-- Small runs, decided.
use Rattle.std.proofs.Common.{◌≡◌, ℕ, leb, true, List, length, refl}
use Rattle.std.proofs.lemmas.Bool.{leb-true}
use Rattle.pp_terms.specs.format.Messages.{spell, leaves_of, span_in, handshake_at, data_at, ack_at, integrity_at, span_at, address_at, message_at, next_message, messages_from, datagram}
use Rattle.pp_terms.specs.format.Mismatch.{mismatch_of}
use Rattle.pp_terms.specs.format.Options.{spelling_of, fault_at, read_from, read_options}
use Rattle.pp_terms.specs.format.Traffic.{Address, Record}
use Rattle.pp_terms.specs.format.Descriptor.{Descriptor}
use Rattle.pp_terms.specs.tree.Tree.{height}
use Rattle.pp_traffic.specs.Past.{now}
use Rattle.pp_traffic.specs.Turns.{in_turns}
use Rattle.pp_promises.specs.Answered.{wrote_lately, KeepsUp, KeepsUpBut}
use Rattle.pp_promises.specs.Asked.{DialsBut}
use Rattle.pp_promises.specs.LastTurn.{first_turn}
use Rattle.pp_promises.specs.Runs as run
use Rattle.pp_promises.specs.Runs.{past, both, seven, hundred}
use Rattle.pp_audit.specs.Channels.{each_plain}
use Rattle.pp_audit.specs.Dials.{misses}
use Rattle.pp_audit.specs.Ends.{fails_few}
use Rattle.pp_audit.specs.KeptTurns.{KeptTurns}
use Rattle.pp_audit.proofs.ChannelSearch.{search_finds_all}
use Rattle.pp_audit.proofs.Misses.{dials_decided}
use Rattle.pp_audit.proofs.TurnEnds.{ends_decided}

all_dialled : (d : Descriptor) (addresses : List Address) (records : List Record) → leb (length (misses d (first_turn (in_turns d records)) addresses)) 0 ≡ true
    → DialsBut 0 d addresses records
all_dialled d addresses records e =
    (dials_decided 0 d addresses records).0 (leb-true (length (misses d (first_turn (in_turns d records)) addresses)) 0 e)

kept_up_but : (r : ℕ) (d : Descriptor) (records : List Record)
    → fails_few r (λ records. each_plain (λ life. wrote_lately d life (now records) records) d records) (in_turns d records) ≡ true → KeepsUpBut r d records
kept_up_but r d records e =
    (ends_decided d (λ records. each_plain (λ life. wrote_lately d life (now records) records) d records) (KeepsUp d)
    (λ records. search_finds_all (λ life. wrote_lately d life (now records) records) d records) r records).0 e

pub kept_turns : KeptTurns
unfolding spell leaves_of span_in handshake_at data_at ack_at integrity_at span_at address_at message_at next_message messages_from datagram spelling_of fault_at read_from read_options mismatch_of height
kept_turns = record {
  dials = all_dialled hundred both (past run.dials_both) refl;
  dials_other = all_dialled hundred both (past run.dials_other) refl;
  keeps_up = kept_up_but 0 seven (past run.served_more) refl;
  keeps_up_yet = kept_up_but 0 seven (past run.not_yet_silent) refl;
  keeps_up_again = kept_up_but 0 seven (past run.kept_up) refl;
  excused = kept_up_but 1 seven (past run.left_silent) refl;
}
