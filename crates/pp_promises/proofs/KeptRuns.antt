-- Promises that small runs keep.
use Rattle.std.proofs.Common.{◌≡◌, inl, inr, ⊎_elim, ℕ, ◌<◌, leb, true, false, ◌&&◌, Some, List, [], ◌∷◌, ◌++◌, refl, subst, arith}
use Rattle.std.proofs.lemmas.Bool.{or_cases, and_parts, eqb-true, false≢true}
use Rattle.std.specs.List.{AllByRecursion}
use Rattle.pp_terms.specs.disk.Disk.{History}
use Rattle.pp_terms.specs.format.Messages.{spell, leaves_of, span_in, handshake_at, data_at, ack_at, integrity_at, span_at, address_at, message_at, next_message, messages_from, datagram}
use Rattle.pp_terms.specs.format.Mismatch.{mismatch_of}
use Rattle.pp_terms.specs.format.Options.{spelling_of, fault_at, read_from, read_options}
use Rattle.pp_terms.specs.format.Traffic.{Record, Received, Sent, same_address}
use Rattle.pp_terms.specs.tree.Book.{LookUp}
use Rattle.pp_terms.specs.tree.Tree.{height}
use Rattle.pp_traffic.specs.Asking.{is_heard}
use Rattle.pp_traffic.specs.Committed.{RequestsNone}
use Rattle.pp_traffic.specs.Life.{Life, comes_on}
use Rattle.pp_traffic.specs.Meter.{lets_send}
use Rattle.pp_traffic.specs.Story.{story}
use Rattle.pp_traffic.specs.Past.{read, is_number}
use Rattle.pp_traffic.specs.Turns.{AtEndsBut, ClosesLast}
use Rattle.pp_promises.specs.Stored.{StoresAll}
use Rattle.pp_promises.specs.Served.{LeavesFew}
use Rattle.pp_promises.specs.Announced.{AcknowledgesFirst, TellsOfHeld}
use Rattle.pp_promises.specs.Answered.{LetsInBut, ChokesNone, openings}
use Rattle.pp_promises.specs.Asked.{named_count, IsMissed, MayBeAsked, AsksOffered}
use Rattle.pp_promises.specs.Datagrams.{IsWhole}
use Rattle.pp_promises.specs.LastTurn.{first_turn}
use Rattle.pp_promises.specs.RunExample.{to_bob}
use Rattle.pp_promises.specs.KeptRuns.{KeptPromises}
use Rattle.pp_promises.specs.Runs as run
use Rattle.pp_promises.specs.Runs.{past, alice, bob, both, seven, hundred}

-- the peer's handshake, and the reply
abbrev knock : Record
knock = Received 1000000 alice (run.shake 0 9 [])

abbrev reply : Record
reply = Sent 1 alice (run.shake 9 7 (run.have 0 6 ∷ []))

knock_number : (read seven knock).channel ≡ Some 0
unfolding spell leaves_of span_in handshake_at data_at ack_at integrity_at span_at address_at message_at next_message messages_from datagram spelling_of fault_at read_from read_options mismatch_of height
knock_number = refl

-- no datagram for channel 0 is one for this peer's number
not_on : (life : Life) → 0 < life.local → comes_on seven life knock ≡ true → ⊥
not_on life some on =
    let parts = and_parts (same_address alice life.address) (is_number life.local (read seven knock).channel) on in
    let at = subst (λ c. is_number life.local c ≡ true) knock_number parts.1 in
    let zero_local : 0 ≡ life.local = eqb-true 0 life.local at in omega (arith, zero_local, some)

not_sent_on : (life : Life) → comes_on seven life reply ≡ true → ⊥
not_sent_on life on = false≢true on

unheard : (life : Life) → 0 < life.local → is_heard seven life (past run.opened) ≡ true → ⊥
unheard life some heard = ⊎_elim
    (λ last. not_sent_on life (and_parts (leb life.opening 1) (comes_on seven life reply) last).1)
    (λ rest. ⊎_elim
    (λ first. not_on life some (and_parts (leb life.opening 0) (comes_on seven life knock) first).1)
    (λ none. false≢true none)
    (or_cases (leb life.opening 0 && comes_on seven life knock) false rest))
    (or_cases (leb life.opening 1 && comes_on seven life reply) _ heard)

-- its two ends: before the first turn, and at the end of that one
ends_of_opened : (P : List Record → Type 0) → P (past run.opened) → P [] → AtEndsBut 0 seven P (past run.opened)
unfolding spell leaves_of span_in handshake_at data_at ack_at integrity_at span_at address_at message_at next_message messages_from datagram spelling_of fault_at read_from read_options mismatch_of height
ends_of_opened P last first = inl (last, inl (first, tt))

ends_of_served : (P : List Record → Type 0) → P (past run.opened) → P [] → AtEndsBut 1 seven P (past run.served_one)
unfolding spell leaves_of span_in handshake_at data_at ack_at integrity_at span_at address_at message_at next_message messages_from datagram spelling_of fault_at read_from read_options mismatch_of height
ends_of_served P opened first = inr (0, refl, inl (opened, inl (first, tt)))

few_at_first : (h : History) → LeavesFew 0 seven (lets_send 1024) h []
few_at_first h life may = absurd (false≢true may.heard)

few_at_opened : (h : History) → LeavesFew 0 seven (lets_send 1024) h (past run.opened)
few_at_opened h life may = absurd (unheard life may.plain.local_some may.heard)

few_of_one : (h : History) (records : List Record) → LeavesFew 0 seven (lets_send 1024) h records → LeavesFew 1 seven (lets_send 1024) h records
few_of_one h records few life may = let none = few life may in (none.0, omega (arith, none.1), none.2)

stores_none : (book : LookUp) (reads : List ℕ) → StoresAll seven book reads (past run.opened)
stores_none book reads = (
  λ life i bytes brings proved. absurd (not_sent_on life brings.comes),
  (λ life i bytes brings proved. absurd (not_on life brings.plain.local_some brings.comes), tt),
)

let_in : LetsInBut 0 seven (past run.opened)
unfolding spell leaves_of span_in handshake_at data_at ack_at integrity_at span_at address_at message_at next_message messages_from datagram spelling_of fault_at read_from read_options mismatch_of height
let_in = inl (refl, inl (refl, tt))

unchoked : ChokesNone 0 seven (past run.served_more)
unfolding spell leaves_of span_in handshake_at data_at ack_at integrity_at span_at address_at message_at next_message messages_from datagram spelling_of fault_at read_from read_options mismatch_of height
unchoked few = refl

nine : openings seven (past run.nine_opened) ≡ 9
unfolding spell leaves_of span_in handshake_at data_at ack_at integrity_at span_at address_at message_at next_message messages_from datagram spelling_of fault_at read_from read_options mismatch_of height
nine = refl

asks_none : RequestsNone seven (past run.served_more)
unfolding spell leaves_of span_in handshake_at data_at ack_at integrity_at span_at address_at message_at next_message messages_from datagram spelling_of fault_at read_from read_options mismatch_of height
asks_none = refl

all_whole : AllByRecursion (IsWhole seven) (past run.exchanged)
unfolding spell leaves_of span_in handshake_at data_at ack_at integrity_at span_at address_at message_at next_message messages_from datagram spelling_of fault_at read_from read_options mismatch_of height
all_whole = (record { numbered = refl; short = omega arith; to_end = refl }, (tt, (record { numbered = refl; short = omega arith; to_end = refl }, (tt, tt))))

closed_last : ClosesLast seven (past run.closed_up)
unfolding spell leaves_of span_in handshake_at data_at ack_at integrity_at span_at address_at message_at next_message messages_from datagram spelling_of fault_at read_from read_options mismatch_of height
closed_last = refl

thirty_two : named_count 100 (story hundred to_bob (past (run.dials_both ++ run.bob_replies ++ run.asks_bob 0 31))) ≡ 32
unfolding spell leaves_of span_in handshake_at data_at ack_at integrity_at span_at address_at message_at next_message messages_from datagram spelling_of fault_at read_from read_options mismatch_of height
thirty_two = refl

not_below : (n : ℕ) → n ≡ 32 → n < 32 → ⊥
not_below n e lt = omega (arith, e, lt)

asked_enough : MayBeAsked hundred to_bob (past (run.dials_both ++ run.bob_replies ++ run.asks_bob 0 31)) → ⊥
asked_enough may = not_below (named_count 100 (story hundred to_bob (past (run.dials_both ++ run.bob_replies ++ run.asks_bob 0 31)))) thirty_two may.room

wrote_first : IsMissed hundred both (first_turn (past run.dials_other)) bob → ⊥
wrote_first missed = let never : true ≡ false = missed.silent in cc

pub kept : KeptPromises
kept = record {
  lets_in = let_in;
  serves = λ h. ends_of_opened (LeavesFew 0 seven (lets_send 1024) h) (few_at_opened h) (few_at_first h);
  tells = λ h. ends_of_opened (TellsOfHeld seven h) (λ life plain heard i known. absurd (unheard life plain.local_some heard)) (λ life plain heard i known. absurd (false≢true heard));
  acknowledges = λ book. ends_of_opened (AcknowledgesFirst seven book) (λ quiet. absurd (false≢true quiet)) (λ quiet. absurd (false≢true quiet));
  stores = stores_none;
  asks = λ reads. ends_of_opened (AsksOffered seven _ reads) (λ life may i below offered. absurd (unheard life may.plain.local_some may.heard)) (λ life may i below offered. absurd (false≢true may.heard));
  excused = λ h. ends_of_served (LeavesFew 1 seven (lets_send 1024) h) (few_of_one h (past run.opened) (few_at_opened h)) (few_of_one h [] (few_at_first h));
  asked_enough = asked_enough;
  wrote_first = wrote_first;
  chokes_none = unchoked;
  chokes_ninth = λ few. absurd (omega (arith, nine, few));
  requests_none = asks_none;
  whole = all_whole;
  closes_last = closed_last;
}
