-- Promises that small runs break.
use lib.Count.{count_trailing_zeros}
use Rattle.std.proofs.Common.{◌≡◌, ◌⊎◌, inl, inr, leb, eqb, cond, not, ◌&&◌, ◌||◌, drop, map, replicate, sym, ◌∙◌, subst, ◌+◌, ◌<◌, ⊎_elim, ℕ, suc, ◌≤◌, Bool, true, false, Some, None, List, [], ◌∷◌, ◌++◌, length, take, refl, ap, arith}
use Rattle.std.proofs.lemmas.Bool.{or_parts, or_cases, eqb-true}
use Rattle.std.specs.Prelude.{codes, ◌==◌, count_by}
use Rattle.std.specs.List.{list_any}
use Rattle.sha2.specs.Sha256.{first_words, schedule, rounds, compress, hash_after, digest_bytes, sha256}
use Rattle.pp_terms.specs.tree.Book.{LookUp}
use Rattle.pp_terms.specs.disk.Disk.{DiskState, History}
use Rattle.pp_terms.specs.format.Traffic.{LinkState, Record, Received, Quiet, Sent}
use Rattle.pp_terms.specs.tree.Tree.{Node, height, empty_hash}
use Rattle.pp_terms.specs.tree.Claims.{Contradicts}
use Rattle.pp_terms.specs.tree.Range.{leaves_of}
use Rattle.pp_terms.specs.tree.Proves.{first_absent, last_layer, Proves}
use Rattle.pp_terms.specs.format.Messages as bins
use Rattle.pp_terms.specs.format.Messages.{spell, span_in, handshake_at, data_at, ack_at, integrity_at, span_at, address_at, message_at, next_message, messages_from, datagram, Message, Handshake, Data, Ack, Have, Integrity, Pex4, PexReq, Request, Cancel, Choke, Unchoke, Pex6, UnknownType}
use Rattle.pp_terms.specs.disk.Image.{holds}
use Rattle.pp_terms.specs.disk.Store.{header}
use Rattle.pp_terms.specs.format.Descriptor.{Descriptor}
use Rattle.pp_terms.specs.format.Options.{none, spelling_of, fault_at, read_from, read_options}
use Rattle.pp_terms.specs.format.Mismatch.{mismatch_of}
use Rattle.pp_terms.proofs.Claims.{latest_digests}
use Rattle.pp_traffic.specs.Claims.{claims_in}
use Rattle.pp_traffic.specs.Past.{now, read}
use Rattle.pp_traffic.specs.Life.{Life, greets, comes_on}
use Rattle.pp_traffic.specs.Story.{Line, Heard, Said, hear, say, heard_in, said_in, told, story}
use Rattle.pp_traffic.specs.Hashes.{told_by, is_told}
use Rattle.pp_traffic.specs.Laws.{plan}
use Rattle.pp_traffic.specs.Asking.{asked, is_heard}
use Rattle.pp_traffic.specs.Plain.{IsPlainNow, IsPlainUpTo}
use Rattle.pp_traffic.specs.Meter.{lets_send}
use Rattle.pp_traffic.specs.Keeping.{announces, StoodThroughout}
use Rattle.pp_traffic.specs.Turns.{is_closing, in_turns, ClosesLast, AtEndsOfTurnsBut, AtEndsBut, AtMost}
use Rattle.pp_promises.specs.LastTurn.{last_event, sent_since, earlier, first_turn}
use Rattle.pp_promises.specs.ReadStory.{with_unread, is_read, read_story, proven_story}
use Rattle.pp_promises.specs.OwnSide.{is_offered}
use Rattle.pp_promises.specs.Stored.{BringsChunk, claimed_before, met_before, StoresAll}
use Rattle.pp_promises.specs.Served.{MayBeServed, IsOwed, LeavesFew, ServesBut}
use Rattle.pp_promises.specs.Announced.{is_acknowledged, is_told_of, new_count, IsKnownOf, IsFirst, AcknowledgesFirst, AcknowledgesAll, TellsOfHeld, TellsAll}
use Rattle.pp_promises.specs.Answered.{is_let_in, openings, chokes, wrote_lately, LetsIn, LetsInBut, ChokesNone, KeepsUp, KeepsUpBut}
use Rattle.pp_promises.specs.Asked.{asks_for, IsMissed, MayBeAsked, AsksOffered, DialsBut, AsksBut}
use Rattle.pp_promises.specs.Datagrams.{is_read_told, IsReadToEnd, IsWhole, PlansAll}
use Rattle.pp_traffic.specs.Committed.{requests, AreCommitted, RequestsNone}
use Rattle.pp_traffic.specs.Tallied.{TookTurns, IsTallied}
use Rattle.pp_promises.specs.Batches.{CommitsInTime, after_commit}
use Rattle.pp_promises.specs.RunExample.{to_bob, quiet_tally, quiet_turns, empty, stored}
use Rattle.pp_promises.specs.BrokenRuns.{no_book, no_bytes, torn, pending_since}
use Rattle.pp_promises.specs.Runs as run
use Rattle.pp_promises.specs.Runs.{past, alice, bob, both, seven, hundred, two_hundred, two, answered, dialled, second}

-- at the last end of all, where none may fail, and no channel was closed
ends_now : (d : Descriptor) (P : List Record → Type 0) (records : List Record) → in_turns d records ≡ records → AtEndsBut 0 d P records → P records
ends_now d P records same ends = last_end (in_turns d records) same ends
  where
    last_end : (turns : List Record) → turns ≡ records → AtEndsOfTurnsBut 0 P turns → P records
    last_end turns e (inl both) = subst P e both.0
    last_end turns e (inr other) = absurd (let never : 0 ≡ suc other.0 = other.1 in omega (arith, never))

-- none has P, where none may
none_of : (P : ℕ → Type 0) (i : ℕ) → AtMost 0 P → P i → ⊥
none_of P i ([], few, all) p = let e : false ≡ true = all i p in absurd cc
none_of P i (x ∷ xs, few, all) p = absurd (omega (arith, few))

no_false : false ≡ true → ⊥
no_false e = absurd cc

served_plain : IsPlainNow seven (answered 0) (past run.served_one)
unfolding spell bins.leaves_of span_in handshake_at data_at ack_at integrity_at span_at address_at message_at next_message messages_from datagram spelling_of fault_at read_from read_options mismatch_of height
served_plain = record {
  local_some = omega arith;
  remote_some = omega arith;
  fresh = refl;
  begins = record { opened = refl; replied = refl; only_one = refl };
  open_still = refl;
  timely = refl;
}

served_may : MayBeServed seven (lets_send 1024) (answered 0) (past run.served_one)
unfolding spell bins.leaves_of span_in handshake_at data_at ack_at integrity_at span_at address_at message_at next_message messages_from datagram spelling_of fault_at read_from read_options mismatch_of height
served_may = record { plain = served_plain; unchoked = refl; heard = refl; few = omega arith; has_room = refl }

owed : (h : History) → IsOwed seven h (answered 0) (past run.served_one) 3
unfolding spell bins.leaves_of span_in handshake_at data_at ack_at integrity_at span_at address_at message_at next_message messages_from datagram spelling_of fault_at read_from read_options mismatch_of height
owed h = inl refl

served_turns : in_turns seven (past run.served_one) ≡ past run.served_one
unfolding spell bins.leaves_of span_in handshake_at data_at ack_at integrity_at span_at address_at message_at next_message messages_from datagram spelling_of fault_at read_from read_options mismatch_of height
served_turns = refl

pub serves : (h : History) → ServesBut 0 seven (lets_send 1024) h (past run.served_one) → ⊥
serves h s = none_of (IsOwed seven h (answered 0) (past run.served_one)) 3 (ends_now seven (LeavesFew 0 seven (lets_send 1024) h) (past run.served_one) served_turns s (answered 0) served_may) (owed h)

no_two : (x : ℕ) → list_any (λ k. k == 3) (x ∷ []) ≡ true → list_any (λ k. k == 4) (x ∷ []) ≡ true → ⊥
no_two x three four =
    let at_three : x ≡ 3 = eqb-true x 3 (⊎_elim (λ e. e) (λ e. absurd (no_false e)) (or_cases (x == 3) false three)) in
    let at_four : x ≡ 4 = eqb-true x 4 (⊎_elim (λ e. e) (λ e. absurd (no_false e)) (or_cases (x == 4) false four)) in
    omega (arith, at_three, at_four)

-- two have P, where one may
few_of : (P : ℕ → Type 0) → AtMost 1 P → P 3 → P 4 → ⊥
few_of P ([], few, all) three four = no_false (all 3 three)
few_of P (x ∷ [], few, all) three four = no_two x (all 3 three) (all 4 four)
few_of P (x ∷ y ∷ xs, few, all) three four = absurd (omega (arith, few))

owed_four : (h : History) → IsOwed seven h (answered 0) (past run.served_one) 4
unfolding spell bins.leaves_of span_in handshake_at data_at ack_at integrity_at span_at address_at message_at next_message messages_from datagram spelling_of fault_at read_from read_options mismatch_of height
owed_four h = inl refl

pub serves_but_one : (h : History) → LeavesFew 1 seven (lets_send 1024) h (past run.served_one) → ⊥
serves_but_one h s = few_of (IsOwed seven h (answered 0) (past run.served_one)) (s (answered 0) served_may) (owed h) (owed_four h)

abbrev stood_run : List Record
stood_run = run.opened_untold ++ run.asks_all

stood_plain : IsPlainNow seven (answered 0) (past stood_run)
unfolding spell bins.leaves_of span_in handshake_at data_at ack_at integrity_at span_at address_at message_at next_message messages_from datagram spelling_of fault_at read_from read_options mismatch_of height
stood_plain = record {
  local_some = omega arith;
  remote_some = omega arith;
  fresh = refl;
  begins = record { opened = refl; replied = refl; only_one = refl };
  open_still = refl;
  timely = refl;
}

stood_may : MayBeServed seven (lets_send 1024) (answered 0) (past stood_run)
unfolding spell bins.leaves_of span_in handshake_at data_at ack_at integrity_at span_at address_at message_at next_message messages_from datagram spelling_of fault_at read_from read_options mismatch_of height
stood_may = record { plain = stood_plain; unchoked = refl; heard = refl; few = omega arith; has_room = refl }

stood_asked : asked 3 (story seven (answered 0) (past stood_run)) ≡ true
unfolding spell bins.leaves_of span_in handshake_at data_at ack_at integrity_at span_at address_at message_at next_message messages_from datagram spelling_of fault_at read_from read_options mismatch_of height
stood_asked = refl

stood_turns : in_turns seven (past stood_run) ≡ past stood_run
unfolding spell bins.leaves_of span_in handshake_at data_at ack_at integrity_at span_at address_at message_at next_message messages_from datagram spelling_of fault_at read_from read_options mismatch_of height
stood_turns = refl

pub serves_stood : (h : History) → ((i : ℕ) → StoodThroughout seven h i) → ServesBut 0 seven (lets_send 1024) h (past stood_run) → ⊥
serves_stood h stood s = none_of (IsOwed seven h (answered 0) (past stood_run)) 3
    (ends_now seven (LeavesFew 0 seven (lets_send 1024) h) (past stood_run) stood_turns s (answered 0) stood_may) (inr (stood_asked, stood 3))

never_plain : IsPlainNow two_hundred (second 2) (past run.told_never)
unfolding spell bins.leaves_of span_in handshake_at data_at ack_at integrity_at span_at address_at message_at next_message messages_from datagram spelling_of fault_at read_from read_options mismatch_of height
never_plain = record {
  local_some = omega arith;
  remote_some = omega arith;
  fresh = refl;
  begins = record { opened = refl; replied = refl; only_one = refl };
  open_still = refl;
  timely = refl;
}

never_known : (h : History) → IsKnownOf two_hundred h (past run.told_never) 1
unfolding spell bins.leaves_of span_in handshake_at data_at ack_at integrity_at span_at address_at message_at next_message messages_from datagram spelling_of fault_at read_from read_options mismatch_of height
never_known h = inl refl

never_heard : is_heard two_hundred (second 2) (past run.told_never) ≡ true
unfolding spell bins.leaves_of span_in handshake_at data_at ack_at integrity_at span_at address_at message_at next_message messages_from datagram spelling_of fault_at read_from read_options mismatch_of height
never_heard = refl

never_told : is_told_of 1 (story two_hundred (second 2) (past run.told_never)) ≡ false
unfolding spell bins.leaves_of span_in handshake_at data_at ack_at integrity_at span_at address_at message_at next_message messages_from datagram spelling_of fault_at read_from read_options mismatch_of height
never_told = refl

never_new : new_count two_hundred (second 2) (past run.told_never) ≡ 0
unfolding spell bins.leaves_of span_in handshake_at data_at ack_at integrity_at span_at address_at message_at next_message messages_from datagram spelling_of fault_at read_from read_options mismatch_of height
never_new = refl

untold : (told : Bool) (new : ℕ) → told ≡ false → new ≡ 0 → (told ≡ true) ⊎ (64 ≤ new) → ⊥
untold told new no_told no_new (inl e) = absurd cc
untold told new no_told no_new (inr many) = absurd (omega (arith, no_new, many))

never_turns : in_turns two_hundred (past run.told_never) ≡ past run.told_never
unfolding spell bins.leaves_of span_in handshake_at data_at ack_at integrity_at span_at address_at message_at next_message messages_from datagram spelling_of fault_at read_from read_options mismatch_of height
never_turns = refl

pub tells : (h : History) → TellsAll two_hundred h (past run.told_never) → ⊥
tells h s = untold (is_told_of 1 (story two_hundred (second 2) (past run.told_never))) (new_count two_hundred (second 2) (past run.told_never)) never_told never_new
    (ends_now two_hundred (TellsOfHeld two_hundred h) (past run.told_never) never_turns s (second 2) never_plain never_heard 1 (never_known h))

twice_plain : IsPlainNow two_hundred (answered 0) (past run.told_twice)
unfolding spell bins.leaves_of span_in handshake_at data_at ack_at integrity_at span_at address_at message_at next_message messages_from datagram spelling_of fault_at read_from read_options mismatch_of height
twice_plain = record {
  local_some = omega arith;
  remote_some = omega arith;
  fresh = refl;
  begins = record { opened = refl; replied = refl; only_one = refl };
  open_still = refl;
  timely = refl;
}

twice_heard : is_heard two_hundred (answered 0) (past run.told_twice) ≡ true
unfolding spell bins.leaves_of span_in handshake_at data_at ack_at integrity_at span_at address_at message_at next_message messages_from datagram spelling_of fault_at read_from read_options mismatch_of height
twice_heard = refl

twice_told : is_told_of 198 (story two_hundred (answered 0) (past run.told_twice)) ≡ false
unfolding spell bins.leaves_of span_in handshake_at data_at ack_at integrity_at span_at address_at message_at next_message messages_from datagram spelling_of fault_at read_from read_options mismatch_of height
twice_told = refl

twice_new : new_count two_hundred (answered 0) (past run.told_twice) ≡ 0
unfolding spell bins.leaves_of span_in handshake_at data_at ack_at integrity_at span_at address_at message_at next_message messages_from datagram spelling_of fault_at read_from read_options mismatch_of height
twice_new = refl

twice_turns : in_turns two_hundred (past run.told_twice) ≡ past run.told_twice
unfolding spell bins.leaves_of span_in handshake_at data_at ack_at integrity_at span_at address_at message_at next_message messages_from datagram spelling_of fault_at read_from read_options mismatch_of height
twice_turns = refl

pub tells_again : (h : History) → ((i : ℕ) → StoodThroughout two_hundred h i) → TellsAll two_hundred h (past run.told_twice) → ⊥
tells_again h stood s = untold (is_told_of 198 (story two_hundred (answered 0) (past run.told_twice))) (new_count two_hundred (answered 0) (past run.told_twice)) twice_told twice_new
    (ends_now two_hundred (TellsOfHeld two_hundred h) (past run.told_twice) twice_turns s (answered 0) twice_plain twice_heard 198 (inr (stood 198)))

few_plain : IsPlainNow two_hundred (answered 0) (past run.told_63)
unfolding spell bins.leaves_of span_in handshake_at data_at ack_at integrity_at span_at address_at message_at next_message messages_from datagram spelling_of fault_at read_from read_options mismatch_of height
few_plain = record {
  local_some = omega arith;
  remote_some = omega arith;
  fresh = refl;
  begins = record { opened = refl; replied = refl; only_one = refl };
  open_still = refl;
  timely = refl;
}

few_heard : is_heard two_hundred (answered 0) (past run.told_63) ≡ true
unfolding spell bins.leaves_of span_in handshake_at data_at ack_at integrity_at span_at address_at message_at next_message messages_from datagram spelling_of fault_at read_from read_options mismatch_of height
few_heard = refl

few_told : is_told_of 126 (story two_hundred (answered 0) (past run.told_63)) ≡ false
unfolding spell bins.leaves_of span_in handshake_at data_at ack_at integrity_at span_at address_at message_at next_message messages_from datagram spelling_of fault_at read_from read_options mismatch_of height
few_told = refl

few_new : new_count two_hundred (answered 0) (past run.told_63) ≡ 63
unfolding spell bins.leaves_of span_in handshake_at data_at ack_at integrity_at span_at address_at message_at next_message messages_from datagram spelling_of fault_at read_from read_options mismatch_of height
few_new = refl

few_turns : in_turns two_hundred (past run.told_63) ≡ past run.told_63
unfolding spell bins.leaves_of span_in handshake_at data_at ack_at integrity_at span_at address_at message_at next_message messages_from datagram spelling_of fault_at read_from read_options mismatch_of height
few_turns = refl

too_few : (told : Bool) (new : ℕ) → told ≡ false → new ≡ 63 → (told ≡ true) ⊎ (64 ≤ new) → ⊥
too_few told new no_told no_new (inl e) = absurd cc
too_few told new no_told no_new (inr many) = absurd (omega (arith, no_new, many))

pub tells_few : (h : History) → ((i : ℕ) → StoodThroughout two_hundred h i) → TellsAll two_hundred h (past run.told_63) → ⊥
tells_few h stood s = too_few (is_told_of 126 (story two_hundred (answered 0) (past run.told_63))) (new_count two_hundred (answered 0) (past run.told_63)) few_told few_new
    (ends_now two_hundred (TellsOfHeld two_hundred h) (past run.told_63) few_turns s (answered 0) few_plain few_heard 126 (inr (stood 126)))

-- what came, and what was before it
abbrev q : Record
q = Received 1100000 alice (run.for 7 (run.hashes_of_two ++ run.second_chunk ∷ []))

proved_plain : IsPlainUpTo two (answered 0) (past run.opened_two) q
unfolding spell bins.leaves_of span_in handshake_at data_at ack_at integrity_at span_at address_at message_at next_message messages_from datagram spelling_of fault_at read_from read_options mismatch_of height
proved_plain = record {
  local_some = omega arith;
  remote_some = omega arith;
  fresh = refl;
  begins = record { opened = refl; replied = refl; only_one = refl };
  open_still = refl;
  timely = refl;
}

brings : BringsChunk two (answered 0) (past run.opened_two) q 1 (codes "abc")
unfolding spell bins.leaves_of span_in handshake_at data_at ack_at integrity_at span_at address_at message_at next_message messages_from datagram spelling_of fault_at read_from read_options mismatch_of height
brings = record { plain = proved_plain; comes = refl; front = run.hashes_of_two; sent_at = 0; rest = []; messages = refl; open_still = refl }

proves : Proves two (claimed_before two (answered 0) q (past run.opened_two) run.hashes_of_two) 1 (codes "abc")
unfolding spell bins.leaves_of span_in handshake_at data_at ack_at integrity_at span_at address_at message_at next_message messages_from datagram spelling_of fault_at read_from read_options mismatch_of height empty_hash first_absent last_layer first_words schedule rounds compress hash_after digest_bytes sha256 count_trailing_zeros
proves = record { whole = refl; digests = latest_digests (take 128 (claims_in 2 (hear 1100000 run.hashes_of_two (proven_story two (answered 0) (past run.opened_two))))) refl; peaks_known = refl; top = 1; has_peak = refl; below_it = refl; to_peak = refl; to_root = refl }

-- a book without an entry contradicts nothing
agrees : (meets : LookUp) → Contradicts no_book meets → ⊥
agrees meets c = let e : None ≡ Some c.kept = c.here in absurd cc

unheld : holds two no_bytes 1 ≡ false
unfolding spell bins.leaves_of span_in handshake_at data_at ack_at integrity_at span_at address_at message_at next_message messages_from datagram spelling_of fault_at read_from read_options mismatch_of height empty_hash first_absent last_layer first_words schedule rounds compress hash_after digest_bytes sha256 count_trailing_zeros header
unheld = refl

unstored : (held : Bool) (meets : LookUp) → held ≡ false → (held ≡ true) ⊎ Contradicts no_book meets → ⊥
unstored held meets not_held (inl e) = absurd cc
unstored held meets not_held (inr c) = agrees meets c

pub stores : StoresAll two no_book no_bytes (past run.proved) → ⊥
unfolding brings
stores s = unstored (holds two no_bytes 1) (met_before two (answered 0) q (past run.opened_two) run.hashes_of_two 1 (codes "abc")) unheld (s.0 (answered 0) 1 (codes "abc") brings proves)

abbrev dial : List Record
dial = Sent 1 alice (run.shake_two 0 7 []) ∷ Quiet 1000000 ∷ []

abbrev reply : Record
reply = Received 1100000 alice (run.shake_two 7 9 (run.hashes_of_two ++ run.second_chunk ∷ []))

dial_plain : IsPlainUpTo two (dialled 1) dial reply
unfolding spell bins.leaves_of span_in handshake_at data_at ack_at integrity_at span_at address_at message_at next_message messages_from datagram spelling_of fault_at read_from read_options mismatch_of height
dial_plain = record {
  local_some = omega arith;
  remote_some = omega arith;
  fresh = refl;
  begins = record { opened = refl; replied = refl };
  open_still = refl;
  timely = refl;
}

abbrev reply_front : List Message
reply_front = Handshake 9 (record none { swarm = Some run.root_of_two }) ∷ run.hashes_of_two

dial_brings : BringsChunk two (dialled 1) dial reply 1 (codes "abc")
unfolding spell bins.leaves_of span_in handshake_at data_at ack_at integrity_at span_at address_at message_at next_message messages_from datagram spelling_of fault_at read_from read_options mismatch_of height
dial_brings = record { plain = dial_plain; comes = refl; front = reply_front; sent_at = 0; rest = []; messages = refl; open_still = refl }

dial_proves : Proves two (claimed_before two (dialled 1) reply dial reply_front) 1 (codes "abc")
unfolding spell bins.leaves_of span_in handshake_at data_at ack_at integrity_at span_at address_at message_at next_message messages_from datagram spelling_of fault_at read_from read_options mismatch_of height empty_hash first_absent last_layer first_words schedule rounds compress hash_after digest_bytes sha256 count_trailing_zeros
dial_proves = record { whole = refl; digests = latest_digests (take 128 (claims_in 2 (hear 1100000 reply_front (proven_story two (dialled 1) dial)))) refl; peaks_known = refl; top = 1; has_peak = refl; below_it = refl; to_peak = refl; to_root = refl }

pub stores_dialled : StoresAll two no_book no_bytes (past run.dialled_two) → ⊥
unfolding dial_brings
stores_dialled s = unstored (holds two no_bytes 1) (met_before two (dialled 1) reply dial reply_front 1 (codes "abc")) unheld (s.0 (dialled 1) 1 (codes "abc") dial_brings dial_proves)

ack_plain : IsPlainNow two (answered 0) (past run.unacknowledged)
unfolding spell bins.leaves_of span_in handshake_at data_at ack_at integrity_at span_at address_at message_at next_message messages_from datagram spelling_of fault_at read_from read_options mismatch_of height
ack_plain = record {
  local_some = omega arith;
  remote_some = omega arith;
  fresh = refl;
  begins = record { opened = refl; replied = refl; only_one = refl };
  open_still = refl;
  timely = refl;
}

first : IsFirst two no_book (answered 0) (past run.opened_two) q 1 (codes "abc")
unfolding spell bins.leaves_of span_in handshake_at data_at ack_at integrity_at span_at address_at message_at next_message messages_from datagram spelling_of fault_at read_from read_options mismatch_of height brings
first = record {
  brings = brings;
  proved = proves;
  agrees = agrees (met_before two (answered 0) q (past run.opened_two) run.hashes_of_two 1 (codes "abc"));
  none_before = refl;
  none_in_front = refl;
}

not_acknowledged : is_acknowledged 1 (story two (answered 0) (past run.unacknowledged)) ≡ false
unfolding spell bins.leaves_of span_in handshake_at data_at ack_at integrity_at span_at address_at message_at next_message messages_from datagram spelling_of fault_at read_from read_options mismatch_of height
not_acknowledged = refl

ack_turns : in_turns two (past run.unacknowledged) ≡ past run.unacknowledged
unfolding spell bins.leaves_of span_in handshake_at data_at ack_at integrity_at span_at address_at message_at next_message messages_from datagram spelling_of fault_at read_from read_options mismatch_of height
ack_turns = refl

pub acknowledges : AcknowledgesAll two no_book (past run.unacknowledged) → ⊥
acknowledges s =
    let e : is_acknowledged 1 (story two (answered 0) (past run.unacknowledged)) ≡ true =
    (ends_now two (AcknowledgesFirst two no_book) (past run.unacknowledged) ack_turns s refl).0 (answered 0) 1 (codes "abc") first ack_plain in
    let e' = not_acknowledged in absurd cc

knocked : is_let_in seven (last_event (past run.unanswered)) (sent_since (past run.unanswered)) (earlier (past run.unanswered)) ≡ false
unfolding spell bins.leaves_of span_in handshake_at data_at ack_at integrity_at span_at address_at message_at next_message messages_from datagram spelling_of fault_at read_from read_options mismatch_of height
knocked = refl

knock_turns : in_turns seven (past run.unanswered) ≡ past run.unanswered
unfolding spell bins.leaves_of span_in handshake_at data_at ack_at integrity_at span_at address_at message_at next_message messages_from datagram spelling_of fault_at read_from read_options mismatch_of height
knock_turns = refl

pub lets_in : LetsInBut 0 seven (past run.unanswered) → ⊥
lets_in s = let e = ends_now seven (LetsIn seven) (past run.unanswered) knock_turns s in let e' = knocked in absurd cc

choked : list_any (chokes seven) (past run.choked_at_once) ≡ true
unfolding spell bins.leaves_of span_in handshake_at data_at ack_at integrity_at span_at address_at message_at next_message messages_from datagram spelling_of fault_at read_from read_options mismatch_of height
choked = refl

one_opening : openings seven (past run.choked_at_once) ≡ 1
unfolding spell bins.leaves_of span_in handshake_at data_at ack_at integrity_at span_at address_at message_at next_message messages_from datagram spelling_of fault_at read_from read_options mismatch_of height
one_opening = refl

pub chokes_none : ChokesNone 0 seven (past run.choked_at_once) → ⊥
chokes_none s = let e = s (omega (arith, one_opening)) in let e' = choked in absurd cc

silent_plain : IsPlainNow seven (answered 0) (past run.left_silent)
unfolding spell bins.leaves_of span_in handshake_at data_at ack_at integrity_at span_at address_at message_at next_message messages_from datagram spelling_of fault_at read_from read_options mismatch_of height
silent_plain = record {
  local_some = omega arith;
  remote_some = omega arith;
  fresh = refl;
  begins = record { opened = refl; replied = refl; only_one = refl };
  open_still = refl;
  timely = refl;
}

silent : wrote_lately seven (answered 0) (now (past run.left_silent)) (past run.left_silent) ≡ false
unfolding spell bins.leaves_of span_in handshake_at data_at ack_at integrity_at span_at address_at message_at next_message messages_from datagram spelling_of fault_at read_from read_options mismatch_of height
silent = refl

silent_turns : in_turns seven (past run.left_silent) ≡ past run.left_silent
unfolding spell bins.leaves_of span_in handshake_at data_at ack_at integrity_at span_at address_at message_at next_message messages_from datagram spelling_of fault_at read_from read_options mismatch_of height
silent_turns = refl

pub keeps_up : KeepsUpBut 0 seven (past run.left_silent) → ⊥
keeps_up s = let e = ends_now seven (KeepsUp seven) (past run.left_silent) silent_turns s (answered 0) silent_plain in let e' = silent in absurd cc

closed_turns : in_turns seven (past run.closed_silent) ≡ in_turns seven (past run.left_silent)
unfolding spell bins.leaves_of span_in handshake_at data_at ack_at integrity_at span_at address_at message_at next_message messages_from datagram spelling_of fault_at read_from read_options mismatch_of height
closed_turns = refl

pub keeps_up_closed : KeepsUpBut 0 seven (past run.closed_silent) → ⊥
keeps_up_closed s = keeps_up (subst (AtEndsOfTurnsBut 0 (KeepsUp seven)) closed_turns s)

missed : IsMissed hundred both (first_turn (in_turns hundred (past run.dials_one))) bob
unfolding spell bins.leaves_of span_in handshake_at data_at ack_at integrity_at span_at address_at message_at next_message messages_from datagram spelling_of fault_at read_from read_options mismatch_of height
missed = record { given = refl; undialled = refl; silent = refl }

pub dials : DialsBut 0 hundred both (past run.dials_one) → ⊥
dials ([], few, all) = no_false (all bob missed)
dials (x ∷ xs, few, all) = absurd (omega (arith, few))

asks_plain : IsPlainNow hundred to_bob (past run.asks_too_few)
unfolding spell bins.leaves_of span_in handshake_at data_at ack_at integrity_at span_at address_at message_at next_message messages_from datagram spelling_of fault_at read_from read_options mismatch_of height
asks_plain = record {
  local_some = omega arith;
  remote_some = omega arith;
  fresh = refl;
  begins = record { opened = refl; replied = refl };
  open_still = refl;
  timely = refl;
}

may_ask : MayBeAsked hundred to_bob (past run.asks_too_few)
unfolding spell bins.leaves_of span_in handshake_at data_at ack_at integrity_at span_at address_at message_at next_message messages_from datagram spelling_of fault_at read_from read_options mismatch_of height
may_ask = record { plain = asks_plain; heard = refl; unchoked = refl; fresh = refl; room = omega arith }

offered : is_offered 31 (story hundred to_bob (past run.asks_too_few)) ≡ true
unfolding spell bins.leaves_of span_in handshake_at data_at ack_at integrity_at span_at address_at message_at next_message messages_from datagram spelling_of fault_at read_from read_options mismatch_of height
offered = refl

not_asked : list_any (asks_for hundred 31) (past run.asks_too_few) ≡ false
unfolding spell bins.leaves_of span_in handshake_at data_at ack_at integrity_at span_at address_at message_at next_message messages_from datagram spelling_of fault_at read_from read_options mismatch_of height
not_asked = refl

not_held : holds hundred no_bytes 31 ≡ false
unfolding spell bins.leaves_of span_in handshake_at data_at ack_at integrity_at span_at address_at message_at next_message messages_from datagram spelling_of fault_at read_from read_options mismatch_of height empty_hash first_absent last_layer first_words schedule rounds compress hash_after digest_bytes sha256 count_trailing_zeros header
not_held = refl

neither : (x y : Bool) → x ≡ false → y ≡ false → (x ≡ true) ⊎ (y ≡ true) → ⊥
neither x y no_x no_y (inl e) = absurd cc
neither x y no_x no_y (inr e) = absurd cc

asks_turns : in_turns hundred (past run.asks_too_few) ≡ past run.asks_too_few
unfolding spell bins.leaves_of span_in handshake_at data_at ack_at integrity_at span_at address_at message_at next_message messages_from datagram spelling_of fault_at read_from read_options mismatch_of height
asks_turns = refl

pub asks : AsksBut 0 hundred no_bytes (past run.asks_too_few) → ⊥
asks s = neither (list_any (asks_for hundred 31) (past run.asks_too_few)) (holds hundred no_bytes 31) not_asked not_held
    (ends_now hundred (AsksOffered hundred 100 no_bytes) (past run.asks_too_few) asks_turns s to_bob may_ask 31 (omega arith) offered)

fetches : list_any (requests hundred) (past run.fetching) ≡ true
unfolding spell bins.leaves_of span_in handshake_at data_at ack_at integrity_at span_at address_at message_at next_message messages_from datagram spelling_of fault_at read_from read_options mismatch_of height
fetches = refl

pub requests_none : RequestsNone hundred (past run.fetching) → ⊥
requests_none s = let e = fetches in absurd cc

torn_fault : (read seven torn).messages.fault ≡ Some (13, UnknownType 13)
unfolding spell bins.leaves_of span_in handshake_at data_at ack_at integrity_at span_at address_at message_at next_message messages_from datagram spelling_of fault_at read_from read_options mismatch_of height
torn_fault = refl

pub whole : IsWhole seven torn → ⊥
whole s = let e = s.to_end in let e' = torn_fault in absurd cc

pub long : (r : Record) (bytes : List ℕ) → length bytes ≡ 16385 → IsReadToEnd seven r bytes → ⊥
long r bytes e s = let short = s.short in omega (arith, e, short)

closed : list_any (is_closing seven) (in_turns seven (past run.closed_early)) ≡ true
unfolding spell bins.leaves_of span_in handshake_at data_at ack_at integrity_at span_at address_at message_at next_message messages_from datagram spelling_of fault_at read_from read_options mismatch_of height
closed = refl

pub closes_last : ClosesLast seven (past run.closed_early) → ⊥
closes_last s = let e = closed in absurd cc

pub plans : PlansAll seven (lets_send 1024) (past run.first_sent) → ⊥
unfolding spell bins.leaves_of span_in handshake_at data_at ack_at integrity_at span_at address_at message_at next_message messages_from datagram spelling_of fault_at read_from read_options mismatch_of height
plans s = let e : false ≡ true = s.0.0.plans.answers.alive.greeted in no_false e

full : length (stored 65).pending ≡ 1
full = refl

pub batches : CommitsInTime true [] 1000000 (stored 65) (stored 65) → ⊥
batches s = let e : (stored 65).pending ≡ [] = s.settled refl in let e' : 1 ≡ 0 = ap length e in absurd (omega (arith, e'))

pub batches_early : CommitsInTime false (0 ∷ []) 0 empty (after_commit (stored 1)) → ⊥
batches_early s = let e : (after_commit (stored 1)).committed ≡ empty.committed = s.waits refl refl in
    let e' : 1 ≡ 0 = ap (λ (xs : List Bool). count_by (λ x. x) xs) e in absurd (omega (arith, e'))

pub batches_lost : CommitsInTime false (0 ∷ []) 0 empty empty → ⊥
batches_lost s = let e : false ≡ true = s.keeps 0 (omega arith) in absurd cc

pub batches_forgotten : CommitsInTime false [] 0 (after_commit (stored 1)) (stored 1) → ⊥
batches_forgotten s = let e : false ≡ true = s.stays 0 (omega arith) refl in absurd cc

pub batches_reset : CommitsInTime false [] 50000 (pending_since 0) (pending_since 50000) → ⊥
batches_reset s = let e : false ≡ true = s.since in absurd cc

-- ---- what nobody has told

-- a HAVE or an ACK
abbrev tells_any : Message → Bool
tells_any (Have span) = true
tells_any (Ack span delay) = true
tells_any _ = false

-- a datagram that came has one
abbrev tells_in : Descriptor → Record → Bool
tells_in d (Received at sender bytes) = list_any tells_any (read d (Received at sender bytes)).messages.read
tells_in d (Quiet at) = false
tells_in d (Sent moment receiver bytes) = false

none_told : (chunks : ℕ) (n : Node) (m : Message) (told : Bool) → tells_any m ≡ false → told ≡ false → (told_by chunks n m || told) ≡ false
none_told chunks n (Have span) told e e' = absurd cc
none_told chunks n (Ack span delay) told e e' = absurd cc
none_told chunks n (Handshake source options) told e e' = e'
none_told chunks n (Data chunk sent_at bytes) told e e' = e'
none_told chunks n (Integrity span digest) told e e' = e'
none_told chunks n (Pex4 address port) told e e' = e'
none_told chunks n PexReq told e e' = e'
none_told chunks n (Request span) told e e' = e'
none_told chunks n (Cancel span) told e e' = e'
none_told chunks n Choke told e e' = e'
none_told chunks n Unchoke told e e' = e'
none_told chunks n (Pex6 address port) told e e' = e'

hear_none : (chunks at : ℕ) (n : Node) (ms : List Message) (s : List Line) → list_any tells_any ms ≡ false → is_told chunks s n ≡ false → is_told chunks (hear at ms s) n ≡ false
hear_none chunks at n [] s e e' = e'
hear_none chunks at n (m ∷ ms) s e e' = let parts = or_parts (tells_any m) (list_any tells_any ms) e in
    hear_none chunks at n ms (Heard at m ∷ s) parts.1 (none_told chunks n m (is_told chunks s n) parts.0 e')

say_none : (chunks at : ℕ) (n : Node) (ms : List Message) (s : List Line) → is_told chunks s n ≡ false → is_told chunks (say at ms s) n ≡ false
say_none chunks at n [] s e = e
say_none chunks at n (m ∷ ms) s e = say_none chunks at n ms (Said at m ∷ s) e

drop_none : (ms : List Message) → list_any tells_any ms ≡ false → list_any tells_any (drop 1 ms) ≡ false
drop_none [] e = refl
drop_none (m ∷ ms) e = (or_parts (tells_any m) (list_any tells_any ms) e).1

heard_none : (x y : Bool) (ms : List Message) → list_any tells_any ms ≡ false → list_any tells_any (cond x (drop 1 ms) (cond y ms [])) ≡ false
heard_none true y ms e = drop_none ms e
heard_none false true ms e = e
heard_none false false ms e = refl

told_none : (d : Descriptor) (life : Life) (chunks : ℕ) (o : Bool) (at : ℕ) (n : Node) (r : Record) (s : List Line) → tells_in d r ≡ false → is_told chunks s n ≡ false
    → is_told chunks (told d life o at r s) n ≡ false
told_none d life chunks o at n (Received a sender bytes) s e e' = hear_none chunks at n (heard_in d life o (Received a sender bytes)) s
    (heard_none (o && not life.is_dialled && greets d life (Received a sender bytes)) (comes_on d life (Received a sender bytes)) (read d (Received a sender bytes)).messages.read e) e'
told_none d life chunks o at n (Quiet a) s e e' = e'
told_none d life chunks o at n (Sent moment receiver bytes) s e e' = say_none chunks at n (said_in d life (Sent moment receiver bytes)) s e'

unread_none : (d : Descriptor) (life : Life) (chunks : ℕ) (o : Bool) (at : ℕ) (n : Node) (r : Record) (s : List Line) → is_told chunks s n ≡ false
    → is_told chunks (with_unread d life o at r s) n ≡ false
unread_none d life chunks o at n (Received a sender bytes) s e' = e'
unread_none d life chunks o at n (Quiet a) s e' = e'
unread_none d life chunks o at n (Sent moment receiver bytes) s e' = say_none chunks at n (said_in d life (Sent moment receiver bytes)) s e'

nothing_told : (d : Descriptor) (life : Life) (chunks : ℕ) (n : Node) (records : List Record) → list_any (tells_in d) records ≡ false → is_told chunks (read_story d life records) n ≡ false
nothing_told d life chunks n [] e = refl
nothing_told d life chunks n (r ∷ b) e = pick (leb life.opening (length b)) (is_read d life (r ∷ b)) (nothing_told d life chunks n b parts.1)
  where
    parts : (tells_in d r ≡ false) × (list_any (tells_in d) b ≡ false)
    parts = or_parts (tells_in d r) (list_any (tells_in d) b) e

    pick : (x y : Bool) → is_told chunks (read_story d life b) n ≡ false
        → is_told chunks (cond x (cond y (told d life (eqb life.opening (length b)) (now (r ∷ b)) r (read_story d life b))
        (with_unread d life (eqb life.opening (length b)) (now (r ∷ b)) r (read_story d life b))) []) n ≡ false
    pick true true ih = told_none d life chunks (eqb life.opening (length b)) (now (r ∷ b)) n r (read_story d life b) parts.0 ih
    pick true false ih = unread_none d life chunks (eqb life.opening (length b)) (now (r ∷ b)) n r (read_story d life b) ih
    pick false y ih = refl

none_tells : list_any (tells_in seven) (past run.served_none) ≡ false
unfolding spell bins.leaves_of span_in handshake_at data_at ack_at integrity_at span_at address_at message_at next_message messages_from datagram spelling_of fault_at read_from read_options mismatch_of height
none_tells = refl

-- five hashes, whoever the chunk is sent to
five : (life : Life) → length (map leaves_of (plan 7 (is_read_told seven life (past run.served_none)) 0)) ≡ 5
unfolding spell bins.leaves_of span_in handshake_at data_at ack_at integrity_at span_at address_at message_at next_message messages_from datagram spelling_of fault_at read_from read_options mismatch_of height
five life = subst (λ (told : Node → Bool). length (map leaves_of (plan 7 told 0)) ≡ 5)
    (let p : (n : Node) → false ≡ is_read_told seven life (past run.served_none) n = λ n. sym (nothing_told seven life 7 n (past run.served_none) none_tells) in λ i n. p n i) refl

pub plans_more : PlansAll seven (lets_send 1024) (past (run.served_none ++ run.sends (run.hash 0 0 ∷ run.path_of_first ++ run.chunk 0 ∷ []))) → ⊥
unfolding spell bins.leaves_of span_in handshake_at data_at ack_at integrity_at span_at address_at message_at next_message messages_from datagram spelling_of fault_at read_from read_options mismatch_of height
plans_more s = let e : 6 ≡ length (map leaves_of (plan 7 (is_read_told seven s.0.0.life (past run.served_none)) 0)) = ap length s.0.0.plans.exact in
    let e' = five s.0.0.life in let never : 6 ≡ 5 = e ∙ e' in absurd (omega (arith, never))

pub plans_less : PlansAll seven (lets_send 1024) (past (run.served_none ++ run.sends (drop 1 run.path_of_first ++ run.chunk 0 ∷ []))) → ⊥
unfolding spell bins.leaves_of span_in handshake_at data_at ack_at integrity_at span_at address_at message_at next_message messages_from datagram spelling_of fault_at read_from read_options mismatch_of height
plans_less s = let e : 4 ≡ length (map leaves_of (plan 7 (is_read_told seven s.0.0.life (past run.served_none)) 0)) = ap length s.0.0.plans.exact in
    let e' = five s.0.0.life in let never : 4 ≡ 5 = e ∙ e' in absurd (omega (arith, never))

announced : announces 1 (read seven (Sent 1 alice (run.shake 9 7 (run.have 0 6 ∷ [])))).messages.read ≡ true
unfolding spell bins.leaves_of span_in handshake_at data_at ack_at integrity_at span_at address_at message_at next_message messages_from datagram spelling_of fault_at read_from read_options mismatch_of height
announced = refl

pub committed : (disk : DiskState) → AreCommitted seven disk (past run.opened) (replicate 7 false) → ⊥
committed disk s = let e : false ≡ true = s.announced.0 1 announced in no_false e

pub took : (seen : LinkState) → seen.faults ≡ 0 → TookTurns 3 seen seen (past quiet_turns) → ⊥
took seen none s = ⊎_elim
    (λ zero_refused. let each : 2 + s.refused ≡ 3 = s.each in omega (arith, each, zero_refused))
    (λ risen. let lt : seen.faults < seen.faults = risen (omega (arith, none)) in omega (arith, lt))
    s.why

pub tallied : IsTallied quiet_tally 3 (past run.opened) → ⊥
tallied s = let e : 0 ≡ 1 = s.datagrams in omega (arith, e)
