-- What the definitions say of the small runs, by computation.
use Rattle.std.proofs.Common.{◌≡◌, ⊎_elim, ℕ, zero, suc, ◌/◌, ◌%◌, Option, eqb, ◌&&◌, Some, None, List, codes, refl, sym, ◌∙◌, ap, subst, arith}
use Rattle.std.proofs.lemmas.Bool.{and_parts, eqb-true, cases_Bool, cond-false}
use Rattle.std.specs.Fmt.{digits}
use Rattle.std.specs.Prelude.{slice_index_or}
use Rattle.sha2.specs.Sha256.{first_words, schedule, rounds, compress, hash_after, digest_bytes, sha256}
use Rattle.pp_terms.specs.command.Report.{held_line}
use Rattle.pp_terms.specs.command.Tally.{first_lines, other_lines}
use Rattle.pp_terms.specs.format.Messages.{spell, leaves_of, span_in, handshake_at, data_at, ack_at, integrity_at, span_at, address_at, message_at, next_message, messages_from, datagram}
use Rattle.pp_terms.specs.format.Mismatch.{mismatch_of}
use Rattle.pp_terms.specs.format.Options.{spelling_of, fault_at, read_from, read_options}
use Rattle.pp_terms.specs.tree.Claims.{Contradicts}
use Rattle.pp_terms.specs.tree.Proves.{climbed, peak_offset, Proves}
use Rattle.pp_terms.specs.tree.Tree.{above, height}
use Rattle.pp_promises.specs.Stored.{claimed_before, met_before}
use Rattle.pp_promises.specs.Missing.{incomplete_line}
use Rattle.pp_promises.specs.Runs as run
use Rattle.pp_promises.specs.Runs.{past, two, answered}
use Rattle.pp_promises.specs.RunExample.{sibling_book, other_book, proof_of_second, ServingExamples, PlanExamples, AnsweringExamples, TellingExamples, StoringExamples, FetchingExamples, OwnExamples, ReportExamples, BatchExamples}

pub serving : ServingExamples
unfolding spell leaves_of span_in handshake_at data_at ack_at integrity_at span_at address_at message_at next_message messages_from datagram spelling_of fault_at read_from read_options mismatch_of height
serving = record {
  served = (refl, refl);
  window = refl;
  served_more = (refl, refl);
  served_one = (refl, refl);
  served_none = (refl, refl);
  cancelled = refl;
  asked_early = (refl, refl);
  asked_again = refl;
  asked_at_once = (refl, refl);
  asked_too_often = (refl, refl);
}

pub plans : PlanExamples
unfolding spell leaves_of span_in handshake_at data_at ack_at integrity_at span_at address_at message_at next_message messages_from datagram spelling_of fault_at read_from read_options mismatch_of height
plans = record { first = refl; second = refl; third = refl }

pub answering : AnsweringExamples
unfolding spell leaves_of span_in handshake_at data_at ack_at integrity_at span_at address_at message_at next_message messages_from datagram spelling_of fault_at read_from read_options mismatch_of height
answering = record {
  let_in = refl;
  unanswered = refl;
  no_source = refl;
  no_newcomer = refl;
  choked = (refl, refl);
  nine = refl;
  unchoked = refl;
  silent = (refl, refl);
  kept = refl;
  closed = refl;
  closed_early = refl;
}

pub telling : TellingExamples
unfolding spell leaves_of span_in handshake_at data_at ack_at integrity_at span_at address_at message_at next_message messages_from datagram spelling_of fault_at read_from read_options mismatch_of height
telling = record {
  to_one = (refl, refl);
  late = refl;
  never = (refl, refl, refl);
  many = refl;
  few = refl;
  rest = refl;
  twice = refl;
  before = refl;
}

-- the digest that the chunk's own climb meets at its leaf
contradicted : Contradicts other_book (met_before two (answered 0) proof_of_second (past run.opened_two) run.hashes_of_two 1 (codes "abc"))
unfolding spell leaves_of span_in handshake_at data_at ack_at integrity_at span_at address_at message_at next_message messages_from datagram spelling_of fault_at read_from read_options mismatch_of height first_words schedule rounds compress hash_after digest_bytes sha256
contradicted = record {
  layer = 0;
  offset = 1;
  digest = sha256 (codes "abc");
  kept = _;
  is_met = refl;
  here = refl;
  other = λ e. let first : 2 ≡ 186 = ap (λ (xs : List ℕ). slice_index_or xs 0 0) e in omega (arith, first);
}

-- no climb meets the chunk's sibling
unmet : met_before two (answered 0) proof_of_second (past run.opened_two) run.hashes_of_two 1 (codes "abc") 0 0 ≡ None
unfolding spell leaves_of span_in handshake_at data_at ack_at integrity_at span_at address_at message_at next_message messages_from datagram spelling_of fault_at read_from read_options mismatch_of height
unmet = refl

agreed : Contradicts sibling_book (met_before two (answered 0) proof_of_second (past run.opened_two) run.hashes_of_two 1 (codes "abc")) → ⊥
agreed c = ⊎_elim
    (λ here.
    let parts = and_parts (eqb c.layer 0) (eqb c.offset 0) here in
    let at : met_before two (answered 0) proof_of_second (past run.opened_two) run.hashes_of_two 1 (codes "abc") 0 0 ≡ Some c.digest =
    subst (λ (j : ℕ). met_before two (answered 0) proof_of_second (past run.opened_two) run.hashes_of_two 1 (codes "abc") 0 j ≡ Some c.digest) (eqb-true c.offset 0 parts.1)
    (subst (λ (k : ℕ). met_before two (answered 0) proof_of_second (past run.opened_two) run.hashes_of_two 1 (codes "abc") k c.offset ≡ Some c.digest) (eqb-true c.layer 0 parts.0) c.is_met) in
    let never : None ≡ Some c.digest = sym unmet ∙ at in cc)
    (λ other. let never : None ≡ Some c.kept = sym (cond-false (eqb c.layer 0 && eqb c.offset 0) _ None other) ∙ c.here in cc)
    (cases_Bool (eqb c.layer 0 && eqb c.offset 0))

pub fetching : FetchingExamples
unfolding spell leaves_of span_in handshake_at data_at ack_at integrity_at span_at address_at message_at next_message messages_from datagram spelling_of fault_at read_from read_options mismatch_of height
fetching = record {
  both_dialled = refl;
  one_dialled = refl;
  asked = (refl, refl);
  too_few = (refl, refl);
  choked = refl;
  long_ago = (refl, refl);
}

pub own : OwnExamples
unfolding spell leaves_of span_in handshake_at data_at ack_at integrity_at span_at address_at message_at next_message messages_from datagram spelling_of fault_at read_from read_options mismatch_of height
own = record {
  outstanding = refl;
  waiting = refl;
  expired = refl;
  again = refl;
  choked = refl;
  lost = refl;
  overtaken_twice = refl;
  asked_again = refl;
  passed_by_earlier = refl;
  passed_by_lesser = refl;
  probed = (refl, refl, refl, refl);
  offered = refl;
  asked_next = (refl, refl, refl);
  full = (refl, refl);
  whole = (refl, refl, refl);
  read = (refl, refl, refl);
  proven = refl;
}

pub reports : ReportExamples
unfolding spell leaves_of span_in handshake_at data_at ack_at integrity_at span_at address_at message_at next_message messages_from datagram spelling_of fault_at read_from read_options mismatch_of height digits held_line first_lines other_lines incomplete_line
reports = record {
  lines = refl;
  incomplete = refl;
  tallied = record { turns = refl; datagrams = refl; sent = refl; short = refl; receive_faults = refl };
  requests_none = refl;
  requests_some = refl;
}

pub batches : BatchExamples
batches = record {
  after_63 = (refl, refl);
  after_64 = (refl, refl);
  after_65 = (refl, refl);
  quiet = (refl, refl);
  soon = refl;
  late = refl;
  all_in = refl;
}

-- above the first layer no node of two leaves is full
none_above : (k : ℕ) → above (suc (suc k)) 2 ≡ 0
none_above zero = refl
none_above (suc k) = ap (λ (n : ℕ). n / 2) (none_above k)

-- the climb of another chunk leads to another digest than the peak's
climbs_elsewhere : climbed (claimed_before two (answered 0) proof_of_second (past run.opened_two) run.hashes_of_two) 1 0 1 (sha256 (codes "abd"))
    ≡ claimed_before two (answered 0) proof_of_second (past run.opened_two) run.hashes_of_two 1 0 → ⊥
unfolding spell leaves_of span_in handshake_at data_at ack_at integrity_at span_at address_at message_at next_message messages_from datagram spelling_of fault_at read_from read_options mismatch_of height first_words schedule rounds compress hash_after digest_bytes sha256
climbs_elsewhere e = let never = ap first_byte e in cc
  where
    first_byte : Option (List ℕ) → ℕ
    first_byte None = 0
    first_byte (Some digest) = slice_index_or digest 0 0

unproved : Proves two (claimed_before two (answered 0) proof_of_second (past run.opened_two) run.hashes_of_two) 1 (codes "abd") → ⊥
unproved proof = at_layer proof.top proof.has_peak proof.to_peak
  where
    at_layer : (top : ℕ) → above top 2 % 2 ≡ 1
        → climbed (claimed_before two (answered 0) proof_of_second (past run.opened_two) run.hashes_of_two) top 0 1 (sha256 (codes "abd"))
        ≡ claimed_before two (answered 0) proof_of_second (past run.opened_two) run.hashes_of_two top (peak_offset top 2) → ⊥
    at_layer zero odd e = let never : 0 ≡ 1 = odd in omega (arith, never)
    at_layer (suc zero) odd e = climbs_elsewhere e
    at_layer (suc (suc k)) odd e = let none = none_above k in let never : 0 ≡ 1 = sym (ap (λ (n : ℕ). n % 2) none) ∙ odd in omega (arith, never)

pub storing : StoringExamples
unfolding spell leaves_of span_in handshake_at data_at ack_at integrity_at span_at address_at message_at next_message messages_from datagram spelling_of fault_at read_from read_options mismatch_of height
storing = record {
  claimed = refl;
  early = refl;
  crowded = (refl, refl);
  contradicts = contradicted;
  sibling = agreed;
  wrong = unproved;
  acknowledged = refl;
  acknowledged_late = refl;
  unacknowledged = refl;
  not_yet = refl;
}
