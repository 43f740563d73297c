-- What the definitions say of the small runs, and of runs that differ in one thing.
use Rattle.std.specs.Prelude.{◌≡◌, ℕ, ◌==◌, Bool, true, false, ◌&&◌, Some, None, List, [], ◌∷◌, ◌++◌, length, map, filter, replicate, count_by, codes, if◌then◌else◌}
use Rattle.std.specs.List.{list_any, range_with_len}
use Rattle.pp_terms.specs.command.Report.{held_line}
use Rattle.pp_terms.specs.command.Tally.{Tally, tally_text}
use Rattle.pp_terms.specs.format.Traffic.{Address, Record, Received, Quiet}
use Rattle.pp_terms.specs.tree.Book.{LookUp}
use Rattle.pp_terms.specs.tree.Claims.{Contradicts}
use Rattle.pp_terms.specs.tree.Proves.{Proves}
use Rattle.pp_terms.specs.tree.Range.{Span, leaves_of}
use Rattle.pp_traffic.specs.Asking.{asked, asks_in, is_heard}
use Rattle.pp_traffic.specs.Claims.{claims_in}
use Rattle.pp_traffic.specs.Committed.{requests}
use Rattle.pp_traffic.specs.Laws.{plan}
use Rattle.pp_traffic.specs.Life.{Life}
use Rattle.pp_traffic.specs.Meter.{meter, lets_send}
use Rattle.pp_traffic.specs.Past.{now}
use Rattle.pp_traffic.specs.Story.{story}
use Rattle.pp_traffic.specs.Tallied.{IsTallied}
use Rattle.pp_traffic.specs.Turns.{is_closing, in_turns}
use Rattle.pp_promises.specs.LastTurn.{last_event, sent_since, earlier, is_quiet, first_turn}
use Rattle.pp_promises.specs.ReadStory.{read_story, proven_story}
use Rattle.pp_promises.specs.OwnSide.{is_choked_by_peer, is_offered, has_old_request, Asking, asking, may_ask}
use Rattle.pp_promises.specs.Stored.{claimed_before, met_before}
use Rattle.pp_promises.specs.Served.{is_announced, is_owed}
use Rattle.pp_promises.specs.Announced.{is_acknowledged, is_told_of, new_count}
use Rattle.pp_promises.specs.Answered.{is_let_in, openings, chokes, wrote_lately}
use Rattle.pp_promises.specs.Asked.{dials, named_count, asks_for}
use Rattle.pp_promises.specs.Datagrams.{hash_spans, is_read_told}
use Rattle.pp_promises.specs.Batches.{Batch, after_event}
use Rattle.pp_promises.specs.Missing.{incomplete_line}
use Rattle.pp_promises.specs.Runs as run
use Rattle.pp_promises.specs.Runs.{past, alice, bob, seven, hundred, two_hundred, two, span, answered, dialled, second}

-- ---- serving seven chunks on the first channel

-- which chunks are owed, and which are asked for
abbrev pub owed_in : List Record → List ℕ
owed_in records = filter (λ i. is_owed seven (answered 0) i (past records)) (range_with_len 0 7)

abbrev pub asked_in : List Record → List ℕ
asked_in records = filter (λ i. asked i (story seven (answered 0) (past records))) (range_with_len 0 7)

-- the window lets a chunk more be sent
abbrev pub lets_one : List Record → Bool
lets_one records = lets_send 1024 (story seven (answered 0) (past records))

pub record ServingExamples : Type 0 where
  -- two chunks fly, and the window has room for no more; then three more fly
  pub served : (owed_in run.served ≡ 2 ∷ 3 ∷ 4 ∷ 5 ∷ 6 ∷ []) × (lets_one run.served ≡ false)
  pub window : (meter 1024 (story seven (answered 0) (past (run.served ++ run.cancels)))).window ≡ 3072
  pub served_more : (owed_in run.served_more ≡ 6 ∷ []) × (lets_one run.served_more ≡ false)
  -- one alone is sent, or none
  pub served_one : (owed_in run.served_one ≡ 1 ∷ 2 ∷ 3 ∷ 4 ∷ 5 ∷ 6 ∷ []) × (lets_one run.served_one ≡ true)
  pub served_none : (owed_in run.served_none ≡ range_with_len 0 7) × (lets_one run.served_none ≡ true)
  -- what is cancelled isn't owed
  pub cancelled : owed_in run.all_cancelled ≡ []
  -- a request before the chunk was announced doesn't count, and one behind that does
  pub asked_early : (owed_in run.asked_early ≡ []) × (asked_in run.asked_early ≡ range_with_len 0 7)
  pub asked_again : owed_in run.asked_again ≡ 3 ∷ []
  -- an address that isn't proven; and more messages than there is room for
  pub asked_at_once : (asked_in run.asked_at_once ≡ range_with_len 0 7) × (is_heard seven (answered 0) (past run.asked_at_once) ≡ false)
  pub asked_too_often : (owed_in run.asked_too_often ≡ 2 ∷ []) × (asks_in (story seven (answered 0) (past run.asked_too_often)) ≡ 65)

-- the spans of the hashes that a chunk needs on the first channel
abbrev pub plan_of : ℕ → List Record → List Span
plan_of i records = map leaves_of (plan 7 (is_read_told seven (answered 0) (past records)) i)

pub record PlanExamples : Type 0 where
  pub first : plan_of 0 (run.opened ++ run.asks_all) ≡ hash_spans (run.path_of_first ++ run.chunk 0 ∷ [])
  pub second : plan_of 1 run.planned ≡ []
  pub third : plan_of 2 run.planned ≡ span 3 3 ∷ []

-- ---- answering

abbrev pub lets_last_in : List Record → Bool
lets_last_in records = is_let_in seven (last_event (past records)) (sent_since (past records)) (earlier (past records))

abbrev pub is_kept_up : List Record → Bool
is_kept_up records = wrote_lately seven (answered 0) (now (past records)) (past records)

pub record AnsweringExamples : Type 0 where
  -- a newcomer gets a reply; one without a source channel, or whose address is known, is none
  pub let_in : lets_last_in run.opened ≡ true
  pub unanswered : lets_last_in run.unanswered ≡ false
  pub no_source : lets_last_in run.of_no_source ≡ true
  pub no_newcomer : lets_last_in run.knocks_again ≡ true
  -- one channel was opened, nine were
  pub choked : (list_any (chokes seven) (past run.choked_at_once) ≡ true) × (openings seven (past run.choked_at_once) ≡ 1)
  pub nine : openings seven (past run.nine_opened) ≡ 9
  pub unchoked : list_any (chokes seven) (past run.served_more) ≡ false
  -- a channel is written to within 120 seconds
  pub silent : (is_kept_up run.left_silent ≡ false) × (is_kept_up run.not_yet_silent ≡ true)
  pub kept : is_kept_up run.kept_up ≡ true
  -- what closes the channels stands behind the turns
  pub closed : in_turns seven (past run.closed_up) ≡ past run.kept_up
  pub closed_early : list_any (is_closing seven) (in_turns seven (past run.closed_early)) ≡ true

-- ---- telling, of 200 chunks

abbrev pub news : List Record → ℕ
news records = new_count two_hundred (answered 0) (past records)

pub record TellingExamples : Type 0 where
  -- a chunk that was announced in one turn is told of on every channel in the next
  pub to_one : (is_announced two_hundred 1 (past run.announced_to_one) ≡ true)
      × (is_announced two_hundred 1 (earlier (past run.announced_to_one)) ≡ false)
  pub late : is_told_of 1 (story two_hundred (second 2) (past run.told_late)) ≡ true
  pub never : (is_told_of 1 (story two_hundred (second 2) (past run.told_never)) ≡ false)
      × (is_announced two_hundred 1 (earlier (past run.told_never)) ≡ true) × (new_count two_hundred (second 2) (past run.told_never) ≡ 0)
  -- new ones in a turn
  pub many : news run.told_64 ≡ 64
  pub few : news run.told_63 ≡ 63
  pub rest : is_told_of 198 (story two_hundred (answered 0) (past run.told_rest)) ≡ true
  -- the same ones again aren't new, but those of the reply are
  pub twice : news run.told_twice ≡ 0
  pub before : news run.told_before ≡ 64

-- ---- storing, of two chunks

-- the root is among the claims of the run
abbrev pub root_claimed : List Record → Bool
root_claimed records = list_any (λ c. c.node.layer == 1) (claims_in 2 (proven_story two (answered 0) (past records)))

abbrev pub acknowledged_in : List Record → Bool
acknowledged_in records = is_acknowledged 1 (story two (answered 0) (past records))

-- a book that has another digest of the first of two chunks
abbrev pub sibling_book : LookUp
sibling_book k j = if k == 0 && j == 0 then Some (replicate 32 2) else None

-- a book that has another digest of the second one
abbrev pub other_book : LookUp
other_book k j = if k == 0 && j == 1 then Some (replicate 32 2) else None

-- what came, and the claims before its chunk, behind 127 other claims or 128
abbrev pub proof_of_second : Record
proof_of_second = Received 1100000 alice (run.for 7 (run.hashes_of_two ++ run.second_chunk ∷ []))

abbrev pub crowd : ℕ → LookUp
crowd more = claimed_before two (answered 0) proof_of_second (past run.opened_two)
    (run.first_hash_of_two ∷ replicate more (run.hash 0 0))

pub record StoringExamples : Type 0 where
  pub claimed : root_claimed run.proved ≡ true
  -- hashes of an address that isn't proven aren't claims
  pub early : root_claimed run.hashed_early ≡ false
  -- the last 128 claims count
  pub crowded : (crowd 127 1 0 ≡ Some run.root_of_two) × (crowd 128 1 0 ≡ None)
  -- another digest of the chunk contradicts its climb, and one of its sibling doesn't
  pub contradicts : Contradicts other_book
      (met_before two (answered 0) proof_of_second (past run.opened_two) run.hashes_of_two 1 (codes "abc"))
  pub sibling : Contradicts sibling_book
      (met_before two (answered 0) proof_of_second (past run.opened_two) run.hashes_of_two 1 (codes "abc")) → ⊥
  -- another chunk isn't proved by these claims
  pub wrong : Proves two (claimed_before two (answered 0) proof_of_second (past run.opened_two) run.hashes_of_two) 1 (codes "abd") → ⊥
  -- an acknowledgement by the next turn in which nothing comes
  pub acknowledged : acknowledged_in run.acknowledged ≡ true
  pub acknowledged_late : acknowledged_in run.acknowledged_late ≡ true
  pub unacknowledged : acknowledged_in run.unacknowledged ≡ false
  pub not_yet : is_quiet (last_event (past run.proved)) ≡ false

-- ---- fetching, of 100 chunks

-- which of the two peers aren't dialled in the first turn
abbrev pub undialled : List Record → List Address
undialled records = filter (λ a. if list_any (dials hundred a) (first_turn (past records)) then false else true) run.both

-- which of the first 50 chunks aren't asked for
abbrev pub unasked : List Record → List ℕ
unasked records = filter (λ i. if list_any (asks_for hundred i) (past records) then false else true) (range_with_len 0 50)

-- the channel to the second peer
abbrev pub to_bob : Life
to_bob = record { address = bob; local = 8; remote = 6; is_dialled = true; opening = 2 }

abbrev pub bobs_story : List Record → ℕ
bobs_story records = named_count 100 (story hundred to_bob (past records))

pub record FetchingExamples : Type 0 where
  pub both_dialled : undialled run.dials_both ≡ []
  pub one_dialled : undialled run.dials_one ≡ bob ∷ []
  pub asked : (unasked (run.dials_both ++ run.bob_replies ++ run.asks_bob 0 31) ≡ range_with_len 32 18) × (bobs_story run.fetching ≡ 32)
  pub too_few : (unasked run.asks_too_few ≡ range_with_len 31 19) × (bobs_story run.asks_too_few ≡ 31)
  pub choked : is_choked_by_peer (story hundred to_bob (past run.choked_by_bob)) ≡ true
  -- ten seconds later the requests are old
  pub long_ago : (has_old_request 11099999 (story hundred to_bob (past run.asked_long_ago)) ≡ false)
      × (has_old_request 11100000 (story hundred to_bob (past run.asked_long_ago)) ≡ true)

-- ---- this peer's own side

abbrev pub alices : List Record → Asking
alices records = asking hundred (dialled 1) (past records)

-- the chunks of the requests that are outstanding
abbrev pub asked_of_alice : List Record → List ℕ
asked_of_alice records = map (λ q. q.chunk) (alices records).requests

pub record OwnExamples : Type 0 where
  -- the second overtook the first
  pub outstanding : alices run.own_asking ≡ record {
    requests = record { chunk = 0; asked_at = 1100000; overtaken = 1 } ∷ record { chunk = 2; asked_at = 1100000; overtaken = 0 } ∷ [];
    is_choked = false;
    is_stopped = false;
  }
  pub waiting : asked_of_alice run.own_waiting ≡ 0 ∷ 2 ∷ []
  pub expired : alices run.own_expired ≡ record { requests = []; is_choked = false; is_stopped = true }
  pub again : alices run.own_again ≡ record { requests = []; is_choked = false; is_stopped = false }
  pub choked : alices run.own_choked ≡ record { requests = []; is_choked = true; is_stopped = false }
  -- three overtook the fifth, and it is lost; two are too few; it is asked for again like any other
  pub lost : asked_of_alice run.own_overtaken ≡ 8 ∷ 9 ∷ []
  pub overtaken_twice : asked_of_alice run.own_overtaken_twice ≡ 4 ∷ 7 ∷ 8 ∷ 9 ∷ []
  pub asked_again : (alices run.own_asked_again).requests ≡ record { chunk = 4; asked_at = 1200000; overtaken = 0 }
      ∷ record { chunk = 8; asked_at = 1100000; overtaken = 0 } ∷ record { chunk = 9; asked_at = 1100000; overtaken = 0 } ∷ []
  -- earlier ones overtake nothing, and lesser ones neither
  pub passed_by_earlier : (alices run.own_passed_by_earlier).requests ≡ record { chunk = 3; asked_at = 1150000; overtaken = 0 } ∷ []
  pub passed_by_lesser : (alices run.own_passed_by_lesser).requests ≡ record { chunk = 9; asked_at = 1100000; overtaken = 0 } ∷ []
  -- where asking stopped one chunk may be asked for, and no second; its answer ends the stop
  pub probed : (may_ask (alices run.own_expired) ≡ true) × (may_ask (alices run.own_probed) ≡ false)
      × ((alices run.own_probed).is_stopped ≡ true)
      × (alices run.own_answered ≡ record { requests = []; is_choked = false; is_stopped = false })
  pub offered : is_offered 99 (story hundred (dialled 1) (past run.own_asking)) ≡ true
  pub asked_next : (may_ask (alices run.own_asking) ≡ true) × (may_ask (alices run.own_again) ≡ true)
      × (may_ask (alices run.own_choked) ≡ false)
  -- 31 may be outstanding and one more asked, but not 32
  pub full : (may_ask (asking hundred to_bob (past run.asks_too_few)) ≡ true)
      × (may_ask (asking hundred to_bob (past (run.dials_both ++ run.bob_replies ++ run.asks_bob 0 31))) ≡ false)
  -- the whole story has what came before the reply; what was read hasn't
  pub whole : (is_offered 5 (story seven (dialled 1) (past run.before_reply)) ≡ true)
      × (is_choked_by_peer (story seven (dialled 1) (past run.before_reply)) ≡ true)
      × (length (claims_in 7 (story seven (dialled 1) (past run.before_reply))) ≡ 2)
  pub read : (is_offered 5 (read_story seven (dialled 1) (past run.before_reply)) ≡ false)
      × (is_choked_by_peer (read_story seven (dialled 1) (past run.before_reply)) ≡ false)
      × (is_offered 0 (read_story seven (dialled 1) (past run.before_reply)) ≡ true)
  pub proven : length (claims_in 7 (proven_story seven (dialled 1) (past run.before_reply))) ≡ 1

-- ---- reports

-- the counts of a seeder of a quiet link in three turns, in one of which the wait was refused
abbrev pub quiet_tally : Tally
quiet_tally = record {
  turns = 3;
  datagrams = 0;
  sent = 0;
  stored = 0;
  keepalives = 0;
  short = 0;
  stranger = 0;
  refused_handshakes = 0;
  no_seat = 0;
  cut = 0;
  outside = 0;
  not_a_node = 0;
  full = 0;
  choked = 0;
  unheld = 0;
  missing = 0;
  wrong = 0;
  repeats = 0;
  damaged = 0;
  read_faults = 0;
  send_faults = 0;
  receive_faults = 1;
}

abbrev pub quiet_turns : List Record
quiet_turns = Quiet 100000 ∷ Quiet 200000 ∷ []

pub record ReportExamples : Type 0 where
  pub lines : count_by (λ c. c == 10) (held_line 7 7 (span 0 6 ∷ []) ++ tally_text quiet_tally) ≡ 23
  pub incomplete : incomplete_line 0 ≡ codes "incomplete: first missing chunk 0" ++ 10 ∷ []
  pub tallied : IsTallied quiet_tally 3 quiet_turns
  pub requests_none : list_any (requests seven) (past run.served_more) ≡ false
  pub requests_some : list_any (requests hundred) (past run.fetching) ≡ true

-- ---- batches, of 100 chunks

abbrev pub empty : Batch
empty = record { committed = replicate 100 false; pending = [] }

abbrev pub committed_count : Batch → ℕ
committed_count b = count_by (λ x. x) b.committed

-- the first chunks, in one datagram each, at one moment
abbrev pub one_by_one : List ℕ → Batch → Batch
one_by_one [] b = b
one_by_one (i ∷ more) b = one_by_one more (after_event false (i ∷ []) 1000000 b)

abbrev pub stored : ℕ → Batch
stored count = one_by_one (range_with_len 0 count) empty

pub record BatchExamples : Type 0 where
  pub after_63 : (committed_count (stored 63) ≡ 0) × (length (stored 63).pending ≡ 63)
  pub after_64 : (committed_count (stored 64) ≡ 64) × (length (stored 64).pending ≡ 0)
  pub after_65 : (committed_count (stored 65) ≡ 64) × (length (stored 65).pending ≡ 1)
  pub quiet : (committed_count (after_event true [] 1000000 (stored 65)) ≡ 65)
      × (length (after_event true [] 1000000 (stored 65)).pending ≡ 0)
  -- a tenth of a second later, with whatever comes
  pub soon : length (after_event false [] 1099999 (stored 65)).pending ≡ 1
  pub late : length (after_event false [] 1100000 (stored 65)).pending ≡ 0
  -- the last chunk of all
  pub all_in : length (after_event false (1 ∷ []) 0 (record { committed = true ∷ false ∷ []; pending = [] })).pending ≡ 0
