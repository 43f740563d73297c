-- Worked examples of schedules: texts that are read, texts that aren't, and a rehearsal.
use Rattle.std.specs.Prelude.{◌≡◌, ℕ, List, [], ◌∷◌, ◌++◌, take, codes, Ok, Err, length}
use Rattle.pp_terms.specs.command.Order.{Sequential, Rarest}
use Rattle.pp_terms.specs.command.Report.{line}
use Rattle.pp_world.specs.ScheduleFault.{fault, schedule_line}
use Rattle.pp_world.specs.ScheduleFault as wrong
use Rattle.pp_world.specs.Schedule.{Seeds, Fetches, Lose, Repeat, Crash, Start, Once, Run, Schedule, content_of, schedule_text}
use Rattle.pp_world.specs.ScheduleRead.{read_schedule}
use Rattle.pp_world.specs.Rehearsal.{rehearsal_text}

-- these lines; they behind the first line of a schedule; and they behind one of a content of one byte, with one peer that seeds
abbrev pub lines : List (List ℕ) → List ℕ
lines [] = []
lines (l ∷ ls) = line l ++ lines ls

abbrev pub first : List (List ℕ) → List ℕ
first ls = lines (codes "ppspp-schedule 1" ∷ ls)

abbrev pub seeded : List (List ℕ) → List ℕ
seeded ls = first (codes "content 1024 1 0" ∷ codes "peer 0 seed" ∷ ls)

-- three peers share 7,000 bytes; a datagram is lost, one comes again, and peer 1 crashes
abbrev pub three_peers : Schedule
three_peers = record {
  chunk = 1024;
  size = 7000;
  shift = 5;
  roles = Seeds ∷ Fetches Sequential (0 ∷ []) ∷ Fetches Rarest (0 ∷ 1 ∷ []) ∷ [];
  steps = Run 8 100000 ∷ Once (Lose 2) ∷ Once (Repeat 1) ∷ Once (Crash 1 2) ∷ Once (Start 1) ∷ Run 600 100000 ∷ [];
}

pub record SchedulesThatRead : Type 0 where
  -- a text is read as the schedule that has it
  pub is_read : read_schedule (first (codes "content 1024 7000 5" ∷ codes "peer 0 seed" ∷ codes "peer 1 fetch sequential 0" ∷
      codes "peer 2 fetch rarest 0 1" ∷ codes "run 8 100000" ∷ codes "lose 2" ∷ codes "repeat 1" ∷
      codes "crash 1 2" ∷ codes "start 1" ∷ codes "run 600 100000" ∷ [])) ≡ Ok three_peers
  pub is_written : schedule_text three_peers
      ≡ first (codes "content 1024 7000 5" ∷ codes "peer 0 seed" ∷ codes "peer 1 fetch sequential 0" ∷
      codes "peer 2 fetch rarest 0 1" ∷ codes "run 8 100000" ∷ codes "lose 2" ∷ codes "repeat 1" ∷
      codes "crash 1 2" ∷ codes "start 1" ∷ codes "run 600 100000" ∷ [])
  -- its content begins so, and has 7,000 bytes
  pub content : (take 4 (content_of three_peers) ≡ 5 ∷ 12 ∷ 19 ∷ 26 ∷ []) × (length (content_of three_peers) ≡ 7000)

-- the first faulty line and its kind
pub record SchedulesThatDont : Type 0 where
  pub second_version : read_schedule (lines (codes "ppspp-schedule 2" ∷ [])) ≡ Err (fault 1 wrong.Header)
  pub no_such_peer : read_schedule (first (codes "content 1024 7000 5" ∷ codes "peer 0 seed" ∷ codes "turn 3" ∷ []))
      ≡ Err (fault 4 wrong.Peer)
  pub misspelt_kind : read_schedule
      (first (codes "content 256 512 61" ∷ codes "peer 1 fetcarest 0" ∷ codes "later 1" ∷ codes "crash 0start 0" ∷
      codes "turn 0" ∷ [])) ≡ Err (fault 3 wrong.Line)
  pub undeclared_peer_fails : read_schedule
      (first (codes "content 256 4657 45" ∷ codes "peer 0 seed" ∷ codes "run 6 700000" ∷ codes "fail 1 sync" ∷
      codes "run 9 100000" ∷ codes "crash 0 2" ∷ [])) ≡ Err (fault 5 wrong.Peer)
  pub no_kind : read_schedule (first
      (codes "content 256 294 37" ∷ codes "peer 0ed" ∷ codes "peer 1 fetch rarest 0 2" ∷ codes "run 99 700000" ∷
      codes "turn 2" ∷ codes "crash 1 5" ∷ []))
      ≡ Err (fault 3 wrong.Line)
  pub misspelt_header : read_schedule (lines (codes "ppspxp-schedule 1" ∷ codes "content 256 4476 86" ∷ codes "peer 0 seed" ∷
      codes "peer 1 fetch seq0ential 0" ∷ codes "stop 0" ∷ codes "stop 1" ∷ codes "crash 1 0" ∷ [])) ≡ Err (fault 1 wrong.Header)
  pub no_chunk_size : read_schedule
      (first (codes "content 2-6 8266 60" ∷ codes "peer 0 seed" ∷ codes "peer 1 fetch rarest 0" ∷ codes "turn 1" ∷
      codes "start 0" ∷ codes "run 9 0" ∷ codes "repeat 0" ∷ []))
      ≡ Err (fault 2 wrong.Content)
  pub peer_out_of_order : read_schedule
      (first (codes "content 256 8555 231" ∷ codes "peer 0 seed" ∷ codes "peer 2 fetch rarest 0 1" ∷ codes "ru2n 6 700000" ∷
      codes "start 1" ∷ []) ++ codes "run 2 20000")
      ≡ Err (fault 4 wrong.Peer)
  pub letter_in_a_number : read_schedule
      (first (codes "content 256 657 61" ∷ codes "peer 0 seed" ∷ codes "peer 1 fetch sequential 0" ∷ codes "start 0" ∷
      codes "run 7 2b000" ∷ codes "run 2 700000" ∷ codes "start 1" ∷ []))
      ≡ Err (fault 6 wrong.Number)
  pub letter_behind_a_number : read_schedule
      (first (codes "content 256 5279 127" ∷ codes "peer 0 seed" ∷ codes "peer 1 fetch rarest 0" ∷ codes "fail 0 read" ∷
      codes "later 1" ∷ codes "run 6 10000f" ∷ codes "run 5 0" ∷ codes "fail 0 read" ∷ []))
      ≡ Err (fault 7 wrong.Number)
  pub half_a_byte : read_schedule (first (codes "content 256 266 161" ∷ codes "peer 0 seed" ∷ codes "peer 1 fetch sequential 0 2" ∷
      codes "peer 2 fetch sequential 0 1" ∷ codes "lose 1" ∷ codes "start 0" ∷
      codes "forge 0 2 380529751526d2f03899f1832c3b374d1e8e42543497a9ba17352" ∷ [])) ≡ Err (fault 8 wrong.Hex)
  pub letter_in_hex : read_schedule (first (codes "content 256 7701 153" ∷ codes "peer 0 seed" ∷ codes "peer 1 fetch sequential 0" ∷
      codes "peer 2 fetch sequential 0 1" ∷ codes "fail 0 write" ∷
      codes "forge 2 1 e1e86a2809db38c71dcb4d1a2a76b40b0174dd585114c41263c037a46492c5b86b03xb98c0191dd9cf666c56e68f45eafe6e3dd" ∷
      codes "start 0" ∷ [])) ≡ Err (fault 7 wrong.Hex)
  pub empty : read_schedule ([]) ≡ Err (fault 1 wrong.Header)
  pub unended_header : read_schedule (codes "ppspp-schedule 1") ≡ Err (fault 1 wrong.Line)
  pub no_content : read_schedule (first []) ≡ Err (fault 2 wrong.Content)
  pub unended_content : read_schedule (first [] ++ codes "content 1024 1 0") ≡ Err (fault 2 wrong.Line)
  pub wrong_number_of_content : read_schedule (first (codes "content 1024 1048577 0" ∷ codes "peer 0 seed" ∷ []))
      ≡ Err (fault 2 wrong.Content)
  pub no_peer : read_schedule (first (codes "content 1024 1 0" ∷ [])) ≡ Err (fault 3 wrong.Line)
  pub step_before_peers : read_schedule (first (codes "content 1024 1 0" ∷ codes "turn 0" ∷ [])) ≡ Err (fault 3 wrong.Line)
  pub peer_after_step : read_schedule (seeded (codes "turn 0" ∷ codes "peer 1 seed" ∷ [])) ≡ Err (fault 5 wrong.Line)
  pub undeclared_before_faulty : read_schedule
      (first (codes "content 1024 1 0" ∷ codes "peer 0 fetch rarest 1" ∷ codes "peer 1 fetch rarest 1" ∷ []))
      ≡ Err (fault 3 wrong.Peer)
  pub dials_itself : read_schedule (seeded (codes "peer 1 fetch rarest 0 1" ∷ [])) ≡ Err (fault 4 wrong.Peer)
  pub peer_sixteen : read_schedule (seeded (codes "turn 16" ∷ [])) ≡ Err (fault 4 wrong.Number)
  pub leading_zero : read_schedule (seeded (codes "run 01 5" ∷ [])) ≡ Err (fault 4 wrong.Number)
  pub number_before_peer : read_schedule (seeded (codes "crash 9 18446744073709551616" ∷ [])) ≡ Err (fault 4 wrong.Number)
  pub peer_before_hex : read_schedule (seeded (codes "forge 0 1 0A" ∷ [])) ≡ Err (fault 4 wrong.Peer)
  pub upper_case_hex : read_schedule (seeded (codes "forge 0 0 0A" ∷ [])) ≡ Err (fault 4 wrong.Hex)
  pub failing_kind : read_schedule (seeded (codes "fail 99 len" ∷ [])) ≡ Err (fault 4 wrong.Line)
  pub unended_step : read_schedule (seeded [] ++ codes "turn 99") ≡ Err (fault 4 wrong.Line)
  -- what is said of it
  pub said : schedule_line (fault 4 wrong.Peer) ≡ line (codes "schedule: line 4: peer")

-- a rehearsal of the first words of number 1 and one more, by which a peer crashes
pub record Rehearses : Type 0 where
  pub text : rehearsal_text (1300355205 ∷ 3300897211 ∷ 4287140552 ∷ 2758020630 ∷ 3973738367 ∷ 2785467253 ∷ 1057011787 ∷
      3635249515 ∷ 2609695406 ∷ 3312308042 ∷ 290629703 ∷ 3413214434 ∷ 739637615 ∷ 3812496478 ∷ 327939 ∷ [])
      ≡ first (codes "content 1024 252037 187" ∷ codes "peer 0 seed" ∷ codes "peer 1 fetch rarest 0" ∷
      codes "peer 2 fetch rarest 0 1" ∷ codes "peer 3 fetch rarest 0 1 2" ∷ codes "run 1 20000" ∷
      codes "run 1 20000" ∷ codes "run 1 20000" ∷ codes "run 1 20000" ∷ codes "run 1 20000" ∷ codes "run 1 20000" ∷
      codes "run 1 20000" ∷ codes "run 1 20000" ∷ codes "run 1 20000" ∷ codes "later 2" ∷ codes "run 1 20000" ∷
      codes "run 1 20000" ∷ codes "run 1 20000" ∷ codes "crash 1 5" ∷ codes "start 1" ∷ codes "run 1 20000" ∷
      codes "run 4000 20000" ∷ [])
