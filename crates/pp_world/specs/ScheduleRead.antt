-- Reading the text of a schedule: the schedule that it spells, or its first faulty line and what is wrong with it.
use Rattle.std.specs.Prelude.{◌≡◌, ◌↔◌, ℕ, ◌+◌, ◌-◌, ◌*◌, ◌^◌, ◌==◌, nat_lt, nat_le, Bool, true, false, not, ◌&&◌, if◌then◌else◌, Option, Some, None, List, [], ◌∷◌, length, codes, Result, Ok, Err}
use Rattle.std.specs.List.{list_all, list_any}
use Rattle.std.specs.Str.{bytes_eq}
use Rattle.pp_terms.specs.command.Order.{Order, Sequential, Rarest, order_text}
use Rattle.pp_terms.specs.format.DescriptorRead.{is_digit, is_lower_hex, number_of}
use Rattle.pp_world.specs.ScheduleFault as wrong
use Rattle.pp_world.specs.ScheduleFault.{ScheduleKind, ScheduleFault, fault}
use Rattle.pp_world.specs.Schedule.{Role, Seeds, Fetches, Device, Read, Write, Sync, Send, Receive, Act, Turn, Lose, Repeat, Later, Forge, Fail, Crash, Stop, Start, Step, Once, Run, Schedule, IsSchedule, schedule_text, device_text, header, most_text, most_lines}

-- what is read, and then what is read on; or the first fault
infixl 10 ◌>>=◌
abbrev pub ◌>>=◌ : {A B E : Type 0} → Result A E → (A → Result B E) → Result B E
(Ok x) >>= f = f x
(Err e) >>= f = Err e

-- the value where the test holds
abbrev pub where_true : {A E : Type 0} → Bool → E → A → Result A E
where_true true e x = Ok x
where_true false e x = Err e

-- nothing more than that the test holds
abbrev pub wants : {E : Type 0} → Bool → E → Result (Unit {0}) E
wants true e = Ok tt
wants false e = Err e

-- the value where there is one
abbrev pub found : {A E : Type 0} → E → Option A → Result A E
found e None = Err e
found e (Some x) = Ok x

-- ---- lines and words

-- A line, and whether a line feed ends it.
pub record Row : Type 0 where
  pub text : List ℕ
  pub is_ended : Bool

abbrev pub row_with : ℕ → List Row → List Row
row_with c [] = record { text = c ∷ []; is_ended = false } ∷ []
row_with c (row ∷ rows) = record row { text = c ∷ row.text } ∷ rows

abbrev pub rows_with : ℕ → List Row → List Row
rows_with c rows = if c == 10 then record { text = []; is_ended = true } ∷ rows else row_with c rows

-- the lines of a text; nothing behind the last line feed is no line
abbrev pub rows_of : List ℕ → List Row
rows_of [] = []
rows_of (c ∷ cs) = rows_with c (rows_of cs)

abbrev pub word_with : ℕ → List (List ℕ) → List (List ℕ)
word_with c [] = (c ∷ []) ∷ []
word_with c (w ∷ ws) = (c ∷ w) ∷ ws

abbrev pub words_with : ℕ → List (List ℕ) → List (List ℕ)
words_with c ws = if c == 32 then [] ∷ ws else word_with c ws

-- the words of a line: each space ends one, so two spaces have an empty word between them
abbrev pub words_of : List ℕ → List (List ℕ)
words_of [] = [] ∷ []
words_of (c ∷ cs) = words_with c (words_of cs)

-- ---- words

-- "0" or digits without a leading zero, at most 20
abbrev pub is_number : List ℕ → Bool
is_number [] = false
is_number (c ∷ []) = is_digit c
is_number (c ∷ d ∷ ds) = not (c == 48) && nat_le (length ds) 18 && list_all is_digit (c ∷ d ∷ ds)

-- a number from one to another
abbrev pub number_in : ℕ → ℕ → List ℕ → Result ℕ ScheduleKind
number_in least most word =
    where_true (is_number word && nat_le least (number_of word) && nat_le (number_of word) most) wrong.Number (number_of word)

-- a number that a peer can have
abbrev pub peer_in : List ℕ → Result ℕ ScheduleKind
peer_in word = number_in 0 15 word

abbrev pub peers_in : List (List ℕ) → Result (List ℕ) ScheduleKind
peers_in [] = Ok []
peers_in (w ∷ ws) = do
  p ← peer_in w
  ps ← peers_in ws
  Ok (p ∷ ps)

-- the number of one of so many peers
abbrev pub one_of : ℕ → ℕ → Result ℕ ScheduleKind
one_of peers p = where_true (nat_lt p peers) wrong.Peer p

-- what a hexadecimal digit in lower case stands for
abbrev pub nibble : ℕ → ℕ
nibble c = if nat_le c 57 then c - 48 else c - 87

-- a byte before others, if all are right
abbrev pub byte_before : Bool → ℕ → Option (List ℕ) → Option (List ℕ)
byte_before is_right b None = None
byte_before is_right b (Some bytes) = if is_right then Some (b ∷ bytes) else None

-- the bytes that pairs of such digits write
abbrev pub bytes_of : List ℕ → Option (List ℕ)
bytes_of [] = Some []
bytes_of (high ∷ []) = None
bytes_of (high ∷ low ∷ rest) = byte_before (is_lower_hex high && is_lower_hex low) (16 * nibble high + nibble low) (bytes_of rest)

-- the bytes of a datagram: 1 to 16,384
abbrev pub datagram_in : List ℕ → Result (List ℕ) ScheduleKind
datagram_in word = do
  bytes ← found wrong.Hex (bytes_of word)
  where_true (nat_le 1 (length bytes) && nat_le (length bytes) 16384) wrong.Hex bytes

abbrev pub order_of : List ℕ → Option Order
order_of word =
    if bytes_eq word (order_text Sequential) then Some Sequential
    else (if bytes_eq word (order_text Rarest) then Some Rarest else None)

abbrev pub device_of : List ℕ → Option Device
device_of word =
    if bytes_eq word (device_text Read) then Some Read
    else (if bytes_eq word (device_text Write) then Some Write
    else (if bytes_eq word (device_text Sync) then Some Sync
    else (if bytes_eq word (device_text Send) then Some Send
    else (if bytes_eq word (device_text Receive) then Some Receive else None))))

-- ---- the words of a line, behind the first, in a schedule of so many peers

abbrev pub one_peer : ℕ → (ℕ → Act) → List (List ℕ) → Result Step ScheduleKind
one_peer peers act (p ∷ []) = do
  n ← peer_in p
  who ← one_of peers n
  Ok (Once (act who))
one_peer peers act [] = Err wrong.Line
one_peer peers act (p ∷ q ∷ more) = Err wrong.Line

abbrev pub run_in : List (List ℕ) → Result Step ScheduleKind
run_in (r ∷ s ∷ []) = do
  rounds ← number_in 1 10000 r
  gain ← number_in 0 600000000 s
  Ok (Run rounds gain)
run_in [] = Err wrong.Line
run_in (r ∷ []) = Err wrong.Line
run_in (r ∷ s ∷ t ∷ more) = Err wrong.Line

abbrev pub forge_in : ℕ → List (List ℕ) → Result Step ScheduleKind
forge_in peers (p ∷ q ∷ hex ∷ []) = do
  n ← peer_in p
  m ← peer_in q
  who ← one_of peers n
  sender ← one_of peers m
  bytes ← datagram_in hex
  Ok (Once (Forge who sender bytes))
forge_in peers [] = Err wrong.Line
forge_in peers (p ∷ []) = Err wrong.Line
forge_in peers (p ∷ q ∷ []) = Err wrong.Line
forge_in peers (p ∷ q ∷ hex ∷ x ∷ more) = Err wrong.Line

abbrev pub fail_in : ℕ → List (List ℕ) → Result Step ScheduleKind
fail_in peers (p ∷ kind ∷ []) = do
  call ← found wrong.Line (device_of kind)
  n ← peer_in p
  who ← one_of peers n
  Ok (Once (Fail who call))
fail_in peers [] = Err wrong.Line
fail_in peers (p ∷ []) = Err wrong.Line
fail_in peers (p ∷ kind ∷ x ∷ more) = Err wrong.Line

abbrev pub crash_in : ℕ → List (List ℕ) → Result Step ScheduleKind
crash_in peers (p ∷ k ∷ []) = do
  n ← peer_in p
  pick ← number_in 0 (2 ^ 64 - 1) k
  who ← one_of peers n
  Ok (Once (Crash who pick))
crash_in peers [] = Err wrong.Line
crash_in peers (p ∷ []) = Err wrong.Line
crash_in peers (p ∷ k ∷ x ∷ more) = Err wrong.Line

-- by the first word; a `peer` line is no step
abbrev pub step_of : ℕ → List ℕ → List (List ℕ) → Result Step ScheduleKind
step_of peers name rest =
    if bytes_eq name (codes "turn") then one_peer peers Turn rest
    else (if bytes_eq name (codes "run") then run_in rest
    else (if bytes_eq name (codes "lose") then one_peer peers Lose rest
    else (if bytes_eq name (codes "repeat") then one_peer peers Repeat rest
    else (if bytes_eq name (codes "later") then one_peer peers Later rest
    else (if bytes_eq name (codes "forge") then forge_in peers rest
    else (if bytes_eq name (codes "fail") then fail_in peers rest
    else (if bytes_eq name (codes "crash") then crash_in peers rest
    else (if bytes_eq name (codes "stop") then one_peer peers Stop rest
    else (if bytes_eq name (codes "start") then one_peer peers Start rest
    else Err wrong.Line)))))))))

-- the words of a step
abbrev pub step_in : ℕ → List (List ℕ) → Result Step ScheduleKind
step_in peers [] = Err wrong.Line
step_in peers (name ∷ rest) = step_of peers name rest

-- line n, where a step has to stand
abbrev pub step_at : ℕ → ℕ → Row → Result Step ScheduleKind
step_at peers n row = do
  few ← wants (nat_le n most_lines) wrong.Long
  ended ← wants row.is_ended wrong.Line
  step_in peers (words_of row.text)

-- the number on a `peer` line is the next one; and the others are none of it
abbrev pub next_peer : ℕ → ℕ → List ℕ → Result ℕ ScheduleKind
next_peer next p others = where_true (p == next && not (list_any (λ q. q == p) others)) wrong.Peer p

abbrev pub seed_in : ℕ → List ℕ → List ℕ → Result Role ScheduleKind
seed_in next p kind = do
  named ← wants (bytes_eq kind (codes "seed")) wrong.Line
  n ← peer_in p
  who ← next_peer next n []
  Ok Seeds

abbrev pub fetch_in : ℕ → List ℕ → List ℕ → List ℕ → List (List ℕ) → Result Role ScheduleKind
fetch_in next p kind how others = do
  named ← wants (bytes_eq kind (codes "fetch") && nat_le (length others) 15) wrong.Line
  order ← found wrong.Line (order_of how)
  n ← peer_in p
  dialled ← peers_in others
  who ← next_peer next n dialled
  Ok (Fetches order dialled)

-- the words of a `peer` line behind the first
abbrev pub role_of : ℕ → List (List ℕ) → Result Role ScheduleKind
role_of next (p ∷ kind ∷ []) = seed_in next p kind
role_of next (p ∷ kind ∷ how ∷ q ∷ qs) = fetch_in next p kind how (q ∷ qs)
role_of next [] = Err wrong.Line
role_of next (p ∷ []) = Err wrong.Line
role_of next (p ∷ kind ∷ how ∷ []) = Err wrong.Line

abbrev pub names_peer : List (List ℕ) → Bool
names_peer [] = false
names_peer (name ∷ rest) = bytes_eq name (codes "peer")

abbrev pub role_in : ℕ → List (List ℕ) → Result Role ScheduleKind
role_in next [] = Err wrong.Line
role_in next (name ∷ rest) = wants (bytes_eq name (codes "peer")) wrong.Line >>= λ named. role_of next rest

abbrev pub role_at : ℕ → Row → Result Role ScheduleKind
role_at next row = do
  ended ← wants row.is_ended wrong.Line
  role_in next (words_of row.text)

-- ---- whole lines

-- a fault is on that line
abbrev pub on_line : {A : Type 0} → ℕ → Result A ScheduleKind → Result A ScheduleFault
on_line n (Ok x) = Ok x
on_line n (Err kind) = Err (fault n kind)

-- The `peer` lines from one on that have no fault of their own, up to the first other line, and the lines from that on.
pub record Declared : Type 0 where
  pub roles : List Role
  pub behind : List Row

abbrev pub peers_with : Row → List Row → Result Role ScheduleKind → Declared → Declared
peers_with row rows (Err kind) more = record { roles = []; behind = row ∷ rows }
peers_with row rows (Ok role) more = record { roles = role ∷ more.roles; behind = more.behind }

abbrev pub peers_declared : ℕ → List Row → Declared
peers_declared next [] = record { roles = []; behind = [] }
peers_declared next (row ∷ rows) = peers_with row rows (role_at next row) (peers_declared (next + 1) rows)

-- the role dials only declared peers
abbrev pub dials_declared : ℕ → Role → Bool
dials_declared peers Seeds = true
dials_declared peers (Fetches order dialled) = list_all (λ q. nat_lt q peers) dialled

-- the first of the roles, from line n on, that doesn't
abbrev pub all_declared : ℕ → ℕ → List Role → Result (Unit {0}) ScheduleFault
all_declared peers n [] = Ok tt
all_declared peers n (role ∷ roles) = do
  this ← wants (dials_declared peers role) (fault n wrong.Peer)
  all_declared peers (n + 1) roles

abbrev pub steps_in : ℕ → ℕ → List Row → Result (List Step) ScheduleFault
steps_in peers n [] = Ok []
steps_in peers n (row ∷ rows) = do
  step ← on_line n (step_at peers n row)
  steps ← steps_in peers (n + 1) rows
  Ok (step ∷ steps)

-- Behind the `peer` lines without fault stands none with one, and some stand before.
abbrev pub peers_end : ℕ → List Row → Result (Unit {0}) ScheduleFault
peers_end peers [] = wants (nat_lt 0 peers) (fault 3 wrong.Line)
peers_end peers (row ∷ rows) =
    if names_peer (words_of row.text) then on_line (peers + 3) (role_at peers row >>= λ role. Ok tt)
    else wants (nat_lt 0 peers) (fault 3 wrong.Line)

-- ---- the text

abbrev pub header_at : Row → Result (Unit {0}) ScheduleKind
header_at row = do
  right ← wants (bytes_eq row.text header) wrong.Header
  wants row.is_ended wrong.Line

abbrev pub is_chunk_size : ℕ → Bool
is_chunk_size n = list_any (λ size. size == n) (256 ∷ 512 ∷ 1024 ∷ 2048 ∷ 4096 ∷ 8192 ∷ [])

-- the schedule with this content, and no peer and no step yet
abbrev pub content_with : List ℕ → List ℕ → List ℕ → List ℕ → Result Schedule ScheduleKind
content_with name chunk size shift =
    where_true
    (bytes_eq name (codes "content") && is_number chunk && is_number size && is_number shift && is_chunk_size (number_of chunk)
    && nat_le 1 (number_of size) && nat_le (number_of size) (2 ^ 20) && nat_le (number_of shift) 255)
    wrong.Content
    (record { chunk = number_of chunk; size = number_of size; shift = number_of shift; roles = []; steps = [] })

abbrev pub content_in : List (List ℕ) → Result Schedule ScheduleKind
content_in [] = Err wrong.Content
content_in (a ∷ []) = Err wrong.Content
content_in (a ∷ b ∷ []) = Err wrong.Content
content_in (a ∷ b ∷ c ∷ []) = Err wrong.Content
content_in (name ∷ chunk ∷ size ∷ shift ∷ []) = content_with name chunk size shift
content_in (a ∷ b ∷ c ∷ d ∷ e ∷ more) = Err wrong.Content

abbrev pub content_at : Row → Result Schedule ScheduleKind
content_at row = do
  begun ← content_in (words_of row.text)
  ended ← wants row.is_ended wrong.Line
  Ok begun

-- the peers and the steps, from line 3 on
abbrev pub read_rest : Schedule → List Row → Result Schedule ScheduleFault
read_rest begun rows = do
  let lines = peers_declared 0 rows
  let peers = length lines.roles
  right ← all_declared peers 3 lines.roles
  ended ← peers_end peers lines.behind
  steps ← steps_in peers (peers + 3) lines.behind
  Ok (record begun { roles = lines.roles; steps = steps })

abbrev pub read_second : List Row → Result Schedule ScheduleFault
read_second [] = Err (fault 2 wrong.Content)
read_second (row ∷ rows) = on_line 2 (content_at row) >>= λ begun. read_rest begun rows

abbrev pub read_first : List Row → Result Schedule ScheduleFault
read_first [] = Err (fault 1 wrong.Header)
read_first (row ∷ rows) = on_line 1 (header_at row) >>= λ right. read_second rows

unfoldable pub read_schedule : List ℕ → Result Schedule ScheduleFault
read_schedule text = wants (nat_le (length text) most_text) (fault 0 wrong.Long) >>= λ fits. read_first (rows_of text)

-- The texts that are read are exactly those that a schedule has, each of one.
pub record SchedulesRead : Type 0 where
  pub exact : (text : List ℕ) (s : Schedule) → read_schedule text ≡ Ok s ↔ ((text ≡ schedule_text s) × IsSchedule s)
