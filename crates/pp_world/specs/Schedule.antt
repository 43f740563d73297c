-- A schedule: a content, some peers that share it, and what happens to them, step by step. How it is written.
use Rattle.std.specs.Prelude.{◌≢◌, ℕ, zero, suc, ◌+◌, ◌*◌, ◌/◌, ◌%◌, ◌^◌, ◌<◌, ◌≤◌, List, [], ◌∷◌, ◌++◌, length, map, codes, decimal}
use Rattle.std.specs.List.{AllByRecursion}
use Rattle.hex.specs.Hex.{encode_lower}
use Rattle.pp_terms.specs.tree.Content.{IsChunkSize}
use Rattle.pp_terms.specs.command.Order.{Order, order_text}
use Rattle.pp_terms.specs.command.Report.{line}

-- A peer seeds the content; or it fetches it, and dials other peers.
pub data Role : Type 0 where
  Seeds : Role
  Fetches : (order : Order) (dialled : List ℕ) → Role

-- The kinds of calls of a device that can be ordered to fail.
pub data Device : Type 0 where
  Read : Device
  Write : Device
  Sync : Device
  Send : Device
  Receive : Device

-- What happens to one peer.
pub data Act : Type 0 where
  Turn : (peer : ℕ) → Act
  Lose : (peer : ℕ) → Act
  Repeat : (peer : ℕ) → Act
  Later : (peer : ℕ) → Act
  Forge : (peer sender : ℕ) (bytes : List ℕ) → Act
  Fail : (peer : ℕ) (call : Device) → Act
  Crash : (peer pick : ℕ) → Act
  Stop : (peer : ℕ) → Act
  Start : (peer : ℕ) → Act

-- One act; or so many rounds, in each of which the clock gains so much and then each running peer takes a turn.
pub data Step : Type 0 where
  Once : (act : Act) → Step
  Run : (rounds gain : ℕ) → Step

-- Sizes in bytes; `shift` is the first byte of the content.
pub record Schedule : Type 0 where
  pub chunk : ℕ
  pub size : ℕ
  pub shift : ℕ
  pub roles : List Role
  pub steps : List Step

-- ---- the content

abbrev pub byte_at : ℕ → ℕ → ℕ
byte_at shift j = (shift + 7 * j + j / 256 + j / 65536) % 256

-- some bytes of it, so many, from a place on
abbrev pub content_from : (shift from count : ℕ) → List ℕ
content_from shift from zero = []
content_from shift from (suc n) = byte_at shift from ∷ content_from shift (from + 1) n

abbrev pub content_of : Schedule → List ℕ
content_of s = content_from s.shift 0 s.size

-- ---- the limits

abbrev pub most_text : ℕ
most_text = 2 ^ 20

abbrev pub most_lines : ℕ
most_lines = 65536

abbrev pub most_peers : ℕ
most_peers = 16

-- Peer n of so many dials 1 to 15 others.
abbrev pub IsRole : ℕ → ℕ → Role → Type 0
IsRole peers n Seeds = Unit {0}
IsRole peers n (Fetches order dialled) =
    (1 ≤ length dialled) × (length dialled ≤ 15) × AllByRecursion (λ q. (q < peers) × (q ≢ n)) dialled

abbrev pub AreRoles : ℕ → ℕ → List Role → Type 0
AreRoles peers n [] = Unit {0}
AreRoles peers n (role ∷ roles) = IsRole peers n role × AreRoles peers (n + 1) roles

abbrev pub IsAct : ℕ → Act → Type 0
IsAct peers (Turn p) = p < peers
IsAct peers (Lose p) = p < peers
IsAct peers (Repeat p) = p < peers
IsAct peers (Later p) = p < peers
IsAct peers (Forge p q bytes) = (p < peers) × (q < peers) × (1 ≤ length bytes) × (length bytes ≤ 16384)
    × AllByRecursion (λ b. b < 256) bytes
IsAct peers (Fail p call) = p < peers
IsAct peers (Crash p pick) = (p < peers) × (pick < 2 ^ 64)
IsAct peers (Stop p) = p < peers
IsAct peers (Start p) = p < peers

abbrev pub IsStep : ℕ → Step → Type 0
IsStep peers (Once act) = IsAct peers act
IsStep peers (Run rounds gain) = (1 ≤ rounds) × (rounds ≤ 10000) × (gain ≤ 600000000)

-- ---- the text

abbrev pub words : List (List ℕ) → List ℕ
words [] = []
words (w ∷ []) = w
words (w ∷ v ∷ ws) = w ++ codes " " ++ words (v ∷ ws)

abbrev pub device_text : Device → List ℕ
device_text Read = codes "read"
device_text Write = codes "write"
device_text Sync = codes "sync"
device_text Send = codes "send"
device_text Receive = codes "receive"

abbrev pub role_words : Role → List (List ℕ)
role_words Seeds = codes "seed" ∷ []
role_words (Fetches order dialled) = codes "fetch" ∷ order_text order ∷ map decimal dialled

abbrev pub act_words : Act → List (List ℕ)
act_words (Turn p) = codes "turn" ∷ decimal p ∷ []
act_words (Lose p) = codes "lose" ∷ decimal p ∷ []
act_words (Repeat p) = codes "repeat" ∷ decimal p ∷ []
act_words (Later p) = codes "later" ∷ decimal p ∷ []
act_words (Forge p q bytes) = codes "forge" ∷ decimal p ∷ decimal q ∷ encode_lower bytes ∷ []
act_words (Fail p call) = codes "fail" ∷ decimal p ∷ device_text call ∷ []
act_words (Crash p pick) = codes "crash" ∷ decimal p ∷ decimal pick ∷ []
act_words (Stop p) = codes "stop" ∷ decimal p ∷ []
act_words (Start p) = codes "start" ∷ decimal p ∷ []

abbrev pub step_words : Step → List (List ℕ)
step_words (Once act) = act_words act
step_words (Run rounds gain) = codes "run" ∷ decimal rounds ∷ decimal gain ∷ []

abbrev pub role_lines : ℕ → List Role → List ℕ
role_lines n [] = []
role_lines n (role ∷ roles) = line (words (codes "peer" ∷ decimal n ∷ role_words role)) ++ role_lines (n + 1) roles

abbrev pub step_lines : List Step → List ℕ
step_lines [] = []
step_lines (step ∷ steps) = line (words (step_words step)) ++ step_lines steps

abbrev pub header : List ℕ
header = codes "ppspp-schedule 1"

abbrev pub schedule_text : Schedule → List ℕ
schedule_text s =
    line header
    ++ line (words (codes "content" ∷ decimal s.chunk ∷ decimal s.size ∷ decimal s.shift ∷ []))
    ++ role_lines 0 s.roles
    ++ step_lines s.steps

-- A schedule that a text can have.
pub record IsSchedule (s : Schedule) : Type 0 where
  pub chunk_size : IsChunkSize s.chunk
  pub some : 1 ≤ s.size
  pub most : s.size ≤ 2 ^ 20
  pub byte : s.shift ≤ 255
  pub peers : 1 ≤ length s.roles
  pub few : length s.roles ≤ most_peers
  pub roles_are : AreRoles (length s.roles) 0 s.roles
  pub steps_are : AllByRecursion (IsStep (length s.roles)) s.steps
  pub text_fits : length (schedule_text s) ≤ most_text
  pub lines_fit : 2 + length s.roles + length s.steps ≤ most_lines
