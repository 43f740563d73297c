-- What the traffic of a run decides of what the run counts (RFC 7574, section 8).
use Rattle.std.specs.Prelude.{◌≡◌, ◌⊎◌, ℕ, ◌+◌, ◌-◌, ◌<◌, nat_lt, cond, List, [], ◌∷◌, length}
use Rattle.pp_terms.specs.Count.{HasRisen, capped}
use Rattle.pp_terms.specs.command.Tally.{Tally}
use Rattle.pp_terms.specs.format.Traffic.{LinkState, Record, Received, Quiet, Sent}
use Rattle.pp_traffic.specs.Turns.{events}

-- how many datagrams came, how many of them had fewer than four bytes, and how many were sent
abbrev pub came : List Record → ℕ
came [] = 0
came (Received at sender bytes ∷ before) = came before + 1
came (Quiet at ∷ before) = came before
came (Sent moment receiver bytes ∷ before) = came before

abbrev pub came_short : List Record → ℕ
came_short [] = 0
came_short (Received at sender bytes ∷ before) = cond (nat_lt (length bytes) 4) (came_short before + 1) (came_short before)
came_short (Quiet at ∷ before) = came_short before
came_short (Sent moment receiver bytes ∷ before) = came_short before

abbrev pub went : List Record → ℕ
went [] = 0
went (Received at sender bytes ∷ before) = went before
went (Quiet at ∷ before) = went before
went (Sent moment receiver bytes ∷ before) = went before + 1

-- Turns were taken, as many as the number says: each waited once, and the wait gave an event or was refused.
pub record TookTurns (taken : ℕ) (seen seen' : LinkState) (added : List Record) : Type 0 where
  pub nexts : 0 < taken → seen'.nexts ≡ capped (seen.nexts + taken)
  pub still : taken ≡ 0 → seen'.nexts ≡ seen.nexts
  pub refused : ℕ
  pub each : events added + refused ≡ taken
  pub why : (refused ≡ 0) ⊎ HasRisen seen.faults seen'.faults

-- Five counts of a run of so many turns are those of its traffic.
pub record IsTallied (t : Tally) (taken : ℕ) (added : List Record) : Type 0 where
  pub turns : t.turns ≡ capped taken
  pub datagrams : t.datagrams ≡ capped (came added)
  pub sent : t.sent ≡ capped (went added)
  pub short : t.short ≡ capped (came_short added)
  pub receive_faults : t.receive_faults ≡ capped (taken - events added)
