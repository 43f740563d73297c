-- What a record counts as, and the two halves of what a traffic decides of a run's counts (RFC 7574, section 8).
use Rattle.std.specs.Prelude.{◌≡◌, ◌⊎◌, ℕ, ◌+◌, ◌-◌, ◌<◌, nat_lt, Bool, true, false, None, List, length}
use Rattle.pp_terms.specs.Count.{HasRisen, capped}
use Rattle.pp_terms.specs.command.Tally.{Tally}
use Rattle.pp_terms.specs.format.Traffic.{LinkState, Record, Received, Quiet, Sent}
use Rattle.pp_traffic.specs.Turns.{events}
use Rattle.pp_traffic.specs.Tallied.{came, came_short, went}
use Rattle.pp_audit.specs.declared.tallies.LinkCounts.{LinkCounts}
use Rattle.pp_audit.specs.declared.tallies.Kind.{Kind}
use Rattle.pp_audit.specs.declared.tallies.Kind.TheVariants.{Event, Came, Short, Went}

-- a record counts as one of a kind
abbrev pub is_kind : Kind → Record → Bool
is_kind Event (Received at sender bytes) = true
is_kind Event (Quiet at) = true
is_kind Event (Sent moment receiver bytes) = false
is_kind Came (Received at sender bytes) = true
is_kind Came (Quiet at) = false
is_kind Came (Sent moment receiver bytes) = false
is_kind Short (Received at sender bytes) = nat_lt (length bytes) 4
is_kind Short (Quiet at) = false
is_kind Short (Sent moment receiver bytes) = false
is_kind Went (Received at sender bytes) = false
is_kind Went (Quiet at) = false
is_kind Went (Sent moment receiver bytes) = true

-- how many records there are of a kind
abbrev pub count_of : Kind → List Record → ℕ
count_of Event past = events past
count_of Came past = came past
count_of Short past = came_short past
count_of Went past = went past

-- a link with these counts; what else a link has is not counted
abbrev pub link_of : LinkCounts → LinkState
link_of k = record { traffic = None; faults = k.faults; nexts = k.nexts; bound = None }

-- Waits were refused where so many turns began with fewer events, and the link's count shows that.
pub record RefusedSome (taken : ℕ) (before after : ℕ) (past : List Record) : Type 0 where
  pub refused : ℕ
  pub each : events past + refused ≡ taken
  pub why : (refused ≡ 0) ⊎ HasRisen before after

-- A link ended so many waits more.
pub record Waited (taken : ℕ) (before after : ℕ) : Type 0 where
  pub nexts : 0 < taken → after ≡ capped (before + taken)
  pub still : taken ≡ 0 → after ≡ before

-- A tally counts each of so many turns, and as a refused wait each of them that no event began.
pub record CountsTurns (t : Tally) (taken : ℕ) (past : List Record) : Type 0 where
  pub turns : t.turns ≡ capped taken
  pub receive_faults : t.receive_faults ≡ capped (taken - events past)

-- A tally counts each datagram that came, each that was short, and each that was sent.
pub record CountsDatagrams (t : Tally) (past : List Record) : Type 0 where
  pub datagrams : t.datagrams ≡ capped (came past)
  pub sent : t.sent ≡ capped (went past)
  pub short : t.short ≡ capped (came_short past)
