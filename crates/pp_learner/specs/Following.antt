-- What a learner keeps of its channels is what its link carried: of each channel whose peer's number is known, by the story of what was
-- read and sent there. Chunks from 2 ^ 20 on are those of no content.
use Rattle.std.specs.Prelude.{◌≡◌, ℕ, ◌+◌, ◌^◌, ◌<◌, true, Option, Some, None, List, [], ◌∷◌, take}
use Rattle.pp_terms.specs.tree.Range.{Span}
use Rattle.pp_terms.specs.format.Messages.{Message, Have, Request}
use Rattle.pp_terms.specs.format.Traffic.{Record}
use Rattle.pp_terms.specs.Count.{capped}
use Rattle.pp_traffic.specs.Claims.{claims_in}
use Rattle.pp_traffic.specs.Life.{Life}
use Rattle.pp_traffic.specs.Past.{now}
use Rattle.pp_traffic.specs.Story.{Line, Heard, Said, Taken}
use Rattle.pp_traffic.specs.Tallied.{came, came_short, went}
use Rattle.pp_traffic.specs.Turns.{events}
use Rattle.pp_promises.specs.OwnSide.{is_choked_by_peer}
use Rattle.pp_counts.specs.declared.counts.Counts.{Counts}
use Rattle.pp_channels.specs.Seats.{Seats, channel_at, is_dialled}
use Rattle.pp_channels.specs.declared.channel.Channel.{Channel}
use Rattle.pp_lives.specs.Standing.{Standing, AllBegun, read_at}
use Rattle.pp_seat.specs.Lines.{inside}
use Rattle.pp_targets.specs.Names.{name_of}
use Rattle.pp_learner.specs.Learners.{LearnerState}
use Rattle.pp_learner.specs.Reading.{row_at}
use Rattle.pp_learner.specs.Rows.{RowState, greater}
use Rattle.pp_learner.specs.Standing.{stand_in}

-- ---- what a story says

-- the greatest chunk below 2 ^ 20 that a HAVE has offered
abbrev pub with_have : Option Span → Option ℕ → Option ℕ
with_have None before = before
with_have (Some range) before = Some (greater before range.last)

abbrev pub offered_by : Message → Option ℕ → Option ℕ
offered_by (Have span) before = with_have (inside (2 ^ 20) span) before
offered_by _ before = before

abbrev pub offered : List Line → Option ℕ
offered [] = None
offered (Heard now m ∷ before) = offered_by m (offered before)
offered (Said now m ∷ before) = offered before
offered (Taken now ∷ before) = offered before

-- when a REQUEST was last sent
abbrev pub requested_by : (now : ℕ) → Message → Option ℕ → Option ℕ
requested_by now (Request span) before = Some now
requested_by now _ before = before

abbrev pub last_requested : List Line → Option ℕ
last_requested [] = None
last_requested (Heard now m ∷ before) = last_requested before
last_requested (Said now m ∷ before) = requested_by now m (last_requested before)
last_requested (Taken now ∷ before) = last_requested before

-- ---- what is kept

-- What is kept of a channel is what its story says.
pub record Follows (story : List Line) (row : RowState) : Type 0 where
  pub claims : row.claims ≡ take 128 (claims_in (2 ^ 20) story)
  pub offer : row.offer ≡ offered story
  pub chokes : row.chokes ≡ is_choked_by_peer story
  pub asked : row.asked ≡ last_requested story

-- nothing is told of a free seat, and of one whose peer's number isn't known
abbrev pub FollowsIf : Option (List Line) → RowState → Type 0
FollowsIf None row = Unit {0}
FollowsIf (Some story) row = Follows story row

-- each channel was opened by this peer
abbrev pub AllDialled : Seats → Type 0
AllDialled t = (seat : ℕ) (c : Channel) → channel_at t seat ≡ Some c → is_dialled c.opening ≡ true

-- The learner stands for the traffic of its link.
pub record StandsFor (p : LearnerState) (past : List Record) : Type 0 where
  pub now_is : p.moment ≡ now past
  pub lives : ℕ → Option Life
  pub standing : Standing (stand_in (name_of p.name)) p.lives lives past
  pub begun : AllBegun p.lives
  pub dialled : AllDialled p.lives
  pub follows : (seat : ℕ) → seat < 64 → FollowsIf (read_at (stand_in (name_of p.name)) p.lives lives past seat) (row_at p.rows seat)

-- Five counts are those of the traffic, with so many waits that were refused.
pub record AreTallied (refused : ℕ) (k : Counts) (past : List Record) : Type 0 where
  pub turns : k.turns ≡ capped (events past + refused)
  pub datagrams : k.datagrams ≡ capped (came past)
  pub sent : k.sent ≡ capped (went past)
  pub short : k.short ≡ capped (came_short past)
  pub receive_faults : k.receive_faults ≡ capped refused
