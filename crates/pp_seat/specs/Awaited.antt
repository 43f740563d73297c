-- Which chunks this peer waits for on a channel, by what was said and heard there.
use Rattle.std.specs.Prelude.{◌≡◌, ℕ, ◌+◌, ◌≤◌, true, false, ◌&&◌, if◌then◌else◌, Some, None, option_map, List, [], ◌∷◌, ◌++◌, map, length}
use Rattle.pp_terms.specs.format.Traffic.{Record}
use Rattle.pp_terms.specs.format.Descriptor.{Descriptor}
use Rattle.pp_terms.specs.format.Messages.{Message, Data, Request, Cancel, Choke}
use Rattle.pp_terms.specs.tree.Range.{Span, within}
use Rattle.pp_traffic.specs.Past.{now}
use Rattle.pp_traffic.specs.Life.{Life, comes_on}
use Rattle.pp_traffic.specs.Story.{Line, Heard, Said, Taken, say}
use Rattle.pp_traffic.specs.Fates.{clock}
use Rattle.pp_promises.specs.OwnSide.{OwnRequest, request_for, outstanding, own_requests, waiting_time, has_expired, is_stopped, asking}
use Rattle.pp_promises.specs.ReadStory.{is_read, read_story}
use Rattle.pp_requests.specs.declared.asking.Asking.{Asking}
use Rattle.pp_requests.specs.Moments.{asked_at, entry_of, ChangesEntry, Answers, NoneExpired, IsLeastExpired, IsLeastLost, NoneLost}
use Rattle.pp_seat.specs.Lines.{Tale}
use Rattle.pp_seat.specs.Own.{IsSplit, AsksAll}
use Rattle.pp_seat.specs.Seats.{SeatState}
use Rattle.pp_seat.specs.Follows.{Frame, Lost, Begins, Follows}

-- an own request in the words of the promises
abbrev pub request_of : Asking → OwnRequest
request_of x = record { chunk = x.chunk; asked_at = x.moment; overtaken = x.overtaken }

-- a line's moment
abbrev pub moment_of : Line → ℕ
moment_of (Heard now m) = now
moment_of (Said now m) = now
moment_of (Taken now) = now

-- The own requests are those of the story, with their moments and counts; but for such as have expired or are lost, which are outstanding
-- on neither side.
abbrev pub AreAwaited : List Asking → List Line → Type 0
AreAwaited own story = (i : ℕ) → outstanding (clock story) (option_map request_of (entry_of own i))
    ≡ outstanding (clock story) (request_for i (own_requests story))

-- Both go on with a line more, with several messages more that were sent, and without one.
pub record KeepsAwaited (line : Line) (old new : List Asking) : Type 0 where
  pub stays : (story : List Line) → clock story ≤ moment_of line → AreAwaited old story → AreAwaited new (line ∷ story)

pub record AllKeepAwaited (now : ℕ) (ms : List Message) (old new : List Asking) : Type 0 where
  pub stays : (story : List Line) → clock story ≤ now → AreAwaited old story → AreAwaited new (say now ms story)

-- ---- what lines do

-- The line begins and ends no wait.
abbrev pub PassesHeard : Message → Type 0
PassesHeard (Data chunk sent_at bytes) = ⊥
PassesHeard Choke = ⊥
PassesHeard _ = Unit {0}

abbrev pub PassesSaid : Message → Type 0
PassesSaid (Request span) = ⊥
PassesSaid (Cancel span) = ⊥
PassesSaid _ = Unit {0}

abbrev pub PassesOwn : Line → Type 0
PassesOwn (Heard now m) = PassesHeard m
PassesOwn (Said now m) = PassesSaid m
PassesOwn (Taken now) = Unit {0}

abbrev pub AllPassSaid : List Message → Type 0
AllPassSaid [] = Unit {0}
AllPassSaid (m ∷ ms) = PassesSaid m × AllPassSaid ms

-- What becomes of the own requests with each line: they stay; a chunk's leaves, and may overtake others; all leave; those of CANCELs
-- leave, and those of REQUESTs come in. One that has expired or is lost leaves at any time.
pub record LinesKeepAwaited : Type 0 where
  pub others : (line : Line) (own : List Asking) → PassesOwn line → KeepsAwaited line own own
  pub answer : (i now sent_at : ℕ) (bytes : List ℕ) (old new : List Asking) → Answers now i old new
      → KeepsAwaited (Heard now (Data i sent_at bytes)) old new
  pub choke : (now : ℕ) (story : List Line) → AreAwaited [] (Heard now Choke ∷ story)
  pub cancel : (now : ℕ) (span : Span) (old new : List Asking)
      → ((i : ℕ) → entry_of new i ≡ (if within span i then None else entry_of old i))
      → KeepsAwaited (Said now (Cancel span)) old new
  pub cancels : (now : ℕ) (range : Span) (spans : List Span) (old new : List Asking) → IsSplit range spans
      → ((i : ℕ) → entry_of new i ≡ (if within range i then None else entry_of old i)) → AllKeepAwaited now (map Cancel spans) old new
  pub requests : (now : ℕ) (range : Span) (spans : List Span) (old new : List Asking) → IsSplit range spans → AsksAll range now old new
      → AllKeepAwaited now (map Request spans) old new
  pub passed : (now : ℕ) (ms : List Message) (own : List Asking) → AllPassSaid ms → AllKeepAwaited now ms own own
  pub twice : (now : ℕ) (ms more : List Message) (old mid new : List Asking) → AllKeepAwaited now ms old mid
      → AllKeepAwaited now more mid new
      → AllKeepAwaited now (ms ++ more) old new
  pub expired : (now i : ℕ) (story : List Line) (old new : List Asking) → IsLeastExpired old now i → ChangesEntry i None old new
      → now ≤ clock story → AreAwaited old story → AreAwaited new story
  pub lost : (i : ℕ) (story : List Line) (old new : List Asking) → IsLeastLost old i → ChangesEntry i None old new
      → AreAwaited old story → AreAwaited new story

-- A seat begins with none awaited.
abbrev pub NoneAwaited : Type 0
NoneAwaited = (f : Frame) (lost : Lost) (s : SeatState) (t : Tale) → Begins f t → Follows f lost s t → AreAwaited s.own t.story

-- ---- what the promises say

-- Where none of the own requests has expired or is lost, they are exactly those that are outstanding.
abbrev pub OwnIsAsking : Type 0
OwnIsAsking = (d : Descriptor) (life : Life) (own : List Asking) (past : List Record) → AreAwaited own (read_story d life past)
    → NoneExpired own (now past) → NoneLost own → (i : ℕ)
    → option_map request_of (entry_of own i) ≡ request_for i (asking d life past).requests

-- Asking stays stopped through what was sent, what came elsewhere and what isn't read; and it stops with a wait in which one of the own
-- requests expired.
pub record StopsAreTold : Type 0 where
  pub stays : (d : Descriptor) (life : Life) (r : Record) (past : List Record) → life.opening ≤ length past
      → (comes_on d life r && is_read d life (r ∷ past)) ≡ false → is_stopped d life past ≡ true → is_stopped d life (r ∷ past) ≡ true
  pub stops : (own : List Asking) (story : List Line) (now i moment : ℕ) → AreAwaited own story → NoneExpired own (clock story)
      → NoneLost own
      → asked_at own i ≡ Some moment → moment + waiting_time ≤ now → has_expired (Taken now ∷ story) ≡ true
