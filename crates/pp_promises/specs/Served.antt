-- What a peer serves (RFC 7574, sections 3.7 to 3.9): at the end of a turn no chunk is left asked for on a plain channel that
-- was announced before it was asked for, or stood on the disk from the start, while the window has room.
use Rattle.std.specs.Prelude.{◌≡◌, ◌⊎◌, ℕ, ◌≤◌, ◌==◌, nat_le, Bool, true, false, not, ◌||◌, if◌then◌else◌, List, [], ◌∷◌, length}
use Rattle.pp_terms.specs.format.Traffic.{Record, Received, Quiet, Sent}
use Rattle.pp_terms.specs.format.Descriptor.{Descriptor}
use Rattle.pp_terms.specs.disk.Disk.{History}
use Rattle.pp_terms.specs.format.Messages.{Message}
use Rattle.pp_traffic.specs.Past.{read}
use Rattle.pp_traffic.specs.Life.{Life}
use Rattle.pp_traffic.specs.Story.{heard_in, said_in, story}
use Rattle.pp_traffic.specs.Asking.{choked, asked_by, asked_after, asked, asks_in, most_asks, is_heard}
use Rattle.pp_traffic.specs.Serving.{Window}
use Rattle.pp_traffic.specs.Keeping.{announces, StoodThroughout}
use Rattle.pp_traffic.specs.Plain.{IsPlainNow}
use Rattle.pp_traffic.specs.Turns.{AtEndsBut, AtMost}

-- the chunk was announced, by a HAVE or an ACK on whatever channel
abbrev pub is_announced : Descriptor → ℕ → List Record → Bool
is_announced d i [] = false
is_announced d i (Received at sender bytes ∷ before) = is_announced d i before
is_announced d i (Quiet at ∷ before) = is_announced d i before
is_announced d i (Sent moment receiver bytes ∷ before) =
    announces i (read d (Sent moment receiver bytes)).messages.read || is_announced d i before

-- the messages that came: those that ask for the chunk count where it isn't barred; and those that were sent
abbrev pub asked_after_heard : ℕ → Bool → List Message → Bool → Bool
asked_after_heard i is_barred [] asked = asked
asked_after_heard i is_barred (m ∷ ms) asked = asked_after_heard i is_barred ms (asked_by i is_barred m asked)

abbrev pub asked_after_said : ℕ → List Message → Bool → Bool
asked_after_said i [] asked = asked
asked_after_said i (m ∷ ms) asked = asked_after_said i ms (asked_after i m asked)

abbrev pub owed_after : Descriptor → Life → ℕ → (is_opening is_barred : Bool) → Record → Bool → Bool
owed_after d life i is_opening is_barred (Received at sender bytes) owed =
    asked_after_heard i is_barred (heard_in d life is_opening (Received at sender bytes)) owed
owed_after d life i is_opening is_barred (Quiet at) owed = owed
owed_after d life i is_opening is_barred (Sent moment receiver bytes) owed =
    asked_after_said i (said_in d life (Sent moment receiver bytes)) owed

-- The chunk is asked for by a REQUEST before which it was announced: as `asked`, but a REQUEST counts only then.
abbrev pub is_owed : Descriptor → Life → ℕ → List Record → Bool
is_owed d life i [] = false
is_owed d life i (r ∷ before) =
    if nat_le life.opening (length before)
    then owed_after d life i (life.opening == length before)
    (choked (story d life before) || not (is_announced d i before)) r (is_owed d life i before)
    else false

-- On a plain channel: the other peer isn't choked, it has written to this peer's number, it sent few requests and
-- cancellations, and the window lets a chunk more be sent.
pub record MayBeServed (d : Descriptor) (window : Window) (life : Life) (past : List Record) : Type 0 where
  pub plain : IsPlainNow d life past
  pub unchoked : choked (story d life past) ≡ false
  pub heard : is_heard d life past ≡ true
  pub few : asks_in (story d life past) ≤ most_asks
  pub has_room : window (story d life past) ≡ true

-- The chunk is asked for, and was announced before, or stood in every image at the attachment.
abbrev pub IsOwed : Descriptor → History → Life → List Record → ℕ → Type 0
IsOwed d h life past i = (is_owed d life i past ≡ true) ⊎ ((asked i (story d life past) ≡ true) × StoodThroughout d h i)

-- On each channel that may be served, at most so many chunks are left so.
abbrev pub LeavesFew : ℕ → Descriptor → Window → History → List Record → Type 0
LeavesFew r d window h past = (life : Life) → MayBeServed d window life past → AtMost r (IsOwed d h life past)

-- The same at the end of every turn but so many.
abbrev pub ServesBut : ℕ → Descriptor → Window → History → List Record → Type 0
ServesBut r d window h past = AtEndsBut r d (LeavesFew r d window h) past
