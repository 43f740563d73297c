-- All that goes out in one turn.
use Rattle.std.specs.Prelude.{◌≡◌, ℕ, ◌+◌, ◌<◌, List}
use Rattle.pp_peer.specs.declared.dialling.Dial.{Dial}
use Rattle.pp_peer.specs.declared.parts.Parts.{Parts}
use Rattle.pp_peer.specs.declared.speaking.Speaker.{Speaker}
use Rattle.pp_peer.specs.Flushing.{Scene, Flushes}
use Rattle.pp_peer.specs.Greeting.{Drops, HasNoneOver, GivesUp, HasNoneSpent}
use Rattle.pp_peer.specs.Dialling.{DialsAll, HasNoneToDial}
use Rattle.pp_peer.specs.Slotting.{TurnsSlots}
use Rattle.pp_peer.specs.Speaking.{SpeaksAll}
use Rattle.pp_peer.specs.Serving.{OnlySeats, ServesBelow}

-- Channels whose time is over were dropped, own requests that expired or were lost given up, addresses dialled, slots turned; then
-- what was due on each channel was said there, and chunks were served. So many datagrams and chunks were given up.
pub record SendsAll (dials lefts : List Dial) (speaker left : Speaker) (refused : ℕ) (old new : Scene) : Type 0 where
  pub dropped : Parts
  pub drops : Drops old.parts dropped
  pub none_over : HasNoneOver dropped
  pub given : Parts
  pub gives_up : GivesUp dropped given
  pub none_spent : (seat : ℕ) → seat < 64 → HasNoneSpent seat given
  pub dialled : Scene
  pub dials_all : DialsAll dials lefts (record old { parts = given }) dialled
  pub none_to_dial : HasNoneToDial dialled.parts
  pub turned : Parts
  pub turns : TurnsSlots dialled.parts turned
  pub unsaid : ℕ
  pub said : Scene
  pub speaks : SpeaksAll unsaid speaker left (record dialled { parts = turned }) said
  pub speech : Flushes unsaid (record dialled { parts = turned }) said
  pub unread : said.disk ≡ old.disk
  pub unserved : ℕ
  pub serves : ServesBelow 64 unserved said new
  pub only : OnlySeats said.parts new.parts
  pub many : refused ≡ unsaid + unserved
