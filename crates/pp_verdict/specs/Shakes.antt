-- The handshakes with which a channel opens, as they stand in a table.
use Rattle.std.specs.Prelude.{◌≡◌, ◌⊎◌, ℕ, ◌<◌, ◌≤◌, true, false, if◌then◌else◌, List, length, slice_index_or, Contains}
use Rattle.pp_terms.specs.format.Descriptor.{Descriptor}
use Rattle.pp_traffic.specs.Life.{Life, greets, answers}
use Rattle.pp_outside.specs.Outside.{address_of}
use Rattle.pp_recorded.specs.declared.entry.Entry.{Entry}
use Rattle.pp_recorded.specs.Entries.{record_of}
use Rattle.pp_verdict.specs.declared.shakes.Shake.{Shake}

-- A handshake is for that channel number, of that source.
pub record IsShake (channel source : ℕ) (s : Shake) : Type 0 where
  pub channel_is : s.channel ≡ channel
  pub source_is : s.source ≡ source

-- the other peer's handshake for the life
pub record IsGreeting (life : Life) (s : Shake) : Type 0 where
  pub came : s.is_sent ≡ false
  pub address : address_of s.address ≡ life.address
  pub shake : IsShake (if life.is_dialled then life.local else 0) life.remote s

-- this peer's
pub record IsReply (life : Life) (s : Shake) : Type 0 where
  pub sent : s.is_sent ≡ true
  pub address : address_of s.address ≡ life.address
  pub shake : IsShake (if life.is_dialled then 0 else life.remote) life.local s

-- The two open the life: the first at its opening.
pub record Opens (life : Life) (first second : Shake) : Type 0 where
  pub place : first.place ≡ life.opening
  pub order : first.place ≤ second.place
  pub both : (IsGreeting life first × IsReply life second) ⊎ (IsReply life first × IsGreeting life second)
  pub local_some : 0 < life.local
  pub remote_some : 0 < life.remote

-- the table has the handshake of a record at a place, where that is one of the life's
abbrev pub HasShake : Descriptor → ℕ → Entry → List Shake → Type 0
HasShake d place x shakes = (life : Life)
    → (greets d life (record_of x) ≡ true → (s : Shake) × Contains shakes s × IsGreeting life s × (s.place ≡ place))
    × (answers d life (record_of x) ≡ true → (s : Shake) × Contains shakes s × IsReply life s × (s.place ≡ place))

-- a list has the handshakes of each record
abbrev pub HasShakes : Descriptor → List Entry → List Shake → Type 0
HasShakes d entries shakes = (k : ℕ) (x : Entry) → k < length entries → x ≡ slice_index_or entries k x
    → HasShake d k x shakes
