-- How far into the traffic a life is to be looked at.
use Rattle.std.specs.Prelude.{◌≡◌, ℕ, ◌+◌, ◌<◌, ◌≤◌, Some, List, length, slice_index_or, Contains}
use Rattle.pp_terms.specs.format.Descriptor.{Descriptor}
use Rattle.pp_traffic.specs.Life.{Life}
use Rattle.pp_outside.specs.Outside.{address_of}
use Rattle.pp_recorded.specs.declared.entry.Entry.{Entry}
use Rattle.pp_recorded.specs.Entries.{record_of, life_of}
use Rattle.pp_verdict.specs.Chunks.{SentChunk, chunk_of}
use Rattle.pp_verdict.specs.declared.reaches.SentTo.{SentTo}
use Rattle.pp_verdict.specs.declared.reaches.Reach.{Reach}

-- A chunk in a table: its receiver and channel number, and how many entries there are up to it.
pub record IsSentAs (c : SentChunk) (end : ℕ) (s : SentTo) : Type 0 where
  pub receiver : address_of s.address ≡ c.receiver
  pub channel_is : c.channel ≡ Some s.channel
  pub end_is : s.end ≡ end

-- the table has each chunk that was sent
abbrev pub HasSent : Descriptor → List Entry → List SentTo → Type 0
HasSent d entries sent = (k : ℕ) (x : Entry) (c : SentChunk) (number : ℕ) → k < length entries
    → x ≡ slice_index_or entries k x → chunk_of d (record_of x) ≡ Some c → c.channel ≡ Some number
    → (s : SentTo) × Contains sent s × IsSentAs c (k + 1) s

abbrev pub reached : Reach → Life
reached r = life_of r.life

-- from its end on, no chunk is sent to the life's address and number
abbrev pub IsCovered : Descriptor → List Entry → Reach → Type 0
IsCovered d entries r = (k : ℕ) (x : Entry) (c : SentChunk) → r.end ≤ k → k < length entries
    → x ≡ slice_index_or entries k x → chunk_of d (record_of x) ≡ Some c
    → c.receiver ≡ address_of r.life.address → c.channel ≡ Some r.life.remote → ⊥

abbrev pub AreCovered : Descriptor → List Entry → List Reach → Type 0
AreCovered d entries reaches = (r : Reach) → Contains reaches r → IsCovered d entries r
