-- What a step of a player does. `old` and `new` are the player and its devices before and after it.
use Rattle.std.specs.Prelude.{◌≡◌, ◌⊎◌, ℕ, ◌+◌, ◌-◌, ◌<◌, ◌≤◌, Bool, true, false, List, [], ◌++◌, length, take, Result, Ok, Err}
use Rattle.pp_terms.specs.Count.{HasRisen}
use Rattle.pp_terms.specs.command.Stream.{Gains}
use Rattle.pp_scan.specs.Look.{KeepsAll}
use Rattle.pp_store.specs.Store.{is_committed}
use Rattle.pp_store.specs.declared.reading.ReadFault.{ReadFault}
use Rattle.pp_store.specs.declared.reading.ReadFault.TheVariants as reads
use Rattle.pp_holding.specs.Holding.{HoldingState}
use Rattle.pp_stream.specs.Player.{PlayerState, Feed}
use Rattle.pp_stream.specs.Chunks.{IsChunk, AreNext, IsDamagedChunk}
use Rattle.pp_stream.specs.declared.player.PlayFault.{PlayFault}
use Rattle.pp_stream.specs.declared.player.PlayFault.TheVariants.{Disk, Sink, Damaged}

-- The sink gained the chunks from the old base up to the new one, and then these bytes; and each of the chunks was committed.
pub record PutsNext (s : HoldingState) (old new : Feed) (more : List ℕ) : Type 0 where
  pub forward : old.player.base ≤ new.player.base
  pub bytes : List ℕ
  pub chunks : AreNext s.store.descriptor (IsChunk s old.disk) old.player.base
      (new.player.base - old.player.base) bytes
  pub committed : (i : ℕ) → old.player.base ≤ i → i < new.player.base → is_committed s.store i ≡ true
  pub gained : Gains old.sink.taken (bytes ++ more) new.sink.taken

-- The sink gained them and the first bytes of the chunk at the new base, and not all of that.
pub record PutsPart (s : HoldingState) (old new : Feed) : Type 0 where
  pub piece : List ℕ
  pub chunk : IsChunk s old.disk new.player.base piece
  pub count : ℕ
  pub short : count < length piece
  pub put : PutsNext s old new (take count piece)

-- The chunk at the base is committed.
pub record HasNext (s : HoldingState) (player : PlayerState) : Type 0 where
  pub within : player.base < player.chunks
  pub committed : is_committed s.store player.base ≡ true

-- All chunks are written, or the one at the base isn't committed.
abbrev pub HasNone : HoldingState → PlayerState → Type 0
HasNone s player = (player.base ≡ player.chunks) ⊎ (is_committed s.store player.base ≡ false)

-- What the writing stopped at, by the answer.
abbrev pub StopsAt : HoldingState → Feed → Feed → Result (Unit {0}) PlayFault → Type 0
StopsAt s old new (Ok _) = PutsNext s old new [] × HasNone s new.player
StopsAt s old new (Err Disk) = PutsNext s old new [] × HasNext s new.player × HasRisen old.disk.faults new.disk.faults
StopsAt s old new (Err Sink) = PutsPart s old new × HasNext s new.player × HasRisen old.sink.faults new.sink.faults
StopsAt s old new (Err (Damaged chunk found kept)) = PutsNext s old new [] × HasNext s new.player
    × (chunk ≡ new.player.base) × IsDamagedChunk s old.disk chunk found kept

-- The chunks and the window stay, the disk is only read, and no count of faults falls.
pub record KeepsRest (old new : Feed) : Type 0 where
  pub player : new.player ≡ record old.player { base = new.player.base }
  pub within : new.player.base ≤ new.player.chunks
  pub looks : KeepsAll old.disk new.disk
  pub hard : new.disk.hard ≡ old.disk.hard
  pub later : old.sink.faults ≤ new.sink.faults

-- A step of a player.
pub record TakesStep (s : HoldingState) (old new : Feed) (result : Result (Unit {0}) PlayFault) : Type 0 where
  pub stops : StopsAt s old new result
  pub rest : KeepsRest old new

-- What comes of the chunk at the base, by the answer: it is written, or isn't committed, or a fault stops it.
abbrev pub PutsChunk : HoldingState → Feed → Feed → Result Bool PlayFault → Type 0
PutsChunk s old new (Ok true) = PutsNext s old new [] × (new.player.base ≡ old.player.base + 1)
PutsChunk s old new (Ok false) = StopsAt s old new (Ok tt)
PutsChunk s old new (Err fault) = StopsAt s old new (Err fault)

-- what is answered of a chunk that wasn't read
abbrev pub unread_as : ℕ → ReadFault → Result Bool PlayFault
unread_as chunk reads.Absent = Ok false
unread_as chunk reads.Disk = Err Disk
unread_as chunk (reads.Damaged found kept) = Err (Damaged chunk found kept)

pub record PutsOne (s : HoldingState) (old new : Feed) (result : Result Bool PlayFault) : Type 0 where
  pub puts : PutsChunk s old new result
  pub rest : KeepsRest old new
