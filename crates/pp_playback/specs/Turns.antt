-- Turns of a peer whose content is written to a sink while it comes.
use Rattle.std.specs.Prelude.{◌≡◌, ◌⊎◌, ℕ, ◌+◌, ◌<◌, ◌≤◌, is_some, Some, List, [], length, take, Result, Ok, Err, true}
use Rattle.pp_terms.specs.Count.{HasRisen}
use Rattle.pp_terms.specs.tree.Book.{IsBacked}
use Rattle.pp_terms.specs.format.Descriptor.{chunks_of}
use Rattle.pp_terms.specs.format.Traffic.{Record}
use Rattle.pp_terms.specs.disk.Disk.{DiskState}
use Rattle.pp_terms.specs.command.Stream.{SinkState}
use Rattle.pp_tree.specs.Book.{entry}
use Rattle.pp_scan.specs.Look.{KeepsAll}
use Rattle.pp_store.specs.Store.{is_committed}
use Rattle.pp_holding.specs.Holding.{HoldingState}
use Rattle.pp_peer.specs.Standing.{Beginning}
use Rattle.pp_core.specs.Keeping.{IsKeeping}
use Rattle.pp_core.specs.Offering as peers
use Rattle.pp_core.specs.Offering.{FetchesAll, RequestsBelow}
use Rattle.pp_core.specs.Turning.{with_limit}
use Rattle.pp_turns.specs.Turning.{Post, IsBegun, Stops}
use Rattle.pp_turns.specs.Promising.{Stage, Ended, HasTurned}
use Rattle.pp_stream.specs.Chunks.{IsDamagedChunk}
use Rattle.pp_stream.specs.Played.{HasPlayed}
use Rattle.pp_stream.specs.Player.{PlayerState, limit_of}
use Rattle.pp_stream.specs.Steps.{HasNext, HasNone}
use Rattle.pp_stream.specs.declared.player.PlayFault.TheVariants.{Disk, Sink, Damaged}
use Rattle.pp_playback.specs.declared.playing.PlayStop.{PlayStop}
use Rattle.pp_playback.specs.declared.playing.PlayStop.TheVariants.{Broken, Unwritten}

-- A peer with its devices, and the player and the sink that its content goes to, at one time.
pub record Stand : Type 0 where
  pub post : Post
  pub player : PlayerState
  pub sink : SinkState

abbrev pub stand : Post → PlayerState → SinkState → Stand
stand post player sink = record { post = post; player = player; sink = sink }

abbrev pub holding_in : Stand → HoldingState
holding_in s = s.post.peer.parts.holding

-- Since the first the sink gained the chunks before the base, each committed and backed by the peer's book, and then these
-- bytes.
pub record HasWritten (first new : Stand) (more : List ℕ) : Type 0 where
  pub played : HasPlayed (holding_in new).store.descriptor (entry (holding_in new).book) new.player.base first.sink new.sink more
  pub committed : (i : ℕ) → i < new.player.base → is_committed (holding_in new).store i ≡ true
  pub player : new.player ≡ record first.player { base = new.player.base }
  pub within : new.player.base ≤ new.player.chunks
  pub later : first.sink.faults ≤ new.sink.faults

-- Where the link tells, each REQUEST that was sent lies below the player's limit.
abbrev pub AsksWithin : Beginning → (first new : Stand) → List Record → Type 0
AsksWithin b first new added = (before : List Record) → first.post.link.traffic ≡ Some before
    → RequestsBelow b.d (limit_of new.player) added

-- A number of turns were taken, the last of which has come so far, and the sink gained the chunks before the base, and then these
-- bytes.
pub record HasGone (stage : Stage) (b : Beginning) (taken : ℕ) (first new : Stand) (more : List ℕ) : Type 0 where
  pub of : first.player.chunks ≡ chunks_of b.d
  pub turns : HasTurned stage b taken first.post new.post
  pub written : HasWritten first new more
  pub asks : AsksWithin b first new turns.turns.went.added

-- The last turn ended: the peer asks for chunks below the player's limit, and all that is committed from the first chunk on is
-- written. Where a peer asks for all that it lacks, it goes on so.
pub record GoesOn (b : Beginning) (taken : ℕ) (first new : Stand) : Type 0 where
  pub gone : HasGone Ended b taken first new []
  pub limit : peers.limit_of new.post.peer.parts.fetching ≡ Some (limit_of new.player)
  pub full : FetchesAll b.d first.post.peer.parts → limit_of new.player ≡ new.player.chunks
  pub none : HasNone (holding_in new) new.player

-- Nothing was sent after what stopped the writing.
abbrev pub Halts : Beginning → ℕ → Stand → Stand → List ℕ → Type 0
Halts b taken first new more = (stage : Stage) × HasGone stage b taken first new more

-- The disk refused a write or a sync, and nothing was sent after that.
pub record IsBroken (b : Beginning) (taken : ℕ) (first new : Stand) : Type 0 where
  pub of : first.player.chunks ≡ chunks_of b.d
  pub stops : Stops b taken first.post new.post
  pub written : HasWritten first new []
  pub asks : AsksWithin b first new stops.went.added

-- The sink refused a piece of the chunk at the base, and took what is before it.
pub record IsCutOff (b : Beginning) (taken : ℕ) (first new : Stand) : Type 0 where
  pub piece : List ℕ
  pub chunk : IsBacked (holding_in new).store.descriptor (entry (holding_in new).book) new.player.base piece
  pub count : ℕ
  pub short : count < length piece
  pub halts : Halts b taken first new (take count piece)
  pub risen : HasRisen first.sink.faults new.sink.faults

-- Bytes that were read of the chunk at the base have another digest than the book's, which never happens where the peer kept
-- its disk.
pub record IsDamagedAt (b : Beginning) (first new : Stand) (chunk : ℕ) (found kept : List ℕ) : Type 0 where
  pub here : chunk ≡ new.player.base
  pub then : DiskState
  pub since : KeepsAll then new.post.disk
  pub damaged : IsDamagedChunk (holding_in new) then chunk found kept
  pub never : IsKeeping b.since first.post.peer first.post.disk [] → ⊥

-- What a turn came to.
abbrev pub PlaysTo : Beginning → ℕ → Stand → Stand → Result (Unit {0}) PlayStop → Type 0
PlaysTo b taken first new (Ok _) = GoesOn b taken first new
PlaysTo b taken first new (Err Broken) = IsBroken b taken first new
PlaysTo b taken first new (Err (Unwritten Disk)) = Halts b taken first new [] × HasNext (holding_in new) new.player
    × HasRisen first.post.disk.faults new.post.disk.faults
PlaysTo b taken first new (Err (Unwritten Sink)) = IsCutOff b taken first new × HasNext (holding_in new) new.player
PlaysTo b taken first new (Err (Unwritten (Damaged chunk found kept))) = Halts b taken first new [] × HasNext (holding_in new) new.player
    × IsDamagedAt b first new chunk found kept

-- Whatever turns went before, there is one more.
abbrev pub PlaysTurn : Stand → Stand → Result (Unit {0}) PlayStop → Type 0
PlaysTurn old new result = (b : Beginning) (taken : ℕ) (first : Stand) → GoesOn b taken first old → PlaysTo b (taken + 1) first new result

-- ---- before the first turn

-- the same, but that the peer asks for chunks below a number alone
abbrev pub asking_at : ℕ → Stand → Stand
asking_at limit s = record s { post = record s.post { peer = record s.post.peer { parts = with_limit limit s.post.peer.parts } } }

-- Turns and the writing begin as all was, but that the peer may ask for chunks below another number.
abbrev pub StartsAt : Stand → Stand → Type 0
StartsAt old first = (first ≡ old) ⊎ ((limit : ℕ) × (first ≡ asking_at limit old))

-- A peer that fetches has begun, and nothing of its content is written.
pub record IsUnplayed (b : Beginning) (old : Stand) : Type 0 where
  pub begun : IsBegun b old.post
  pub fetches : is_some old.post.peer.parts.fetching ≡ true
  pub of : old.player.chunks ≡ chunks_of b.d
  pub base : old.player.base ≡ 0

-- What is committed is written, and no turn is taken yet.
abbrev pub Begins : Stand → Stand → Result (Unit {0}) PlayStop → Type 0
Begins old new result = (b : Beginning) → IsUnplayed b old → (first : Stand) × StartsAt old first × PlaysTo b 0 first new result

-- ---- many turns

-- At most so many turns were taken, fewer only where all chunks are written.
pub record PlaysOn (b : Beginning) (most : ℕ) (first new : Stand) : Type 0 where
  pub taken : ℕ
  pub within : taken ≤ most
  pub goes : GoesOn b taken first new
  pub early : taken < most → new.player.base ≡ new.player.chunks

-- In one of them, or before the first, the writing stopped, or the disk refused something.
pub record StopsIn (b : Beginning) (most : ℕ) (first new : Stand) (stop : PlayStop) : Type 0 where
  pub taken : ℕ
  pub within : taken ≤ most
  pub plays : PlaysTo b taken first new (Err stop)

abbrev pub PlaysOutTo : Beginning → ℕ → Stand → Stand → Result (Unit {0}) PlayStop → Type 0
PlaysOutTo b most first new (Ok _) = PlaysOn b most first new
PlaysOutTo b most first new (Err stop) = StopsIn b most first new stop

-- Where the writing goes on from the first, turns are taken.
abbrev pub TakesAll : ℕ → (first old new : Stand) → Result (Unit {0}) PlayStop → Type 0
TakesAll most first old new result = (b : Beginning) → GoesOn b 0 first old → PlaysOutTo b most first new result

-- A peer that fetches has begun, and nothing of its content is written: then turns are taken, in which it is.
abbrev pub PlaysOut : ℕ → Stand → Stand → Result (Unit {0}) PlayStop → Type 0
PlaysOut most old new result = (b : Beginning) → IsUnplayed b old
    → (first : Stand) × StartsAt old first × PlaysOutTo b most first new result
