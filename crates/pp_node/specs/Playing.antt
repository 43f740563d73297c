-- What a run of `play STORE DESCRIPTOR LISTEN TURNS WINDOW PEER..` promises: the content goes to the sink while it comes, and no line
-- does.
use Rattle.std.specs.Prelude.{◌≡◌, ◌⊎◌, ℕ, ◌+◌, ◌<◌, ◌≤◌, min, true, false, Some, List, [], length, take}
use Rattle.std.specs.List.{list_any}
use Rattle.sha2.specs.Sha256.{sha256}
use Rattle.pp_terms.specs.Count.{HasRisen}
use Rattle.pp_terms.specs.command.Stream.{SinkState}
use Rattle.pp_terms.specs.disk.Disk.{DiskState, IsKnown, IsRead}
use Rattle.pp_terms.specs.disk.Image.{holds}
use Rattle.pp_terms.specs.disk.Sound.{BeganSound}
use Rattle.pp_terms.specs.disk.Store.{chunk_place}
use Rattle.pp_terms.specs.format.Descriptor.{Descriptor, chunks_of}
use Rattle.pp_terms.specs.format.Traffic.{Address, LinkState, Record}
use Rattle.pp_terms.specs.tree.Book.{IsBacked}
use Rattle.pp_terms.specs.tree.Content.{chunk_length}
use Rattle.pp_traffic.specs.Committed.{is_in}
use Rattle.pp_traffic.specs.Tallied.{TookTurns}
use Rattle.pp_traffic.specs.Turns.{is_closing}
use Rattle.pp_promises.specs.Premises.{IsCalm, IsSteady}
use Rattle.pp_tree.specs.Book.{BookState, entry, IsBookOf}
use Rattle.pp_peer.specs.Standing.{Beginning}
use Rattle.pp_core.specs.Offering.{AsksOrHolds, RequestsBelow}
use Rattle.pp_core.specs.Peers.{PeerState}
use Rattle.pp_core.specs.Turning.{Closes}
use Rattle.pp_turns.specs.Taking.{IsSized}
use Rattle.pp_turns.specs.Turning.{post}
use Rattle.pp_stream.specs.Played.{HasPlayed}
use Rattle.pp_stream.specs.Player.{PlayerState}
use Rattle.pp_stream.specs.declared.player.PlayFault.{PlayFault}
use Rattle.pp_stream.specs.declared.player.PlayFault.TheVariants as faults
use Rattle.pp_playback.specs.Turns.{Stand, stand, StartsAt, IsUnplayed, PlaysOn, StopsIn}
use Rattle.pp_playback.specs.declared.playing.PlayStop.{PlayStop}
use Rattle.pp_playback.specs.declared.playing.PlayStop.TheVariants.{Broken, Unwritten}
use Rattle.pp_node.specs.Faults.{Faults}
use Rattle.pp_node.specs.Looking.{IsOf}
use Rattle.pp_node.specs.Outside.{Outside}
use Rattle.pp_node.specs.Promising.{PeerWords, HasRun, IsUnturned, IsKeptTo, PeerEnds, DialsAsTold}
use Rattle.pp_node.specs.declared.preparing.SeedFault.{SeedFault}
use Rattle.pp_node.specs.declared.preparing.SeedFault.TheVariants as prepared
use Rattle.pp_node.specs.declared.status.Status.{Status}
use Rattle.pp_node.specs.declared.status.Status.TheVariants.{Done, NotAStore, Incomplete, DiskFault, LinkFault, SinkFault, Memory, Damaged}

-- below which chunk is asked for, where chunks below a base are written
abbrev pub limit_at : Descriptor → (window base : ℕ) → ℕ
limit_at d window base = min (base + window) (chunks_of d)

-- The sink gained the chunks before the base in order, each backed by the book, and then these bytes. Of a link that tells, each REQUEST
-- lies below base and window together.
pub record IsPlayed (w : PeerWords) (window base : ℕ) (old new : Outside) (added : List Record) (more : List ℕ) : Type 0 where
  pub within : base ≤ chunks_of w.descriptor
  pub played : HasPlayed w.descriptor (entry new.book) base old.sink new.sink more
  pub asks : (before : List Record) → old.link.traffic ≡ Some before → RequestsBelow w.descriptor (limit_at w.descriptor window base) added

-- The turns ended, and the channels were closed. Where the disk, which is honest and tells, refused nothing but readings, every image
-- was sound at the attachment, and the link, which tells, refused nothing: when the turns ended each chunk below base and window together
-- was asked for that a channel offers which may be asked, or is held.
pub record HasPlayedOut (w : PeerWords) (window base : ℕ) (dial : List Address) (old new : Outside) (added : List Record) : Type 0 where
  pub taken : ℕ
  pub within : taken ≤ w.turns
  pub run : HasRun w taken old new added
  pub played : IsPlayed w window base old new added []
  pub written : (i : ℕ) → i < base → is_in run.committed i ≡ true
  pub kept_to : IsKeptTo w.descriptor old new added
  pub dials : DialsAsTold w.descriptor dial old new added
  pub asks : (before : List Record) → old.link.traffic ≡ Some before → IsSteady w.descriptor old.disk new.disk
      → IsCalm old.link.faults new.link.faults
      → AsksOrHolds w.descriptor (limit_at w.descriptor window base) (λ i. holds w.descriptor new.disk.history.reads i) run.closed.turned

-- All turns were taken, and the chunk at the base isn't committed.
pub record IsCutShort (w : PeerWords) (window : ℕ) (dial : List Address) (old new : Outside) (added : List Record) : Type 0 where
  pub base : ℕ
  pub within : base < chunks_of w.descriptor
  pub out : HasPlayedOut w window base dial old new added
  pub all : out.taken ≡ w.turns
  pub absent : is_in out.run.committed base ≡ false

-- A fault ended it before the last turn did, and no closing handshake was sent.
pub record IsHalted (w : PeerWords) (window base : ℕ) (old new : Outside) (added : List Record) (more : List ℕ) : Type 0 where
  pub taken : ℕ
  pub within : taken ≤ w.turns
  pub took : TookTurns taken old.link new.link added
  pub begins : IsKnown old.disk → IsOf w.descriptor new.disk.history.found
  pub played : IsPlayed w window base old new added more
  pub unclosed : (before : List Record) → old.link.traffic ≡ Some before → list_any (is_closing w.descriptor) added ≡ false
  pub rooted : IsBookOf w.descriptor new.book

-- The disk refused a write or a sync in the last turn.
pub record IsBroken (w : PeerWords) (window : ℕ) (old new : Outside) (added : List Record) : Type 0 where
  pub base : ℕ
  pub halted : IsHalted w window base old new added []
  pub hard : HasRisen old.disk.hard new.disk.hard

-- The disk refused to read the chunk at the base.
pub record IsUnread (w : PeerWords) (window : ℕ) (old new : Outside) (added : List Record) : Type 0 where
  pub base : ℕ
  pub within : base < chunks_of w.descriptor
  pub halted : IsHalted w window base old new added []
  pub risen : HasRisen old.disk.faults new.disk.faults

-- The sink refused a piece of the chunk at the base, and took what is before it.
pub record IsCutOff (w : PeerWords) (window : ℕ) (old new : Outside) (added : List Record) : Type 0 where
  pub base : ℕ
  pub within : base < chunks_of w.descriptor
  pub piece : List ℕ
  pub backed : IsBacked w.descriptor (entry new.book) base piece
  pub count : ℕ
  pub short : count < length piece
  pub halted : IsHalted w window base old new added (take count piece)
  pub risen : HasRisen old.sink.faults new.sink.faults

-- Bytes that were read of the chunk at the base have another digest than the book's: both are named. Over a disk that is honest and tells
-- the bytes are what reads gave at the chunk's place, and that never happens where every image was sound at the attachment.
pub record IsDamaged (w : PeerWords) (window : ℕ) (old new : Outside) (added : List Record) : Type 0 where
  pub base : ℕ
  pub within : base < chunks_of w.descriptor
  pub halted : IsHalted w window base old new added []
  pub bytes : List ℕ
  pub found : List ℕ
  pub kept : List ℕ
  pub size : length bytes ≡ chunk_length w.descriptor.size w.descriptor.chunk base
  pub found_is : found ≡ sha256 bytes
  pub kept_is : entry new.book 0 base ≡ Some kept
  pub differ : found ≡ kept → ⊥
  pub read : IsKnown old.disk → IsRead new.disk.history.reads (chunk_place w.descriptor.chunk base) bytes
  pub never : IsKnown old.disk → BeganSound w.descriptor new.disk.history → ⊥

-- When each status comes, and what the sink gained.
abbrev pub PlaysIn : Status → PeerWords → (window : ℕ) → List Address → Outside → Outside → List Record → Type 0
PlaysIn Done w window dial old new added = HasPlayedOut w window (chunks_of w.descriptor) dial old new added
PlaysIn Incomplete w window dial old new added = IsCutShort w window dial old new added
PlaysIn NotAStore w window dial old new added = Faults false NotAStore w.descriptor old new × IsUnturned old new added
PlaysIn DiskFault w window dial old new added = (Faults false DiskFault w.descriptor old new × IsUnturned old new added)
    ⊎ (IsBroken w window old new added ⊎ IsUnread w window old new added)
PlaysIn LinkFault w window dial old new added = Faults false LinkFault w.descriptor old new × IsUnturned old new added
PlaysIn Memory w window dial old new added = Faults false Memory w.descriptor old new × IsUnturned old new added
PlaysIn SinkFault w window dial old new added = IsCutOff w window old new added
PlaysIn Damaged w window dial old new added = IsDamaged w window old new added
PlaysIn _ w window dial old new added = ⊥

-- A run of `play`, which is to dial these addresses, by the number that it answers.
pub record PlayEnds (result : ℕ) (w : PeerWords) (window : ℕ) (dial : List Address) (old new : Outside) : Type 0 where
  pub run : PeerEnds result w old new
  pub ends : PlaysIn run.status w window dial old new run.added

-- ---- the statuses

-- the status that stands for a fault before the first turn
abbrev pub status_of_fault : SeedFault → Status
status_of_fault (prepared.NotAStore at found want) = NotAStore
status_of_fault prepared.Disk = DiskFault
status_of_fault prepared.Link = LinkFault
status_of_fault prepared.Memory = Memory

-- the status that stands for a fault of the writing
abbrev pub status_of_play : PlayFault → Status
status_of_play faults.Disk = DiskFault
status_of_play faults.Sink = SinkFault
status_of_play (faults.Damaged chunk found kept) = Damaged

abbrev pub status_of_stop : PlayStop → Status
status_of_stop Broken = DiskFault
status_of_stop (Unwritten fault) = status_of_play fault

-- ---- a peer that was made ready

-- the player of a peer's content, of which nothing is written yet
abbrev pub player_of : PeerState → (window : ℕ) → PlayerState
player_of p window = record { chunks = chunks_of p.parts.holding.store.descriptor; window = window; base = 0 }

-- All chunks are written, or not, by the status.
abbrev pub IsJudged : Status → PlayerState → Type 0
IsJudged Done p = p.base ≡ p.chunks
IsJudged Incomplete p = p.base < p.chunks
IsJudged _ p = ⊥

-- The turns ended, and the channels were closed.
pub record ClosesOut (b : Beginning) (most : ℕ) (first last : Stand) : Type 0 where
  pub mid : Stand
  pub plays : PlaysOn b most first mid
  pub closes : Closes mid.post.peer last.post.peer mid.post.link last.post.link mid.post.disk
  pub disk : last.post.disk ≡ mid.post.disk
  pub player : last.player ≡ mid.player
  pub sink : last.sink ≡ mid.sink
  pub sized : IsSized last.post.peer

-- Or a fault ended them.
abbrev pub ShowsTo : Status → Beginning → (most : ℕ) → Stand → Stand → Type 0
ShowsTo status b most first last =
    (ClosesOut b most first last × IsJudged status last.player)
    ⊎ ((stop : PlayStop) × (status ≡ status_of_stop stop) × StopsIn b most first last stop)

abbrev pub Shows : Status → Beginning → (most : ℕ) → Stand → Stand → Type 0
Shows status b most old last = IsUnplayed b old → (first : Stand) × StartsAt old first × ShowsTo status b most first last

-- A peer's content was written, and its book is the book.
pub record HasShown (status : Status) (b : Beginning) (most : ℕ) (old : Stand) (disk : DiskState) (link : LinkState) (book : BookState)
    (sink : SinkState) : Type 0 where
  pub last : PeerState
  pub player : PlayerState
  pub shows : Shows status b most old (stand (post last disk link) player sink)
  pub book_is : book ≡ last.parts.holding.book
  pub rooted : IsBookOf last.parts.holding.store.descriptor book
