-- What a peer holds, as contracts see it.
use Rattle.std.specs.Prelude.{◌≡◌, ℕ, ◌+◌, ◌<◌, ◌==◌, Bool, true, false, List, length, map, count_by, slice_index_or}
use Rattle.std.specs.List.{list_any, AllByRecursion}
use Rattle.pp_terms.specs.format.Descriptor.{chunks_of}
use Rattle.pp_terms.specs.disk.Disk.{DiskState}
use Rattle.pp_tree.specs.Book.{BookState, entry, IsBookOf}
use Rattle.pp_store.specs.Store.{StoreState, is_committed, KnowsHeld}
use Rattle.pp_promises.specs.Batches.{Batch, most_pending}
use Rattle.pp_holding.specs.declared.queue.Ticket.{Ticket}
use Rattle.pp_holding.specs.declared.queue.Waiting.{Waiting}
use Rattle.pp_holding.specs.Queue.{QueueState, HasRoom, pending_of}
use Rattle.pp_holding.specs.Stock.{Stock}

-- An open store and its book; the chunks that are pending, and whom to acknowledge.
pub record HoldingState : Type 0 where
  pub store : StoreState
  pub book : BookState
  pub queue : QueueState

-- The chunks that are committed and those that are pending, as the promises of a run see them.
abbrev pub batch_from : StoreState → List Waiting → Batch
batch_from s waiting = record { committed = s.committed; pending = map pending_of waiting }

abbrev pub batch_of : HoldingState → Batch
batch_of s = batch_from s.store s.queue.waiting

-- a holding's store and book, with the disk under them
abbrev pub stock_of : HoldingState → DiskState → Stock
stock_of s disk = record { store = s.store; book = entry s.book; disk = disk }

-- chunk i is among what waits
abbrev pub is_queued : List Waiting → ℕ → Bool
is_queued waiting i = list_any (λ w. w.ticket.chunk == i) waiting

-- What waits is exactly what is pending, each chunk once, and nothing of that is committed.
pub record HasWaiting (s : StoreState) (waiting : List Waiting) : Type 0 where
  pub committed_size : length s.committed ≡ chunks_of s.descriptor
  pub pending_size : length s.pending ≡ chunks_of s.descriptor
  pub apart : (i : ℕ) → slice_index_or s.pending i false ≡ true → slice_index_or s.committed i false ≡ false
  pub each : (i : ℕ) → is_queued waiting i ≡ slice_index_or s.pending i false
  pub as_many : length waiting ≡ count_by (λ b. b) s.pending

-- the chunks of all tickets are committed
abbrev pub AreCommitted : StoreState → List Ticket → Type 0
AreCommitted s tickets = AllByRecursion (λ t. is_committed s t.chunk ≡ true) tickets

-- The book is the store's; fewer than 64 chunks wait while the store may be written to; there is no ticket more than there is room
-- for; and each, of those that came again too, is of a committed chunk.
pub record AreTied (s : HoldingState) : Type 0 where
  pub book_is : IsBookOf s.store.descriptor s.book
  pub knows : KnowsHeld s.store (entry s.book)
  pub waits : HasWaiting s.store s.queue.waiting
  pub few : s.store.live ≡ true → length s.queue.waiting < most_pending
  pub room : HasRoom s.queue
  pub came : AreCommitted s.store s.queue.tickets
  pub again : AreCommitted s.store s.queue.repeats

-- The number is how many chunks are neither committed nor pending.
abbrev pub IsLeft : HoldingState → ℕ → Type 0
IsLeft s n = n + count_by (λ b. b) s.store.committed + length s.queue.waiting ≡ chunks_of s.store.descriptor
