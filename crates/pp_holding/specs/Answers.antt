-- What a put and the end of an event do.
use Rattle.std.specs.Prelude.{◌≡◌, ℕ, suc, Bool, false, nat_le, if◌then◌else◌, List, [], ◌∷◌, length}
use Rattle.pp_terms.specs.tree.Book.{LookUp}
use Rattle.pp_terms.specs.format.Descriptor.{chunks_of}
use Rattle.pp_tree.specs.Book.{entry}
use Rattle.pp_paths.specs.declared.judging.Verdict.TheVariants as verdicts
use Rattle.pp_paths.specs.declared.settling.Settled.TheVariants as settlements
use Rattle.pp_paths.specs.Judge.{judged}
use Rattle.pp_paths.specs.Settle.{settled}
use Rattle.pp_store.specs.declared.admitting.Put.{Put}
use Rattle.pp_store.specs.declared.admitting.Put.TheVariants.{Stored, Held, Missing, Wrong, Length}
use Rattle.pp_store.specs.Answer.{peaked, put_answer, put_learned}
use Rattle.pp_store.specs.Store.{is_held}
use Rattle.pp_promises.specs.Batches.{most_pending}
use Rattle.pp_holding.specs.declared.queue.Ticket.{Ticket}
use Rattle.pp_holding.specs.declared.queue.Waiting.{Waiting}
use Rattle.pp_holding.specs.Queue.{QueueState, waiting_at, released, with_waiting, with_repeat}
use Rattle.pp_holding.specs.Holding.{HoldingState}

-- the answer to bytes that came as a chunk, by what is held and by the claims; and what the book has afterwards
abbrev pub answer_to : HoldingState → LookUp → ℕ → List ℕ → Put
answer_to s claims i bytes = put_answer (is_held s.store i) s.store.descriptor (entry s.book) claims i bytes

abbrev pub learned_from : HoldingState → LookUp → ℕ → List ℕ → LookUp
learned_from s claims i bytes = put_learned (is_held s.store i) s.store.descriptor (entry s.book) claims i bytes

-- The chunk isn't held yet, and by the book and the claims the bytes are judged to be it.
pub record FitsUnheld (s : HoldingState) (claims : LookUp) (i : ℕ) (bytes : List ℕ) : Type 0 where
  pub unheld : is_held s.store i ≡ false
  pub peaks : settled (chunks_of s.store.descriptor) (entry s.book) claims ≡ settlements.Known
  pub verdict : judged s.store.descriptor (peaked s.store.descriptor (entry s.book) claims) claims i bytes ≡ verdicts.Fits

-- the chunks that an answer stored
abbrev pub stored_by : Put → ℕ → List ℕ
stored_by Stored i = i ∷ []
stored_by Held i = []
stored_by (Missing node) i = []
stored_by (Wrong node found kept) i = []
stored_by (Length found want) i = []

-- what waits after an answer
abbrev pub waiting_with : Put → Ticket → (at : ℕ) → List Waiting → List Waiting
waiting_with Stored ticket at waiting = waiting_at ticket at ∷ waiting
waiting_with Held ticket at waiting = waiting
waiting_with (Missing node) ticket at waiting = waiting
waiting_with (Wrong node found kept) ticket at waiting = waiting
waiting_with (Length found want) ticket at waiting = waiting

-- whether an answer stored a chunk with which so many wait that all are committed
abbrev pub is_filled_by : Put → List Waiting → Bool
is_filled_by Stored waiting = nat_le most_pending (suc (length waiting))
is_filled_by Held waiting = false
is_filled_by (Missing node) waiting = false
is_filled_by (Wrong node found kept) waiting = false
is_filled_by (Length found want) waiting = false

-- A chunk that was stored waits, or is committed with the others at once.
abbrev pub after_stored : Ticket → (at : ℕ) → QueueState → QueueState
after_stored ticket at q =
    let more = with_waiting (waiting_at ticket at) q in if is_filled_by Stored q.waiting then released more else more

-- The sender of a chunk that is committed already is acknowledged again; for one that is pending nothing is done.
abbrev pub after_held : (is_committed : Bool) → Ticket → QueueState → QueueState
after_held is_committed ticket q = if is_committed then with_repeat ticket q else q

-- what an answer does to the queue
abbrev pub queue_after : Put → (is_committed : Bool) → Ticket → (at : ℕ) → QueueState → QueueState
queue_after Stored is_committed ticket at q = after_stored ticket at q
queue_after Held is_committed ticket at q = after_held is_committed ticket q
queue_after (Missing node) is_committed ticket at q = q
queue_after (Wrong node found kept) is_committed ticket at q = q
queue_after (Length found want) is_committed ticket at q = q

-- At the end of an event what waits is committed, where that is due.
abbrev pub queue_settled : (is_due : Bool) → QueueState → QueueState
queue_settled is_due q = if is_due then released q else q
