-- What a put leads to, from what the store answers and what follows that.
use Rattle.std.proofs.Common.{◌≡◌, ◌⊎◌, inl, ⊎_elim, ℕ, suc, ◌+◌, ◌<◌, ◌≤◌, ◌==◌, leb, Bool, true, false, cond, List, [], ◌∷◌, ◌++◌, length, reverse, get_or, Result, Ok, Err, refl, sym, ◌∙◌, ap, subst, arith}
use Rattle.std.specs.Prelude.{if◌then◌else◌, IfOk, OnOk, OnErr, IsOk}
use Rattle.std.proofs.Math.ListN.{set}
use Rattle.std.proofs.lemmas.Bool.{cases_eq, false≢true, or_left, or_right}
use Rattle.std.proofs.lemmas.List.{get_or-set_same, get_or-set_other, length-append, length-map, length-reverse, length-take}
use Rattle.std.proofs.lemmas.Result.{IfOk-weaker}
use Rattle.sha2.specs.Sha256.{sha256}
use Rattle.pp_terms.specs.Count.{HasRisen}
use Rattle.pp_terms.specs.tree.Book.{LookUp}
use Rattle.pp_terms.specs.format.Descriptor.{Descriptor, chunks_of, height_of}
use Rattle.pp_terms.specs.tree.Content.{chunk_length}
use Rattle.pp_terms.specs.tree.Proves.{first_absent}
use Rattle.pp_terms.specs.disk.Disk.{DiskState}
use Rattle.pp_terms.proofs.Facts.{member_below}
use Rattle.pp_outside.specs.declared.disk.DiskFault.{DiskFault}
use Rattle.pp_tree.specs.Book.{BookState, entry}
use Rattle.pp_paths.specs.declared.judging.Verdict.TheVariants as verdicts
use Rattle.pp_paths.specs.declared.settling.Settled as settling
use Rattle.pp_paths.specs.Climb.{climb}
use Rattle.pp_paths.specs.Ends.{end_of}
use Rattle.pp_paths.specs.Judge.{judged, missing_or, verdict_of}
use Rattle.pp_paths.specs.Settle.{settled, climb_of_peaks}
use Rattle.pp_store.specs.declared.admitting.Put.{Put}
use Rattle.pp_store.specs.declared.admitting.Put.TheVariants.{Stored, Held, Missing, Wrong, Length}
use Rattle.pp_store.specs.Answer.{peaked, by_peaks, by_verdict, put_answer, put_learned}
use Rattle.pp_store.specs.Store.{StoreState, is_committed, is_held, after_put}
use Rattle.pp_store.proofs.Puttings.{either_case}
use Rattle.pp_promises.specs.Batches.{most_pending, after_commit, after_puts}
use Rattle.pp_holding.specs.declared.queue.Ticket.{Ticket}
use Rattle.pp_holding.specs.declared.queue.Waiting.{Waiting}
use Rattle.pp_holding.specs.Queue.{QueueState, HasRoom, GrowsByOne, most_tickets, waiting_at, with_waiting, with_tickets, tickets_of, pending_of, released, with_repeat}
use Rattle.pp_holding.specs.Stock.{Advances}
use Rattle.pp_holding.specs.Holding.{HoldingState, batch_from, batch_of, stock_of, HasWaiting, AreTied}
use Rattle.pp_holding.specs.Answers.{answer_to, learned_from, FitsUnheld, stored_by, waiting_with, is_filled_by, queue_after}
use Rattle.pp_holding.proofs.Waitings.{waiting_put}
use Rattle.pp_holding.proofs.Advancing.{advances_twice}

-- ---- the store after an answer

pub live_after : (put : Put) (i : ℕ) (s s' : StoreState) → s' ≡ after_put put i s → s.live ≡ true → s'.live ≡ true
live_after Stored i s s' is live = ap (λ (x : StoreState). x.live) is ∙ live
live_after Held i s s' is live = ap (λ (x : StoreState). x.live) is ∙ live
live_after (Missing node) i s s' is live = ap (λ (x : StoreState). x.live) is ∙ live
live_after (Wrong node found kept) i s s' is live = ap (λ (x : StoreState). x.live) is ∙ live
live_after (Length found want) i s s' is live = ap (λ (x : StoreState). x.live) is ∙ live

committed_after : (put : Put) (i : ℕ) (s s' : StoreState) → s' ≡ after_put put i s → s'.committed ≡ s.committed
committed_after Stored i s s' is = ap (λ (x : StoreState). x.committed) is
committed_after Held i s s' is = ap (λ (x : StoreState). x.committed) is
committed_after (Missing node) i s s' is = ap (λ (x : StoreState). x.committed) is
committed_after (Wrong node found kept) i s s' is = ap (λ (x : StoreState). x.committed) is
committed_after (Length found want) i s s' is = ap (λ (x : StoreState). x.committed) is

pub same_committed : (result : Result Put DiskFault) (i : ℕ) (s s' : StoreState) → IfOk result (λ put. s' ≡ after_put put i s)
    → OnErr result (s' ≡ record s { pairs = s'.pairs; live = false }) → s'.committed ≡ s.committed
same_committed (Ok put) i s s' ok err = committed_after put i s s' ok
same_committed (Err fault) i s s' ok err = ap (λ (x : StoreState). x.committed) err

set_keeps : (xs : List Bool) (i l : ℕ) → get_or xs l false ≡ true → get_or (set xs i true) l false ≡ true
set_keeps xs i l at = ⊎_elim
    (λ same. ap (λ (m : ℕ). get_or (set xs i true) m false) same ∙ get_or-set_same xs i true false
    (let low = member_below xs l at in omega (arith, low, same)))
    (λ other. get_or-set_other xs i l true false other ∙ at)
    (cases_eq l i)

held_after_put : (put : Put) (i : ℕ) (s s' : StoreState) → s' ≡ after_put put i s → (l : ℕ) → is_held s l ≡ true → is_held s' l ≡ true
held_after_put Stored i s s' is l at =
    ap (λ (x : StoreState). is_held x l) is
    ∙ ⊎_elim
    (λ one. or_left (get_or s.committed l false) (get_or (set s.pending i true) l false) one)
    (λ two. or_right (get_or s.committed l false) (get_or (set s.pending i true) l false) (set_keeps s.pending i l two))
    (either_case (get_or s.committed l false) (get_or s.pending l false) at)
held_after_put Held i s s' is l at = ap (λ (x : StoreState). is_held x l) is ∙ at
held_after_put (Missing node) i s s' is l at = ap (λ (x : StoreState). is_held x l) is ∙ at
held_after_put (Wrong node found kept) i s s' is l at = ap (λ (x : StoreState). is_held x l) is ∙ at
held_after_put (Length found want) i s s' is l at = ap (λ (x : StoreState). is_held x l) is ∙ at

pub held_on : (result : Result Put DiskFault) (i : ℕ) (s s' : StoreState) → IfOk result (λ put. s' ≡ after_put put i s)
    → OnErr result (s' ≡ record s { pairs = s'.pairs; live = false }) → (l : ℕ) → is_held s l ≡ true → is_held s' l ≡ true
held_on (Ok put) i s s' ok err l at = held_after_put put i s s' ok l at
held_on (Err fault) i s s' ok err l at = ap (λ (x : StoreState). is_held x l) err ∙ at

-- a chunk is stored only where it wasn't held
unheld : (held : Bool) (d : Descriptor) (book claims : LookUp) (i : ℕ) (bytes : List ℕ) → put_answer held d book claims i bytes ≡ Stored → held ≡ false
unheld true d book claims i bytes is = cc
unheld false d book claims i bytes is = refl

pub waiting_after : (put : Put) (ticket : Ticket) (at : ℕ) (s s' : StoreState) (waiting : List Waiting) (book claims : LookUp) (bytes : List ℕ)
    → HasWaiting s waiting → ticket.chunk < chunks_of s.descriptor → put ≡ put_answer (is_held s ticket.chunk) s.descriptor book claims ticket.chunk bytes
    → s' ≡ after_put put ticket.chunk s → HasWaiting s' (waiting_with put ticket at waiting)
waiting_after Stored ticket at s s' waiting book claims bytes has within answer is =
    subst (λ (x : StoreState). HasWaiting x (waiting_at ticket at ∷ waiting)) (sym is)
    (waiting_put s waiting (waiting_at ticket at) has (unheld (is_held s ticket.chunk) s.descriptor book claims ticket.chunk bytes (sym answer)) within)
waiting_after Held ticket at s s' waiting book claims bytes has within answer is = subst (λ (x : StoreState). HasWaiting x waiting) (sym is) has
waiting_after (Missing node) ticket at s s' waiting book claims bytes has within answer is = subst (λ (x : StoreState). HasWaiting x waiting) (sym is) has
waiting_after (Wrong node found kept) ticket at s s' waiting book claims bytes has within answer is = subst (λ (x : StoreState). HasWaiting x waiting) (sym is) has
waiting_after (Length found want) ticket at s s' waiting book claims bytes has within answer is = subst (λ (x : StoreState). HasWaiting x waiting) (sym is) has

-- ---- the batch, the queue and the tickets

batch_after : (put : Put) (ticket : Ticket) (at : ℕ) (s s' : StoreState) (waiting : List Waiting) → s' ≡ after_put put ticket.chunk s
    → (let more = batch_from s' (waiting_with put ticket at waiting) in if is_filled_by put waiting then after_commit more else more)
    ≡ after_puts (stored_by put ticket.chunk) at (batch_from s waiting)
batch_after put ticket at s s' waiting is =
    ap (λ (committed : List Bool). let more = batch_from (record s { committed = committed }) (waiting_with put ticket at waiting) in
    if is_filled_by put waiting then after_commit more else more) (committed_after put ticket.chunk s s' is)
    ∙ pick put
  where
    same_size : (waiting : List Waiting) → length (batch_from s waiting).pending ≡ length waiting
    same_size waiting = length-map waiting pending_of

    pick : (put : Put) → (let more = batch_from s (waiting_with put ticket at waiting) in if is_filled_by put waiting then after_commit more else more)
        ≡ after_puts (stored_by put ticket.chunk) at (batch_from s waiting)
    pick Stored =
        let more = batch_from s (waiting_at ticket at ∷ waiting) in
        ap (λ (n : ℕ). if leb most_pending (suc n) then after_commit more else more) (sym (same_size waiting))
    pick Held = refl
    pick (Missing node) = refl
    pick (Wrong node found kept) = refl
    pick (Length found want) = refl

pub with_few : (tickets more : List Ticket) → (length (with_tickets tickets more) ≤ length tickets + length more) × (length (with_tickets tickets more) ≤ most_tickets)
with_few tickets more =
    let size = length-take most_tickets (tickets ++ more) in let both = length-append tickets more in (omega (arith, size, both), omega (arith, size, both))

tickets_many : (waiting : List Waiting) → length (tickets_of waiting) ≡ length waiting
tickets_many waiting = length-map (reverse waiting) (λ w. w.ticket) ∙ length-reverse waiting

-- an answer adds at most one to what waits and what is to be acknowledged
pub record HasRoomLeft (old new : QueueState) : Type 0 where
  pub one : GrowsByOne old new
  pub few : HasRoom new

waits_room : (w : Waiting) (q : QueueState) → HasRoom q → HasRoomLeft q (with_waiting w q)
waits_room w q few = record { one = record { news = omega arith; repeats = omega arith; all = omega arith }; few = record { tickets = few.tickets; repeats = few.repeats } }

released_room : (w : Waiting) (q : QueueState) → HasRoom q → HasRoomLeft q (released (with_waiting w q))
released_room w q few =
    let some = with_few q.tickets (tickets_of (w ∷ q.waiting)) in let many = tickets_many (w ∷ q.waiting) in record {
      one = record { news = omega (arith, some.0, many); repeats = omega arith; all = omega (arith, some.0, many) };
      few = record { tickets = some.1; repeats = few.repeats };
    }

repeated_room : (ticket : Ticket) (q : QueueState) → HasRoom q → HasRoomLeft q (with_repeat ticket q)
repeated_room ticket q few =
    let some = with_few q.repeats (ticket ∷ []) in record {
      one = record { news = omega arith; repeats = omega (arith, some.0); all = omega (arith, some.0) };
      few = record { tickets = few.tickets; repeats = some.1 };
    }

same_room : (q : QueueState) → HasRoom q → HasRoomLeft q q
same_room q few = record { one = record { news = omega arith; repeats = omega arith; all = omega arith }; few = few }

queue_room : (put : Put) (is : Bool) (ticket : Ticket) (at : ℕ) (q : QueueState) → HasRoom q → HasRoomLeft q (queue_after put is ticket at q)
queue_room Stored is ticket at q few = pick (is_filled_by Stored q.waiting)
  where
    pick : (b : Bool) → HasRoomLeft q (let more = with_waiting (waiting_at ticket at) q in if b then released more else more)
    pick true = released_room (waiting_at ticket at) q few
    pick false = waits_room (waiting_at ticket at) q few
queue_room Held true ticket at q few = repeated_room ticket q few
queue_room Held false ticket at q few = same_room q few
queue_room (Missing node) is ticket at q few = same_room q few
queue_room (Wrong node found kept) is ticket at q few = same_room q few
queue_room (Length found want) is ticket at q few = same_room q few

pub few_tickets : (result : Result Put DiskFault) (put : Put) (is : Bool) (ticket : Ticket) (at : ℕ) (s s' : StoreState) (q q' : QueueState) → HasRoom q
    → OnOk result (q' ≡ queue_after put is ticket at q) → OnErr result ((s' ≡ record s { live = false }) × (q' ≡ with_waiting (waiting_at ticket at) q))
    → HasRoom q'
few_tickets (Ok x) put is ticket at s s' q q' few ok err = subst (λ (x : QueueState). HasRoom x) (sym ok) (queue_room put is ticket at q few).few
few_tickets (Err x) put is ticket at s s' q q' few ok err = subst (λ (x : QueueState). HasRoom x) (sym err.1) (waits_room (waiting_at ticket at) q few).few

pub dead_after : (result : Result Put DiskFault) (s s' : StoreState) (q q' : QueueState) → OnErr result ((s' ≡ record s { live = false }) × (q' ≡ q))
    → OnErr result (s'.live ≡ false)
dead_after (Ok x) s s' q q' dead = tt
dead_after (Err x) s s' q q' dead = ap (λ (x : StoreState). x.live) dead.0

-- ---- all that is said of a put that the store answered

pub record PutDone (s s' : HoldingState) (claims : LookUp) (ticket : Ticket) (at : ℕ) (bytes : List ℕ) (result : Result Put DiskFault) (disk disk' : DiskState) : Type 0 where
  pub answer : IfOk result (λ put. put ≡ answer_to s claims ticket.chunk bytes)
  pub refused : OnErr result (s.store.live ≡ true → answer_to s claims ticket.chunk bytes ≡ Stored)
  pub batch : IfOk result (λ put. batch_of s' ≡ after_puts (stored_by put ticket.chunk) at (batch_of s))
  pub queue : IfOk result (λ put. s'.queue ≡ queue_after put (is_committed s.store ticket.chunk) ticket at s.queue)
  pub failed : OnErr result ((s'.store.live ≡ false) × (s'.store.committed ≡ s.store.committed) × (s'.queue.tickets ≡ s.queue.tickets)
      × (s'.queue.repeats ≡ s.queue.repeats))
  pub untouched : (result ≡ Ok Stored → ⊥) → IsOk result → (s'.store ≡ s.store) × (disk' ≡ disk)
  pub held : s.store.live ≡ true → FitsUnheld s claims ticket.chunk bytes → (is_held s'.store ticket.chunk ≡ true) ⊎ HasRisen disk.hard disk'.hard
  pub learned : s.store.live ≡ true → (k j : ℕ) → entry s'.book k j ≡ learned_from s claims ticket.chunk bytes k j
  pub room : GrowsByOne s.queue s'.queue
  pub advances : Advances (stock_of s disk) (stock_of s' disk')

fits_stored : (s : HoldingState) (claims : LookUp) (i : ℕ) (bytes : List ℕ) → FitsUnheld s claims i bytes → answer_to s claims i bytes ≡ Stored
fits_stored s claims i bytes fits =
    ap (λ (b : Bool). put_answer b d book claims i bytes) fits.unheld ∙ admitted_fits
  where
    d : Descriptor
    d = s.store.descriptor

    book : LookUp
    book = entry s.book

    long : (length bytes == chunk_length d.size d.chunk i) ≡ true
    long = pick (length bytes == chunk_length d.size d.chunk i) refl
      where
        pick : (b : Bool) → (length bytes == chunk_length d.size d.chunk i) ≡ b → b ≡ true
        pick true e = refl
        pick false e = let other : judged d (peaked d book claims) claims i bytes ≡ verdicts.Length (length bytes) (chunk_length d.size d.chunk i) =
            ap (λ (b : Bool). cond b (missing_or (first_absent (peaked d book claims) (chunks_of d))
            (verdict_of (climb (peaked d book claims) claims (height_of d) 0 i (sha256 bytes)))) (verdicts.Length (length bytes) (chunk_length d.size d.chunk i))) e in
            let fits' = fits.verdict in cc

    admitted_fits : put_answer false d book claims i bytes ≡ Stored
    admitted_fits =
        ap (λ (b : Bool). cond b (by_peaks (settled (chunks_of d) book claims) (end_of (climb_of_peaks (chunks_of d) book claims))
        (by_verdict (judged d (peaked d book claims) claims i bytes))) (Length (length bytes) (chunk_length d.size d.chunk i))) long
        ∙ ap (λ (x : settling.Settled). by_peaks x (end_of (climb_of_peaks (chunks_of d) book claims)) (by_verdict (judged d (peaked d book claims) claims i bytes))) fits.peaks
        ∙ ap by_verdict fits.verdict

-- what a chunk that is stored is, is held
held_stored : (put : Put) (i : ℕ) (s s' : StoreState) → put ≡ Stored → i < length s.pending → s' ≡ after_put put i s → is_held s' i ≡ true
held_stored put i s s' stored within is =
    ap (λ (x : StoreState). is_held x i) (is ∙ ap (λ (p : Put). after_put p i s) stored)
    ∙ or_right (get_or s.committed i false) (get_or (set s.pending i true) i false) (get_or-set_same s.pending i true false within)

abbrev err_put : DiskFault → Result Put DiskFault
err_put fault = Err fault

abbrev ok_put : Put → Result Put DiskFault
ok_put put = Ok put

module _ (store store1 store2 : StoreState) (book book1 : BookState) (queue queue2 : QueueState) (disk disk1 disk2 : DiskState)
    (tied : AreTied (record { store = store; book = book; queue = queue })) (put : Put) (ticket : Ticket) (at : ℕ) (bytes : List ℕ) (claims : LookUp)
    (result : Result Put DiskFault) (within : ticket.chunk < chunks_of store.descriptor)
    (answer : put ≡ put_answer (is_held store ticket.chunk) store.descriptor (entry book) claims ticket.chunk bytes)
    (stored : store1 ≡ after_put put ticket.chunk store)
    (untouched : (ok_put put ≡ ok_put Stored → ⊥) → IsOk (ok_put put) → (store1 ≡ store) × (disk1 ≡ disk))
    (learned : (k j : ℕ) → entry book1 k j ≡ put_learned (is_held store ticket.chunk) store.descriptor (entry book) claims ticket.chunk bytes k j)
    (step : Advances (record { store = store; book = entry book; disk = disk }) (record { store = store1; book = entry book1; disk = disk1 }))
    (same : IfOk result (λ answer. answer ≡ put))
    (idle : is_filled_by put queue.waiting ≡ false → IsOk result × (store2 ≡ store1) × (disk2 ≡ disk1))
    (queued : OnOk result (queue2 ≡ queue_after put (is_committed store1 ticket.chunk) ticket at queue))
    (batched : OnOk result (let more = batch_from store1 (waiting_with put ticket at queue.waiting) in
    batch_from store2 queue2.waiting ≡ (if is_filled_by put queue.waiting then after_commit more else more)))
    (dead : OnErr result ((store2 ≡ record store1 { live = false }) × (queue2 ≡ with_waiting (waiting_at ticket at) queue)))
    (follows : Advances (record { store = store1; book = entry book1; disk = disk1 }) (record { store = store2; book = entry book1; disk = disk2 })) where
  committed_is : store1.committed ≡ store.committed
  committed_is = committed_after put ticket.chunk store store1 stored

  queued_is : OnOk result (queue2 ≡ queue_after put (is_committed store ticket.chunk) ticket at queue)
  queued_is = OnOk-weaker' result queued
    where
      OnOk-weaker' : (r : Result Put DiskFault) → OnOk r (queue2 ≡ queue_after put (is_committed store1 ticket.chunk) ticket at queue)
          → OnOk r (queue2 ≡ queue_after put (is_committed store ticket.chunk) ticket at queue)
      OnOk-weaker' (Ok x) e = e ∙ ap (λ (xs : List Bool). queue_after put (get_or xs ticket.chunk false) ticket at queue) committed_is
      OnOk-weaker' (Err x) e = tt

  follow_room : HasRoomLeft queue queue2
  follow_room = pick result queued_is dead
    where
      pick : (r : Result Put DiskFault) → OnOk r (queue2 ≡ queue_after put (is_committed store ticket.chunk) ticket at queue)
          → OnErr r ((store2 ≡ record store1 { live = false }) × (queue2 ≡ with_waiting (waiting_at ticket at) queue)) → HasRoomLeft queue queue2
      pick (Ok x) e d = subst (λ (q : QueueState). HasRoomLeft queue q) (sym e) (queue_room put (is_committed store ticket.chunk) ticket at queue tied.room)
      pick (Err x) e d = subst (λ (q : QueueState). HasRoomLeft queue q) (sym d.1) (waits_room (waiting_at ticket at) queue tied.room)

  -- an error comes only behind a chunk that was stored
  refused_stored : (r : Result Put DiskFault) → (is_filled_by put queue.waiting ≡ false → IsOk r) → OnErr r (put ≡ Stored)
  refused_stored (Ok x) ok = tt
  refused_stored (Err x) ok = pick put ok
    where
      pick : (p : Put) → (is_filled_by p queue.waiting ≡ false → IsOk (err_put x)) → p ≡ Stored
      pick Stored ok = refl
      pick Held ok = absurd (false≢true (ok refl))
      pick (Missing node) ok = absurd (false≢true (ok refl))
      pick (Wrong node found kept) ok = absurd (false≢true (ok refl))
      pick (Length found want) ok = absurd (false≢true (ok refl))

  filled_other : (p : Put) → (p ≡ Stored → ⊥) → is_filled_by p queue.waiting ≡ false
  filled_other Stored other = absurd (other refl)
  filled_other Held other = refl
  filled_other (Missing node) other = refl
  filled_other (Wrong node found kept) other = refl
  filled_other (Length found want) other = refl

  ok_other : (r : Result Put DiskFault) → IfOk r (λ answer. answer ≡ put) → (r ≡ Ok Stored → ⊥) → IsOk r → put ≡ Stored → ⊥
  ok_other (Ok x) is differ ok stored = differ (ap Ok (is ∙ stored))
  ok_other (Err x) is differ ok stored = false≢true ok

  pub put_done : PutDone (record { store = store; book = book; queue = queue }) (record { store = store2; book = book1; queue = queue2 }) claims ticket at bytes result disk disk2
  put_done = record {
    answer = IfOk-weaker result (λ x. x ≡ put) _ (λ x e. e ∙ answer) same;
    refused = OnErr-weaker result (λ is live. sym answer ∙ is) (refused_stored result (λ none. (idle none).0));
    batch = pick_batch result same batched;
    queue = pick_queue result same queued_is;
    failed = OnErr-weaker result (λ is. (
      ap (λ (x : StoreState). x.live) is.0,
      ap (λ (x : StoreState). x.committed) is.0 ∙ committed_is,
      ap (λ (q : QueueState). q.tickets) is.1,
      ap (λ (q : QueueState). q.repeats) is.1,
    )) dead;
    untouched = λ differ ok.
        let other : put ≡ Stored → ⊥ = ok_other result same differ ok in
        let one = untouched (λ e. other (let e' = e in cc)) refl in
        let two = idle (filled_other put other) in
        (two.1 ∙ one.0, two.2 ∙ one.1);
    held = λ live fits. inl (follows.held ticket.chunk
        (held_stored put ticket.chunk store store1 (answer ∙ fits_stored (record { store = store; book = book; queue = queue }) claims ticket.chunk bytes fits)
        (omega (arith, within, tied.waits.pending_size)) stored));
    learned = λ live. learned;
    room = follow_room.one;
    advances = advances_twice _ _ _ step follows;
  }
    where
      OnErr-weaker : {P Q : Type 0} (r : Result Put DiskFault) → (P → Q) → OnErr r P → OnErr r Q
      OnErr-weaker (Ok x) f p = tt
      OnErr-weaker (Err x) f p = f p

      pick_batch : (r : Result Put DiskFault) → IfOk r (λ answer. answer ≡ put)
          → OnOk r (let more = batch_from store1 (waiting_with put ticket at queue.waiting) in
          batch_from store2 queue2.waiting ≡ (if is_filled_by put queue.waiting then after_commit more else more))
          → IfOk r (λ x. batch_from store2 queue2.waiting ≡ after_puts (stored_by x ticket.chunk) at (batch_from store queue.waiting))
      pick_batch (Ok x) is e = e ∙ batch_after put ticket at store store1 queue.waiting stored
          ∙ ap (λ (p : Put). after_puts (stored_by p ticket.chunk) at (batch_from store queue.waiting)) (sym is)
      pick_batch (Err x) is e = tt

      pick_queue : (r : Result Put DiskFault) → IfOk r (λ answer. answer ≡ put) → OnOk r (queue2 ≡ queue_after put (is_committed store ticket.chunk) ticket at queue)
          → IfOk r (λ x. queue2 ≡ queue_after x (is_committed store ticket.chunk) ticket at queue)
      pick_queue (Ok x) is e = e ∙ ap (λ (p : Put). queue_after p (is_committed store ticket.chunk) ticket at queue) (sym is)
      pick_queue (Err x) is e = tt
