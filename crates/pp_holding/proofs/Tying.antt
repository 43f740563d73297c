-- A holding's parts stay tied.
use Rattle.std.proofs.Common.{◌≡◌, ◌<◌, true, false, Some, length, Result, Ok, Err, sym, ◌∙◌, ap, subst}
use Rattle.std.specs.Prelude.{OnOk, OnErr}
use Rattle.pp_terms.specs.tree.Book.{IsRooted}
use Rattle.pp_terms.specs.format.Descriptor.{Descriptor}
use Rattle.pp_tree.specs.Book.{BookState, entry, IsBookOf}
use Rattle.pp_store.specs.Store.{StoreState, KnowsHeld}
use Rattle.pp_promises.specs.Batches.{most_pending}
use Rattle.pp_holding.specs.Queue.{QueueState, HasRoom}
use Rattle.pp_holding.specs.Holding.{HasWaiting, AreCommitted, AreTied}
use Rattle.pp_holding.proofs.Committed.{committed_same}
use Rattle.pp_holding.proofs.Waitings.{waiting_same}

-- a book that goes on being one of the descriptor
pub book_on : (d d' : Descriptor) (book book' : BookState) → IsBookOf d book → d' ≡ d → book'.descriptor ≡ book.descriptor → IsRooted d (entry book') → IsBookOf d' book'
book_on d d' book book' is same kept rooted = record {
  descriptor_is = kept ∙ is.descriptor_is ∙ ap (λ (x : Descriptor). Some x) (sym same);
  rooted = subst (λ (x : Descriptor). IsRooted x (entry book')) (sym same) rooted;
}

-- a write was refused
pub tied_refused : (store store' : StoreState) (book book' : BookState) (queue : QueueState) → AreTied (record { store = store; book = book; queue = queue })
    → store' ≡ record store { pairs = store'.pairs; live = false } → IsBookOf store'.descriptor book' → KnowsHeld store' (entry book')
    → AreTied (record { store = store'; book = book'; queue = queue })
tied_refused store store' book book' queue tied dead is knows = record {
  book_is = is;
  knows = knows;
  waits = waiting_same store store' queue.waiting (ap (λ (x : StoreState). x.descriptor) dead) (ap (λ (x : StoreState). x.committed) dead)
      (ap (λ (x : StoreState). x.pending) dead) tied.waits;
  few = λ live. let no : store'.live ≡ false = ap (λ (x : StoreState). x.live) dead in absurd cc;
  room = tied.room;
  came = committed_same store store' queue.tickets (ap (λ (x : StoreState). x.committed) dead) tied.came;
  again = committed_same store store' queue.repeats (ap (λ (x : StoreState). x.committed) dead) tied.again;
}

-- what a call leaves that may have committed
pub tied_after : {T E : Type 0} (store' : StoreState) (book : BookState) (queue : QueueState) (result : Result T E) → IsBookOf store'.descriptor book
    → KnowsHeld store' (entry book) → HasWaiting store' queue.waiting → OnOk result (length queue.waiting < most_pending)
    → OnErr result (store'.live ≡ false) → HasRoom queue → AreCommitted store' queue.tickets → AreCommitted store' queue.repeats
    → AreTied (record { store = store'; book = book; queue = queue })
tied_after {T} {E} store' book queue result is knows waits few dead room came again = record {
  book_is = is;
  knows = knows;
  waits = waits;
  few = pick result few dead;
  room = room;
  came = came;
  again = again;
}
  where
    pick : (r : Result T E) → OnOk r (length queue.waiting < most_pending) → OnErr r (store'.live ≡ false) → store'.live ≡ true → length queue.waiting < most_pending
    pick (Ok x) few dead live = few
    pick (Err x) few dead live = absurd cc
