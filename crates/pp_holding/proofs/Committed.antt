-- What is to be acknowledged is committed.
use Rattle.std.proofs.Common.{◌≡◌, ℕ, zero, suc, eqb, Bool, true, false, List, [], ◌∷◌, ◌++◌, map, reverse, take, get_or, refl, sym, ◌∙◌, subst}
use Rattle.std.specs.List.{AllByRecursion}
use Rattle.std.proofs.lemmas.Bool.{or_left, or_right, eq-eqb}
use Rattle.std.proofs.lemmas.List.Sorted.{list_any-IsPermutation, IsPermutation-reverse}
use Rattle.pp_store.specs.Store.{StoreState, is_committed, HasCommitted}
use Rattle.pp_holding.specs.declared.queue.Ticket.{Ticket}
use Rattle.pp_holding.specs.declared.queue.Waiting.{Waiting}
use Rattle.pp_holding.specs.Queue.{QueueState, most_tickets, with_tickets, tickets_of, released}
use Rattle.pp_holding.specs.Holding.{is_queued, HasWaiting, AreCommitted}

all_take : (P : Ticket → Type 0) (n : ℕ) (xs : List Ticket) → AllByRecursion P xs → AllByRecursion P (take n xs)
all_take P zero [] all = tt
all_take P zero (x ∷ xs) all = tt
all_take P (suc n) [] all = tt
all_take P (suc n) (x ∷ xs) all = (all.0, all_take P n xs all.1)

all_both : (P : Ticket → Type 0) (xs ys : List Ticket) → AllByRecursion P xs → AllByRecursion P ys → AllByRecursion P (xs ++ ys)
all_both P [] ys one two = two
all_both P (x ∷ xs) ys one two = (one.0, all_both P xs ys one.1 two)

with_both : (s : StoreState) (tickets more : List Ticket) → AreCommitted s tickets → AreCommitted s more
    → AreCommitted s (with_tickets tickets more)
with_both s tickets more one two =
    all_take (λ t. is_committed s t.chunk ≡ true) most_tickets (tickets ++ more)
    (all_both (λ t. is_committed s t.chunk ≡ true) tickets more one two)

-- one more, of a chunk that is committed
pub with_one : (s : StoreState) (tickets : List Ticket) (ticket : Ticket) → is_committed s ticket.chunk ≡ true → AreCommitted s tickets
    → AreCommitted s (with_tickets tickets (ticket ∷ []))
with_one s tickets ticket at all = with_both s tickets (ticket ∷ []) all (at, tt)

-- the same set
pub committed_same : (s s' : StoreState) (tickets : List Ticket) → s'.committed ≡ s.committed → AreCommitted s tickets
    → AreCommitted s' tickets
committed_same s s' tickets same all =
    subst (λ (set : List Bool). AllByRecursion (λ (t : Ticket). get_or set t.chunk false ≡ true) tickets) (sym same) all

-- ---- a commit

pub committed_more : (s s' : StoreState) (tickets : List Ticket) → HasCommitted s s' → AreCommitted s tickets → AreCommitted s' tickets
committed_more s s' [] done all = tt
committed_more s s' (t ∷ ts) done all =
    (done.each t.chunk ∙ or_left (is_committed s t.chunk) (get_or s.pending t.chunk false) all.0, committed_more s s' ts done all.1)

all_queued : (s : StoreState) (waiting : List Waiting) → ((i : ℕ) → is_queued waiting i ≡ true → is_committed s i ≡ true)
    → AreCommitted s (map (λ w. w.ticket) waiting)
all_queued s [] each = tt
all_queued s (w ∷ ws) each = (
  each w.ticket.chunk
      (or_left (eqb w.ticket.chunk w.ticket.chunk) (is_queued ws w.ticket.chunk) (eq-eqb w.ticket.chunk w.ticket.chunk refl)),
  all_queued s ws (λ i at. each i (or_right (eqb w.ticket.chunk i) (is_queued ws i) at)),
)

is_queued-reverse : (waiting : List Waiting) (i : ℕ) → is_queued (reverse waiting) i ≡ is_queued waiting i
is_queued-reverse waiting i = sym (list_any-IsPermutation _ waiting (reverse waiting) (IsPermutation-reverse waiting))

-- what waited was committed
pub committed_released : (s s' : StoreState) (q : QueueState) → HasWaiting s q.waiting → HasCommitted s s' → AreCommitted s q.tickets
    → AreCommitted s' (released q).tickets
committed_released s s' q has done all =
    with_both s' q.tickets (tickets_of q.waiting) (committed_more s s' q.tickets done all) (all_queued s' (reverse q.waiting) (λ i at.
    done.each i ∙ or_right (is_committed s i) (get_or s.pending i false) (sym (has.each i) ∙ sym (is_queued-reverse q.waiting i) ∙ at)))
