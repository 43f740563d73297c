-- Tickets are kept while there is room.
use Rattle.std.proofs.Common.{◌≡◌, ⊎_elim, ℕ, suc, ◌+◌, ◌<◌, ◌≤◌, List, [], ◌∷◌, ◌++◌, length, map, reverse, take, get_or, sym, ◌∙◌, ap, append_assoc, arith}
use Rattle.std.proofs.lemmas.List.{take_all, take-append-le, length-take-le, length-append, append-nil, map_more}
use Rattle.std.proofs.lemmas.List.Sorted.{list_any-IsPermutation, IsPermutation-reverse}
use Rattle.std.proofs.lemmas.Bool.{cases_lt}
use Rattle.pp_holding.specs.declared.queue.Ticket.{Ticket}
use Rattle.pp_holding.specs.declared.queue.Waiting.{Waiting}
use Rattle.pp_holding.specs.Queue.{most_tickets, with_tickets, is_any_late}

pub add_some : (tickets : List Ticket) (ticket : Ticket) → suc (length tickets) ≤ most_tickets → tickets ++ ticket ∷ [] ≡ with_tickets tickets (ticket ∷ [])
add_some tickets ticket few = sym (take_all most_tickets (tickets ++ ticket ∷ []) (omega (arith, length-append tickets (ticket ∷ []))))

pub add_none : (tickets more : List Ticket) → length tickets ≤ most_tickets → most_tickets ≤ length tickets → tickets ≡ with_tickets tickets more
add_none tickets more few full = sym (take-append-le most_tickets tickets more full ∙ take_all most_tickets tickets few)

pub add_nothing : (tickets : List Ticket) → length tickets ≤ most_tickets → tickets ≡ with_tickets tickets []
add_nothing tickets few = sym (ap (λ (ts : List Ticket). take most_tickets ts) (append-nil tickets) ∙ take_all most_tickets tickets few)

-- some tickets and then others
pub add_both : (tickets one two : List Ticket) → length tickets ≤ most_tickets → with_tickets (with_tickets tickets one) two ≡ with_tickets tickets (one ++ two)
add_both tickets one two few = ⊎_elim short long (cases_lt (length (tickets ++ one)) (suc most_tickets))
  where
    short : length (tickets ++ one) < suc most_tickets → with_tickets (with_tickets tickets one) two ≡ with_tickets tickets (one ++ two)
    short le = ap (λ (ts : List Ticket). with_tickets ts two) (take_all most_tickets (tickets ++ one) (omega (arith, le))) ∙ ap (λ (ts : List Ticket). take most_tickets ts) (append_assoc tickets one two)

    long : suc most_tickets ≤ length (tickets ++ one) → with_tickets (with_tickets tickets one) two ≡ with_tickets tickets (one ++ two)
    long lt =
        let size : length (with_tickets tickets one) ≡ most_tickets = length-take-le most_tickets (tickets ++ one) (omega (arith, lt)) in
        sym (add_none (with_tickets tickets one) two (omega (arith, size)) (omega (arith, size)))
        ∙ sym (take-append-le most_tickets (tickets ++ one) two (omega (arith, lt)))
        ∙ ap (λ (ts : List Ticket). take most_tickets ts) (append_assoc tickets one two)

-- the tickets of one waiting chunk more
pub add_more : (tickets next next' : List Ticket) (waiting : List Waiting) (k : ℕ) (d : Waiting) → length tickets ≤ most_tickets → k < length waiting
    → next ≡ with_tickets tickets (map (λ w. w.ticket) (take k waiting)) → next' ≡ with_tickets next ((get_or waiting k d).ticket ∷ [])
    → next' ≡ with_tickets tickets (map (λ w. w.ticket) (take (k + 1) waiting))
add_more tickets next next' waiting k d few lt so_far step =
    step ∙ ap (λ (ts : List Ticket). with_tickets ts ((get_or waiting k d).ticket ∷ [])) so_far
    ∙ add_both tickets (map (λ w. w.ticket) (take k waiting)) ((get_or waiting k d).ticket ∷ []) few
    ∙ ap (λ (ts : List Ticket). with_tickets tickets ts) (sym (map_more (λ w. w.ticket) waiting k d lt))

pub is_any_late-reverse : (now : ℕ) (waiting : List Waiting) → is_any_late now waiting ≡ is_any_late now (reverse waiting)
is_any_late-reverse now waiting = list_any-IsPermutation _ waiting (reverse waiting) (IsPermutation-reverse waiting)
