-- Tickets that wait, and what a commit leaves of them.
use Rattle.std.proofs.Common.{◌≡◌, ◌⊎◌, inl, inr, ℕ, ◌+◌, ◌≤◌, eqb, Bool, true, false, cond, ◌&&◌, ◌||◌, List, [], ◌∷◌, ◌++◌, map, reverse, length, refl, sym, ◌∙◌, ap, subst, arith}
use Rattle.std.specs.List.{list_any}
use Rattle.std.proofs.lemmas.Bool.{false≢true, or_left, or_right, or_cases}
use Rattle.std.proofs.lemmas.List.{length-map, length-reverse}
use Rattle.std.proofs.lemmas.List.Folds.{list_any-append}
use Rattle.std.proofs.lemmas.List.Sorted.{list_any-IsPermutation, IsPermutation-reverse}
use Rattle.pp_holding.specs.Answers.{queue_settled}
use Rattle.pp_holding.specs.Queue.{QueueState, most_tickets, tickets_of, released}
use Rattle.pp_holding.specs.declared.queue.Ticket.{Ticket}
use Rattle.pp_holding.specs.declared.queue.Waiting.{Waiting}
use Rattle.pp_holding.proofs.Events.{tickets_fit}
use Rattle.pp_news.specs.News.{has_chunk, of_seat}
use Rattle.pp_core.specs.Remembering.{is_ticket, AwaitsTicket}

-- the chunk is among the seat's tickets then
pub ticket_on : (seat i : ℕ) (ts : List Ticket) → list_any (is_ticket seat i) ts ≡ true → has_chunk (of_seat seat ts) i ≡ true
ticket_on seat i [] e = absurd (false≢true e)
ticket_on seat i (t ∷ ts) e =
    of (eqb t.seat seat) (or_cases (eqb t.seat seat && eqb t.chunk i) (list_any (is_ticket seat i) ts) e) refl (ticket_on seat i ts)
  where
    of : (b : Bool) → ((eqb t.seat seat && eqb t.chunk i) ≡ true) ⊎ (list_any (is_ticket seat i) ts ≡ true) → eqb t.seat seat ≡ b
        → (list_any (is_ticket seat i) ts ≡ true → has_chunk (of_seat seat ts) i ≡ true)
        → has_chunk (cond b (t ∷ of_seat seat ts) (of_seat seat ts)) i ≡ true
    of true (inl here) is rest =
        or_left (eqb t.chunk i) (has_chunk (of_seat seat ts) i) (ap (λ (x : Bool). x && eqb t.chunk i) (sym is) ∙ here)
    of true (inr later) is rest = or_right (eqb t.chunk i) (has_chunk (of_seat seat ts) i) (rest later)
    of false (inl here) is rest = absurd (false≢true (ap (λ (x : Bool). x && eqb t.chunk i) (sym is) ∙ here))
    of false (inr later) is rest = rest later

-- ---- a commit

mapped_any : (f : Ticket → Bool) (ws : List Waiting) → list_any f (map (λ w. w.ticket) ws) ≡ list_any (λ w. f w.ticket) ws
mapped_any f [] = refl
mapped_any f (w ∷ ws) = ap (λ (b : Bool). f w.ticket || b) (mapped_any f ws)

released_any : (f : Ticket → Bool) (ws : List Waiting) → list_any (λ w. f w.ticket) ws ≡ list_any f (tickets_of ws)
released_any f ws = list_any-IsPermutation (λ w. f w.ticket) ws (reverse ws) (IsPermutation-reverse ws) ∙ sym (mapped_any f (reverse ws))

pub tickets_many : (ws : List Waiting) → length (tickets_of ws) ≡ length ws
tickets_many ws = length-map (reverse ws) (λ w. w.ticket) ∙ length-reverse ws

-- There is room for the tickets of all that waits.
abbrev pub HasRoomFor : QueueState → Type 0
HasRoomFor q = length q.tickets + length q.waiting ≤ most_tickets

pub released_tickets : (q : QueueState) → HasRoomFor q → (released q).tickets ≡ q.tickets ++ tickets_of q.waiting
released_tickets q room = tickets_fit q.tickets (tickets_of q.waiting) (let many = tickets_many q.waiting in omega (arith, room, many))

-- what waits goes on waiting
released_awaits : (seat i : ℕ) (q : QueueState) → HasRoomFor q → AwaitsTicket seat i q → AwaitsTicket seat i (released q)
released_awaits seat i q room (inl waits) = inr (inl (ap (λ (ts : List Ticket). list_any (is_ticket seat i) ts) (released_tickets q room)
    ∙ list_any-append (is_ticket seat i) q.tickets (tickets_of q.waiting)
    ∙ or_right (list_any (is_ticket seat i) q.tickets) (list_any (is_ticket seat i) (tickets_of q.waiting))
    (sym (released_any (is_ticket seat i) q.waiting) ∙ waits)))
released_awaits seat i q room (inr (inl ticket)) = inr (inl (ap (λ (ts : List Ticket). list_any (is_ticket seat i) ts) (released_tickets q room)
    ∙ list_any-append (is_ticket seat i) q.tickets (tickets_of q.waiting)
    ∙ or_left (list_any (is_ticket seat i) q.tickets) (list_any (is_ticket seat i) (tickets_of q.waiting)) ticket))
released_awaits seat i q room (inr (inr again)) = inr (inr again)

pub settled_awaits : (seat i : ℕ) (due : Bool) (q new : QueueState) → new ≡ queue_settled due q → HasRoomFor q → AwaitsTicket seat i q
    → AwaitsTicket seat i new
settled_awaits seat i true q new is room waits = subst (λ (x : QueueState). AwaitsTicket seat i x) (sym is) (released_awaits seat i q room waits)
settled_awaits seat i false q new is room waits = subst (λ (x : QueueState). AwaitsTicket seat i x) (sym is) waits
