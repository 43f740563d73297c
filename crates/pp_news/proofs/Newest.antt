-- The newest ticket in a range, ticket by ticket.
use Rattle.std.proofs.Common.{◌≡◌, ℕ, ◌+◌, ◌<◌, ◌≤◌, ◌==◌, Bool, true, false, ◌||◌, List, [], ◌∷◌, ◌++◌, length, take, get_or, refl, sym, ◌∙◌, ap, subst, append_assoc, arith}
use Rattle.std.specs.List.{list_any}
use Rattle.std.proofs.lemmas.Bool.{false≢true}
use Rattle.std.proofs.lemmas.Bool.Decides.{nat_tests}
use Rattle.std.proofs.lemmas.List.{take_more, take_all}
use Rattle.std.proofs.lemmas.List.Folds.{list_any-append}
use Rattle.pp_terms.specs.tree.Range.{Span, within}
use Rattle.pp_holding.specs.declared.queue.Ticket.{Ticket}
use Rattle.pp_news.specs.News.{has_chunk, IsNewestIn}

abbrev pub is_any_in : Span → List Ticket → Bool
is_any_in range tickets = list_any (λ t. within range t.chunk) tickets

newest_here : (range : Span) (tickets : List Ticket) (t : Ticket) → within range t.chunk ≡ true → IsNewestIn range (tickets ++ t ∷ []) t.delay
newest_here range tickets t inside = record { before = tickets; newest = t; after = []; order = refl; inside = inside; last = refl; same = refl }

newest_before : (range : Span) (tickets : List Ticket) (t : Ticket) (delay : ℕ) → within range t.chunk ≡ false → IsNewestIn range tickets delay
    → IsNewestIn range (tickets ++ t ∷ []) delay
newest_before range tickets t delay outside h = record {
  before = h.before;
  newest = h.newest;
  after = h.after ++ t ∷ [];
  order = ap (λ (ts : List Ticket). ts ++ t ∷ []) h.order ∙ append_assoc h.before (h.newest ∷ h.after) (t ∷ []);
  inside = h.inside;
  last = list_any-append (λ (x : Ticket). within range x.chunk) h.after (t ∷ []) ∙ ap (λ (b : Bool). b || (within range t.chunk || false)) h.last
      ∙ ap (λ (b : Bool). b || false) outside;
  same = h.same;
}

-- a step of the loop
module _ (range : Span) (tickets : List Ticket) (k : ℕ) (d : Ticket) (delay : ℕ) (lt : k < length tickets)
    (so_far : is_any_in range (take k tickets) ≡ true → IsNewestIn range (take k tickets) delay) where
  pub newest_more : within range (get_or tickets k d).chunk ≡ true → is_any_in range (take (k + 1) tickets) ≡ true
      → IsNewestIn range (take (k + 1) tickets) (get_or tickets k d).delay
  newest_more inside any = subst (λ (ts : List Ticket). IsNewestIn range ts (get_or tickets k d).delay) (sym (take_more tickets k d lt))
      (newest_here range (take k tickets) (get_or tickets k d) inside)

  pub newest_stays : within range (get_or tickets k d).chunk ≡ false → is_any_in range (take (k + 1) tickets) ≡ true
      → IsNewestIn range (take (k + 1) tickets) delay
  newest_stays outside any =
      let grown = take_more tickets k d lt in
      let rest : (is_any_in range (take k tickets) || (within range (get_or tickets k d).chunk || false)) ≡ true
      = sym (list_any-append (λ (x : Ticket). within range x.chunk) (take k tickets) (get_or tickets k d ∷ []))
      ∙ sym (ap (λ (ts : List Ticket). is_any_in range ts) grown) ∙ any in
      let before : is_any_in range (take k tickets) ≡ true = pick (is_any_in range (take k tickets)) (within range (get_or tickets k d).chunk) outside rest in
      subst (λ (ts : List Ticket). IsNewestIn range ts delay) (sym grown) (newest_before range (take k tickets) (get_or tickets k d) delay outside (so_far before))
    where
      pick : (a b : Bool) → b ≡ false → (a || (b || false)) ≡ true → a ≡ true
      pick true b absent any = refl
      pick false b absent any = absurd (false≢true (sym (ap (λ (x : Bool). x || false) absent) ∙ any))

pub in_range : (first last i : ℕ) → first ≤ i → i ≤ last → within (record { first = first; last = last }) i ≡ true
in_range first last i low high = grind (arith, nat_tests)

pub below_range : (first last i : ℕ) → i < first → within (record { first = first; last = last }) i ≡ false
below_range first last i low = grind (arith, nat_tests)

pub above_range : (first last i : ℕ) → last < i → within (record { first = first; last = last }) i ≡ false
above_range first last i high = grind (arith, nat_tests)

-- a ticket for the first chunk of a range is in it
pub first_is_in : (first last : ℕ) (tickets : List Ticket) → first ≤ last → has_chunk tickets first ≡ true
    → is_any_in (record { first = first; last = last }) tickets ≡ true
first_is_in first last [] order h = h
first_is_in first last (t ∷ ts) order h =
    step (t.chunk == first) (within (record { first = first; last = last }) t.chunk) (list_any (λ (x : Ticket). x.chunk == first) ts) _
    (λ here. let yes : within (record { first = first; last = last }) t.chunk ≡ true = grind (arith, nat_tests) in yes) (λ there. first_is_in first last ts order there) h
  where
    step : (a b x y : Bool) → (a ≡ true → b ≡ true) → (x ≡ true → y ≡ true) → (a || x) ≡ true → (b || y) ≡ true
    step true b x y f g h = ap (λ (z : Bool). z || y) (f refl)
    step false true x y f g h = refl
    step false false x y f g h = g h

-- and after the last one
pub newest_of_all : (first last : ℕ) (tickets : List Ticket) (k delay : ℕ) → length tickets ≤ k
    → (is_any_in (record { first = first; last = last }) (take k tickets) ≡ true → IsNewestIn (record { first = first; last = last }) (take k tickets) delay)
    → has_chunk tickets first ≡ true → first ≤ last → IsNewestIn (record { first = first; last = last }) tickets delay
newest_of_all first last tickets k delay all so_far own order =
    let range : Span = record { first = first; last = last } in
    let whole = take_all k tickets all in
    subst (λ (ts : List Ticket). IsNewestIn range ts delay) whole
    (so_far (ap (λ (ts : List Ticket). is_any_in range ts) whole ∙ first_is_in first last tickets order own))
