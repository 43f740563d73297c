-- What is told and acknowledged is what was committed.
use Rattle.std.proofs.Common.{◌≡◌, ⊎_elim, ℕ, ◌==◌, get_or, Bool, true, false, cond, ◌||◌, List, [], ◌∷◌, ◌++◌, map, refl, sym, ◌∙◌, ap}
use Rattle.std.specs.List.{AllByRecursion}
use Rattle.std.proofs.lemmas.Bool.{or_left, or_right, false≢true, eqb-true}
use Rattle.pp_terms.specs.tree.Range.{Span, has}
use Rattle.pp_ranges.proofs.Runs.{append_has}
use Rattle.pp_holding.specs.declared.queue.Ticket.{Ticket}
use Rattle.pp_news.specs.declared.acknowledgement.Acknowledgement.{Acknowledgement}
use Rattle.pp_news.specs.News.{has_chunk, ranges_of, alone, of_seat, AreIn, AreAcknowledged}
use Rattle.pp_news.proofs.RunSteps.{single}
use Rattle.pp_news.proofs.JoinSteps.{either}
use Rattle.pp_news.specs.Laws.{AllAreTold, AllAreAcknowledged, NoneElse, OwnAreIn}

pub all_are_told : AllAreTold
all_are_told tickets ranges h = record {
  all = λ i own. h.same i ∙ own;
  none_else = λ committed are i any. are i (sym (h.same i) ∙ any);
}

ranges-append : (xs ys : List Acknowledgement) → ranges_of (xs ++ ys) ≡ ranges_of xs ++ ranges_of ys
ranges-append [] ys = refl
ranges-append (x ∷ xs) ys = ap (λ (zs : List Span). x.range ∷ zs) (ranges-append xs ys)

alone-has : (repeats : List Ticket) (i : ℕ) → has (ranges_of (map alone repeats)) i ≡ has_chunk repeats i
alone-has [] i = refl
alone-has (t ∷ ts) i = ap (λ (b : Bool). b || has (ranges_of (map alone ts)) i) (single t.chunk i) ∙ ap (λ (b : Bool). (t.chunk == i) || b) (alone-has ts i)

acknowledged-has : (committed : List Bool) (tickets repeats : List Ticket) (acknowledgements : List Acknowledgement)
    (h : AreAcknowledged committed tickets repeats acknowledgements) (i : ℕ)
    → has (ranges_of acknowledgements) i ≡ (has (ranges_of h.joined) i || has_chunk repeats i)
acknowledged-has committed tickets repeats acknowledgements h i =
    ap (λ (xs : List Acknowledgement). has (ranges_of xs) i) h.order
    ∙ ap (λ (xs : List Span). has xs i) (ranges-append h.joined (map alone repeats))
    ∙ append_has (ranges_of h.joined) (ranges_of (map alone repeats)) i
    ∙ ap (λ (b : Bool). has (ranges_of h.joined) i || b) (alone-has repeats i)

pub all_are_acknowledged : AllAreAcknowledged
all_are_acknowledged committed tickets repeats acknowledgements h i own =
    acknowledged-has committed tickets repeats acknowledgements h i
    ∙ ⊎_elim
    (λ one. or_left (has (ranges_of h.joined) i) (has_chunk repeats i) (h.are_joined.all i one))
    (λ two. or_right (has (ranges_of h.joined) i) (has_chunk repeats i) two)
    own

pub none_else : NoneElse
none_else committed tickets repeats acknowledgements h are i any =
    either (has (ranges_of h.joined) i) (has_chunk repeats i) _ (h.are_joined.none_else i) (are i)
    (sym (acknowledged-has committed tickets repeats acknowledgements h i) ∙ any)

-- where all tickets' chunks are in a set, those of a seat's tickets are
pub of_seat_in : (committed : List Bool) (seat : ℕ) (tickets : List Ticket) → AreIn committed tickets → AreIn committed (of_seat seat tickets)
of_seat_in committed seat tickets are i own = are i (wider tickets own)
  where
    step : (a b : Bool) (t : Ticket) (ts : List Ticket) → (t.seat == seat) ≡ a → (has_chunk (of_seat seat ts) i ≡ true → has_chunk ts i ≡ true)
        → has_chunk (cond a (t ∷ of_seat seat ts) (of_seat seat ts)) i ≡ true → has_chunk (t ∷ ts) i ≡ true
    step true b t ts is more own = either (t.chunk == i) (has_chunk (of_seat seat ts) i) (has_chunk (t ∷ ts) i ≡ true)
        (or_left (t.chunk == i) (has_chunk ts i)) (λ later. or_right (t.chunk == i) (has_chunk ts i) (more later)) own
    step false b t ts is more own = or_right (t.chunk == i) (has_chunk ts i) (more own)

    wider : (ts : List Ticket) → has_chunk (of_seat seat ts) i ≡ true → has_chunk ts i ≡ true
    wider [] own = own
    wider (t ∷ ts) own = step (t.seat == seat) true t ts refl (λ later. wider ts later) own

pub all_are_in : (committed : List Bool) (tickets : List Ticket) → AllByRecursion (λ t. get_or committed t.chunk false ≡ true) tickets → AreIn committed tickets
all_are_in committed [] all i own = absurd (false≢true own)
all_are_in committed (t ∷ ts) all i own = either (t.chunk == i) (has_chunk ts i) (get_or committed i false ≡ true)
    (λ same. ap (λ (n : ℕ). get_or committed n false) (sym (eqb-true t.chunk i same)) ∙ all.0) (all_are_in committed ts all.1 i) own

pub own_are_in : OwnAreIn
own_are_in committed seat tickets all = of_seat_in committed seat tickets (all_are_in committed tickets all)
