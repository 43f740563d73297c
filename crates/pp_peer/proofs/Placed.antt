-- What is due on a channel is of the content, and what is told of it is committed.
use Rattle.std.proofs.Common.{◌≡◌, ℕ, ◌+◌, ◌<◌, ◌≤◌, get_or, eqb, Bool, true, false, Option, Some, None, List, [], ◌∷◌, ◌++◌, map, length, refl, sym, ◌∙◌, ap, subst, arith}
use Rattle.std.specs.List.{AllByRecursion}
use Rattle.std.proofs.lemmas.Bool.{or_left, or_right}
use Rattle.std.proofs.lemmas.List.{length-append, length-map}
use Rattle.std.proofs.lemmas.List.Sums.{length-filter, count_by-le-length}
use Rattle.pp_terms.specs.format.Descriptor.{chunks_of}
use Rattle.pp_terms.specs.tree.Range.{Span, within, has, IsRunsFrom}
use Rattle.pp_avail.specs.declared.ranker.Rank.{Rank}
use Rattle.pp_fetching.specs.Fetching.{FetchState}
use Rattle.pp_holding.specs.declared.queue.Ticket.{Ticket}
use Rattle.pp_holding.specs.Holding.{AreCommitted, AreTied}
use Rattle.pp_news.specs.declared.acknowledgement.Acknowledgement.{Acknowledgement}
use Rattle.pp_news.specs.News.{of_seat, ranges_of, alone, AreIn, AreRunsOf, AreApart, AreAcknowledged}
use Rattle.pp_news.proofs.Telling.{all_are_in, own_are_in, none_else, all_are_told}
use Rattle.pp_agenda.specs.Laws.{IsCommitted, IsPlaced}
use Rattle.pp_agenda.proofs.Telling.{ends_within}
use Rattle.pp_peer.specs.declared.parts.Parts.{Parts}
use Rattle.pp_peer.specs.declared.speaking.Hearer.{Hearer}
use Rattle.pp_peer.specs.declared.speaking.Speaker.{Speaker}
use Rattle.pp_peer.specs.Standing.{IsWhole}
use Rattle.pp_peer.specs.Speaking.{may_ask, PicksFrom, Picks, Fills}

-- ---- ranges of committed chunks

-- the ranges are in order
abbrev AreOrdered : List Span → Type 0
AreOrdered xs = AllByRecursion (λ (x : Span). x.first ≤ x.last) xs

runs_ordered : (from : ℕ) (xs : List Span) → IsRunsFrom from xs → AreOrdered xs
runs_ordered from [] runs = tt
runs_ordered from (x ∷ xs) runs = (runs.1, runs_ordered (x.last + 2) xs runs.2)

apart_ordered : (committed : List Bool) (xs : List Span) → AreApart committed xs → AreOrdered xs
apart_ordered committed [] a = tt
apart_ordered committed (x ∷ xs) a = (a.0, apart_ordered committed xs a.2)

alone_ordered : (ts : List Ticket) → AreOrdered (ranges_of (map alone ts))
alone_ordered [] = tt
alone_ordered (t ∷ ts) = (omega arith, alone_ordered ts)

both_ordered : (xs ys : List Acknowledgement) → AreOrdered (ranges_of xs) → AreOrdered (ranges_of ys) → AreOrdered (ranges_of (xs ++ ys))
both_ordered [] ys a b = b
both_ordered (x ∷ xs) ys a b = (a.0, both_ordered xs ys a.1 b)

each_committed : (committed : List Bool) (xs : List Span) → AreOrdered xs → ((i : ℕ) → has xs i ≡ true → get_or committed i false ≡ true)
    → AllByRecursion (IsCommitted committed) xs
each_committed committed [] o h = tt
each_committed committed (x ∷ xs) o h = (
  record { order = o.0; each = λ i at. h i (or_left (within x i) (has xs i) at) },
  each_committed committed xs o.1 (λ i at. h i (or_right (within x i) (has xs i) at)),
)

acks_committed : (committed : List Bool) (xs : List Acknowledgement) → AllByRecursion (IsCommitted committed) (ranges_of xs)
    → AllByRecursion (λ (one : Acknowledgement). IsCommitted committed one.range) xs
acks_committed committed [] a = tt
acks_committed committed (x ∷ xs) a = (a.0, acks_committed committed xs a.1)

-- ---- what was picked

picked_inside : (may : Bool) (order : Rank) (seat room chunks : ℕ) (picks : List Span) (old new : Option FetchState) → ((f : FetchState) → old ≡ Some f → length f.want.had ≡ chunks)
    → PicksFrom may order seat room picks old new → AllByRecursion (λ (x : Span). x.last < chunks) picks
picked_inside true order seat room chunks picks (Some old) new content p =
    subst (λ (n : ℕ). AllByRecursion (λ (x : Span). x.last < n) picks) (content old refl) (inside 0 picks p.3.runs p.3.inside)
  where
    inside : (from : ℕ) (xs : List Span) → IsRunsFrom from xs → ((i : ℕ) → has xs i ≡ true → i < length old.want.had)
        → AllByRecursion (λ (x : Span). x.last < length old.want.had) xs
    inside from [] runs h = tt
    inside from (x ∷ xs) runs h = (
      h x.last (or_left (within x x.last) (has xs x.last) (ends_within x runs.1)),
      inside (x.last + 2) xs runs.2 (λ i at. h i (or_right (within x i) (has xs i) at)),
    )
picked_inside true order seat room chunks picks None new content p = subst (λ (xs : List Span). AllByRecursion (λ (x : Span). x.last < chunks) xs) (sym p.0) tt
picked_inside false order seat room chunks picks old new content p = subst (λ (xs : List Span). AllByRecursion (λ (x : Span). x.last < chunks) xs) (sym p.0) tt

-- ---- all that is due

pub placed_of : (hearer : Hearer) (picks : List Span) (speaker left : Speaker) (p0 p1 : Parts) → IsWhole p0 → AreTied p1.holding
    → AreRunsOf p1.holding.queue.tickets speaker.news.ranges → Picks speaker.order hearer.seat picks p0 p1 → (fills : Fills hearer picks p1 speaker left)
    → IsPlaced (chunks_of p0.seats.descriptor) fills.due
placed_of hearer picks speaker left p0 p1 whole tied gathered picked fills = record {
  size = size;
  came = subst (λ (xs : List Bool). AllByRecursion (λ (one : Acknowledgement). IsCommitted xs one.range) fills.due.acknowledgements.now) (sym fills.committed)
      (acks_committed p1.holding.store.committed fills.due.acknowledgements.now
      (each_committed p1.holding.store.committed (ranges_of fills.due.acknowledgements.now) acks_ordered
      (none_else p1.holding.store.committed (of_seat hearer.seat p1.holding.queue.tickets) (of_seat hearer.seat p1.holding.queue.repeats) fills.due.acknowledgements.now fills.acknowledgements
      (own_are_in p1.holding.store.committed hearer.seat p1.holding.queue.repeats tied.again))));
  new = subst (λ (xs : List Bool). AllByRecursion (IsCommitted xs) fills.due.news.now) (sym fills.committed)
      (subst (λ (xs : List Span). AllByRecursion (IsCommitted p1.holding.store.committed) xs) (sym fills.news)
      (each_committed p1.holding.store.committed speaker.news.ranges (runs_ordered 0 speaker.news.ranges gathered.runs)
      ((all_are_told p1.holding.queue.tickets speaker.news.ranges gathered).none_else p1.holding.store.committed (all_in p1.holding.queue.tickets tied.came))));
  inside = subst (λ (xs : List Span). AllByRecursion (λ (x : Span). x.last < chunks_of p0.seats.descriptor) xs) (sym fills.asked_for)
      (subst (λ (n : ℕ). AllByRecursion (λ (x : Span). x.last < n) picks) (sym (ap chunks_of whole.swarm))
      (picked_inside (may_ask picked.known) speaker.order hearer.seat picked.room (chunks_of p0.holding.store.descriptor) picks p0.fetching p1.fetching whole.content picked.picks_from));
}
  where
    size : length fills.due.committed.now ≡ chunks_of p0.seats.descriptor
    size = ap (λ (xs : List Bool). length xs) fills.committed ∙ tied.waits.committed_size
        ∙ ap (λ (p : Parts). chunks_of p.holding.store.descriptor) picked.rest ∙ ap chunks_of (sym whole.swarm)

    acks_ordered : AreOrdered (ranges_of fills.due.acknowledgements.now)
    acks_ordered = subst (λ (xs : List Acknowledgement). AreOrdered (ranges_of xs)) (sym fills.acknowledgements.order)
        (both_ordered fills.acknowledgements.joined (map alone (of_seat hearer.seat p1.holding.queue.repeats))
        (apart_ordered p1.holding.store.committed (ranges_of fills.acknowledgements.joined) fills.acknowledgements.are_joined.apart)
        (alone_ordered (of_seat hearer.seat p1.holding.queue.repeats)))

    all_in : (ts : List Ticket) → AreCommitted p1.holding.store ts → AreIn p1.holding.store.committed ts
    all_in ts all = all_are_in p1.holding.store.committed ts all

-- ---- how many

pub few_acknowledgements : (committed : List Bool) (seat : ℕ) (tickets repeats : List Ticket) (acknowledgements : List Acknowledgement)
    → AreAcknowledged committed (of_seat seat tickets) (of_seat seat repeats) acknowledgements → length tickets ≤ 307 → length repeats ≤ 307
    → length acknowledgements ≤ 614
few_acknowledgements committed seat tickets repeats acknowledgements a few many =
    let total = ap (λ (xs : List Acknowledgement). length xs) a.order ∙ length-append a.joined (map alone (of_seat seat repeats)) in
    let own = a.are_joined.few in
    let own_few = kept tickets in
    let again = length-map (of_seat seat repeats) alone in
    let again_few = kept repeats in
    omega (arith, total, own, own_few, again, again_few, few, many)
  where
    kept : (ts : List Ticket) → length (of_seat seat ts) ≤ length ts
    kept ts = let some = length-filter (λ (t : Ticket). eqb t.seat seat) ts in let most = count_by-le-length (λ (t : Ticket). eqb t.seat seat) ts in omega (arith, some, most)
