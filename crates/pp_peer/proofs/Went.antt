-- What follows of notes that went on a channel, behind a handshake or not, whatever was refused.
use Rattle.std.proofs.Common.{◌≡◌, inl, ℕ, ◌+◌, ◌≤◌, max, Bool, true, false, Option, Some, None, List, [], ◌∷◌, length, refl, sym, ◌∙◌, ap, subst, arith}
use Rattle.std.specs.List.{AllByRecursion, list_any}
use Rattle.pp_terms.specs.format.Traffic.{Record}
use Rattle.pp_terms.specs.tree.Range.{has}
use Rattle.pp_traffic.specs.Committed.{requests}
use Rattle.pp_requests.specs.declared.asking.Asking.{Asking}
use Rattle.pp_draft.specs.declared.note.Note.{Note}
use Rattle.pp_draft.specs.declared.note.Note.TheVariants.{Handshake}
use Rattle.pp_seat.specs.Seats.{SeatState}
use Rattle.pp_desk.specs.declared.steps.Delivered.{Delivered}
use Rattle.pp_desk.specs.Delivers.{Way, Batch, At, DeliversEach, GoesIf, Goes, batches_if, notes_of, none_delivered}
use Rattle.pp_desk.specs.Laws.{records_of}
use Rattle.pp_desk.proofs.Following.{link_carries, each_counts}
use Rattle.pp_seats.specs.Sending.{requested, AsksFirst, FitAll, records_by}
use Rattle.pp_seats.proofs.Opened.{some_sent}
use Rattle.pp_agenda.specs.Laws.{are_cancelling}
use Rattle.pp_peer.specs.Flushing.{IsOurs}
use Rattle.pp_peer.proofs.Asked.{Grown, delivered_own}
use Rattle.pp_peer.proofs.Plainly.{IsBare, records_bare, records_ours, records_ask_none}

-- The records have no chunk and are this peer's, as many as were counted as sent; and where the notes ask for nothing the records don't.
pub record Went (w : Way) (notes : List Note) (old new : At) (rs : List Record) : Type 0 where
  pub bare : AllByRecursion (IsBare w.d w.moment) rs
  pub ours : AllByRecursion (IsOurs w.d w.moment) rs
  pub sent : new.so_far.sent ≡ length rs
  pub few : new.so_far.refused ≤ max 1 (length notes)
  pub nexts : new.link.nexts ≡ old.link.nexts
  pub bound : new.link.bound ≡ old.link.bound
  pub later : old.link.faults ≤ new.link.faults
  pub asks_none : requested notes ≡ [] → list_any (requests w.d) rs ≡ false

each_went : (w : Way) (bs : List Batch) (old new : At) → old.so_far ≡ none_delivered → DeliversEach w bs old new → new.so_far.refused ≤ max 1 (length (notes_of bs))
    → Went w (notes_of bs) old new (records_of w bs)
each_went w bs old new none each few =
    let carries = link_carries w bs old new each in
    record {
      bare = records_bare w bs old new each;
      ours = records_ours w bs old new each;
      sent = (each_counts w bs old new each).sent ∙ ap (λ (d : Delivered). d.sent + length (records_of w bs)) none ∙ zero_sum (length (records_of w bs));
      few = few;
      nexts = carries.nexts;
      bound = carries.bound;
      later = carries.later;
      asks_none = λ e. records_ask_none w bs old new e each;
    }
  where
    zero_sum : (n : ℕ) → 0 + n ≡ n
    zero_sum n = omega arith

-- with a handshake before them it is the same
behind : (w : Way) (source : ℕ) (notes : List Note) (old new : At) (rs : List Record) → new.so_far.refused ≤ max 1 (length notes) → Went w (Handshake source ∷ notes) old new rs
    → Went w notes old new rs
behind w source notes old new rs few h = record {
  bare = h.bare;
  ours = h.ours;
  sent = h.sent;
  few = few;
  nexts = h.nexts;
  bound = h.bound;
  later = h.later;
  asks_none = h.asks_none;
}

pub went_by : (opening : Option ℕ) (w : Way) (notes : List Note) (old new : At) → old.so_far ≡ none_delivered → (goes : Goes opening w notes old new)
    → Went w notes old new (records_by opening w notes old new goes)
went_by None w notes old new none g =
    let counts = each_counts w g.batches old new g.each in
    let zero : old.so_far.sent + old.so_far.refused ≡ 0 = ap (λ (d : Delivered). d.sent + d.refused) none in
    let few : new.so_far.refused ≤ max 1 (length (notes_of g.batches)) = (let all = counts.all in let low = counts.few in omega (arith, zero, all, low)) in
    subst (λ (ns : List Note). Went w ns old new (records_of w g.batches)) g.each_once (each_went w g.batches old new none g.each few)
went_by (Some source) w notes old new none g = by g.0 g.1
  where
    by : (taken : Bool) (h : GoesIf taken source w notes old new) → Went w notes old new (records_of w (batches_if taken source w notes old new h))
    by true h =
        let bs = h.delivers.batches in
        let counts = each_counts w bs old new h.delivers.each in
        let zero : old.so_far.sent + old.so_far.refused ≡ 0 = ap (λ (d : Delivered). d.sent + d.refused) none in
        let as_many = ap (λ (ns : List Note). length ns) h.delivers.each_once in
        let some = some_sent w bs h.first in
        let few : new.so_far.refused ≤ max 1 (length notes) = (let all = counts.all in let low = counts.few in let sent = counts.sent in omega (arith, zero, all, low, sent, some, as_many)) in
        let more : new.so_far.refused ≤ max 1 (length (notes_of bs)) = omega (arith, few, as_many) in
        behind w source notes old new (records_of w bs) few
        (subst (λ (ns : List Note). Went w ns old new (records_of w bs)) h.delivers.each_once (each_went w bs old new none h.delivers.each more))
    by false h = record {
      bare = tt;
      ours = tt;
      sent = ap (λ (d : Delivered). d.sent) h.count;
      few = (let one = ap (λ (d : Delivered). d.refused) h.count in omega (arith, one));
      nexts = h.goes.nexts;
      bound = h.goes.bound;
      later = h.goes.later;
      asks_none = λ e. refl;
    }

-- what is awaited then
pub own_by : (opening : Option ℕ) (w : Way) (notes : List Note) (old new : At) → Goes opening w notes old new → (came left : ℕ → Type 0) → AsksFirst notes
    → FitAll (requested notes) old.seat.own → ((i : ℕ) → has (requested notes) i ≡ true → came i) → ((i : ℕ) → are_cancelling notes i ≡ true → left i)
    → Grown came left [] old.seat.own new.seat.own
own_by None w notes old new g came left first fit asks drops =
    delivered_own came left w g.batches old new g.each
    (subst (λ (ns : List Note). AsksFirst ns) (sym g.each_once) first)
    (subst (λ (ns : List Note). FitAll (requested ns) old.seat.own) (sym g.each_once) fit)
    (subst (λ (ns : List Note). (i : ℕ) → has (requested ns) i ≡ true → came i) (sym g.each_once) asks)
    (subst (λ (ns : List Note). (i : ℕ) → are_cancelling ns i ≡ true → left i) (sym g.each_once) drops)
own_by (Some source) w notes old new g came left first fit asks drops = by g.0 g.1
  where
    by : (taken : Bool) → GoesIf taken source w notes old new → Grown came left [] old.seat.own new.seat.own
    by true h =
        let each_once : Handshake source ∷ notes ≡ notes_of h.delivers.batches = sym h.delivers.each_once in
        delivered_own came left w h.delivers.batches old new h.delivers.each
        (subst (λ (ns : List Note). AsksFirst ns) each_once first)
        (subst (λ (ns : List Note). FitAll (requested ns) old.seat.own) each_once fit)
        (subst (λ (ns : List Note). (i : ℕ) → has (requested ns) i ≡ true → came i) each_once asks)
        (subst (λ (ns : List Note). (i : ℕ) → are_cancelling ns i ≡ true → left i) each_once drops)
    by false h =
        subst (λ (own : List Asking). Grown came left [] old.seat.own own) (sym (ap (λ (s : SeatState). s.own) h.seat))
        (record { more_are = λ i e. inl e; fewer_are = λ i e. inl e; first = tt; fit = tt })
