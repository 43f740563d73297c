-- What a seat may send answers its peer, and what is left.
use Rattle.pp_traffic.specs.Laws.{plan}
use Rattle.std.proofs.lemmas.Bool.Decides.{nat_tests}
use Rattle.pp_seat.specs.Own.{IsNextRow}
use Rattle.pp_requests.specs.Lists.{IsLeast}
use Rattle.std.proofs.Common.{◌≡◌, ⊎_elim, ℕ, Bool, true, List, sym, ◌∙◌, ap, subst, ◌<◌, ◌≤◌, [], false, arith}
use Rattle.std.specs.List.{list_all}
use Rattle.std.proofs.lemmas.Bool.{both_ways}
use Rattle.pp_terms.specs.tree.Tree.{Node}
use Rattle.pp_terms.specs.tree.Range.{Span, has, within}
use Rattle.pp_traffic.specs.Hashes.{is_told, completes}
use Rattle.pp_traffic.specs.Meter.{has_room}
use Rattle.pp_traffic.proofs.Paths.{paths_grow}
use Rattle.pp_plan.specs.Told.{knows}
use Rattle.pp_seat.specs.Lines.{Tale}
use Rattle.pp_seat.specs.Seats.{SeatState}
use Rattle.pp_seat.specs.Follows.{Frame, Lost, Follows, IsNext, Answers, HasNone}
use Rattle.pp_seat.specs.Laws.{NoneLeft, ChokesAreDue}

pub answers : (f : Frame) (lost : Lost) (i : ℕ) (s : SeatState) (t : Tale) → IsNext s i → Follows f lost s t → Answers f t i
answers f lost i s t next h = record {
  content = h.lists.inside i next.least.listed;
  asked_for = h.lists.asked_for i next.least.listed;
  unchoked = sym h.slot.same ∙ h.slot.unchoked next.slot;
  in_window = ap has_room (sym h.window.same) ∙ next.room;
}

-- The hashes of its plan complete its path.
pub whole_path : (f : Frame) (lost : Lost) (i chunks : ℕ) (s : SeatState) (t : Tale) (brought : Node → Bool) (nodes : List Node) → s.told.chunks ≡ chunks
    → completes chunks brought (knows s.told) i ≡ list_all brought nodes → Follows f lost s t → list_all brought nodes ≡ true
    → completes f.chunks brought (is_told f.chunks t.story) i ≡ true
whole_path f lost i chunks s t brought nodes content is h all =
    paths_grow f.chunks brought brought (knows s.told) (is_told f.chunks t.story) i (λ n e. e) (λ n e. sym (h.told.known n) ∙ e)
    (subst (λ (k : ℕ). completes k brought (knows s.told) i ≡ true) (sym content ∙ h.told.content) (is ∙ all))

pub none_left : NoneLeft
none_left f lost s t h slot none =
    let k = h.lacks slot in (
      k.given,
      k.few,
      λ i place few lt is e. ⊎_elim
          (λ on. absurd (both_ways (has s.list i) (none i (subst (λ (n : ℕ). i < n) (sym h.told.content) lt)) on))
          (λ gone. gone)
          (k.listed i place few lt is e),
    )

pub chokes_are_due : ChokesAreDue
chokes_are_due f lost s t h no_slot free = h.slot.due no_slot (h.slot.same ∙ free)

-- Where the least chunk is none of the content, no chunk of it is listed.
pub none_listed : (s : SeatState) (i : ℕ) → IsLeast s.list i → s.told.chunks ≤ i → HasNone s
none_listed s i least out j lt = least.lesser j (omega arith)

pub empty_list : (s : SeatState) → s.list ≡ [] → HasNone s
empty_list s none j lt = ap (λ (xs : List Span). has xs j) none

-- What is next to be told of wasn't told of since the channel was proven.
pub rows_are_fresh : (f : Frame) (lost : Lost) (s : SeatState) (t : Tale) (set : List Bool) (range : Span) → IsNextRow s.cursor set range → Follows f lost s t
    → lost.haves ≡ 0 → (i : ℕ) → within range i ≡ true → t.told i ≡ false
rows_are_fresh f lost s t set range row h none i here = h.fresh.above none i (high row.low)
  where
    high : s.cursor ≤ range.first → s.cursor ≤ i
    high low = grind (arith, nat_tests)

-- The plan of the content's count, by another name of it.
pub plan_at : (chunks count i : ℕ) (told : Node → Bool) (nodes : List Node) → nodes ≡ plan chunks told i → chunks ≡ count → nodes ≡ plan count told i
plan_at chunks count i told nodes is same = subst (λ (n : ℕ). nodes ≡ plan n told i) same is
