-- What is left on a channel, as a test.
use Rattle.std.proofs.Common.{◌≡◌, ◌↔◌, ◌⊎◌, inl, inr, ⊎_elim, ℕ, suc, ◌≤◌, leb, Bool, true, false, not, ◌&&◌, ◌||◌, List, [], ◌∷◌, arith}
use Rattle.std.specs.Prelude.{slice_index_or}
use Rattle.std.proofs.lemmas.Bool.{and_parts, and_from, or_cases, or_left, or_right, cases_Bool, not-true, not_from_false, not_from_true, leb-true, leb-false, le-leb, both_ways}
use Rattle.pp_terms.specs.format.Traffic.{Record}
use Rattle.pp_terms.specs.format.Descriptor.{Descriptor}
use Rattle.pp_terms.specs.disk.Disk.{History}
use Rattle.pp_traffic.specs.Life.{Life}
use Rattle.pp_traffic.specs.Story.{story}
use Rattle.pp_traffic.specs.Asking.{choked, asked, asks_in, most_asks, is_heard}
use Rattle.pp_traffic.specs.Keeping.{StoodThroughout}
use Rattle.pp_traffic.specs.Plain.{IsPlainNow}
use Rattle.pp_traffic.specs.Meter.{lets_send}
use Rattle.pp_traffic.specs.Turns.{AtMost}
use Rattle.pp_promises.specs.LastTurn.{earlier}
use Rattle.pp_promises.specs.Served.{is_announced, is_owed, IsOwed, MayBeServed, LeavesFew}
use Rattle.pp_promises.specs.Announced.{is_told_of, fewest_new, new_count, IsKnownOf, TellsOfHeld}
use Rattle.pp_audit.specs.Asks.{may_be_served}
use Rattle.pp_audit.specs.Channels.{each_plain}
use Rattle.pp_audit.specs.Debts.{is_left, last_left, leaves_few}
use Rattle.pp_audit.specs.declared.debts.Debt.TheVariants as debts
use Rattle.pp_audit.proofs.ChannelSearch.{search_finds_all}
use Rattle.pp_audit.proofs.Countings.{at_most_by}
use Rattle.pp_audit.proofs.DebtRuns.{left_past}

-- which chunks stood from the start
abbrev pub Stood : Descriptor → History → List Bool → Type 0
Stood d h stood = (i : ℕ) → (slice_index_or stood i false ≡ true) ↔ StoodThroughout d h i

-- ---- owed

owed_one : (d : Descriptor) (h : History) (stood : List Bool) → Stood d h stood → (past : List Record) (life : Life) (i : ℕ)
    → (is_left debts.Owed stood d past life i ≡ true) ↔ IsOwed d h life past i
owed_one d h stood is past life i = (
  λ e. ⊎_elim
      (λ owed. inl owed)
      (λ both. let a = and_parts (asked i (story d life past)) (slice_index_or stood i false) both in inr (a.0, (is i).0 a.1))
      (or_cases (is_owed d life i past) (asked i (story d life past) && slice_index_or stood i false) e),
  λ owed. ⊎_elim
      (λ e. or_left (is_owed d life i past) (asked i (story d life past) && slice_index_or stood i false) e)
      (λ both. or_right (is_owed d life i past) (asked i (story d life past) && slice_index_or stood i false)
      (and_from (asked i (story d life past)) (slice_index_or stood i false) both.0 ((is i).1 both.1)))
      owed,
)

few_owed : (r : ℕ) (d : Descriptor) (h : History) (stood : List Bool) → Stood d h stood → (past : List Record) (life : Life)
    → (leaves_few r debts.Owed stood d past life ≡ true) ↔ AtMost r (IsOwed d h life past)
few_owed r d h stood is past life =
    let f = is_left debts.Owed stood d past life in
    let exact = at_most_by f (IsOwed d h life past) (suc (last_left stood d past)) r (owed_one d h stood is past life)
    (left_past debts.Owed stood d past life) in
    (λ e. exact.0 (leb-true _ r e), λ few. le-leb _ r (exact.1 few))

served_by : (d : Descriptor) (past : List Record) (life : Life) → IsPlainNow d life past → may_be_served d past life ≡ true → MayBeServed d (lets_send d.chunk) life past
served_by d past life plain e =
    let unchoked = not (choked (story d life past)) in
    let heard = is_heard d life past in
    let few = leb (asks_in (story d life past)) most_asks in
    let room = lets_send d.chunk (story d life past) in
    let a = and_parts (unchoked && heard && few) room e in
    let b = and_parts (unchoked && heard) few a.0 in
    let c = and_parts unchoked heard b.0 in
    record {
      plain = plain;
      unchoked = not-true (choked (story d life past)) c.0;
      heard = c.1;
      few = leb-true (asks_in (story d life past)) most_asks b.1;
      has_room = a.1;
    }

by_served : (d : Descriptor) (past : List Record) (life : Life) → MayBeServed d (lets_send d.chunk) life past → may_be_served d past life ≡ true
by_served d past life may =
    let unchoked = not (choked (story d life past)) in
    let heard = is_heard d life past in
    let few = leb (asks_in (story d life past)) most_asks in
    and_from (unchoked && heard && few) (lets_send d.chunk (story d life past))
    (and_from (unchoked && heard) few (and_from unchoked heard (not_from_false (choked (story d life past)) may.unchoked) may.heard)
    (le-leb (asks_in (story d life past)) most_asks may.few)) may.has_room

pub serves_decided : (r : ℕ) (d : Descriptor) (h : History) (stood : List Bool) → Stood d h stood → (past : List Record)
    → (each_plain (λ life. not (may_be_served d past life) || leaves_few r debts.Owed stood d past life) d past ≡ true) ↔ LeavesFew r d (lets_send d.chunk) h past
serves_decided r d h stood is past =
    let test : Life → Bool = λ life. not (may_be_served d past life) || leaves_few r debts.Owed stood d past life in
    let search = search_finds_all test d past in (
      λ e life may. ⊎_elim
          (λ other. absurd (both_ways (not (may_be_served d past life)) (not_from_true (may_be_served d past life) (by_served d past life may)) other))
          (λ few. (few_owed r d h stood is past life).0 few)
          (or_cases (not (may_be_served d past life)) (leaves_few r debts.Owed stood d past life) (search.0 e life may.plain)),
      λ leaves. search.1 (λ life plain. ⊎_elim
          (λ may. or_right (not (may_be_served d past life)) (leaves_few r debts.Owed stood d past life)
          ((few_owed r d h stood is past life).1 (leaves life (served_by d past life plain may))))
          (λ other. or_left (not (may_be_served d past life)) (leaves_few r debts.Owed stood d past life) (not_from_false (may_be_served d past life) other))
          (cases_Bool (may_be_served d past life))),
    )

-- ---- told of

-- A chunk that is known of wasn't told of.
abbrev pub IsUntold : Descriptor → History → Life → List Record → ℕ → Type 0
IsUntold d h life past i = IsKnownOf d h past i × (is_told_of i (story d life past) ≡ false)

untold_one : (d : Descriptor) (h : History) (stood : List Bool) → Stood d h stood → (past : List Record) (life : Life) (i : ℕ)
    → (is_left debts.Untold stood d past life i ≡ true) ↔ IsUntold d h life past i
untold_one d h stood is past life i =
    let news = is_announced d i (earlier past) in
    let told = is_told_of i (story d life past) in (
      λ e.
          let a = and_parts (news || slice_index_or stood i false) (not told) e in
          (⊎_elim (λ said. inl said) (λ stands. inr ((is i).0 stands)) (or_cases news (slice_index_or stood i false) a.0), not-true told a.1),
      λ untold. and_from (news || slice_index_or stood i false) (not told)
          (⊎_elim (λ said. or_left news (slice_index_or stood i false) said) (λ stands. or_right news (slice_index_or stood i false) ((is i).1 stands)) untold.0)
          (not_from_false told untold.1),
    )

none_of : (P : ℕ → Type 0) → AtMost 0 P → (i : ℕ) → P i → ⊥
none_of P ([], le, all) i p = let never : false ≡ true = all i p in cc
none_of P (x ∷ few, le, all) i p = absurd (omega (arith, le))

few_untold : (d : Descriptor) (h : History) (stood : List Bool) → Stood d h stood → (past : List Record) (life : Life)
    → (leaves_few 0 debts.Untold stood d past life ≡ true) ↔ AtMost 0 (IsUntold d h life past)
few_untold d h stood is past life =
    let exact = at_most_by (is_left debts.Untold stood d past life) (IsUntold d h life past) (suc (last_left stood d past)) 0
    (untold_one d h stood is past life) (left_past debts.Untold stood d past life) in
    (λ e. exact.0 (leb-true _ 0 e), λ few. le-leb _ 0 (exact.1 few))

told_all : (d : Descriptor) (h : History) (stood : List Bool) → Stood d h stood → (past : List Record) (life : Life)
    → ((leaves_few 0 debts.Untold stood d past life || leb fewest_new (new_count d life past)) ≡ true)
    ↔ ((i : ℕ) → IsKnownOf d h past i → (is_told_of i (story d life past) ≡ true) ⊎ (fewest_new ≤ new_count d life past))
told_all d h stood is past life =
    let few = leaves_few 0 debts.Untold stood d past life in
    let many = leb fewest_new (new_count d life past) in
    let exact = few_untold d h stood is past life in (
      λ e i known. ⊎_elim
          (λ none. ⊎_elim
          (λ told. inl told)
          (λ untold. absurd (none_of (IsUntold d h life past) (exact.0 none) i (known, untold)))
          (cases_Bool (is_told_of i (story d life past))))
          (λ new. inr (leb-true fewest_new (new_count d life past) new))
          (or_cases few many e),
      λ tells. ⊎_elim
          (λ new. or_right few many new)
          (λ other. or_left few many (exact.1 (
            [],
            omega arith,
            λ i untold. ⊎_elim
                (λ told. absurd (both_ways (is_told_of i (story d life past)) untold.1 told))
                (λ new. let lt = leb-false fewest_new (new_count d life past) other in absurd (omega (arith, new, lt)))
                (tells i untold.0),
          )))
          (cases_Bool many),
    )

pub tells_decided : (d : Descriptor) (h : History) (stood : List Bool) → Stood d h stood → (past : List Record)
    → (each_plain (λ life. not (is_heard d life past) || (leaves_few 0 debts.Untold stood d past life || leb fewest_new (new_count d life past))) d past ≡ true) ↔ TellsOfHeld d h past
tells_decided d h stood is past =
    let all : Life → Bool = λ life. leaves_few 0 debts.Untold stood d past life || leb fewest_new (new_count d life past) in
    let search = search_finds_all (λ life. not (is_heard d life past) || all life) d past in (
      λ e life plain heard. ⊎_elim
          (λ other. absurd (both_ways (not (is_heard d life past)) (not_from_true (is_heard d life past) heard) other))
          (λ told. (told_all d h stood is past life).0 told)
          (or_cases (not (is_heard d life past)) (all life) (search.0 e life plain)),
      λ tells. search.1 (λ life plain. ⊎_elim
          (λ heard. or_right (not (is_heard d life past)) (all life) ((told_all d h stood is past life).1 (tells life plain heard)))
          (λ other. or_left (not (is_heard d life past)) (all life) (not_from_false (is_heard d life past) other))
          (cases_Bool (is_heard d life past))),
    )
