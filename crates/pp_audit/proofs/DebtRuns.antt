-- What is left of chunks, for numbers that aren't told apart and for those past all that are named.
use Rattle.std.proofs.Common.{◌≡◌, ℕ, suc, ◌≤◌, Bool, false, not, ◌&&◌, ◌||◌, List, ◌∙◌, ap, arith}
use Rattle.std.specs.Prelude.{slice_index_or}
use Rattle.std.proofs.lemmas.Bool.{and_left, or_from}
use Rattle.std.proofs.lemmas.List.{get_or_past}
use Rattle.pp_terms.specs.format.Traffic.{Record}
use Rattle.pp_terms.specs.format.Descriptor.{Descriptor}
use Rattle.pp_traffic.specs.Life.{Life}
use Rattle.pp_traffic.specs.Story.{story}
use Rattle.pp_traffic.specs.Asking.{asked}
use Rattle.pp_promises.specs.LastTurn.{earlier}
use Rattle.pp_promises.specs.Served.{is_announced, is_owed}
use Rattle.pp_promises.specs.Announced.{is_told_of}
use Rattle.pp_audit.specs.Alike.{IsAlike, AreAlike, AreAlikeIn}
use Rattle.pp_audit.specs.declared.debts.Debt.{Debt}
use Rattle.pp_audit.specs.declared.debts.Debt.TheVariants as debts
use Rattle.pp_audit.specs.Debts.{is_left, last_left}
use Rattle.pp_audit.proofs.AlikeNumbers.{story_by, earlier_by, asked_alike, told_alike, announced_alike, owed_alike}
use Rattle.pp_audit.proofs.TopNumbers.{asked_past, owed_past, announced_past}

pub left_alike : (debt : Debt) (stood : List Bool) (d : Descriptor) (past : List Record) (life : Life) (i j : ℕ) → AreAlike d i j past
    → slice_index_or stood i false ≡ slice_index_or stood j false → is_left debt stood d past life i ≡ is_left debt stood d past life j
left_alike debts.Owed stood d past life i j all same =
    ap (λ (b : Bool). b || (asked i (story d life past) && slice_index_or stood i false)) (owed_alike d life i j past all)
    ∙ ap (λ (b : Bool). is_owed d life j past || (b && slice_index_or stood i false)) (asked_alike i j (story d life past) (story_by (IsAlike i j) d life past all))
    ∙ ap (λ (b : Bool). is_owed d life j past || (asked j (story d life past) && b)) same
left_alike debts.Untold stood d past life i j all same =
    ap (λ (b : Bool). (b || slice_index_or stood i false) && not (is_told_of i (story d life past)))
    (announced_alike d i j (earlier past) (earlier_by (AreAlikeIn d i j) past all))
    ∙ ap (λ (b : Bool). (is_announced d j (earlier past) || b) && not (is_told_of i (story d life past))) same
    ∙ ap (λ (b : Bool). (is_announced d j (earlier past) || slice_index_or stood j false) && not b)
    (told_alike i j (story d life past) (story_by (IsAlike i j) d life past all))

pub left_past : (debt : Debt) (stood : List Bool) (d : Descriptor) (past : List Record) (life : Life) (i : ℕ) → suc (last_left stood d past) ≤ i
    → is_left debt stood d past life i ≡ false
left_past debts.Owed stood d past life i le =
    or_from (is_owed d life i past) (asked i (story d life past) && slice_index_or stood i false) (owed_past d life i past (omega (arith, le)))
    (and_left (asked i (story d life past)) (slice_index_or stood i false) (asked_past d life i past (omega (arith, le))))
left_past debts.Untold stood d past life i le =
    and_left (is_announced d i (earlier past) || slice_index_or stood i false) (not (is_told_of i (story d life past)))
    (or_from (is_announced d i (earlier past)) (slice_index_or stood i false)
    (announced_past d i past (earlier past) (omega (arith, le)) (λ P all. earlier_by P past all)) (get_or_past stood i false (omega (arith, le))))
