-- The levels of one word's numbers.
use Rattle.std.proofs.Common.{◌≡◌, ◌≢◌, ⊎_elim, ◌⊎◌, inl, inr, ℕ, ◌+◌, ◌^◌, ◌<◌, ◌≤◌, ◌==◌, not, Bool, true, false, cond, List, subst, sym, ◌∙◌, ap, arith, bit_and, w64}
use Rattle.std.specs.Int.{bit_at, bit_not, trailing_zeros}
use Rattle.std.proofs.lemmas.Nat.{and_le_l}
use Rattle.std.proofs.lemmas.Nat.Bits.{bit_at_and, bit_at_not, bit_at-lt, bit_at-zero, bit_at_above, bit_at-trailing_zeros, same_from_bits_below}
use Rattle.std.proofs.lemmas.Bool.{cases_eq, cases_lt, eqb-true, eqb-false, eq-eqb, ne_eqb}
use Rattle.pp_avail.specs.declared.planes.Planes.{Planes}
use Rattle.pp_avail.specs.Planes.{number_at}
use Rattle.pp_avail.specs.Levels.{is_in, IsLevelAt}
use Rattle.pp_avail.specs.declared.levels.Step.{Step}
use Rattle.pp_avail.specs.declared.levels.Step.TheVariants.{Up, Down}
use Rattle.pp_avail.specs.Steps.{number_before, HasStepped, HaveStepped}
use Rattle.pp_tree.proofs.Marking.{place_in}

-- one level as it was
pub level_kept : (levels changed : List (List Bool)) (w : ℕ) (planes : Planes) (fewer : ℕ) → IsLevelAt levels w planes fewer
    → is_in changed fewer w ≡ is_in levels fewer w → IsLevelAt changed w planes fewer
level_kept levels changed w planes fewer is same = record {
  some = λ k lt number. same ∙ is.some k lt number;
  none = λ others. same ∙ is.none others;
}

-- a level that is marked by the places which have its number, and one that is marked since a place has it
pub level_by_places : (levels : List (List Bool)) (w copies : ℕ) (planes : Planes) (places fewer : ℕ) → fewer + 1 ≡ copies → places < 2 ^ 64
    → ((k : ℕ) → k < 64 → (bit_at places k == 1) ≡ (number_at planes k == copies))
    → is_in levels fewer w ≡ not (places == 0)
    → IsLevelAt levels w planes fewer
level_by_places levels w copies planes places fewer is fits are value = record {
  some = λ k lt number. value ∙ ap not (ne_eqb places 0 (λ zero.
      let one : bit_at places k ≡ 1 = eqb-true (bit_at places k) 1 (are k lt ∙ eq-eqb (number_at planes k) copies (number ∙ is)) in
      let none : bit_at places k ≡ 0 = ap (λ (v : ℕ). bit_at v k) zero ∙ bit_at-zero k in
      omega (arith, one, none)));
  none = λ others. value ∙ ap not (eq-eqb places 0 (same_from_bits_below 64 places 0 fits (omega arith) (λ k lt.
      let out : bit_at places k ≡ 1 → ⊥ = eqb-false (bit_at places k) 1 (are k lt ∙ ne_eqb (number_at planes k) copies (λ e. others k lt (e ∙ sym is))) in
      omega (arith, out, bit_at-lt places k, bit_at-zero k))));
}

pub level_by_one : (levels : List (List Bool)) (w copies : ℕ) (planes : Planes) (k fewer : ℕ) → fewer + 1 ≡ copies → k < 64 → number_at planes k ≡ copies
    → is_in levels fewer w ≡ true → IsLevelAt levels w planes fewer
level_by_one levels w copies planes k fewer is lt number value = record {
  some = λ j low at. value;
  none = λ others. absurd (others k lt (number ∙ sym is));
}

-- a level of a number that no place lost or gained
pub level_untouched : (levels : List (List Bool)) (w changed : ℕ) (old new : Planes) (fewer : ℕ) → IsLevelAt levels w old fewer
    → ((k : ℕ) → k < 64 → bit_at changed k ≡ 0 → number_at new k ≡ number_at old k)
    → ((k : ℕ) → bit_at changed k ≡ 1 → (number_at old k ≢ fewer + 1) × (number_at new k ≢ fewer + 1))
    → IsLevelAt levels w new fewer
level_untouched levels w changed old new fewer is same free = record {
  some = λ k lt number. ⊎_elim
      (λ unchanged. is.some k lt (sym (same k lt unchanged) ∙ number))
      (λ one. absurd ((free k one).1 number))
      (either k);
  none = λ others. is.none (λ k lt number. ⊎_elim
      (λ unchanged. others k lt (same k lt unchanged ∙ number))
      (λ one. (free k one).0 number)
      (either k));
}
  where
    either : (k : ℕ) → (bit_at changed k ≡ 0) ⊎ (bit_at changed k ≡ 1)
    either k = ⊎_elim (λ (lt : bit_at changed k < 1). inl (omega arith)) (λ (ge : 1 ≤ bit_at changed k). inr (omega (arith, bit_at-lt changed k))) (cases_lt (bit_at changed k) 1)

-- what is left of the places once those of one number are done
pub left_within : (rest done k : ℕ) → bit_at (bit_and rest done) k ≡ 1 → bit_at rest k ≡ 1
left_within rest done k one = omega (arith, one, bit_at_and rest done k, bit_at-lt rest k)

pub done_or_left : (rest places k : ℕ) → rest < 2 ^ 64 → places < 2 ^ 64 → bit_at rest k ≡ 1
    → (bit_at (bit_and rest (bit_not w64 places)) k ≡ 1) ⊎ ((k < 64) × (bit_at places k ≡ 1))
done_or_left rest places k fits small one = ⊎_elim
    (λ lt. ⊎_elim
    (λ (none : bit_at places k < 1). inl (omega (arith, none, bit_at_and rest (bit_not w64 places) k, bit_at_not w64 places k small lt, one)))
    (λ (some : 1 ≤ bit_at places k). inr (lt, omega (arith, some, bit_at-lt places k)))
    (cases_lt (bit_at places k) 1))
    (λ ge. absurd (omega (arith, one, bit_at_above rest 64 k fits ge)))
    (cases_lt k 64)

pub fewer_left : (rest places k : ℕ) → places < 2 ^ 64 → k < 64 → bit_at rest k ≡ 1 → bit_at places k ≡ 1
    → bit_and rest (bit_not w64 places) < rest
fewer_left rest places k small lt one is_done = ⊎_elim (λ less. less)
    (λ ge.
    let most : bit_and rest (bit_not w64 places) ≤ rest = and_le_l rest (bit_not w64 places) in
    let same : bit_and rest (bit_not w64 places) ≡ rest = omega arith in
    let kept : bit_at (bit_and rest (bit_not w64 places)) k ≡ 1 = ap (λ (v : ℕ). bit_at v k) same ∙ one in
    absurd (omega (arith, kept, bit_at_and rest (bit_not w64 places) k, bit_at_not w64 places k small lt, is_done)))
    (cases_lt (bit_and rest (bit_not w64 places)) rest)

-- what numbers were before a step
pub stays : (step : Step) (changed k : ℕ) (old new : Planes) → HaveStepped step changed old new → k < 64 → bit_at changed k ≡ 0 → number_at new k ≡ number_at old k
stays step changed k old new is lt none =
    sym (is k lt ∙ ap (λ (b : Bool). cond b (number_before step (number_at new k)) (number_at new k)) (ne_eqb (bit_at changed k) 1 (λ one. omega (arith, one, none))))

pub stepped : (step : Step) (changed k : ℕ) (old new : Planes) → HaveStepped step changed old new → k < 64 → bit_at changed k ≡ 1
    → number_at old k ≡ number_before step (number_at new k)
stepped step changed k old new is lt one =
    is k lt ∙ ap (λ (b : Bool). cond b (number_before step (number_at new k)) (number_at new k)) (eq-eqb (bit_at changed k) 1 one)

apart : (step : Step) (n : ℕ) → HasStepped step n → number_before step n ≡ n → ⊥
apart Up n has same = omega (arith, has, same)
apart Down n has same = omega (arith, same)

-- the levels once all numbers are one, which some of them weren't before
pub level_whole : (levels first second : List (List Bool)) (w changed : ℕ) (step : Step) (old new : Planes) (number fewer : ℕ)
    → changed < 2 ^ 64 → HaveStepped step changed old new → HasStepped step number → ((k : ℕ) → k < 64 → number_at new k ≡ number)
    → IsLevelAt levels w old fewer
    → (fewer + 1 ≢ number → is_in first fewer w ≡ is_in levels fewer w) → (fewer + 1 ≡ number → is_in first fewer w ≡ true)
    → (fewer + 1 ≢ number_before step number → is_in second fewer w ≡ is_in first fewer w) → (fewer + 1 ≡ number_before step number → is_in second fewer w ≡ false)
    → IsLevelAt second w new fewer
level_whole levels first second w changed step old new number fewer fits have has all is kept_first here_first kept_second here_second = ⊎_elim
    (λ at_before. record {
      some = λ k lt at. absurd (apart step number has (sym at_before ∙ sym at ∙ all k lt));
      none = λ others. here_second at_before;
    })
    (λ not_before. level_kept first second w new fewer (⊎_elim
    (λ at. level_by_one first w number new 0 fewer at (omega arith) (all 0 (omega arith)) (here_first at))
    (λ not_at. level_kept levels first w new fewer (level_untouched levels w changed old new fewer is (λ k lt none. stays step changed k old new have lt none)
    (λ k one.
    let lt : k < 64 = place_in changed k fits one in
    let now : number_at new k ≡ number = all k lt in
    let was : number_at old k ≡ number_before step number = stepped step changed k old new have lt one ∙ ap (number_before step) now in
    ((λ e. not_before (sym e ∙ was)), (λ e. not_at (sym e ∙ now))))) (kept_first not_at))
    (cases_eq (fewer + 1) number)) (kept_second not_before))
    (cases_eq (fewer + 1) (number_before step number))

-- the levels once those of one number, before and after, are brought up
pub level_next : (levels first second : List (List Bool)) (w rest places changed : ℕ) (step : Step) (old new : Planes) (number fewer : ℕ)
    → rest < 2 ^ 64 → places < 2 ^ 64 → HaveStepped step changed old new
    → ((j : ℕ) → j < 64 → (bit_at places j == 1) ≡ (number_at new j == number))
    → ((j : ℕ) → bit_at rest j ≡ 1 → bit_at changed j ≡ 1)
    → (((j : ℕ) → bit_at rest j ≡ 1 → (number_at old j ≢ fewer + 1) × (number_at new j ≢ fewer + 1)) → IsLevelAt levels w new fewer)
    → (fewer + 1 ≢ number → is_in first fewer w ≡ is_in levels fewer w) → (fewer + 1 ≡ number → IsLevelAt first w new fewer)
    → (fewer + 1 ≢ number_before step number → is_in second fewer w ≡ is_in first fewer w) → (fewer + 1 ≡ number_before step number → IsLevelAt second w new fewer)
    → ((j : ℕ) → bit_at (bit_and rest (bit_not w64 places)) j ≡ 1 → (number_at old j ≢ fewer + 1) × (number_at new j ≢ fewer + 1))
    → IsLevelAt second w new fewer
level_next levels first second w rest places changed step old new number fewer fits small have are within before kept_first here_first kept_second here_second free =
    ⊎_elim (λ at_before. here_second at_before)
    (λ not_before. level_kept first second w new fewer (⊎_elim (λ at. here_first at)
    (λ not_at. level_kept levels first w new fewer (before (λ j set. ⊎_elim
    (λ left. free j left)
    (λ gone.
    let equal : number_at new j ≡ number = eqb-true (number_at new j) number (sym (are j gone.0) ∙ eq-eqb (bit_at places j) 1 gone.1) in
    let was : number_at old j ≡ number_before step number = stepped step changed j old new have gone.0 (within j set) ∙ ap (number_before step) equal in
    ((λ e. not_before (sym e ∙ was)), (λ e. not_at (sym e ∙ equal))))
    (done_or_left rest places j fits small set))) (kept_first not_at))
    (cases_eq (fewer + 1) number)) (kept_second not_before))
    (cases_eq (fewer + 1) (number_before step number))

-- a change of some places steps some number
pub some_stepped : (step : Step) (changed : ℕ) (new : Planes) (number : ℕ) → changed < 2 ^ 64 → changed ≢ 0
    → ((k : ℕ) → bit_at changed k ≡ 1 → HasStepped step (number_at new k)) → ((k : ℕ) → k < 64 → number_at new k ≡ number) → HasStepped step number
some_stepped step changed new number fits some have all =
    let first = bit_at-trailing_zeros w64 changed (omega (arith, some)) fits in
    subst (λ (n : ℕ). HasStepped step n) (all (trailing_zeros w64 changed) first.0) (have (trailing_zeros w64 changed) first.1)

pub no_place : (places k : ℕ) → places ≡ 0 → bit_at places k ≡ 1 → ⊥
no_place places k none one = omega (arith, one, ap (λ (v : ℕ). bit_at v k) none, bit_at-zero k)

-- no place changed
pub level_unchanged : (levels : List (List Bool)) (w changed : ℕ) (step : Step) (old new : Planes) (fewer : ℕ) → changed ≡ 0 → HaveStepped step changed old new
    → IsLevelAt levels w old fewer → IsLevelAt levels w new fewer
level_unchanged levels w changed step old new fewer none have is =
    level_untouched levels w changed old new fewer is (λ k lt unset. stays step changed k old new have lt unset)
    (λ k one. absurd (no_place changed k none one))
