-- The part of a log's steps that a crash goes through.
use Rattle.std.proofs.Common.{◌≡◌, ◌⊎◌, inl, inr, ℕ, ◌+◌, ◌-◌, ◌^◌, ◌<◌, ◌≤◌, List, length, get_or, take, drop, map, sym, ◌∙◌, ap, subst, arith, length-drop}
use Rattle.std.specs.Prelude.{reverse, All}
use Rattle.std.proofs.lemmas.List.{take_all, drop-map, length-map, get_or-map}
use Rattle.std.proofs.lemmas.List.Elements.{All-drop}
use Rattle.pp_terms.specs.disk.Disk.{History, Write}
use Rattle.pp_terms.specs.disk.Calls.{Did, crash_from, crash_image}
use Rattle.pp_outside.specs.Steps.{did_of, writes_of, IsPlaced}
use Rattle.pp_outside.specs.Log.{IsLog}
use Rattle.pp_outside.specs.declared.log.Step.{Step}
use Rattle.pp_outside.specs.declared.log.Step.TheVariants.{Wrote, Refused}
use Rattle.pp_outside.specs.declared.log.Piece.{Piece}

pub placed_at : (steps : List Step) (i : ℕ) (step : Step) → All IsPlaced (map did_of steps) → i < length steps → step ≡ get_or steps i step → IsPlaced (did_of step)
placed_at steps i step all within is =
    let mapped : i < length (map did_of steps) = omega (arith, length-map steps did_of) in
    subst IsPlaced (get_or-map did_of steps i step (did_of step) within ∙ ap did_of (sym is)) (all i (did_of step) mapped)

-- where a pending write lies
pub placed_piece : (step : Step) (piece : Piece) → IsPlaced (did_of step) → (step ≡ Wrote piece) ⊎ (step ≡ Refused piece) → piece.place + length piece.bytes.items ≤ 2 ^ 40
placed_piece step piece placed (inl is) = subst (λ (s : Step). IsPlaced (did_of s)) is placed
placed_piece step piece placed (inr is) = subst (λ (s : Step). IsPlaced (did_of s)) is placed

-- the steps from one on, as the code names them
pub part_is : (all steps : List Step) (from : ℕ) → all ≡ steps → map did_of (take (length all - from) (drop from all)) ≡ drop from (map did_of steps)
part_is all steps from is =
    let long = length-drop from all in
    ap (map did_of) (take_all (length all - from) (drop from all) (omega arith))
    ∙ sym (drop-map did_of from all)
    ∙ ap (λ (l : List Step). drop from (map did_of l)) is

module _ (now : History) (steps all : List Step) (reads begun : List ℕ) (settled_at ended attached_at : ℕ) (log : IsLog now (map did_of steps) reads begun settled_at ended attached_at) (is : all ≡ steps) where
  pub part_placed : All IsPlaced (map did_of (take (length all - settled_at) (drop settled_at all)))
  part_placed =
      subst (λ (l : List Did). All IsPlaced l) (sym (part_is all steps settled_at is)) (All-drop IsPlaced settled_at (map did_of steps) log.placed)

  pub crash_is : (pick : ℕ) (start image : List ℕ) → start ≡ begun → image ≡ crash_from pick 0 (writes_of (map did_of (take (length all - settled_at) (drop settled_at all)))) start → image ≡ crash_image pick now.epoch
  crash_is pick start image same made =
      made
      ∙ ap (λ (l : List Did). crash_from pick 0 (writes_of l) start) (part_is all steps settled_at is)
      ∙ ap (λ (l : List Write). crash_from pick 0 l start) (sym log.pending)
      ∙ ap (λ (l : List ℕ). crash_from pick 0 (reverse now.epoch.pending) l) (same ∙ log.begun_with)
