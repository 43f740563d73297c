-- A read of a source of zeros.
use Rattle.std.proofs.Common.{◌≡◌, ℕ, ◌+◌, ◌-◌, min, Some, List, ◌++◌, length, replicate, sym, ◌∙◌, ap, arith}
use Rattle.std.proofs.lemmas.List.{length-append, length-replicate, take-append-le, take_all, take-replicate, drop-replicate}
use Rattle.pp_terms.specs.command.Stream.{GivesUp}
use Rattle.pp_outside.specs.ZeroSource.{zeros}

pub gives_zeros : (left n : ℕ) (filled rest : List ℕ) → n ≡ min (length filled + length rest) left → filled ≡ replicate n 0 → GivesUp (Some (zeros left)) n (filled ++ rest) (Some (zeros (left - n)))
unfolding zeros
gives_zeros left n filled rest is full =
    let long = length-replicate {A = ℕ} left 0 in
    let filled_long : length filled ≡ n = ap length full ∙ length-replicate {A = ℕ} n 0 in (
      omega (arith, long),
      take-append-le n filled rest (omega arith) ∙ take_all n filled (omega arith) ∙ full ∙ sym (take-replicate n left 0 (omega arith)),
      ap Some (sym (drop-replicate n left 0)),
      λ room some. omega (arith, long, length-append filled rest),
    )
