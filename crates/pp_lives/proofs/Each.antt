-- What holds of one seat, and of all others.
use Rattle.std.proofs.Common.{◌≢◌, ⊎_elim, ℕ, eqb, sym, subst}
use Rattle.std.proofs.lemmas.Bool.{cases_Bool, eqb-true, eqb-false}

pub each_by : (P : ℕ → Type 0) (seat : ℕ) → P seat → ((other : ℕ) → other ≢ seat → P other) → (other : ℕ) → P other
each_by P seat own others other = ⊎_elim
    (λ same. subst P (sym (eqb-true other seat same)) own)
    (λ apart. others other (eqb-false other seat apart))
    (cases_Bool (eqb other seat))
