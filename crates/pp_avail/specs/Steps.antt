-- Numbers that change by one.
use Rattle.std.specs.Prelude.{◌≡◌, ℕ, ◌+◌, ◌-◌, ◌<◌, ◌==◌, if◌then◌else◌}
use Rattle.std.specs.Int.{bit_at}
use Rattle.pp_avail.specs.declared.levels.Step.{Step}
use Rattle.pp_avail.specs.declared.levels.Step.TheVariants.{Up, Down}
use Rattle.pp_avail.specs.declared.planes.Planes.{Planes}
use Rattle.pp_avail.specs.Planes.{number_at}

-- what a number was before a step
abbrev pub number_before : Step → ℕ → ℕ
number_before Up n = n - 1
number_before Down n = n + 1

-- The number can be one after a step.
abbrev pub HasStepped : Step → ℕ → Type 0
HasStepped Up n = 0 < n
HasStepped Down n = n < 64

-- The numbers at those places have taken the step, and all others stay.
abbrev pub HaveStepped : Step → ℕ → (old new : Planes) → Type 0
HaveStepped step changed old new = (k : ℕ) → k < 64
    → number_at old k ≡ (if bit_at changed k == 1 then number_before step (number_at new k) else number_at new k)
