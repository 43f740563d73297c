-- The lines of a rehearsal, as far as its generator has drawn them.
use Rattle.std.specs.Prelude.{ℕ, List, [], ◌∷◌, ◌++◌, codes, decimal}
use Rattle.rand_core.specs.Steps as steps
use Rattle.rand_chacha.specs.ChaCha.{ChaCha, next_word}
use Rattle.pp_terms.specs.command.Report.{line}
use Rattle.pp_world.specs.Schedule.{words, header, role_lines, step_lines}
use Rattle.pp_world.specs.Rehearsal.{rehearsal_roles, rehearsal_steps}

-- the lines in front of the steps
abbrev pub beginning : (size shift : ℕ) → List ℕ
beginning size shift =
    line header
    ++ line (words (codes "content" ∷ decimal 1024 ∷ decimal size ∷ decimal shift ∷ []))
    ++ role_lines 0 rehearsal_roles

-- the line of so many rounds of 20 milliseconds
abbrev pub rounds : ℕ → List ℕ
rounds count = line (words (codes "run" ∷ decimal count ∷ decimal 20000 ∷ []))

-- the lines of the steps that the next so many words make
abbrev pub drawn_lines : ℕ → ChaCha → List ℕ
drawn_lines count rng = step_lines (rehearsal_steps (steps.first_words (next_word 4) count rng))
