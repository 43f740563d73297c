-- Rehearsals: schedules that are made of random words (ChaCha8).
use Rattle.std.specs.Prelude.{◌≡◌, ℕ, ◌+◌, ◌≤◌, ◌/◌, ◌%◌, ◌==◌, ◌&&◌, if◌then◌else◌, List, [], ◌∷◌, ◌++◌, replicate, length, slice_index, drop, Ok}
use Rattle.std.specs.Int.{w64, to_be_bytes}
use Rattle.rand_core.specs.Steps as steps
use Rattle.rand_chacha.specs.ChaCha.{of_seed, next_word}
use Rattle.pp_terms.specs.command.Order.{Rarest}
use Rattle.pp_world.specs.Schedule.{Role, Seeds, Fetches, Lose, Repeat, Later, Crash, Start, Step, Once, Run, Schedule, IsSchedule, schedule_text}
use Rattle.pp_world.specs.ScheduleRead.{read_schedule}

-- the key of a rehearsal's generator, of which the words are those of stream 0 from the first on
abbrev pub rehearsal_key : ℕ → List ℕ
rehearsal_key number = to_be_bytes w64 number ++ replicate 24 0

-- the first so many words of ChaCha8 (four double rounds) with a key: those of stream 0, from place 0 on
abbrev pub first_words : ℕ → List ℕ → List ℕ
first_words count key = steps.first_words (next_word 4) count (of_seed key)

-- how many words a rehearsal takes
abbrev pub rehearsal_words : ℕ
rehearsal_words = 2002

-- what a word does to one of the peers that fetch
abbrev pub trouble : ℕ → List Step
trouble w =
    let p = 1 + (w / 256) % 3 in
    let kind = w % 16 in
    if kind == 0 then Once (Lose p) ∷ []
    else (if kind == 1 then Once (Repeat p) ∷ []
    else (if kind == 2 then Once (Later p) ∷ []
    else (if kind == 3 && (w / 16) % 8 == 0 then Once (Crash p ((w / 65536) % 16)) ∷ Once (Start p) ∷ []
    else [])))

-- the trouble of each word, and a round of 20 milliseconds behind it; and many rounds at last
abbrev pub rehearsal_steps : List ℕ → List Step
rehearsal_steps [] = Run 4000 20000 ∷ []
rehearsal_steps (w ∷ ws) = trouble w ++ Run 1 20000 ∷ rehearsal_steps ws

abbrev pub rehearsal_roles : List Role
rehearsal_roles = Seeds ∷ Fetches Rarest (0 ∷ []) ∷ Fetches Rarest (0 ∷ 1 ∷ []) ∷ Fetches Rarest (0 ∷ 1 ∷ 2 ∷ []) ∷ []

-- the rehearsal that these words make
abbrev pub rehearsal_of : List ℕ → Schedule
rehearsal_of ws = record {
  chunk = 1024;
  size = 131072 + slice_index ws 0 % 131072;
  shift = slice_index ws 1 % 256;
  roles = rehearsal_roles;
  steps = rehearsal_steps (drop 2 ws);
}

unfoldable pub rehearsal_text : List ℕ → List ℕ
rehearsal_text ws = schedule_text (rehearsal_of ws)

-- Each rehearsal of so many words is a schedule that a text can have, and its text is read as that schedule.
pub record RehearsalsRead : Type 0 where
  pub are : (ws : List ℕ) → length ws ≤ rehearsal_words → IsSchedule (rehearsal_of ws)
  pub read : (ws : List ℕ) → length ws ≤ rehearsal_words → read_schedule (rehearsal_text ws) ≡ Ok (rehearsal_of ws)
