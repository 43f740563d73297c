-- Lines of so many words and no more.
use Rattle.std.specs.Prelude.{ℕ, Bool, true, false, List, [], ◌∷◌, Result, Ok, Err}
use Rattle.pp_world.specs.ScheduleFault as wrong
use Rattle.pp_world.specs.ScheduleFault.{ScheduleKind}
use Rattle.pp_world.specs.ScheduleRead.{◌>>=◌, where_true, peer_in, one_of}

abbrev pub are_none : List (List ℕ) → Bool
are_none [] = true
are_none (w ∷ ws) = false

abbrev pub only_one : List (List ℕ) → Result (List ℕ) ScheduleKind
only_one [] = Err wrong.Line
only_one (w ∷ ws) = where_true (are_none ws) wrong.Line w

abbrev pub only_two : List (List ℕ) → Result (List ℕ × List ℕ) ScheduleKind
only_two [] = Err wrong.Line
only_two (w ∷ ws) = only_one ws >>= λ v. Ok (w, v)

abbrev pub only_three : List (List ℕ) → Result (List ℕ × List ℕ × List ℕ) ScheduleKind
only_three [] = Err wrong.Line
only_three (w ∷ ws) = only_two ws >>= λ p. Ok (w, p.0, p.1)

-- the only word, the number of one of so many peers
abbrev pub only_peer : ℕ → List (List ℕ) → Result ℕ ScheduleKind
only_peer peers ws = only_one ws >>= λ p. peer_in p >>= λ n. one_of peers n
