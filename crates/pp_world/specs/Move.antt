-- What a schedule does, move by move: time passes, or something happens to one peer.
use Rattle.std.specs.Prelude.{ℕ, zero, suc, ◌+◌, List, [], ◌∷◌, ◌++◌, length}
use Rattle.pp_world.specs.Schedule.{Act, Turn, Start, Step, Once, Run, Schedule}

pub data Move : Type 0 where
  Wait : (gain : ℕ) → Move
  Make : (act : Act) → Move

-- one act for each of so many peers, by rising number
abbrev pub for_each : (ℕ → Act) → (from count : ℕ) → List Move
for_each act from zero = []
for_each act from (suc n) = Make (act from) ∷ for_each act (from + 1) n

-- rounds: in each the clock gains, and then every peer takes a turn
abbrev pub rounds_of : (peers gain rounds : ℕ) → List Move
rounds_of peers gain zero = []
rounds_of peers gain (suc n) = Wait gain ∷ for_each Turn 0 peers ++ rounds_of peers gain n

abbrev pub moves_of_step : (peers : ℕ) → Step → List Move
moves_of_step peers (Once act) = Make act ∷ []
moves_of_step peers (Run rounds gain) = rounds_of peers gain rounds

abbrev pub moves_of_steps : (peers : ℕ) → List Step → List Move
moves_of_steps peers [] = []
moves_of_steps peers (step ∷ steps) = moves_of_step peers step ++ moves_of_steps peers steps

-- all moves of a schedule, in order: every peer is started, and then the steps come
abbrev pub moves_of : Schedule → List Move
moves_of s = let peers = length s.roles in for_each Start 0 peers ++ moves_of_steps peers s.steps
