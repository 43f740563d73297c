-- A text as the steps that it spells.
use Rattle.std.specs.Prelude.{ℕ, ◌≤◌, List, [], length, map, IsOk}
use Rattle.std.specs.Result.{result_unwrap_or}
use Rattle.pp_world.specs.Schedule as terms
use Rattle.pp_world.specs.ScheduleRead.{rows_of, steps_in}
use Rattle.pp_replay.specs.declared.content.Content.{Content}
use Rattle.pp_replay.specs.declared.types.Role.{Role}
use Rattle.pp_replay.specs.Views.{as_role}

abbrev pub steps_left : ℕ → List ℕ → List terms.Step
steps_left peers text = result_unwrap_or (steps_in peers 0 (rows_of text)) []

-- The text is steps of so many peers, line by line.
pub record IsReadable (peers : ℕ) (text : List ℕ) : Type 0 where
  pub few : peers ≤ 16
  pub steps : IsOk (steps_in peers 0 (rows_of text))

abbrev pub schedule_with : Content → List Role → List ℕ → terms.Schedule
schedule_with content roles text = record {
  chunk = content.chunk;
  size = content.size;
  shift = content.shift;
  roles = map as_role roles;
  steps = steps_left (length roles) text;
}
