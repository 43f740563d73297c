-- Lines and words as the definitions of schedules have them.
use Rattle.std.specs.Prelude.{ℕ, Option, Some, None, List, []}
use Rattle.pp_world.specs.ScheduleRead as terms
use Rattle.pp_world.specs.ScheduleRead.{words_of}
use Rattle.pp_replay.specs.declared.lines.Row.{Row}
use Rattle.pp_replay.specs.declared.lines.Words.{Words}
use denote.Ref.{Bor}

abbrev pub as_row : Row → terms.Row
as_row row = record { text = row.text.now; is_ended = row.is_ended }

abbrev pub words_in : Option (Bor (List ℕ)) → List (List ℕ)
words_in None = []
words_in (Some line) = words_of line.now

abbrev pub words_left : Words → List (List ℕ)
words_left words = words_in words.rest
