-- The roles of declared peers.
use Rattle.std.specs.Prelude.{List}
use Rattle.pp_world.specs.Schedule.{Role}
use Rattle.pp_world.specs.ScheduleRead.{Row, Declared}

abbrev pub declared : List Role → List Row → Declared
declared roles behind = record { roles = roles; behind = behind }
