-- What is wrong with the text of a schedule, and the line that says it.
use Rattle.std.specs.Prelude.{ℕ, List, ◌++◌, codes, decimal}
use Rattle.pp_terms.specs.command.Report.{line}

-- In the order in which they are looked for on one line.
pub data ScheduleKind : Type 0 where
  Long : ScheduleKind
  Header : ScheduleKind
  Content : ScheduleKind
  Line : ScheduleKind
  Number : ScheduleKind
  Peer : ScheduleKind
  Hex : ScheduleKind

-- The first faulty line, counted from 1, and what is wrong with it. A text that is too long has line 0.
pub record ScheduleFault : Type 0 where
  pub line : ℕ
  pub kind : ScheduleKind

abbrev pub fault : ℕ → ScheduleKind → ScheduleFault
fault n kind = record { line = n; kind = kind }

abbrev pub kind_text : ScheduleKind → List ℕ
kind_text Long = codes "long"
kind_text Header = codes "header"
kind_text Content = codes "content"
kind_text Line = codes "line"
kind_text Number = codes "number"
kind_text Peer = codes "peer"
kind_text Hex = codes "hex"

unfoldable pub schedule_line : ScheduleFault → List ℕ
schedule_line f = line (codes "schedule: line " ++ decimal f.line ++ codes ": " ++ kind_text f.kind)
