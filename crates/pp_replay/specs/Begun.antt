-- The line of a content, as a schedule without a peer and a step.
use Rattle.std.specs.Prelude.{ℕ, ◌&&◌, List, [], Result, Ok, Err}
use Rattle.pp_terms.specs.format.DescriptorRead.{number_of}
use Rattle.pp_world.specs.Schedule.{Schedule}
use Rattle.pp_world.specs.ScheduleFault as wrong
use Rattle.pp_world.specs.ScheduleFault.{ScheduleKind}
use Rattle.pp_world.specs.ScheduleRead.{where_true, is_number, is_chunk_size}
use Rattle.pp_replay.specs.declared.content.Content.{Content}

abbrev pub begun : ℕ → ℕ → ℕ → Schedule
begun chunk size shift = record { chunk = chunk; size = size; shift = shift; roles = []; steps = [] }

abbrev pub as_begun : Content → Schedule
as_begun c = begun c.chunk c.size c.shift

-- a word that writes the size of a chunk
abbrev pub chunk_in : List ℕ → Result ℕ ScheduleKind
chunk_in word = where_true (is_number word && is_chunk_size (number_of word)) wrong.Number (number_of word)

-- the content that three numbers make
abbrev pub content_by : Result ℕ ScheduleKind → Result ℕ ScheduleKind → Result ℕ ScheduleKind → Result Schedule ScheduleKind
content_by (Ok chunk) (Ok size) (Ok shift) = Ok (begun chunk size shift)
content_by (Ok chunk) (Ok size) (Err kind) = Err wrong.Content
content_by (Ok chunk) (Err kind) shift = Err wrong.Content
content_by (Err kind) size shift = Err wrong.Content
