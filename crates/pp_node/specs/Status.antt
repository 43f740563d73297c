-- The numbers of the statuses.
use Rattle.std.specs.Prelude.{ℕ}
use Rattle.pp_node.specs.declared.status.Status.{Status}
use Rattle.pp_node.specs.declared.status.Status.TheVariants.{Done, Usage, NotAStore, Incomplete, DiskFault, LinkFault, SourceFault, SinkFault, NotEmpty, ContentSize, Schedule, Memory, Damaged, Shape, AuditNo, Recording, NoLife, TooLarge}

abbrev pub number_of : Status → ℕ
number_of Done = 0
number_of Usage = 1
number_of NotAStore = 2
number_of Incomplete = 3
number_of DiskFault = 4
number_of LinkFault = 5
number_of SourceFault = 6
number_of SinkFault = 7
number_of NotEmpty = 8
number_of ContentSize = 9
number_of Schedule = 10
number_of Memory = 11
number_of Damaged = 12
number_of Shape = 13
number_of AuditNo = 14
number_of Recording = 15
number_of NoLife = 16
number_of TooLarge = 17
