-- Whether a message of a sort was sent on a channel.
use Rattle.std.specs.Prelude.{Bool, List}
use Rattle.std.specs.List.{list_any}
use Rattle.pp_terms.specs.format.Traffic.{Record}
use Rattle.pp_terms.specs.format.Descriptor.{Descriptor}
use Rattle.pp_traffic.specs.Past.{some_since}
use Rattle.pp_traffic.specs.Life.{Life}
use Rattle.pp_traffic.specs.Story.{said_in}
use Rattle.pp_recorded.specs.declared.sorts.Sort.{Sort}
use Rattle.pp_recorded.specs.Sorts.{sort_of}

-- by a record; and by one since the opening
abbrev pub says : Sort → Descriptor → Life → Record → Bool
says sort d life r = list_any (sort_of sort) (said_in d life r)

abbrev pub has_said : Sort → Descriptor → List Record → Life → Bool
has_said sort d past life = some_since (says sort d life) life.opening past
