use Rattle.std.proofs.Common.{◌≡◌, length}
use Rattle.pp_outside.specs.Outside.{address_of}
use Rattle.pp_recorded.specs.Entries.{past}
use Rattle.pp_recorded.specs.Search.{replies_on, some_opening, some_source}
use Rattle.pp_recorded.proofs.Pasts.{first}
use Rattle.pp_recorded.proofs.searching.some_life.Given as goal

abbrev pub invariant-loop-entry : goal.invariant-loop-entry
invariant-loop-entry l =
    l.found ≡ some_source (some_opening (replies_on l.descriptor (past l.entries) l.reply) (address_of l.life.address) l.life.remote (length l.entries))
    l.descriptor (address_of l.life.address) (first l.entry-index l.entries)
