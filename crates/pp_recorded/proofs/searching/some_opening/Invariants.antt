use Rattle.std.proofs.Common.{◌≡◌, ◌||◌, true, false}
use Rattle.pp_outside.specs.Outside.{address_of}
use Rattle.pp_recorded.specs.Entries.{past}
use Rattle.pp_recorded.specs.Search.{replies_on, some_below, life_at}
use Rattle.pp_recorded.proofs.searching.some_opening.Given as goal

abbrev pub invariant-loop-opening : goal.invariant-loop-opening
invariant-loop-opening l =
    l.found ≡ some_below (λ opening.
    replies_on l.descriptor (past l.entries) l.reply (life_at (address_of l.life.address) l.life.remote l.life.local false opening)
    || replies_on l.descriptor (past l.entries) l.reply (life_at (address_of l.life.address) l.life.remote l.life.local true opening)) l.opening
