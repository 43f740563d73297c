use Rattle.pp_seat.proofs.Hearing.{choke_goes}
use Rattle.pp_seat.proofs.Awaited.{choke_keeps_awaited}
use Rattle.pp_seat.specs.Awaited.{AreAwaited}
use Rattle.pp_traffic.specs.Story.{Heard}
use Rattle.pp_terms.specs.format.Messages.{Choke}
use Rattle.std.proofs.Common.{◌∷◌, subst, sym}
use Rattle.pp_seat.proofs.seat.Seat.heard_choke.Goals as goal

pub returns-clause-goes : goal.returns-clause-goes
returns-clause-goes c now = rw (← c.self.view_is) (choke_goes _ c.clear.new.self now c.clear.ensures)

pub returns-clause-awaits : goal.returns-clause-awaits
returns-clause-awaits c now story = subst (λ xs. AreAwaited xs (Heard now Choke ∷ story)) (sym c.clear.ensures) (choke_keeps_awaited now story)
