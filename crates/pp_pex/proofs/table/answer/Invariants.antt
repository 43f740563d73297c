use Rattle.std.proofs.Common.{◌≡◌, take}
use Rattle.pp_pex.specs.Exchange.{answers}
use Rattle.pp_pex.proofs.table.answer.Given as goal

abbrev pub invariant-loop-contact : goal.invariant-loop-contact
invariant-loop-contact l = l.told.items ≡ answers (take l.contact-index l.table) l.asker l.now
