use Rattle.std.proofs.Common.{List, sym, subst}
use Rattle.pp_outside.specs.declared.link.Address.{Address}
use Rattle.pp_pex.specs.Exchange.{IsOnce, HavePorts}
use Rattle.pp_pex.proofs.Distinct.{suggested_once}
use Rattle.pp_pex.proofs.pex.Pex.suggest.Goals as goal

pub invariant_of-self : goal.invariant_of-self
invariant_of-self c =
    let was = c.self.invariant in
    let now = subst (λ (queue : List Address). IsOnce queue × HavePorts queue) (sym c.suggest.ensures)
    (suggested_once c.self.inside.queue.items c.args.address.now was.1 was.2) in
    (was.0, now.0, now.1)
