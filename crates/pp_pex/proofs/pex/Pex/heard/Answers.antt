use Rattle.pp_pex.proofs.Distinct.{hears_once}
use Rattle.pp_pex.proofs.pex.Pex.heard.Goals as goal

pub invariant_of-self : goal.invariant_of-self
invariant_of-self c =
    let was = c.self.invariant in
    (hears_once c.self.inside.table.items c.args.address.now c.args.now c.hear.new.table.items c.hear.ensures was.0, was.1, was.2)
