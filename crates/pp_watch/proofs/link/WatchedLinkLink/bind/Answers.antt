use Rattle.pp_watch.proofs.Sendings.{binds}
use Rattle.pp_watch.proofs.link.WatchedLinkLink.bind.Goals as goal

pub invariant_of-self : goal.invariant_of-self
invariant_of-self g c = binds _ _ _ _ c.bind.ensures.exact c.bind.ensures.short c.bind.ensures.spends c.bind.ensures.events c.self.invariant
