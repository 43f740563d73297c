use Rattle.pp_watch.proofs.Sendings.{waits}
use Rattle.pp_watch.proofs.link.WatchedLinkLink.next.Goals as goal

pub invariant_of-self : goal.invariant_of-self
invariant_of-self g c = waits _ _ _ _ _ c.next.ensures.cause c.next.ensures.spends c.next.ensures.taken c.next.ensures.refused c.self.invariant
