use Rattle.std.proofs.Common.{refl}
use Rattle.pp_outside.specs.declared.call.Call.TheVariants.{Send}
use Rattle.pp_watch.proofs.Sendings.{calls}
use Rattle.pp_watch.proofs.link.WatchedLinkLink.send.Goals as goal

pub invariant_of-self : goal.invariant_of-self
invariant_of-self g c = calls _ _ _ Send _ c.send.ensures.cause c.send.ensures.spends refl c.send.ensures.events c.self.invariant
