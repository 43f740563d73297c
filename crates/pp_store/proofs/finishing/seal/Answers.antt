use Rattle.std.proofs.Common.{inr, subst}
use Rattle.pp_terms.specs.disk.Disk.{History}
use Rattle.pp_terms.proofs.Knowing.{known_on}
use Rattle.pp_store.specs.Upgrade.{IsSealing}
use Rattle.pp_store.proofs.Upgrades.{seal_answer}
use Rattle.pp_store.proofs.finishing.seal.Goals as goal

pub returns-in-Ok-clause-answer : goal.returns-in-Ok-clause-answer
returns-in-Ok-clause-answer g c =
    seal_answer c.args.descriptor.now (g.D.Disk.state c.args.disk.now) (g.D.Disk.state c.sync.new.self) (g.D.Disk.state c.seal_synced.new.disk) _ c.seal_synced.result _
    c.in-Ok.ensures c.seal_synced.ensures.answer

pub returns-in-Ok-clause-left : goal.returns-in-Ok-clause-left
returns-in-Ok-clause-left g c known =
    let old = g.D.Disk.state c.args.disk.now in
    let mid = g.D.Disk.state c.sync.new.self in
    let call = c.in-Ok.ensures.call in
    inr (subst (λ (h : History). IsSealing c.args.descriptor.now h (g.D.Disk.state c.seal_synced.new.disk).history) (c.in-Ok.ensures.done known)
    (c.seal_synced.ensures.left (known_on old mid call.tells call.honest known)))
