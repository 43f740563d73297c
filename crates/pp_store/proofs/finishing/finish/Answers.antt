use Rattle.std.proofs.Common.{ℕ, List, subst}
use Rattle.pp_terms.specs.disk.Disk.{History}
use Rattle.pp_terms.proofs.Knowing.{known_on}
use Rattle.pp_store.specs.Behind.{IsBehind}
use Rattle.pp_store.specs.Front.{Leaves}
use Rattle.pp_store.specs.Gates.{gates_opened}
use Rattle.pp_store.specs.Upgrade.{opening, heading}
use Rattle.pp_store.proofs.Ends.{front_keeps, disk_more}
use Rattle.pp_store.proofs.Writings.{behind_keeps}
use Rattle.pp_store.proofs.finishing.finish.Goals as goal

pub returns-in-Ok-clause-left : goal.returns-in-Ok-clause-left
returns-in-Ok-clause-left g c known =
    let old = g.D.Disk.state c.args.disk.now in
    let mid = g.D.Disk.state c.open_gates.new.disk in
    let new = g.D.Disk.state c.keep_front.new.disk in
    let keeps = c.in-Ok.ensures.does.keeps in
    let is = c.in-Ok.ensures.done known in
    heading new.history (subst (IsBehind old.history) is (keeps.behind known))
    (subst (λ (bytes : List ℕ). Leaves bytes (gates_opened c.args.descriptor.now c.args.set.now old.history) new.history) c.header_of.ensures
    (subst (λ (h : History). Leaves c.header_of.result h new.history) is (c.keep_front.ensures.leaves (known_on old mid keeps.tells keeps.honest known))))

pub returns-in-Ok-clause-disk : goal.returns-in-Ok-clause-disk
returns-in-Ok-clause-disk g c = disk_more _ _ _ (behind_keeps _ _ c.in-Ok.ensures.does.keeps) (front_keeps _ _ _ _ c.keep_front.ensures)

pub returns-in-Err-clause-left : goal.returns-in-Err-clause-left
returns-in-Err-clause-left g c known = opening _ (c.in-Err.ensures.does.keeps.behind known)
