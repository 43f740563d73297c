use Rattle.std.proofs.Common.{subst}
use Rattle.pp_terms.specs.disk.Disk.{History}
use Rattle.pp_terms.proofs.Knowing.{known_on}
use Rattle.pp_tree.specs.Book.{entry}
use Rattle.pp_store.specs.Sound.{StaysSound}
use Rattle.pp_store.specs.Upgrade.{LeavesUpgraded}
use Rattle.pp_store.proofs.Upgrades.{counted_upgrade}
use Rattle.pp_store.proofs.upgrading.upgrade.Goals as goal

pub returns-in-Ok-eq0-clause-answer : goal.returns-in-Ok-eq0-clause-answer
returns-in-Ok-eq0-clause-answer g c =
    counted_upgrade c.args.descriptor.now (g.S.Source.state c.args.source.now) (g.S.Source.state c.upgrade_to_empty.new.source)
    (g.D.Disk.state c.args.disk.now) (g.D.Disk.state c.len.new.self) (g.D.Disk.state c.upgrade_to_empty.new.disk) (entry c.upgrade_to_empty.new.book) _ c.in-Ok-eq0.ensures
    c.upgrade_to_empty.result c.upgrade_to_empty.ensures.does.answer

pub returns-in-Ok-eq0-clause-whole : goal.returns-in-Ok-eq0-clause-whole
returns-in-Ok-eq0-clause-whole g c known empty bytes told =
    let call = c.len.ensures.call in
    subst (λ (h : History). LeavesUpgraded c.args.descriptor.now bytes h (g.D.Disk.state c.upgrade_to_empty.new.disk).history) c.len.ensures.same
    (c.upgrade_to_empty.ensures.does.whole (known_on (g.D.Disk.state c.args.disk.now) (g.D.Disk.state c.len.new.self) call.tells call.honest known) bytes told)

pub returns-in-Ok-eq0-clause-sound : goal.returns-in-Ok-eq0-clause-sound
returns-in-Ok-eq0-clause-sound g c known =
    let call = c.len.ensures.call in
    subst (λ (h : History). StaysSound c.args.descriptor.now h (g.D.Disk.state c.upgrade_to_empty.new.disk).history) c.len.ensures.same
    (c.upgrade_to_empty.ensures.does.sound (known_on (g.D.Disk.state c.args.disk.now) (g.D.Disk.state c.len.new.self) call.tells call.honest known))
