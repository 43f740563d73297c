use Rattle.std.proofs.Common.{Bool, subst}
use Rattle.pp_terms.specs.format.Descriptor.{Descriptor}
use Rattle.pp_peer.specs.Taking.{read_at, Hears, Reads}
use Rattle.pp_peer.specs.Messages.{ReadsAll}
use Rattle.pp_peer.proofs.Messages.{reads_shut, reads_stay}
use Rattle.pp_peer.proofs.Heard.{reads_all, reads_closed}
use Rattle.pp_peer.proofs.parts.Parts.read.Goals as goal

pub returns-then-branch-clause-reads : goal.returns-then-branch-clause-reads
returns-then-branch-clause-reads g c =
    subst (λ (d : Descriptor). Reads c.args.seat (read_at d c.args.bytes.now c.args.start) c.args.self.now c.drop_channel.new.self (g.D.Disk.state c.args.disk.now) (g.D.Disk.state c.take_all.new.disk))
    c.descriptor-descriptor.ensures
    (reads_closed c.args.seat _ c.args.self.now c.take_all.new.self c.drop_channel.new.self (g.D.Disk.state c.args.disk.now) (g.D.Disk.state c.take_all.new.disk)
    (subst (λ (b : Bool). Hears c.args.seat (read_at c.descriptor-descriptor.result c.args.bytes.now c.args.start) b c.args.self.now c.take_all.new.self (g.D.Disk.state c.args.disk.now) (g.D.Disk.state c.take_all.new.disk))
    c.if-branch.true c.in_ok-take_all.ensures.hears) c.drop_channel.ensures.closes)

pub returns-else-branch-clause-reads : goal.returns-else-branch-clause-reads
returns-else-branch-clause-reads g c =
    subst (λ (d : Descriptor). Reads c.args.seat (read_at d c.args.bytes.now c.args.start) c.args.self.now c.take_all.new.self (g.D.Disk.state c.args.disk.now) (g.D.Disk.state c.take_all.new.disk))
    c.descriptor-descriptor.ensures
    (reads_all c.args.seat _ c.args.self.now c.take_all.new.self (g.D.Disk.state c.args.disk.now) (g.D.Disk.state c.take_all.new.disk)
    (subst (λ (b : Bool). Hears c.args.seat (read_at c.descriptor-descriptor.result c.args.bytes.now c.args.start) b c.args.self.now c.take_all.new.self (g.D.Disk.state c.args.disk.now) (g.D.Disk.state c.take_all.new.disk))
    c.if-branch.false c.in_ok-take_all.ensures.hears))

pub returns-then-branch-clause-exact : goal.returns-then-branch-clause-exact
returns-then-branch-clause-exact g c =
    subst (λ (d : Descriptor). ReadsAll c.args.seat d c.args.bytes.now c.args.start c.args.self.now c.drop_channel.new.self) c.descriptor-descriptor.ensures
    (reads_shut c.args.seat _ c.args.bytes.now c.args.start _ c.args.self.now c.take_all.new.self c.drop_channel.new.self c.if-branch.true
    c.in_ok-take_all.ensures.hears.closing c.in_ok-take_all.ensures.exact c.drop_channel.ensures.shuts)

pub returns-else-branch-clause-exact : goal.returns-else-branch-clause-exact
returns-else-branch-clause-exact g c =
    subst (λ (d : Descriptor). ReadsAll c.args.seat d c.args.bytes.now c.args.start c.args.self.now c.take_all.new.self) c.descriptor-descriptor.ensures
    (reads_stay c.args.seat _ c.args.bytes.now c.args.start _ c.args.self.now c.take_all.new.self c.if-branch.false
    c.in_ok-take_all.ensures.hears.closing c.in_ok-take_all.ensures.exact)
