use Rattle.std.proofs.Common.{ℕ, List, inr, sym, ap, subst}
use Rattle.pp_terms.specs.disk.Disk.{DiskState}
use Rattle.pp_terms.specs.disk.Store.{HasHeader}
use Rattle.pp_terms.specs.format.Descriptor.{Descriptor}
use Rattle.pp_terms.proofs.Knowing.{known_on}
use Rattle.pp_targets.specs.Target.{SwarmName}
use Rattle.pp_targets.specs.Names.{name_of}
use Rattle.pp_node.specs.Naming.{HasAttached}
use Rattle.pp_node.specs.NamedSeeding.{ToldSeedEnds}
use Rattle.pp_node.specs.Outside.{Outside, outside}
use Rattle.pp_node.specs.Promising.{PeerWords, SeedEnds}
use Rattle.pp_node.specs.Status.{number_of}
use Rattle.pp_node.proofs.NamedSeeds.{told_found, told_reads}
use Rattle.pp_node.proofs.named_seeding.seed_target.Goals as goal

pub share_told-requires-clause-begins : goal.share_told-requires-clause-begins
share_told-requires-clause-begins g c known =
    subst (λ (d : Descriptor). HasHeader d (g.D.Disk.state c.tell_descriptor.new.disk).history.reads) (sym (ap (λ (w : PeerWords). w.descriptor) c.of-in-Ok.ensures.words))
    (told_reads (name_of c.in-Auto.name) c.in-Ok.descriptor c.args.words.now.store.now (g.D.Disk.state c.args.disk.now) (g.D.Disk.state c.tell_descriptor.new.disk)
    c.tell_descriptor.ensures.attached c.in-Ok.ensures.told known)

pub returns-in-Sized : goal.returns-in-Sized
returns-in-Sized g c source = rw c.in-Sized.is
    (subst (λ (w : PeerWords). SeedEnds (number_of c.share.result) w
    (outside (g.D.Disk.state c.args.disk.now) (g.L.Link.seen c.args.link.now) source (g.K.Sink.state c.args.sink.now) c.args.book.now)
    (outside (g.D.Disk.state c.share.new.disk) (g.L.Link.seen c.share.new.link) source (g.K.Sink.state c.share.new.sink) c.share.new.book))
    c.of.ensures.words (c.share.ensures.seeds c.of.ensures.idle c.of.ensures.alone source))

pub returns-in-Ok : goal.returns-in-Ok
returns-in-Ok g c source =
    let name : SwarmName = name_of c.in-Auto.name in
    let e : Descriptor = c.in-Ok.descriptor in
    let before : DiskState = g.D.Disk.state c.args.disk.now in
    let mid : DiskState = g.D.Disk.state c.tell_descriptor.new.disk in
    let after : DiskState = g.D.Disk.state c.share_told.new.disk in
    let old : Outside = outside (g.D.Disk.state c.args.disk.now) (g.L.Link.seen c.args.link.now) source (g.K.Sink.state c.args.sink.now) c.args.book.now in
    let new : Outside = outside (g.D.Disk.state c.share_told.new.disk) (g.L.Link.seen c.share_told.new.link) source (g.K.Sink.state c.share_told.new.sink) c.share_told.new.book in
    let a = c.tell_descriptor.ensures.attached in
    let words = c.of-in-Ok.ensures.words in
    let attached = subst (λ (s : List ℕ). HasAttached s before mid) (sym (ap (λ (w : PeerWords). w.store) words)) a in
    let (kept, ends) = c.share_told.ensures before source attached in
    rw c.in-Auto.is (inr (
      e,
      told_found name e before mid after (λ known. kept (known_on before mid a.tells a.honest known)) c.in-Ok.ensures.told,
      subst (λ (w : PeerWords). ToldSeedEnds (number_of c.share_told.result) w old new) words (ends.0 c.of-in-Ok.ensures.idle),
    ))
