use Rattle.std.proofs.Common.{ℕ, List, Ok, None, inl, inr, refl, sym, ◌∙◌, ap, subst}
use Rattle.pp_terms.specs.disk.Disk.{DiskState}
use Rattle.pp_terms.specs.format.Descriptor.{Descriptor}
use Rattle.pp_terms.specs.format.Traffic.{Address}
use Rattle.pp_terms.proofs.Knowing.{known_on}
use Rattle.pp_outside.specs.Outside.{address_of}
use Rattle.pp_targets.specs.Names.{name_of}
use Rattle.pp_targets.specs.Target.{SwarmName}
use Rattle.pp_node.specs.Naming.{HasAttached, IsTold, FindsTold}
use Rattle.pp_node.specs.NamedFetching.{ToldFetchEnds, dials_in, words_at}
use Rattle.pp_node.specs.NamedSeeding.{NamedWords}
use Rattle.pp_node.specs.Outside.{Outside, outside}
use Rattle.pp_node.specs.Promising.{PeerWords}
use Rattle.pp_node.specs.Seeding.{dials_of}
use Rattle.pp_node.specs.Status.{number_of}
use Rattle.pp_node.proofs.Endings.{alone_of}
use Rattle.pp_node.proofs.NamedFetches.{fetched_behind, unfound_ends}
use Rattle.pp_node.proofs.NamedSeeds.{told_found}
use Rattle.pp_node.proofs.named_fetching.fetch_target.Goals as goal

pub returns-in-Sized : goal.returns-in-Sized
returns-in-Sized g c source = rw c.in-Sized.is
    (fetched_behind (number_of c.share.result) c.of.result None (words_at c.args.words.now c.in-Sized.descriptor c.args.words.now.turns) (dials_in c.args.words.now)
    (outside (g.D.Disk.state c.args.disk.now) (g.L.Link.seen c.args.link.now) source (g.K.Sink.state c.args.sink.now) c.args.book.now)
    (outside (g.D.Disk.state c.share.new.disk) (g.L.Link.seen c.share.new.link) source (g.K.Sink.state c.share.new.sink) c.share.new.book)
    (alone_of c.of.result c.of.ensures.alone) c.of.ensures.words c.of.ensures.dials (c.share.ensures.fetches c.of.ensures.asks source))

pub returns-in-Ok-Some : goal.returns-in-Ok-Some
returns-in-Ok-Some g c source =
    let name : SwarmName = name_of c.in-Auto.name in
    let e : Descriptor = c.in-Ok-Some.descriptor in
    let before : DiskState = g.D.Disk.state c.args.disk.now in
    let mid : DiskState = g.D.Disk.state c.find_descriptor.new.disk in
    let after : DiskState = g.D.Disk.state c.share_told.new.disk in
    let old : Outside = outside (g.D.Disk.state c.args.disk.now) (g.L.Link.seen c.args.link.now) source (g.K.Sink.state c.args.sink.now) c.args.book.now in
    let new : Outside = outside (g.D.Disk.state c.share_told.new.disk) (g.L.Link.seen c.share_told.new.link) source (g.K.Sink.state c.share_told.new.sink) c.share_told.new.book in
    let told : IsTold name e before mid =
    subst (FindsTold name before mid) (c.in-Ok-Some.is ∙ ap Ok c.in-Ok-Some.field-0-is) c.find_descriptor.ensures.told in
    let a = c.find_descriptor.ensures.attached in
    let words = c.of-in-Ok-Some.ensures.words in
    let attached = subst (λ (s : List ℕ). HasAttached s before mid) (sym (ap (λ (w : PeerWords). w.store) words)) a in
    let (kept, ends) = c.share_told.ensures before source attached in
    rw c.in-Auto.is (inr (inl (
      e,
      told_found name e before mid after (λ known. kept (known_on before mid a.tells a.honest known)) told,
      subst (λ (l : List Address). ToldFetchEnds (number_of c.share_told.result) (words_at c.args.words.now e c.args.words.now.turns) l old new) c.of-in-Ok-Some.ensures.dials
          (subst (λ (w : PeerWords). ToldFetchEnds (number_of c.share_told.result) w (dials_of c.of-in-Ok-Some.result) old new) words (ends.1 c.of-in-Ok-Some.ensures.asks)),
    )))

pub returns-in-Ok-None : goal.returns-in-Ok-None
returns-in-Ok-None g c source = rw c.in-Auto.is
    (inr (inr (c.seek.ensures (g.D.Disk.state c.args.disk.now) source c.find_descriptor.ensures.attached)))

pub returns-in-Err : goal.returns-in-Err
returns-in-Err g c source =
    let old : Outside = outside (g.D.Disk.state c.args.disk.now) (g.L.Link.seen c.args.link.now) source (g.K.Sink.state c.args.sink.now) c.args.book.now in
    let new : Outside = outside (g.D.Disk.state c.find_descriptor.new.disk) (g.L.Link.seen c.args.link.now) source (g.K.Sink.state c.report.new.sink) c.args.book.now in
    let w : NamedWords = record {
      store = c.args.words.now.store.now;
      name = name_of c.in-Auto.name;
      listen = address_of c.args.words.now.listen.now;
      turns = c.args.words.now.turns;
    } in
    let told = subst (FindsTold (name_of c.in-Auto.name) (g.D.Disk.state c.args.disk.now) (g.D.Disk.state c.find_descriptor.new.disk)) c.in-Err.is c.find_descriptor.ensures.told in
    rw c.in-Auto.is (inl (unfound_ends w old new c.in-Err.fault c.report.result told c.find_descriptor.ensures.attached refl refl refl c.report.ensures))
