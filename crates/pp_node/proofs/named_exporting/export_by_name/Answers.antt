use Rattle.std.proofs.Common.{ap, refl, sym}
use Rattle.pp_terms.specs.disk.Disk.{DiskState, History}
use Rattle.pp_terms.specs.format.Descriptor.{Descriptor}
use Rattle.pp_terms.proofs.Knowing.{known_on}
use Rattle.pp_terms.proofs.Untouched.{synced_at_most-reads}
use Rattle.pp_tree.specs.Book.{entry}
use Rattle.pp_targets.specs.Target.{SwarmName}
use Rattle.pp_targets.specs.Names.{name_of}
use Rattle.pp_node.specs.Outside.{Outside, outside}
use Rattle.pp_node.proofs.Looks.{named_later, unwritten_on}
use Rattle.pp_node.proofs.Exports.{exported_later, found_now}
use Rattle.pp_node.proofs.NamedExports.{told_on, lasts_on, export_told, export_unfound}
use Rattle.pp_node.proofs.named_exporting.export_by_name.Goals as goal

pub put_found-requires-clause-found : goal.put_found-requires-clause-found
put_found-requires-clause-found g c =
    found_now c.in-Ok.found.descriptor (g.D.Disk.state c.args.disk.now) (g.D.Disk.state c.look_by_name.new.disk) (entry c.look_by_name.new.book) c.in-Ok.found.set
    c.look_by_name.ensures.unwritten.tells c.look_by_name.ensures.unwritten.honest c.in-Ok.ensures.found.chunks

pub put_found-requires-clause-same : goal.put_found-requires-clause-same
put_found-requires-clause-same g c known =
    synced_at_most-reads (g.D.Disk.state c.look_by_name.new.disk).history (c.look_by_name.ensures.unwritten.synced
    (known_on (g.D.Disk.state c.look_by_name.new.disk) (g.D.Disk.state c.args.disk.now) (sym c.look_by_name.ensures.unwritten.tells) (sym c.look_by_name.ensures.unwritten.honest) known))

pub returns-in-Ok-clause-ends : goal.returns-in-Ok-clause-ends
returns-in-Ok-clause-ends g c link source =
    let name : SwarmName = name_of c.args.name.now in
    let e : Descriptor = c.in-Ok.found.descriptor in
    let before : DiskState = g.D.Disk.state c.args.disk.now in
    let mid : DiskState = g.D.Disk.state c.look_by_name.new.disk in
    let after : DiskState = g.D.Disk.state c.put_found.new.disk in
    let old : Outside = outside (g.D.Disk.state c.args.disk.now) link source (g.K.Sink.state c.args.sink.now) c.args.book.now in
    let new : Outside = outside (g.D.Disk.state c.put_found.new.disk) link source (g.K.Sink.state c.put_found.new.sink) c.look_by_name.new.book in
    let found = c.in-Ok.ensures.found in
    export_told name e old new (record { told = told_on name e before mid after c.put_found.ensures.looks found.scanned.told; rooted = found.scanned.rooted })
    found.shaped c.put_found.result
    (exported_later e before mid after (g.K.Sink.state c.args.sink.now) (g.K.Sink.state c.put_found.new.sink)
    link source c.args.book.now c.args.book.now c.look_by_name.new.book
    c.look_by_name.ensures.unwritten.tells c.look_by_name.ensures.unwritten.honest c.look_by_name.ensures.unwritten.faults c.put_found.result
    (c.put_found.ensures.ends link source c.args.book.now))

pub returns-in-Err-clause-ends : goal.returns-in-Err-clause-ends
returns-in-Err-clause-ends g c link source = rw c.status_of.ensures
    (export_unfound (name_of c.args.name.now) c.in-Err.fault
    (outside (g.D.Disk.state c.args.disk.now) link source (g.K.Sink.state c.args.sink.now) c.args.book.now)
    (outside (g.D.Disk.state c.look_by_name.new.disk) link source (g.K.Sink.state c.args.sink.now) c.look_by_name.new.book)
    c.in-Err.ensures.found refl)

pub returns-in-Ok-clause-unwritten : goal.returns-in-Ok-clause-unwritten
returns-in-Ok-clause-unwritten g c =
    unwritten_on (g.D.Disk.state c.args.disk.now) (g.D.Disk.state c.look_by_name.new.disk) (g.D.Disk.state c.put_found.new.disk) c.look_by_name.ensures.unwritten c.put_found.ensures.looks

pub returns-in-Ok-clause-lasts : goal.returns-in-Ok-clause-lasts
returns-in-Ok-clause-lasts g c known e told =
    lasts_on (name_of c.args.name.now) e (g.D.Disk.state c.args.disk.now) (g.D.Disk.state c.look_by_name.new.disk) (g.D.Disk.state c.put_found.new.disk) c.put_found.ensures.looks
    (c.look_by_name.ensures.lasts known e) told

pub returns-in-Ok-clause-named : goal.returns-in-Ok-clause-named
returns-in-Ok-clause-named g c known =
    named_later (g.D.Disk.state c.args.disk.now).history.names c.args.store.now (g.D.Disk.state c.look_by_name.new.disk).history.names (g.D.Disk.state c.put_found.new.disk).history.names
    (c.look_by_name.ensures.named known) (ap (λ (h : History). h.names) c.put_found.ensures.looks.same)
