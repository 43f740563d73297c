use Rattle.pp_tree.specs.Book.{entry}
use Rattle.std.proofs.Common.{ap}
use Rattle.pp_terms.specs.disk.Disk.{History}
use Rattle.pp_terms.proofs.Knowing.{known_on}
use Rattle.pp_terms.proofs.Untouched.{synced_at_most-reads}
use Rattle.std.proofs.Common.{sym}
use Rattle.pp_node.proofs.Looks.{named_later, unwritten_on}
use Rattle.pp_node.proofs.Exports.{exported_later, export_refused, found_now}
use Rattle.pp_node.proofs.exporting.export.Goals as goal

pub returns-in-Ok-clause-ends : goal.returns-in-Ok-clause-ends
returns-in-Ok-clause-ends g c link source =
    exported_later c.args.descriptor.now (g.D.Disk.state c.args.disk.now) (g.D.Disk.state c.look.new.disk) (g.D.Disk.state c.put_found.new.disk) (g.K.Sink.state c.args.sink.now) (g.K.Sink.state c.put_found.new.sink)
    link source c.args.book.now c.args.book.now c.look.new.book
    c.look.ensures.unwritten.tells c.look.ensures.unwritten.honest c.look.ensures.unwritten.faults c.put_found.result (c.put_found.ensures.ends link source c.args.book.now)

pub returns-in-Err-clause-ends : goal.returns-in-Err-clause-ends
returns-in-Err-clause-ends g c link source =
    rw c.status_of.ensures (export_refused c.args.descriptor.now (g.D.Disk.state c.args.disk.now) (g.D.Disk.state c.look.new.disk) (g.K.Sink.state c.args.sink.now) link source c.args.book.now c.look.new.book
    c.in-Err.fault c.in-Err.ensures.looked)

pub put_found-requires-clause-found : goal.put_found-requires-clause-found
put_found-requires-clause-found g c =
    found_now c.args.descriptor.now (g.D.Disk.state c.args.disk.now) (g.D.Disk.state c.look.new.disk) (entry c.look.new.book) c.in-Ok.set c.look.ensures.unwritten.tells c.look.ensures.unwritten.honest c.in-Ok.ensures.looked

pub put_found-requires-clause-same : goal.put_found-requires-clause-same
put_found-requires-clause-same g c known =
    synced_at_most-reads (g.D.Disk.state c.look.new.disk).history (c.look.ensures.unwritten.synced
    (known_on (g.D.Disk.state c.look.new.disk) (g.D.Disk.state c.args.disk.now) (sym c.look.ensures.unwritten.tells) (sym c.look.ensures.unwritten.honest) known))

pub returns-in-Ok-clause-unwritten : goal.returns-in-Ok-clause-unwritten
returns-in-Ok-clause-unwritten g c =
    unwritten_on (g.D.Disk.state c.args.disk.now) (g.D.Disk.state c.look.new.disk) (g.D.Disk.state c.put_found.new.disk) c.look.ensures.unwritten c.put_found.ensures.looks

pub returns-in-Ok-clause-named : goal.returns-in-Ok-clause-named
returns-in-Ok-clause-named g c known =
    named_later (g.D.Disk.state c.args.disk.now).history.names c.args.store.now (g.D.Disk.state c.look.new.disk).history.names (g.D.Disk.state c.put_found.new.disk).history.names
    (c.look.ensures.named known) (ap (λ (h : History). h.names) c.put_found.ensures.looks.same)
