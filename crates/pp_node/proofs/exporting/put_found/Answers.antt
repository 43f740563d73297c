use Rattle.pp_tree.specs.Book.{entry}
use Rattle.pp_node.proofs.Exports.{readable_found, incomplete_found}
use Rattle.pp_node.proofs.exporting.put_found.Goals as goal

pub put_chunks-requires : goal.put_chunks-requires
put_chunks-requires g c =
    readable_found c.args.descriptor.now (g.D.Disk.state c.args.disk.now) (entry c.args.book.now) c.args.set.now c.requires.found c.requires.same c.requires.rooted c.in-None.ensures

pub returns-in-Some-clause-ends : goal.returns-in-Some-clause-ends
returns-in-Some-clause-ends g c link source before =
    incomplete_found c.args.descriptor.now (g.K.Sink.state c.args.sink.now) (g.D.Disk.state c.args.disk.now) link source before c.args.book.now c.args.set.now c.in-Some.field-0 c.requires.found c.in-Some.ensures.0 c.in-Some.ensures.1
