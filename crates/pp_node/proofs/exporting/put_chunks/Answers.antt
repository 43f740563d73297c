use Rattle.std.proofs.Common.{arith, ◌<◌}
use Rattle.pp_terms.specs.format.Descriptor.{chunks_of}
use Rattle.pp_tree.specs.Book.{entry}
use Rattle.pp_scan.proofs.Reading.{keeps_more}
use Rattle.pp_node.proofs.Exports.{readable_after, put_on, put_some, stopped_at, exported_written}
use Rattle.pp_node.proofs.exporting.put_chunks.Goals as goal

pub put_run-requires-clause-readable : goal.put_run-requires-clause-readable
put_run-requires-clause-readable g c =
    readable_after c.args.descriptor.now (g.D.Disk.state c.args.disk.now) (g.D.Disk.state c.loop-next.disk) (entry c.args.book.now) c.loop-next.invariant.keeps c.requires

pub returns-in-Err-clause-ends : goal.returns-in-Err-clause-ends
returns-in-Err-clause-ends g c link source before =
    let within : c.loop-next.next < chunks_of c.args.descriptor.now = omega (arith, c.loop-next-test.true, c.chunks.ensures.chunks) in
    stopped_at c.args.descriptor.now (g.D.Disk.state c.args.disk.now) (g.D.Disk.state c.loop-next.disk) (g.D.Disk.state c.put_run.new.disk)
    (g.K.Sink.state c.args.sink.now) (g.K.Sink.state c.loop-next.sink) (g.K.Sink.state c.put_run.new.sink) c.args.book.now c.loop-next.next
    c.chunks.ensures.valid within c.requires c.loop-next.invariant.keeps c.put_run.ensures.looks c.loop-next.invariant.later c.loop-next.invariant.put
    link source before c.put_run.result c.in-Err.fault c.in-Err.is c.put_run.ensures.puts

pub loop-next-preserved : goal.loop-next-preserved
loop-next-preserved g c =
    let within : c.loop-next.next < chunks_of c.args.descriptor.now = omega (arith, c.loop-next-test.true, c.chunks.ensures.chunks) in
    let some = put_some c.args.descriptor.now (g.D.Disk.state c.args.disk.now) (g.D.Disk.state c.loop-next.disk) (g.D.Disk.state c.put_run.new.disk)
    (g.K.Sink.state c.args.sink.now) (g.K.Sink.state c.loop-next.sink) (g.K.Sink.state c.put_run.new.sink) c.args.book.now c.loop-next.next
    c.chunks.ensures.valid within c.requires c.loop-next.invariant.keeps c.put_run.ensures.looks c.loop-next.invariant.later c.loop-next.invariant.put
    c.put_run.result c.in-Ok.count c.in-Ok.is c.put_run.ensures.puts in
    record {
      within = some.1;
      keeps = keeps_more (g.D.Disk.state c.args.disk.now) (g.D.Disk.state c.loop-next.disk) (g.D.Disk.state c.put_run.new.disk) c.loop-next.invariant.keeps c.put_run.ensures.looks;
      later = omega (arith, c.loop-next.invariant.later, c.put_run.ensures.later);
      put = put_on c.args.descriptor.now (g.D.Disk.state c.args.disk.now) (g.D.Disk.state c.loop-next.disk) (g.D.Disk.state c.put_run.new.disk)
          (g.K.Sink.state c.args.sink.now) (g.K.Sink.state c.loop-next.sink) (g.K.Sink.state c.put_run.new.sink) c.args.book.now c.loop-next.next
          c.chunks.ensures.valid within c.requires c.loop-next.invariant.keeps c.put_run.ensures.looks c.loop-next.invariant.later c.loop-next.invariant.put
          c.put_run.result c.in-Ok.count c.in-Ok.is c.put_run.ensures.puts;
    }

pub returns-clause-ends : goal.returns-clause-ends
returns-clause-ends g c link source before =
    exported_written c.args.descriptor.now (g.K.Sink.state c.args.sink.now) (g.K.Sink.state c.loop-next.sink) (g.D.Disk.state c.args.disk.now) (g.D.Disk.state c.loop-next.disk) link source before c.args.book.now
    c.chunks.ensures.valid c.requires c.loop-next.invariant.keeps c.loop-next.next (omega (arith, c.loop-next-test.false, c.loop-next.invariant.within, c.chunks.ensures.chunks)) c.loop-next.invariant.put
