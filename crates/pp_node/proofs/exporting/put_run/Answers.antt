use Rattle.std.proofs.Common.{◌≡◌, ◌-◌, ◌*◌, length, take, refl, sym, ◌∙◌, subst, arith}
use Rattle.std.specs.Prelude.{min}
use Rattle.pp_tree.specs.Book.{entry}
use Rattle.pp_store.specs.Runs.{HasEnded}
use Rattle.pp_node.specs.Exporting.{PutsRun}
use Rattle.pp_node.proofs.Exports.{run_read, run_answered}
use Rattle.pp_node.proofs.exporting.put_run.Goals as goal

pub answer_of-requires : goal.answer_of-requires
answer_of-requires g c = λ is.
    (subst (HasEnded c.args.descriptor.now c.args.first (entry c.args.book.now) (g.D.Disk.state c.args.disk.now) (g.D.Disk.state c.read_run-run.new.disk) c.read_run-run.new.out c.read_run-run.result.count)
    is c.read_run-run.ensures.run.ends).1

pub returns-in-Err-clause-puts : goal.returns-in-Err-clause-puts
returns-in-Err-clause-puts g c =
    let d = c.args.descriptor.now in
    let book = entry c.args.book.now in
    let disk = g.D.Disk.state c.args.disk.now in
    let disk' = g.D.Disk.state c.read_run-run.new.disk in
    let out = c.read_run-run.new.out in
    let run = c.read_run-run.result in
    let size : c.min-len.result ≡ min (run.count * d.chunk) (d.size - c.args.first * d.chunk) =
    c.min-len.ensures ∙ (λ i. min (c.size.ensures.size i - c.from.ensures i * (c.from-chunk.ensures ∙ c.chunk.ensures.chunk) i) (c.from-2.ensures i * (c.from-chunk.ensures ∙ c.chunk.ensures.chunk) i)) ∙ omega arith in
    let next = run_read d disk disk' book c.args.first out c.chunk.ensures.valid c.requires.readable run c.min-len.result c.requires.within c.read_run-run.ensures.run size c.read_run-run.ensures.looks in
    record { risen = c.in-Err.ensures.cause.risen refl; count = run.count; bytes = take c.min-len.result out; chunks = next; part = c.in-Err.ensures.part }

pub returns-in-Ok-clause-puts : goal.returns-in-Ok-clause-puts
returns-in-Ok-clause-puts g c =
    let d = c.args.descriptor.now in
    let book = entry c.args.book.now in
    let disk = g.D.Disk.state c.args.disk.now in
    let disk' = g.D.Disk.state c.read_run-run.new.disk in
    let out = c.read_run-run.new.out in
    let run = c.read_run-run.result in
    let size : c.min-len.result ≡ min (run.count * d.chunk) (d.size - c.args.first * d.chunk) =
    c.min-len.ensures ∙ (λ i. min (c.size.ensures.size i - c.from.ensures i * (c.from-chunk.ensures ∙ c.chunk.ensures.chunk) i) (c.from-2.ensures i * (c.from-chunk.ensures ∙ c.chunk.ensures.chunk) i)) ∙ omega arith in
    let next = run_read d disk disk' book c.args.first out c.chunk.ensures.valid c.requires.readable run c.min-len.result c.requires.within c.read_run-run.ensures.run size c.read_run-run.ensures.looks in
    let long : length out ≡ 65536 = c.read_run-run.auto.out ∙ c.told-buffer in
    subst (PutsRun d c.args.first (g.K.Sink.state c.args.sink.now) (g.K.Sink.state c.put_all.new.sink) disk disk' book) (sym c.answer_of.ensures)
    (run_answered d disk disk' book c.args.first out (g.K.Sink.state c.args.sink.now) (g.K.Sink.state c.put_all.new.sink) c.chunk.ensures.valid c.requires.readable c.requires.within
    (omega (arith, long, c.chunk.ensures.chunk, c.chunk.ensures.range)) c.read_run-run.ensures.looks run.count (record { bytes = take c.min-len.result out; chunks = next; gained = c.in-Ok.ensures.gained })
    run.fault c.read_run-run.ensures.run.ends c.read_run-run.ensures.sound)
