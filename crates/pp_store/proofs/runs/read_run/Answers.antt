use Rattle.std.proofs.Common.{◌≡◌, ◌+◌, ◌-◌, ◌*◌, ◌/◌, ◌<◌, length, drop, sym, ◌∙◌, arith}
use Rattle.std.specs.Prelude.{min}
use Rattle.std.proofs.lemmas.List.{length-drop}
use Rattle.pp_tree.specs.Book.{entry}
use Rattle.pp_tree.proofs.Sizes.{chunk_begins}
use Rattle.pp_store.specs.Runs.{run_length}
use Rattle.pp_store.proofs.RunSteps.{right_run, damaged_run, damaged_absent, run_room}
use Rattle.pp_store.proofs.runs.read_run.Goals as goal

pub returns-in-Some-clause-run : goal.returns-in-Some-clause-run
returns-in-Some-clause-run g c =
    let d = c.args.descriptor.now in
    let book = entry c.args.book.now in
    let disk = g.D.Disk.state c.args.disk.now in
    let out = c.read_chunks-read.new.out in
    let is = c.in-Some.ensures in
    let want : c.min-want.result ≡ run_length d c.args.first (length out) =
    c.min-want.ensures ∙ (λ i. min (sym c.read_chunks-read.auto.out i / c.chunk.ensures.chunk i) (c.chunks.ensures.chunks i - c.args.first)) in
    record {
      right = right_run d c.args.first book disk out c.read_chunks-read.result c.in-Some.damage.at (omega (arith, is.among)) c.read_chunks-read.ensures.read is.before;
      ends = (
        omega (arith, is.among, c.read_chunks-read.ensures.most, want),
        damaged_run d c.args.first book disk out c.read_chunks-read.result c.in-Some.damage.at c.in-Some.damage.found c.in-Some.damage.kept c.read_chunks-read.ensures.read is,
      );
    }

pub returns-in-Some-clause-sound : goal.returns-in-Some-clause-sound
returns-in-Some-clause-sound g c known there found kept said =
    let d = c.args.descriptor.now in
    let disk = g.D.Disk.state c.args.disk.now in
    let out = c.read_chunks-read.new.out in
    let is = c.in-Some.ensures in
    let at = c.in-Some.damage.at in
    let want : c.min-want.result ≡ run_length d c.args.first (length out) =
    c.min-want.ensures ∙ (λ i. min (sym c.read_chunks-read.auto.out i / c.chunk.ensures.chunk i) (c.chunks.ensures.chunks i - c.args.first)) in
    let some : 0 < d.chunk = omega (arith, c.chunk.ensures.chunk, c.chunk.ensures.range) in
    let inside : at < run_length d c.args.first (length out) = omega (arith, is.among, c.read_chunks-read.ensures.most, want) in
    let room = run_room d c.args.first (length out) at some inside in
    let begins = chunk_begins d.size d.chunk (c.args.first + at) some (omega (arith, inside)) in
    damaged_absent d (c.args.first + at) (entry c.args.book.now) disk (drop (at * d.chunk) out) c.in-Some.damage.found c.in-Some.damage.kept
    (damaged_run d c.args.first (entry c.args.book.now) disk out c.read_chunks-read.result at c.in-Some.damage.found c.in-Some.damage.kept c.read_chunks-read.ensures.read is)
    known (omega (arith, begins, some)) (omega (arith, room, length-drop (at * d.chunk) out)) there

pub returns-in-None-clause-run : goal.returns-in-None-clause-run
returns-in-None-clause-run g c =
    let d = c.args.descriptor.now in
    let out = c.read_chunks-read.new.out in
    let want : c.min-want.result ≡ run_length d c.args.first (length out) =
    c.min-want.ensures ∙ (λ i. min (sym c.read_chunks-read.auto.out i / c.chunk.ensures.chunk i) (c.chunks.ensures.chunks i - c.args.first)) in
    record {
      right = right_run d c.args.first (entry c.args.book.now) (g.D.Disk.state c.args.disk.now) out c.read_chunks-read.result c.read_chunks-read.result (omega arith) c.read_chunks-read.ensures.read c.in-None.ensures;
      ends = (omega (arith, c.if-read-want.true, want), c.read_chunks-read.ensures.refused c.if-read-want.true);
    }

pub returns-in-None-2-clause-run : goal.returns-in-None-2-clause-run
returns-in-None-2-clause-run g c =
    let d = c.args.descriptor.now in
    let out = c.read_chunks-read.new.out in
    let want : c.min-want.result ≡ run_length d c.args.first (length out) =
    c.min-want.ensures ∙ (λ i. min (sym c.read_chunks-read.auto.out i / c.chunk.ensures.chunk i) (c.chunks.ensures.chunks i - c.args.first)) in
    record {
      right = right_run d c.args.first (entry c.args.book.now) (g.D.Disk.state c.args.disk.now) out c.read_chunks-read.result c.read_chunks-read.result (omega arith) c.read_chunks-read.ensures.read c.in-None.ensures;
      ends = omega (arith, c.if-read-want.false, c.read_chunks-read.ensures.most, want);
    }
