use Rattle.std.proofs.Common.{ℕ, ◌≤◌, Some, length, drop, arith, sym, ◌∙◌, ap, subst}
use Rattle.pp_store.specs.Growing.{IsPartial}
use Rattle.pp_store.proofs.Writings.{keeps_same, keeps_more}
use Rattle.pp_store.proofs.Ends.{round_first, round_more, round_low, round_last, round_counted, round_all, read_none, read_more, read_end, takes_read, takes_more, fault_later}
use Rattle.pp_store.proofs.importing.store_chunks.Goals as goal

pub pieces-init : goal.pieces-init
pieces-init g c = record {
  round = round_first c.args.chunk c.args.tree.now.count c.requires.fresh;
  reads = read_none (g.S.Source.state c.args.source.now);
  later = omega arith;
  keeps = keeps_same (g.D.Disk.state c.args.disk.now);
  put = λ content told part. subst (λ (n : ℕ). IsPartial c.args.chunk content n c.args.tree.now.peaks (g.D.Disk.state c.args.disk.now)) (sym c.requires.fresh) part;
}

pub store_piece-requires-clause-room : goal.store_piece-requires-clause-room
store_piece-requires-clause-room g c =
    let round = c.pieces.invariant.round in
    let low = round_low c.args.chunk c.pieces.counter c.pieces.size c.pieces.tree.count round c.pieces-test.true in omega (arith, round.count_is)

pub overflow_add-size : goal.overflow_add-size
overflow_add-size g c =
    let low = round_low c.args.chunk c.pieces.counter c.pieces.size c.pieces.tree.count c.pieces.invariant.round c.pieces-test.true in omega (arith, c.in-Ok.ensures.few)

pub returns-then-count-lt-PIECE-clause-most : goal.returns-then-count-lt-PIECE-clause-most
returns-then-count-lt-PIECE-clause-most g c =
    let low = round_low c.args.chunk c.pieces.counter c.pieces.size c.pieces.tree.count c.pieces.invariant.round c.pieces-test.true in omega (arith, c.in-Ok.ensures.few)

pub returns-then-count-lt-PIECE-clause-counted : goal.returns-then-count-lt-PIECE-clause-counted
returns-then-count-lt-PIECE-clause-counted g c =
    round_counted c.args.chunk c.pieces.counter c.pieces.size c.pieces.tree.count c.in-Ok.count _ c.requires.size c.pieces.invariant.round c.in-Ok.ensures.counted

pub returns-then-count-lt-PIECE-clause-read : goal.returns-then-count-lt-PIECE-clause-read
returns-then-count-lt-PIECE-clause-read g c =
    let low = round_low c.args.chunk c.pieces.counter c.pieces.size c.pieces.tree.count c.pieces.invariant.round c.pieces-test.true in
    read_end c.args.chunk (g.S.Source.state c.args.source.now) (g.S.Source.state c.pieces.source) (g.S.Source.state c.store_piece.new.source) c.pieces.size c.in-Ok.count c.pieces.invariant.reads low c.if-count-lt-PIECE.true c.in-Ok.ensures.read

pub returns-then-count-lt-PIECE-clause-put : goal.returns-then-count-lt-PIECE-clause-put
returns-then-count-lt-PIECE-clause-put g c content told part =
    let so_far = c.pieces.invariant.reads content told in
    let at = c.pieces.invariant.round.count_is in
    c.in-Ok.ensures.put content (so_far.1 ∙ ap (λ (n : ℕ). Some (drop n content)) (sym at)) (subst (λ (n : ℕ). n ≤ length content) (sym at) so_far.0) (c.pieces.invariant.put content told part)

pub returns-then-count-lt-PIECE-clause-takes : goal.returns-then-count-lt-PIECE-clause-takes
returns-then-count-lt-PIECE-clause-takes g c =
    let low = round_low c.args.chunk c.pieces.counter c.pieces.size c.pieces.tree.count c.pieces.invariant.round c.pieces-test.true in
    takes_more (g.S.Source.state c.args.source.now) (g.S.Source.state c.pieces.source) (g.S.Source.state c.store_piece.new.source) c.pieces.size 65536 _ low c.pieces.invariant.reads c.in-Ok.ensures.takes

pub returns-then-count-lt-PIECE-clause-source : goal.returns-then-count-lt-PIECE-clause-source
returns-then-count-lt-PIECE-clause-source g c = omega (arith, c.pieces.invariant.later, c.in-Ok.ensures.source)

pub returns-then-count-lt-PIECE-clause-disk : goal.returns-then-count-lt-PIECE-clause-disk
returns-then-count-lt-PIECE-clause-disk g c = keeps_more _ _ _ c.pieces.invariant.keeps c.in-Ok.ensures.disk

pub returns-in-Err-clause-fault : goal.returns-in-Err-clause-fault
returns-in-Err-clause-fault g c =
    fault_later c.in-Err.fault _ _ _ _ _ _ c.pieces.invariant.later c.pieces.invariant.keeps c.in-Err.ensures.fault

pub returns-in-Err-clause-takes : goal.returns-in-Err-clause-takes
returns-in-Err-clause-takes g c =
    let low = round_low c.args.chunk c.pieces.counter c.pieces.size c.pieces.tree.count c.pieces.invariant.round c.pieces-test.true in
    takes_more (g.S.Source.state c.args.source.now) (g.S.Source.state c.pieces.source) (g.S.Source.state c.store_piece.new.source) c.pieces.size 65536 _ low c.pieces.invariant.reads c.in-Err.ensures.takes

pub returns-in-Err-clause-source : goal.returns-in-Err-clause-source
returns-in-Err-clause-source g c = omega (arith, c.pieces.invariant.later, c.in-Err.ensures.source)

pub returns-in-Err-clause-disk : goal.returns-in-Err-clause-disk
returns-in-Err-clause-disk g c = keeps_more _ _ _ c.pieces.invariant.keeps c.in-Err.ensures.disk

pub pieces-preserved : goal.pieces-preserved
pieces-preserved g c =
    let inv = c.pieces.invariant in
    let at = inv.round.count_is in
    record {
      round = round_more c.args.chunk c.pieces.counter c.pieces.size c.pieces.tree.count c.in-Ok.count _ c.requires.size inv.round c.if-count-lt-PIECE.false c.in-Ok.ensures.few c.in-Ok.ensures.counted;
      reads = read_more (g.S.Source.state c.args.source.now) (g.S.Source.state c.pieces.source) (g.S.Source.state c.store_piece.new.source) c.pieces.size c.in-Ok.count inv.reads c.in-Ok.ensures.read;
      later = omega (arith, inv.later, c.in-Ok.ensures.source);
      keeps = keeps_more _ _ _ inv.keeps c.in-Ok.ensures.disk;
      put = λ content told part.
          let so_far = inv.reads content told in
          c.in-Ok.ensures.put content (so_far.1 ∙ ap (λ (n : ℕ). Some (drop n content)) (sym at)) (subst (λ (n : ℕ). n ≤ length content) (sym at) so_far.0) (inv.put content told part);
    }

pub returns-clause-most : goal.returns-clause-most
returns-clause-most g c =
    let last = round_last c.args.chunk c.pieces.counter c.pieces.size c.pieces.tree.count c.pieces.invariant.round c.pieces.auto.counter-end c.pieces-test.false in omega arith

pub returns-clause-counted : goal.returns-clause-counted
returns-clause-counted g c = round_all c.args.chunk c.pieces.counter c.pieces.size c.pieces.tree.count c.requires.size c.pieces.invariant.round

pub returns-clause-read : goal.returns-clause-read
returns-clause-read g c content told =
    let last = round_last c.args.chunk c.pieces.counter c.pieces.size c.pieces.tree.count c.pieces.invariant.round c.pieces.auto.counter-end c.pieces-test.false in
    let so_far = c.pieces.invariant.reads content told in
    (omega (arith, so_far.0), so_far.1)

pub returns-clause-put : goal.returns-clause-put
returns-clause-put g c = c.pieces.invariant.put

pub returns-clause-takes : goal.returns-clause-takes
returns-clause-takes g c =
    let last = round_last c.args.chunk c.pieces.counter c.pieces.size c.pieces.tree.count c.pieces.invariant.round c.pieces.auto.counter-end c.pieces-test.false in
    takes_read (g.S.Source.state c.args.source.now) (g.S.Source.state c.pieces.source) c.pieces.size _ (omega arith) c.pieces.invariant.reads

pub returns-clause-source : goal.returns-clause-source
returns-clause-source g c = c.pieces.invariant.later

pub returns-clause-disk : goal.returns-clause-disk
returns-clause-disk g c = c.pieces.invariant.keeps
