use Rattle.std.proofs.Common.{◌<◌, arith}
use Rattle.pp_node.proofs.Spans.{no_ranges_of, all_ranges_of, beyond}
use Rattle.pp_node.proofs.ranges.put_ranges.Goals as goal

pub returns-then-first-chunks-clause-said : goal.returns-then-first-chunks-clause-said
returns-then-first-chunks-clause-said g c =
    no_ranges_of c.args.set.now (g.K.Sink.state c.args.sink.now) (g.K.Sink.state c.put_all.new.sink) c.put_all.result
    (λ k low lt. c.next_with-first.ensures.before k low (omega (arith, lt, c.if-first-chunks.true, c.requires))) c.put_all.ensures.gained

pub returns-clause-said : goal.returns-clause-said
returns-clause-said g c =
    let first = c.next_with-first.ensures in
    let end = c.next_with-end.ensures in
    let other = c.if-first-chunks.false in
    let within : c.next_with-first.result < c.args.chunks = omega (arith, first.within, other) in
    let past : c.next_with-first.result < c.next_with-end.result = beyond c.args.set.now c.next_with-first.result c.next_with-end.result end.from (omega (arith, end.within, c.requires))
    (omega (arith, within, c.requires)) (first.here within) (λ lt. end.here (omega (arith, lt, c.requires))) in
    all_ranges_of c.args.set.now c.next_with-first.result c.next_with-end.result (g.K.Sink.state c.args.sink.now) (g.K.Sink.state c.put_range.new.sink) (g.K.Sink.state c.put_more.new.sink)
    c.put_more.result first.before past end.before c.in_ok-put_range.ensures.gained c.put_more.ensures.said
