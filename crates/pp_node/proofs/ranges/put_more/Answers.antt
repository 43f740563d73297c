use Rattle.std.proofs.Common.{◌<◌, arith, refl}
use Rattle.pp_node.proofs.Lines.{cause_later}
use Rattle.pp_node.proofs.Spans.{put_none, put_one, put_all_of, beyond}
use Rattle.pp_node.proofs.ranges.put_more.Goals as goal

pub loop-chunks-init : goal.loop-chunks-init
loop-chunks-init g c =
    put_none c.args.set.now c.args.from (g.K.Sink.state c.args.sink.now) (omega (arith, c.requires.size, c.requires.within)) (λ lt. c.requires.free (omega (arith, c.requires.size, lt)))

pub next_with-first-requires-clause-within : goal.next_with-first-requires-clause-within
next_with-first-requires-clause-within g c = let within = c.loop-chunks.invariant.within in omega (arith, within, c.requires.size)

pub returns-then-first-chunks-clause-said : goal.returns-then-first-chunks-clause-said
returns-then-first-chunks-clause-said g c =
    put_all_of c.args.set.now c.args.from c.loop-chunks.end (g.K.Sink.state c.args.sink.now) (g.K.Sink.state c.loop-chunks.sink) c.loop-chunks.invariant
    (λ k low lt. c.next_with-first.ensures.before k low (omega (arith, lt, c.if-first-chunks.true, c.requires.size)))

pub returns-then-first-chunks-clause-cause : goal.returns-then-first-chunks-clause-cause
returns-then-first-chunks-clause-cause g c = record { later = c.loop-chunks.invariant.later; risen = λ bad. cc }

pub loop-chunks-smaller : goal.loop-chunks-smaller
loop-chunks-smaller g c =
    let first = c.next_with-first.ensures in
    let end = c.next_with-end.ensures in
    let other = c.if-first-chunks.false in
    let within : c.next_with-first.result < c.args.chunks = omega (arith, first.within, other) in
    let past : c.next_with-first.result < c.next_with-end.result = beyond c.args.set.now c.next_with-first.result c.next_with-end.result end.from (omega (arith, end.within, c.requires.size))
    (omega (arith, within, c.requires.size)) (first.here within) (λ lt. end.here (omega (arith, lt, c.requires.size))) in
    omega (arith, first.from, past, within)

pub loop-chunks-preserved : goal.loop-chunks-preserved
loop-chunks-preserved g c =
    let first = c.next_with-first.ensures in
    let end = c.next_with-end.ensures in
    let other = c.if-first-chunks.false in
    let within : c.next_with-first.result < c.args.chunks = omega (arith, first.within, other) in
    let past : c.next_with-first.result < c.next_with-end.result = beyond c.args.set.now c.next_with-first.result c.next_with-end.result end.from (omega (arith, end.within, c.requires.size))
    (omega (arith, within, c.requires.size)) (first.here within) (λ lt. end.here (omega (arith, lt, c.requires.size))) in
    put_one c.args.set.now c.args.from c.loop-chunks.end c.next_with-first.result c.next_with-end.result
    (g.K.Sink.state c.args.sink.now) (g.K.Sink.state c.loop-chunks.sink) (g.K.Sink.state c.put_range.new.sink) c.loop-chunks.invariant
    first.from (omega (arith, within, c.requires.size)) first.before (first.here within) past (omega (arith, end.within, c.requires.size))
    end.before (λ lt. end.here (omega (arith, lt, c.requires.size))) c.in_ok-put_range.ensures.cause.later c.in_ok-put_range.ensures.gained

pub returns-in_err-put_range-clause-cause : goal.returns-in_err-put_range-clause-cause
returns-in_err-put_range-clause-cause g c = cause_later _ _ _ _ _ c.loop-chunks.invariant.later c.in_err-put_range.ensures.cause refl
