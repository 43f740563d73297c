use Rattle.std.proofs.Common.{◌==◌, ◌&&◌, ◌||◌, ap, ◌∙◌, arith}
use Rattle.pp_avail.specs.Offers.{has}
use Rattle.pp_avail.proofs.Counting.{filled_more, filled_all}
use Rattle.pp_avail.proofs.avail.Avail.fill.Goals as goal

pub loop-w-preserved : goal.loop-w-preserved
loop-w-preserved c = (
  c.add.ensures.chunks ∙ c.loop-w.invariant.0,
  omega (arith, c.loop-w.invariant.1, c.in-Some.ensures.0),
  (λ s i. filled_more (has c.args.self.now s i) (has c.loop-w.self s i) (has c.add.new.self s i) s c.args.seat i c.args.first c.args.last c.loop-w.next c.in-Some.w
      c.in-Some.ensures.0
      (c.loop-w.invariant.2 s i)
      (c.add.ensures.seats s i ∙ ap (λ b. has c.loop-w.self s i || (s == c.args.seat && b)) (c.part.ensures i))
      (λ is low high inside. ap (λ n. has c.loop-w.self n i) is ∙ c.in-Some.ensures.2 i low high (omega (arith, inside, c.requires.inside, c.loop-w.invariant.0)))),
)

pub returns-clause-seats : goal.returns-clause-seats
returns-clause-seats c = λ s i.
    filled_all (has c.args.self.now s i) (has c.loop-w.self s i) s c.args.seat i c.args.first c.args.last c.loop-w.next (c.loop-w.invariant.2 s i)
    (λ is low high inside. ap (λ n. has c.loop-w.self n i) is ∙ c.in_default.ensures i low high (omega (arith, inside, c.requires.inside, c.loop-w.invariant.0)))
