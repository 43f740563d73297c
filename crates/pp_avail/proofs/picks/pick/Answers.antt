use Rattle.std.proofs.Common.{◌<◌, ◌≤◌, subst, arith}
use Rattle.pp_avail.specs.Offers.{copies}
use Rattle.pp_avail.specs.Choices.{IsBest}
use Rattle.pp_avail.proofs.Choosing.{picked, none_picked, candidates_counted}
use Rattle.pp_avail.proofs.picks.pick.Goals as goal

pub returns-in-None : goal.returns-in-None
returns-in-None g c =
    none_picked c.args.ranker.now.kind c.args.avail.now c.args.seat c.args.wanted.now (λ j. (0 < copies c.args.avail.now j) × (copies c.args.avail.now j ≤ c.loop-fewer.fewer))
    (subst (λ best. IsBest c.args.ranker.now.kind c.args.avail.now c.args.seat c.args.wanted.now (λ j. (0 < copies c.args.avail.now j) × (copies c.args.avail.now j ≤ c.loop-fewer.fewer)) best) c.in-None.is c.loop-fewer.invariant)
    (candidates_counted c.args.avail.now c.args.seat c.args.wanted.now c.loop-fewer.fewer c.most_copies-fewer-end.ensures.copies (omega (arith, c.most_copies-fewer-end.ensures.value, c.loop-fewer-test.false)))

pub returns-in-Some : goal.returns-in-Some
returns-in-Some g c =
    picked c.args.ranker.now.kind c.args.avail.now c.args.seat c.args.wanted.now (λ j. (0 < copies c.args.avail.now j) × (copies c.args.avail.now j ≤ c.loop-fewer.fewer))
    c.in-Some.choice.rank c.in-Some.choice.chunk
    (subst (λ best. IsBest c.args.ranker.now.kind c.args.avail.now c.args.seat c.args.wanted.now (λ j. (0 < copies c.args.avail.now j) × (copies c.args.avail.now j ≤ c.loop-fewer.fewer)) best) c.in-Some.is c.loop-fewer.invariant)
    (candidates_counted c.args.avail.now c.args.seat c.args.wanted.now c.loop-fewer.fewer c.most_copies-fewer-end.ensures.copies (omega (arith, c.most_copies-fewer-end.ensures.value, c.loop-fewer-test.false)))
