use Rattle.std.proofs.Common.{◌≡◌, ◌+◌, ◌<◌, ◌≤◌, sym, subst, ap, ◌∙◌}
use Rattle.pp_avail.specs.Ranks.{rank_of}
use Rattle.pp_avail.specs.Offers.{copies}
use Rattle.pp_avail.specs.Choices.{IsBest}
use Rattle.pp_avail.proofs.Choosing.{better, covered}
use Rattle.pp_avail.proofs.picks.considered.Goals as goal
use Rattle.pp_avail.proofs.picks.considered.Goals.{in_default-via-in-None-1, in_default-via-in-Some+else-best-rank}

pub returns-2 : goal.returns-2
returns-2 g c =
    let same : c.in_default.best ≡ c.args.best =
    elim c.in_default.branch [ in_default-via-in-None-1 w ↦ w.best-is | in_default-via-in-Some+else-best-rank w ↦ w.best-is ∙ sym w.in-Some.is ] in
    better c.args.ranker.now.kind c.args.avail.now c.args.seat c.args.wanted.now (λ j. (0 < copies c.args.avail.now j) × (copies c.args.avail.now j ≤ c.args.fewer)) (λ j. (0 < copies c.args.avail.now j) × (copies c.args.avail.now j ≤ c.args.fewer + 1))
    c.in_default.best (record { rank = c.rank-rank.result; chunk = c.in-Some-first_of.chunk }) c.lesser.result
    (record {
      inside = c.in-Some-first_of.ensures.first.0;
      candidate = c.in-Some-first_of.ensures.first.1;
      ranked = c.rank-rank.ensures ∙ ap (λ n. rank_of c.args.ranker.now.kind c.in-Some-first_of.chunk n) (sym c.in-Some-first_of.ensures.first.2);
    })
    (subst (λ best. IsBest c.args.ranker.now.kind c.args.avail.now c.args.seat c.args.wanted.now (λ j. (0 < copies c.args.avail.now j) × (copies c.args.avail.now j ≤ c.args.fewer)) best) (sym same) c.requires.best)
    c.lesser.ensures
    (λ j candidate counted. rw c.rank-rank.ensures (covered c.args.ranker.now.kind c.args.avail.now c.args.fewer c.in-Some-first_of.chunk j
    (λ equal. c.in-Some-first_of.ensures.first.3 j candidate equal) counted))
