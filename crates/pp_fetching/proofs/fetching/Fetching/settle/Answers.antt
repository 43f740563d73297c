use Rattle.std.proofs.Common.{arith}
use Rattle.std.specs.Prelude.{is_some}
use Rattle.pp_requests.specs.Moments.{asked_at}
use Rattle.pp_fetching.proofs.GivenBack.{ranges_more}
use Rattle.pp_fetching.proofs.fetching.Fetching.settle.Goals as goal

pub loop-n-preserved : goal.loop-n-preserved
loop-n-preserved c =
    ranges_more c.args.picks.now c.loop-n.n c.range.result (λ i. is_some (asked_at c.args.seat.now.own i)) c.args.self.now c.loop-n.self c.settle_range.new.self
    (omega arith) c.range.ensures c.loop-n.invariant c.settle_range.ensures
