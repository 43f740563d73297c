use Rattle.std.proofs.Common.{◌≤◌, nat_le, nat_lt, not, ◌&&◌}
use Rattle.std.specs.Prelude.{is_some}
use Rattle.pp_requests.specs.Moments.{asked_at}
use Rattle.pp_fetching.specs.Fetching.{GivesBack}
use Rattle.pp_fetching.proofs.fetching.Fetching.settle_range.Given as goal

abbrev pub invariant-loop-i : goal.invariant-loop-i
invariant-loop-i l = record {
  low : l.fn.range.first ≤ l.i;
  back : GivesBack (λ k. (nat_le l.fn.range.first k && nat_lt k l.i) && not (is_some (asked_at l.seat.own k))) l.initial.self l.self;
}
