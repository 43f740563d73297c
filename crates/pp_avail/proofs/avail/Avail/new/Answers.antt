use Rattle.std.proofs.Common.{arith}
use Rattle.pp_avail.proofs.Counting.{none_counted, none_told}
use Rattle.pp_avail.proofs.avail.Avail.new.Goals as goal

pub invariant_of-result : goal.invariant_of-result
invariant_of-result c =
    none_counted c.args.chunks c.div_ceil.result c.in_ok-seats.seats.items c.in_ok-counts.counts c.requires c.in_ok-seats.ensures
    (omega (arith, c.div_ceil.ensures)) c.in_ok-counts.ensures

pub returns-clause-nothing : goal.returns-clause-nothing
returns-clause-nothing c = none_told c.args.chunks (record { chunks = c.args.chunks; seats = c.in_ok-seats.seats.items }) c.in_ok-seats.ensures
