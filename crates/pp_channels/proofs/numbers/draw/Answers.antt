use Rattle.std.proofs.Common.{length, refl, sym, ◌∙◌, arith}
use Rattle.std.specs.Prelude.{is_none, position}
use Rattle.pp_channels.specs.Seats.{is_used}
use Rattle.pp_channels.proofs.Numbering.{found_unused, found_is, unused_there}
use Rattle.pp_channels.proofs.numbers.draw.Goals as goal

pub unwrap-requires : goal.unwrap-requires
unwrap-requires c = rw c.least_unused.ensures (found_unused c.args.channels.now (position is_none c.args.channels.now) refl c.requires.free)

pub returns-then-is_used-clause-some : goal.returns-then-is_used-clause-some
returns-then-is_used-clause-some c =
    let found = found_is (is_used c.args.channels.now) 1 (length c.args.channels.now) c.unwrap.result (sym c.least_unused.ensures ∙ c.unwrap.ensures) in
    omega (arith, found.0)

pub returns-then-is_used-clause-alone : goal.returns-then-is_used-clause-alone
returns-then-is_used-clause-alone c = λ seat.
    let found = found_is (is_used c.args.channels.now) 1 (length c.args.channels.now) c.unwrap.result (sym c.least_unused.ensures ∙ c.unwrap.ensures) in
    unused_there c.args.channels.now c.unwrap.result seat found.1
