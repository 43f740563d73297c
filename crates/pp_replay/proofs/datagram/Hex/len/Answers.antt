use Rattle.std.proofs.Common.{length, ap, arith}
use Rattle.pp_replay.proofs.Pairs.{length-bytes_in}
use Rattle.pp_replay.proofs.datagram.Hex.len.Goals as goal

pub returns : goal.returns
returns c =
    let twice = length-bytes_in c.self.inside.digits.now c.self.invariant in
    let seen = ap length c.self.view_is in
    omega (arith, twice, seen)
