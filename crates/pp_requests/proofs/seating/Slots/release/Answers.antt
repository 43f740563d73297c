use Rattle.std.proofs.Common.{◌<◌, length, arith}
use Rattle.pp_requests.proofs.SeatCounts.{fewer}
use Rattle.pp_requests.proofs.seating.Slots.release.Goals as goal

pub invariant_of-self : goal.invariant_of-self
invariant_of-self c =
    let within : c.args.seat < length c.self.inside.slots = omega arith in
    fewer c.self.inside.slots c.args.seat 8 within c.self.invariant
