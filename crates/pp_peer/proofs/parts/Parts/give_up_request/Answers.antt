use Rattle.std.proofs.Common.{subst, arith}
use Rattle.pp_seats.specs.Standing.{SeatsState}
use Rattle.pp_peer.proofs.GivenUp.{GivesOne, one_expired, one_lost, fewer_open, gives_one}
use Rattle.pp_peer.proofs.parts.Parts.give_up_request.Goals as goal

pub returns-in-Some : goal.returns-in-Some
returns-in-Some c =
    let one = one_expired c.args.seat c.in-Some.chunk c.args.self.now.seats c.give_up_request.new.self c.in-Some.ensures in (
      fewer_open c.args.self.now c.give_up_request.new.self c.give_back.new.fetching c.args.seat c.in-Some.chunk one c.give_back.ensures (omega arith),
      gives_one c.args.self.now c.give_up_request.new.self c.give_back.new.fetching c.args.seat c.in-Some.chunk one c.give_back.ensures,
    )

pub returns : goal.returns
returns c =
    let one = subst (λ (s : SeatsState). GivesOne c.args.seat c.in-Some-give_up_lost.chunk s c.give_up_lost.new.self) c.in_default.ensures.same
    (one_lost c.args.seat c.in-Some-give_up_lost.chunk c.give_up_request.new.self c.give_up_lost.new.self c.in-Some-give_up_lost.ensures) in (
      fewer_open c.args.self.now c.give_up_lost.new.self c.give_back-2.new.fetching c.args.seat c.in-Some-give_up_lost.chunk one c.give_back-2.ensures (omega arith),
      gives_one c.args.self.now c.give_up_lost.new.self c.give_back-2.new.fetching c.args.seat c.in-Some-give_up_lost.chunk one c.give_back-2.ensures,
    )
