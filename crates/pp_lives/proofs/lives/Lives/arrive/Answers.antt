use Rattle.pp_lives.proofs.Wholes.{keeps_standing}
use Rattle.pp_lives.proofs.Seated.{meant, behind}
use Rattle.pp_lives.proofs.lives.Lives.arrive.Goals as goal

pub returns-clause-seated : goal.returns-clause-seated
returns-clause-seated c = (meant c.args.descriptor.now c.args.self.now c.take.new.self c.args.from.now c.args.now c.args.bytes.now c.take.result
    c.are_seats.ensures c.take.ensures).seated

pub returns-clause-proven : goal.returns-clause-proven
returns-clause-proven c = (meant c.args.descriptor.now c.args.self.now c.take.new.self c.args.from.now c.args.now c.args.bytes.now c.take.result
    c.are_seats.ensures c.take.ensures).proven

pub returns-clause-behind : goal.returns-clause-behind
returns-clause-behind c = behind c.args.descriptor.now c.args.self.now c.take.new.self c.args.from.now c.args.now c.args.bytes.now c.take.result c.take.ensures

pub returns-clause-stands : goal.returns-clause-stands
returns-clause-stands c = keeps_standing c.args.descriptor.now c.args.self.now c.take.new.self c.args.from.now c.args.now c.args.bytes.now c.take.result c.take.ensures
