use Rattle.std.proofs.Common.{refl}
use Rattle.pp_tree.specs.Node.{node_of}
use Rattle.pp_seat.proofs.Hearing.{early_goes, claim_goes, no_claim_goes}
use Rattle.pp_seat.proofs.seat.Seat.heard_integrity.Goals as goal

pub returns-then-not-self-clause-goes : goal.returns-then-not-self-clause-goes
returns-then-not-self-clause-goes c now span =
    rw (← c.self.view_is) (early_goes _ c.args.range now span c.args.digest c.if-not-self.true)

pub returns-in-Some-clause-claimed : goal.returns-in-Some-clause-claimed
returns-in-Some-clause-claimed c yes_is = (
  node_of c.in-Some.node,
  c.in-Some.ensures,
  rw (← c.self.view_is, c.add.ensures) refl,
)

pub returns-in-Some-clause-goes : goal.returns-in-Some-clause-goes
returns-in-Some-clause-goes c now span =
    rw (← c.self.view_is) (claim_goes _ c.args.range (node_of c.in-Some.node) c.add.new.self now span c.args.digest c.if-not-self.false c.chunks.ensures.most c.in-Some.ensures c.add.ensures)

pub returns-in-None-clause-goes : goal.returns-in-None-clause-goes
returns-in-None-clause-goes c now span =
    rw (← c.self.view_is) (no_claim_goes _ c.args.range now span c.args.digest c.in-None.ensures)
