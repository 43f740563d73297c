use Rattle.std.proofs.Common.{inl, inr}
use Rattle.pp_wire.proofs.Halving.{leaf_iff, uneven_iff, half_iff}
use Rattle.pp_wire.proofs.bins.+is_bin.Goals as goal
use Rattle.pp_wire.proofs.bins.+is_bin.Goals.{then-first-eq1-via-then-first-eq1, then-first-eq1-via-else-first-eq1+then-last-eq0}

pub returns-then-first-last : goal.returns-then-first-last
returns-then-first-last t c = leaf_iff c.args.first c.args.last c.if-first-last.true

pub returns-then-first-eq1 : goal.returns-then-first-eq1
returns-then-first-eq1 t c =
    elim c.then-first-eq1.branch [
      | then-first-eq1-via-then-first-eq1 w ↦ uneven_iff c.args.first c.args.last c.requires c.if-first-last.false (inl w.if-first-eq1.true)
      | then-first-eq1-via-else-first-eq1+then-last-eq0 w ↦ uneven_iff c.args.first c.args.last c.requires c.if-first-last.false (inr w.if-last-eq0.true)
    ]

pub returns : goal.returns
returns t c =
    half_iff c.args.first c.args.last c.is_bin.result c.requires c.if-first-last.false c.if-first-eq1.false c.if-last-eq0.false c.is_bin.ensures
