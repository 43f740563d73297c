use Rattle.std.proofs.Common.{sym, ◌∙◌, ap, List}
use Rattle.pp_terms.specs.tree.Claims.{Claim}
use Rattle.pp_tree.specs.Node.{node_of}
use Rattle.pp_wire.specs.Views.{span_of}
use Rattle.pp_learner.proofs.Naming.{outside_claim, with_node, without_node, noted_node, noted_none}
use Rattle.pp_learner.proofs.row.Row.hear_integrity.Goals as goal

pub returns-in_default-clause-row : goal.returns-in_default-clause-row
returns-in_default-clause-row c = outside_claim (span_of c.args.span) c.args.digest c.args.self.now (sym c.inside.ensures ∙ c.in_default.is)

pub returns-in-Some-as_node-clause-row : goal.returns-in-Some-as_node-clause-row
returns-in-Some-as_node-clause-row c =
    rw (← c.self.view_is) (ap (λ (claims : List Claim). record {
      claims = claims;
      offer = c.self.inside.offer;
      chokes = c.self.inside.chokes;
      asked = c.self.inside.asked;
      owes = c.self.inside.owes;
    }) c.add.ensures
    ∙ with_node (span_of c.args.span) c.in-Some.range (sym c.inside.ensures ∙ c.in-Some.is) (node_of c.in-Some-as_node.node) c.args.digest
    (record { claims = c.self.inside.claims; offer = c.self.inside.offer; chokes = c.self.inside.chokes; asked = c.self.inside.asked; owes = c.self.inside.owes })
    c.in-Some-as_node.ensures)

pub returns-in-Some-as_node-clause-noted : goal.returns-in-Some-as_node-clause-noted
returns-in-Some-as_node-clause-noted c = noted_node (span_of c.args.span) c.in-Some.range (sym c.inside.ensures ∙ c.in-Some.is) (node_of c.in-Some-as_node.node) c.in-Some-as_node.ensures

pub returns-in-None-clause-row : goal.returns-in-None-clause-row
returns-in-None-clause-row c = without_node (span_of c.args.span) c.in-Some.range (sym c.inside.ensures ∙ c.in-Some.is) c.args.digest c.args.self.now c.in-None.ensures

pub returns-in-None-clause-noted : goal.returns-in-None-clause-noted
returns-in-None-clause-noted c = noted_none (span_of c.args.span) c.in-Some.range (sym c.inside.ensures ∙ c.in-Some.is) c.in-None.ensures
