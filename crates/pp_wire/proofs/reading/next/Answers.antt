use Rattle.std.proofs.Common.{arith}
use Rattle.pp_tree.specs.Method.{method_of}
use Rattle.pp_wire.specs.Views.{step_of}
use Rattle.pp_terms.proofs.MessageLaws.{begins_iff, end_iff}
use Rattle.pp_terms.proofs.Spellings.{IsBytes-drop}
use Rattle.pp_wire.proofs.reading.next.Goals as goal

pub returns-clause-message : goal.returns-clause-message
returns-clause-message c =
    begins_iff (method_of c.args.method) c.args.chunk c.args.at c.args.bytes.now (step_of c.step.result) c.requires.some
    (IsBytes-drop c.args.at c.args.bytes.now (λ i. omega (arith, c.type_inv.bytes i))) c.step.ensures

pub returns-clause-end : goal.returns-clause-end
returns-clause-end c =
    end_iff (method_of c.args.method) c.args.chunk c.args.at c.args.bytes.now (step_of c.step.result) c.requires.within c.step.ensures
