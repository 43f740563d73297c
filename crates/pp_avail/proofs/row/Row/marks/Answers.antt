use Rattle.std.proofs.Common.{sym, subst, arith}
use Rattle.pp_tree.specs.Sets.{AreMarksOf}
use Rattle.pp_tree.proofs.Marking.{marks_of, value_size}
use Rattle.pp_avail.proofs.row.Row.marks.Goals as goal

pub returns-clause-small : goal.returns-clause-small
returns-clause-small c = omega (arith, c.self.invariant.small, value_size c.self.inside.count c.self.inside.words.items c.args.self.now c.self.view_is)

pub returns-clause-marks : goal.returns-clause-marks
returns-clause-marks c =
    subst (λ xs. AreMarksOf c.args.self.now xs) (sym c.deref.ensures.value)
    (marks_of c.self.inside.count c.self.inside.words.items c.self.inside.any.items c.args.self.now c.self.view_is
    c.self.invariant.inside c.self.invariant.size c.self.invariant.any_size c.self.invariant.any_marks)
