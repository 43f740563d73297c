use Rattle.std.proofs.Common.{sym, subst}
use Rattle.pp_tree.specs.Sets.{AreMarksOf}
use Rattle.pp_tree.proofs.Marking.{marks_of}
use Rattle.pp_tree.proofs.members.Members.marks.Goals as goal

pub returns : goal.returns
returns c =
    subst (λ xs. AreMarksOf c.args.self.now xs) (sym c.deref.ensures.value)
    (marks_of c.self.inside.count c.self.inside.words.items c.self.inside.any.items c.args.self.now c.self.view_is
    c.self.invariant.inside c.self.invariant.size c.self.invariant.any_size c.self.invariant.any_marks)
