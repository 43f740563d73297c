use Rattle.std.proofs.Common.{rules, sym, ◌∙◌, subst}
use Rattle.pp_tree.specs.Book.{entry}
use Rattle.pp_terms.specs.tree.Claims.{latest}
use Rattle.pp_paths.specs.declared.climbing.Climb.{Climb}
use Rattle.pp_paths.specs.Climb.{IsFit}
use Rattle.pp_paths.proofs.Verdicts.{backed_by_path, same_bytes}
use Rattle.pp_paths.proofs.judging.judge_and_adopt.Goals as goal

pub returns-then-eq-clause-backed : goal.returns-then-eq-clause-backed
returns-then-eq-clause-backed c fits =
    backed_by_path c.args.descriptor.now (entry c.args.book.now) (entry c.adopt_from.new.book) (latest c.args.claims.now) c.args.i
    c.height.result c.args.chunk.now c.leaf.result c.requires.within c.requires.rooted (search rules) c.height.ensures.height
    c.leaf.ensures (c.adopt_from.ensures.added (subst (λ (end : Climb). IsFit end) (sym c.in-Reached.is)
    (same_bytes c.in-Reached.found c.in-Reached.kept (sym c.eq.ensures ∙ c.if-eq.true))))
    (c.adopt_from.ensures.rooted c.args.descriptor.now c.requires.rooted)
