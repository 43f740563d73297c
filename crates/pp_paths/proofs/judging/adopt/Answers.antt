use Rattle.pp_tree.specs.Book.{entry}
use Rattle.pp_terms.specs.tree.Claims.{latest}
use Rattle.pp_paths.proofs.Verdicts.{backed_by_path, fit_by_verdict}
use Rattle.pp_paths.proofs.judging.adopt.Goals as goal

pub returns-clause-backed : goal.returns-clause-backed
returns-clause-backed c =
    backed_by_path c.args.descriptor.now (entry c.args.book.now) (entry c.adopt_from.new.book) (latest c.args.claims.now) c.args.i
    c.height.result c.args.chunk.now c.leaf.result c.requires.within c.requires.rooted c.requires.fits c.height.ensures.height
    c.leaf.ensures (c.adopt_from.ensures.added (fit_by_verdict c.args.descriptor.now (entry c.args.book.now) (latest c.args.claims.now) c.args.i
    c.height.result c.args.chunk.now c.leaf.result c.adopt_from.result c.requires.fits c.height.ensures.height c.leaf.ensures c.adopt_from.ensures.climbed))
    (c.adopt_from.ensures.rooted c.args.descriptor.now c.requires.rooted)
