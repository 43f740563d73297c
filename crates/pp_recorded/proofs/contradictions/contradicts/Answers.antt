use Rattle.std.proofs.Common.{List, ℕ, ◌∙◌, ap, arith}
use Rattle.pp_tree.specs.Book.{entry}
use Rattle.pp_recorded.specs.Claims.{known_of}
use Rattle.pp_recorded.specs.Contradictions.{contradicts_in, contradicts}
use Rattle.pp_recorded.specs.Search.{some_below}
use Rattle.pp_recorded.proofs.Provings.{below_more, below_end}
use Rattle.pp_recorded.proofs.contradictions.contradicts.Goals as goal

pub loop-layer-preserved : goal.loop-layer-preserved
loop-layer-preserved c =
    below_more (contradicts_in c.args.claims.now.descriptor.now (entry c.args.book.now) (known_of c.args.claims.now) c.args.chunk c.leaf-digest.result) c.loop-layer.layer
    c.contradicts_in-found.result c.loop-layer.found c.contradicts_in-found.ensures c.loop-layer.invariant

pub returns : goal.returns
unfolding contradicts
returns c =
    let end = c.loop-layer.auto.layer-end in
    let over = c.loop-layer-test.false in
    below_end (contradicts_in c.args.claims.now.descriptor.now (entry c.args.book.now) (known_of c.args.claims.now) c.args.chunk c.leaf-digest.result) c.loop-layer.layer 21 c.loop-layer.found
    c.loop-layer.invariant (omega (arith, end, over))
    ∙ ap (λ (digest : List ℕ). some_below (contradicts_in c.args.claims.now.descriptor.now (entry c.args.book.now) (known_of c.args.claims.now) c.args.chunk digest) 21) c.leaf-digest.ensures
