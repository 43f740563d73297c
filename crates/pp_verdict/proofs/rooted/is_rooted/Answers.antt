use Rattle.std.proofs.Common.{◌≡◌, ap, sym, ◌∙◌, List, ℕ, Some}
use Rattle.pp_terms.specs.format.Descriptor.{height_of}
use Rattle.pp_tree.specs.Book.{entry}
use Rattle.pp_verdict.proofs.Pairs.{rooted_hangs}
use Rattle.pp_verdict.proofs.rooted.is_rooted.Goals as goal

pub returns-then-has_digest : goal.returns-then-has_digest
returns-then-has_digest c =
    let d = c.args.descriptor.now in
    let iff = rooted_hangs d c.args.book.now c.root.ensures.valid.root_length c.requires in
    let root : entry c.args.book.now (height_of d) 0 ≡ Some d.root =
    ap (λ (k : ℕ). entry c.args.book.now k 0) (sym c.height.ensures.height) ∙ c.has_digest.ensures.0 c.if-has_digest.true ∙ ap (λ (x : List ℕ). Some x) c.root.ensures.root in
    (λ e. iff.0 (root, c.layers_hang.ensures.0 e), λ rooted. c.layers_hang.ensures.1 (iff.1 rooted).1)
