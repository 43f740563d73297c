use Rattle.std.proofs.Common.{◌≡◌, ℕ, ◌++◌, true, false, List, nat_eq, take, sym, ◌∙◌, ap}
use Rattle.std.specs.Cmp.Lexicographic.{pointwise}
use Rattle.std.proofs.lemmas.List.{take-append-drop}
use Rattle.sha2.specs.Sha256.{sha256}
use Rattle.pp_tree.specs.Book.{entry}
use Rattle.pp_scan.proofs.Children.{adopted_children, child_other}
use Rattle.pp_scan.proofs.layers.adopt.Goals as goal

pub returns-then-eq-clause-children : goal.returns-then-eq-clause-children
returns-then-eq-clause-children c =
    let pair = c.args.pair.now in
    let whole : c.halves-left.result.0 ++ c.halves-left.result.1 ≡ pair =
    ap (λ (x : List ℕ). x ++ c.halves-left.result.1) c.halves-left.ensures.left ∙ ap (λ (x : List ℕ). take 32 pair ++ x) c.halves-left.ensures.right ∙ take-append-drop 32 pair in
    let digest : c.bytes.result.now ≡ sha256 pair = c.bytes.ensures.same ∙ c.parent.ensures ∙ ap sha256 whole in
    let test : pointwise nat_eq (sha256 pair) c.args.digest.now ≡ true =
    ap (λ (x : List ℕ). pointwise nat_eq x c.args.digest.now) (sym digest) ∙ ap (λ (x : List ℕ). pointwise nat_eq c.bytes.result.now x) (sym c.bytes-2.ensures.same) ∙ sym c.if-eq.ensures in
    adopted_children pair c.args.digest.now c.halves-left.result.0 c.halves-left.result.1 _ c.args.node.offset (entry c.args.book.now) (entry c.adopt_pair.new.self)
    c.told-pair c.halves-left.ensures.left c.halves-left.ensures.right test c.adopt_pair.ensures.adopted

pub returns-else-eq-clause-children : goal.returns-else-eq-clause-children
returns-else-eq-clause-children c j under =
    let pair = c.args.pair.now in
    let whole : c.halves-left.result.0 ++ c.halves-left.result.1 ≡ pair =
    ap (λ (x : List ℕ). x ++ c.halves-left.result.1) c.halves-left.ensures.left ∙ ap (λ (x : List ℕ). take 32 pair ++ x) c.halves-left.ensures.right ∙ take-append-drop 32 pair in
    let digest : c.bytes.result.now ≡ sha256 pair = c.bytes.ensures.same ∙ c.parent.ensures ∙ ap sha256 whole in
    let test : pointwise nat_eq (sha256 pair) c.args.digest.now ≡ false =
    ap (λ (x : List ℕ). pointwise nat_eq x c.args.digest.now) (sym digest) ∙ ap (λ (x : List ℕ). pointwise nat_eq c.bytes.result.now x) (sym c.bytes-2.ensures.same) ∙ sym c.if-eq.ensures in
    c.requires.absent j under ∙ sym (child_other pair c.args.digest.now j test)
