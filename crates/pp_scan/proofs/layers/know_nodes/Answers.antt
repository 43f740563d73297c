use Rattle.std.proofs.Common.{◌≡◌, ℕ, ◌^◌, ◌≤◌, ◌∙◌, sym, subst, arith}
use Rattle.std.proofs.lemmas.Result.{on_ok_weaker}
use Rattle.std.proofs.Math.Pow.{pow_mono}
use Rattle.pp_terms.specs.disk.Image as image
use Rattle.pp_tree.specs.Book.{entry}
use Rattle.pp_scan.specs.Layers.{IsUnder, HasKnownUnder, HasOnlyKnownUnder}
use Rattle.pp_scan.proofs.Layering.{known_root, all_known, only_known}
use Rattle.pp_scan.proofs.layers.know_nodes.Goals as goal

pub know_under-requires-clause-first : goal.know_under-requires-clause-first
know_under-requires-clause-first g c = let most : 2 ^ c.height.result ≤ 2 ^ 20 = pow_mono c.height.ensures.range in omega arith

pub returns-clause-only : goal.returns-clause-only
returns-clause-only g c known =
    let d = c.args.descriptor.now in
    let reads = (g.D.Disk.state c.args.disk.now).history.reads in
    let top = c.height.ensures.height in
    only_known d reads (entry c.args.book.now) (entry c.know_under.new.book) c.requires.alone
    (subst (λ (h : ℕ). (l j : ℕ) → (IsUnder h 0 l j → ⊥) → entry c.know_under.new.book l j ≡ entry c.args.book.now l j) top c.know_under.ensures.others)
    (subst (λ (h : ℕ). HasOnlyKnownUnder d reads h 0 (entry c.know_under.new.book)) top (c.know_under.ensures.only known
    (subst (λ (h : ℕ). entry c.args.book.now h 0 ≡ image.known d reads h 0) (sym top) (c.requires.alone.root_is ∙ sym (known_root d reads)))))

pub returns-clause-known : goal.returns-clause-known
returns-clause-known g c known =
    let d = c.args.descriptor.now in
    let reads = (g.D.Disk.state c.args.disk.now).history.reads in
    let top = c.height.ensures.height in
    on_ok_weaker c.know_under.result
    (λ under. all_known d reads (entry c.args.book.now) (entry c.know_under.new.book) c.requires.alone
    (subst (λ (h : ℕ). (l j : ℕ) → (IsUnder h 0 l j → ⊥) → entry c.know_under.new.book l j ≡ entry c.args.book.now l j) top c.know_under.ensures.others)
    (subst (λ (h : ℕ). HasKnownUnder d reads h 0 (entry c.know_under.new.book)) top under))
    (c.know_under.ensures.known known
    (subst (λ (h : ℕ). entry c.args.book.now h 0 ≡ image.known d reads h 0) (sym top) (c.requires.alone.root_is ∙ sym (known_root d reads))))
