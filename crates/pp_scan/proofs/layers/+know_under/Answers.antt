use Rattle.std.proofs.Common.{rules, ◌≡◌, ◌+◌, ◌-◌, ◌*◌, arith, sym, ◌∙◌, ap, subst}
use Rattle.std.proofs.lemmas.Result.{on_ok_weaker}
use Rattle.pp_terms.specs.disk.Disk.{History}
use Rattle.pp_terms.specs.disk.Image as image
use Rattle.pp_tree.specs.Book.{entry}
use Rattle.pp_scan.specs.Layers.{HasKnownUnder, HasOnlyKnownUnder}
use Rattle.pp_scan.proofs.Reading.{known_after}
use Rattle.pp_scan.proofs.Layering.{low_from_first, halves_first, bare_children, bare_half, bare_beside, elsewhere_children, elsewhere_half, only_from, child_found, none_at, some_at, found_none, found_left, found_beside, found_both, found_only}
use Rattle.pp_scan.proofs.Slots.{gates_bare, gates_both, elsewhere_slot, elsewhere_side}
use Rattle.pp_scan.specs.Gates.{ShowsGates}
use Rattle.pp_scan.proofs.layers.+know_under.Goals as goal

pub know_children-requires-clause-low : goal.know_children-requires-clause-low
know_children-requires-clause-low g t c = low_from_first c.args.node.layer c.args.node.offset c.requires.first

pub know_children-requires-clause-absent : goal.know_children-requires-clause-absent
know_children-requires-clause-absent g t c j half = bare_children c.args.node.layer c.args.node.offset j (entry c.args.book.now) (omega (arith, c.if-node-eq0.false)) c.requires.bare half

pub returns-then-is_none-clause-others : goal.returns-then-is_none-clause-others
returns-then-is_none-clause-others g t c l j off =
    elsewhere_children c.args.node.layer c.args.node.offset l j (entry c.args.book.now) (entry c.know_children.new.book) (omega (arith, c.if-node-eq0.false)) c.know_children.ensures.others off

pub returns-then-is_none-clause-known : goal.returns-then-is_none-clause-known
returns-then-is_none-clause-known g t c known parent =
    found_none c.args.descriptor.now (g.D.Disk.state c.args.disk.now).history.reads c.args.node.layer c.args.node.offset (entry c.args.book.now)
    (entry c.know_children.new.book) (omega (arith, c.if-node-eq0.false)) c.requires.low c.requires.bare c.know_children.ensures.others (c.in_default.ensures.children known) parent (none_at c.get.result _ c.get.ensures.get c.if-is_none.ensures)

pub returns-then-is_none-clause-only : goal.returns-then-is_none-clause-only
returns-then-is_none-clause-only g t c known parent =
    only_from c.args.descriptor.now (g.D.Disk.state c.args.disk.now).history.reads c.args.node.layer c.args.node.offset (entry c.know_children.new.book)
    (found_none c.args.descriptor.now (g.D.Disk.state c.args.disk.now).history.reads c.args.node.layer c.args.node.offset (entry c.args.book.now)
    (entry c.know_children.new.book) (omega (arith, c.if-node-eq0.false)) c.requires.low c.requires.bare c.know_children.ensures.others (c.in_default.ensures.children known) parent (none_at c.get.result _ c.get.ensures.get c.if-is_none.ensures))

pub know_under-requires : goal.know_under-requires
know_under-requires g t c =
    let first = halves_first c.args.node.layer c.args.node.offset (omega (arith, c.if-node-eq0.false)) c.requires.first in
    λ κs within. (
      omega (arith, c.if-node-eq0.false),
      (
        search rules,
        (
          omega (arith, c.requires.low),
          (
            first.0,
            (
              bare_half c.args.node.layer c.args.node.offset (2 * c.args.node.offset) (entry c.args.book.now) (entry c.know_children.new.book) (omega (arith, c.if-node-eq0.false)) c.know_children.ensures.others (omega arith) c.requires.bare,
              search rules,
            ),
          ),
        ),
      ),
    )

pub returns-in-Err-know_under-clause-kept : goal.returns-in-Err-know_under-clause-kept
returns-in-Err-know_under-clause-kept g t c d rooted = c.know_under.ensures.kept d (c.know_children.ensures.kept d rooted)

pub returns-in-Err-know_under-clause-others : goal.returns-in-Err-know_under-clause-others
returns-in-Err-know_under-clause-others g t c l j off =
    elsewhere_half c.args.node.layer c.args.node.offset (2 * c.args.node.offset) l j (entry c.args.book.now) (entry c.know_children.new.book) (entry c.know_under.new.book) (omega (arith, c.if-node-eq0.false)) (omega arith)
    (λ l j off. elsewhere_children c.args.node.layer c.args.node.offset l j (entry c.args.book.now) (entry c.know_children.new.book) (omega (arith, c.if-node-eq0.false)) c.know_children.ensures.others off) c.know_under.ensures.others off

pub returns-in-Err-know_under-clause-only : goal.returns-in-Err-know_under-clause-only
returns-in-Err-know_under-clause-only g t c known parent =
    let mid = g.D.Disk.state c.know_children.new.disk in
    let same = c.know_children.ensures.looks.keeps.same in
    let known_mid = known_after (g.D.Disk.state c.args.disk.now) mid c.know_children.ensures.looks.keeps known in
    let left_is : entry c.know_children.new.book (c.args.node.layer - 1) (2 * c.args.node.offset)
    ≡ image.known c.args.descriptor.now mid.history.reads (c.args.node.layer - 1) (2 * c.args.node.offset) =
    child_found c.args.descriptor.now (g.D.Disk.state c.args.disk.now).history.reads c.args.node.layer c.args.node.offset (entry c.args.book.now)
    (entry c.know_children.new.book) (omega (arith, c.if-node-eq0.false)) c.requires.low c.requires.bare c.know_children.ensures.others (c.in_default.ensures.children known) parent (2 * c.args.node.offset) (omega arith)
    ∙ ap (λ (h : History). image.known c.args.descriptor.now h.reads (c.args.node.layer - 1) (2 * c.args.node.offset)) (sym same) in
    found_left c.args.descriptor.now (g.D.Disk.state c.args.disk.now).history.reads c.args.node.layer c.args.node.offset (entry c.args.book.now)
    (entry c.know_children.new.book) (omega (arith, c.if-node-eq0.false)) c.requires.low c.requires.bare c.know_children.ensures.others (c.in_default.ensures.children known) parent (entry c.know_under.new.book) c.know_under.ensures.others
    (subst (λ (h : History). HasOnlyKnownUnder c.args.descriptor.now h.reads (c.args.node.layer - 1) (2 * c.args.node.offset) (entry c.know_under.new.book)) same
    (c.know_under.ensures.only known_mid left_is))

pub know_under-requires-2 : goal.know_under-requires-2
know_under-requires-2 g t c =
    let first = halves_first c.args.node.layer c.args.node.offset (omega (arith, c.if-node-eq0.false)) c.requires.first in
    λ κs within. (
      omega (arith, c.if-node-eq0.false),
      (
        search rules,
        (
          omega (arith, c.requires.low),
          (
            first.1,
            (
              bare_beside (c.args.node.layer - 1) c.args.node.offset (entry c.know_children.new.book) (entry c.know_under.new.book) c.know_under.ensures.others
                  (bare_half c.args.node.layer c.args.node.offset (2 * c.args.node.offset + 1) (entry c.args.book.now) (entry c.know_children.new.book) (omega (arith, c.if-node-eq0.false)) c.know_children.ensures.others (omega arith) c.requires.bare),
              search rules,
            ),
          ),
        ),
      ),
    )

pub returns-clause-kept : goal.returns-clause-kept
returns-clause-kept g t c d rooted = c.know_under-2.ensures.kept d (c.know_under.ensures.kept d (c.know_children.ensures.kept d rooted))

pub returns-clause-others : goal.returns-clause-others
returns-clause-others g t c l j off =
    elsewhere_half c.args.node.layer c.args.node.offset (2 * c.args.node.offset + 1) l j (entry c.args.book.now) (entry c.know_under.new.book) (entry c.know_under-2.new.book) (omega (arith, c.if-node-eq0.false)) (omega arith)
    (λ l j off. elsewhere_half c.args.node.layer c.args.node.offset (2 * c.args.node.offset) l j (entry c.args.book.now) (entry c.know_children.new.book) (entry c.know_under.new.book) (omega (arith, c.if-node-eq0.false)) (omega arith)
    (λ l j off. elsewhere_children c.args.node.layer c.args.node.offset l j (entry c.args.book.now) (entry c.know_children.new.book) (omega (arith, c.if-node-eq0.false)) c.know_children.ensures.others off) c.know_under.ensures.others off) c.know_under-2.ensures.others off

pub returns-clause-only : goal.returns-clause-only
returns-clause-only g t c known parent =
    let mid = g.D.Disk.state c.know_children.new.disk in
    let same = c.know_children.ensures.looks.keeps.same in
    let known_mid = known_after (g.D.Disk.state c.args.disk.now) mid c.know_children.ensures.looks.keeps known in
    let left_is : entry c.know_children.new.book (c.args.node.layer - 1) (2 * c.args.node.offset)
    ≡ image.known c.args.descriptor.now mid.history.reads (c.args.node.layer - 1) (2 * c.args.node.offset) =
    child_found c.args.descriptor.now (g.D.Disk.state c.args.disk.now).history.reads c.args.node.layer c.args.node.offset (entry c.args.book.now)
    (entry c.know_children.new.book) (omega (arith, c.if-node-eq0.false)) c.requires.low c.requires.bare c.know_children.ensures.others (c.in_default.ensures.children known) parent (2 * c.args.node.offset) (omega arith)
    ∙ ap (λ (h : History). image.known c.args.descriptor.now h.reads (c.args.node.layer - 1) (2 * c.args.node.offset)) (sym same) in
    let left : HasKnownUnder c.args.descriptor.now (g.D.Disk.state c.args.disk.now).history.reads (c.args.node.layer - 1) (2 * c.args.node.offset) (entry c.know_under.new.book) =
    subst (λ (h : History). HasKnownUnder c.args.descriptor.now h.reads (c.args.node.layer - 1) (2 * c.args.node.offset) (entry c.know_under.new.book)) same
    (c.in_default-know_under.ensures.known known_mid left_is) in
    let third = g.D.Disk.state c.know_under.new.disk in
    let same_third = c.know_under.ensures.looks.keeps.same ∙ same in
    let known_third = known_after mid third c.know_under.ensures.looks.keeps known_mid in
    let right_is : entry c.know_under.new.book (c.args.node.layer - 1) (2 * c.args.node.offset + 1)
    ≡ image.known c.args.descriptor.now third.history.reads (c.args.node.layer - 1) (2 * c.args.node.offset + 1) =
    found_beside c.args.descriptor.now (g.D.Disk.state c.args.disk.now).history.reads c.args.node.layer c.args.node.offset (entry c.args.book.now)
    (entry c.know_children.new.book) (omega (arith, c.if-node-eq0.false)) c.requires.low c.requires.bare c.know_children.ensures.others (c.in_default.ensures.children known) parent (entry c.know_under.new.book) c.know_under.ensures.others
    ∙ ap (λ (h : History). image.known c.args.descriptor.now h.reads (c.args.node.layer - 1) (2 * c.args.node.offset + 1)) (sym same_third) in
    found_only c.args.descriptor.now (g.D.Disk.state c.args.disk.now).history.reads c.args.node.layer c.args.node.offset (entry c.args.book.now)
    (entry c.know_children.new.book) (omega (arith, c.if-node-eq0.false)) c.requires.low c.requires.bare c.know_children.ensures.others (c.in_default.ensures.children known) parent (entry c.know_under.new.book) (entry c.know_under-2.new.book) c.know_under.ensures.others left
    c.know_under-2.ensures.others
    (subst (λ (h : History). HasOnlyKnownUnder c.args.descriptor.now h.reads (c.args.node.layer - 1) (2 * c.args.node.offset + 1) (entry c.know_under-2.new.book)) same_third
    (c.know_under-2.ensures.only known_third right_is))

pub returns-clause-known : goal.returns-clause-known
returns-clause-known g t c known parent =
    let mid = g.D.Disk.state c.know_children.new.disk in
    let same = c.know_children.ensures.looks.keeps.same in
    let known_mid = known_after (g.D.Disk.state c.args.disk.now) mid c.know_children.ensures.looks.keeps known in
    let left_is : entry c.know_children.new.book (c.args.node.layer - 1) (2 * c.args.node.offset)
    ≡ image.known c.args.descriptor.now mid.history.reads (c.args.node.layer - 1) (2 * c.args.node.offset) =
    child_found c.args.descriptor.now (g.D.Disk.state c.args.disk.now).history.reads c.args.node.layer c.args.node.offset (entry c.args.book.now)
    (entry c.know_children.new.book) (omega (arith, c.if-node-eq0.false)) c.requires.low c.requires.bare c.know_children.ensures.others (c.in_default.ensures.children known) parent (2 * c.args.node.offset) (omega arith)
    ∙ ap (λ (h : History). image.known c.args.descriptor.now h.reads (c.args.node.layer - 1) (2 * c.args.node.offset)) (sym same) in
    let left : HasKnownUnder c.args.descriptor.now (g.D.Disk.state c.args.disk.now).history.reads (c.args.node.layer - 1) (2 * c.args.node.offset) (entry c.know_under.new.book) =
    subst (λ (h : History). HasKnownUnder c.args.descriptor.now h.reads (c.args.node.layer - 1) (2 * c.args.node.offset) (entry c.know_under.new.book)) same
    (c.in_default-know_under.ensures.known known_mid left_is) in
    let third = g.D.Disk.state c.know_under.new.disk in
    let same_third = c.know_under.ensures.looks.keeps.same ∙ same in
    let known_third = known_after mid third c.know_under.ensures.looks.keeps known_mid in
    let right_is : entry c.know_under.new.book (c.args.node.layer - 1) (2 * c.args.node.offset + 1)
    ≡ image.known c.args.descriptor.now third.history.reads (c.args.node.layer - 1) (2 * c.args.node.offset + 1) =
    found_beside c.args.descriptor.now (g.D.Disk.state c.args.disk.now).history.reads c.args.node.layer c.args.node.offset (entry c.args.book.now)
    (entry c.know_children.new.book) (omega (arith, c.if-node-eq0.false)) c.requires.low c.requires.bare c.know_children.ensures.others (c.in_default.ensures.children known) parent (entry c.know_under.new.book) c.know_under.ensures.others
    ∙ ap (λ (h : History). image.known c.args.descriptor.now h.reads (c.args.node.layer - 1) (2 * c.args.node.offset + 1)) (sym same_third) in
    on_ok_weaker c.know_under-2.result
    (λ right. found_both c.args.descriptor.now (g.D.Disk.state c.args.disk.now).history.reads c.args.node.layer c.args.node.offset (entry c.args.book.now)
    (entry c.know_children.new.book) (omega (arith, c.if-node-eq0.false)) c.requires.low c.requires.bare c.know_children.ensures.others (c.in_default.ensures.children known) parent (entry c.know_under.new.book) (entry c.know_under-2.new.book) c.know_under.ensures.others left
    c.know_under-2.ensures.others
    (subst (λ (h : History). HasKnownUnder c.args.descriptor.now h.reads (c.args.node.layer - 1) (2 * c.args.node.offset + 1) (entry c.know_under-2.new.book)) same_third right))
    (c.know_under-2.ensures.known known_third right_is)

pub returns-then-is_none-clause-gates : goal.returns-then-is_none-clause-gates
returns-then-is_none-clause-gates g t c known =
    gates_bare c.args.descriptor.now (g.D.Disk.state c.args.disk.now).history.reads c.args.node.layer c.args.node.offset (entry c.args.book.now)
    (entry c.know_children.new.book) c.know_children.new.set (omega (arith, c.if-node-eq0.false)) c.requires.bare c.know_children.ensures.others
    (none_at c.get.result _ c.get.ensures.get c.if-is_none.ensures)

pub returns-in-Err-know_under-clause-elsewhere : goal.returns-in-Err-know_under-clause-elsewhere
returns-in-Err-know_under-clause-elsewhere g t c s off =
    elsewhere_side c.args.node.layer c.args.node.offset (2 * c.args.node.offset) s c.args.set.now c.know_children.new.set c.know_under.new.set (omega (arith, c.if-node-eq0.false)) (omega arith)
    (λ s off. elsewhere_slot c.args.node.layer c.args.node.offset s c.args.set.now c.know_children.new.set (omega (arith, c.if-node-eq0.false)) c.know_children.ensures.elsewhere off)
    c.know_under.ensures.elsewhere off

pub returns-clause-elsewhere : goal.returns-clause-elsewhere
returns-clause-elsewhere g t c s off =
    elsewhere_side c.args.node.layer c.args.node.offset (2 * c.args.node.offset + 1) s c.args.set.now c.know_under.new.set c.know_under-2.new.set (omega (arith, c.if-node-eq0.false)) (omega arith)
    (λ s off. elsewhere_side c.args.node.layer c.args.node.offset (2 * c.args.node.offset) s c.args.set.now c.know_children.new.set c.know_under.new.set (omega (arith, c.if-node-eq0.false)) (omega arith)
    (λ s off. elsewhere_slot c.args.node.layer c.args.node.offset s c.args.set.now c.know_children.new.set (omega (arith, c.if-node-eq0.false)) c.know_children.ensures.elsewhere off)
    c.know_under.ensures.elsewhere off)
    c.know_under-2.ensures.elsewhere off

pub returns-clause-gates : goal.returns-clause-gates
returns-clause-gates g t c known =
    let d = c.args.descriptor.now in
    let old = g.D.Disk.state c.args.disk.now in
    let mid = g.D.Disk.state c.know_children.new.disk in
    let third = g.D.Disk.state c.know_under.new.disk in
    let same = c.know_children.ensures.looks.keeps.same in
    let same_third = c.know_under.ensures.looks.keeps.same ∙ same in
    let known_mid = known_after old mid c.know_children.ensures.looks.keeps known in
    let known_third = known_after mid third c.know_under.ensures.looks.keeps known_mid in
    let left : ShowsGates d old.history.reads (c.args.node.layer - 1) (2 * c.args.node.offset) (entry c.know_under.new.book) c.know_under.new.set =
    subst (λ (h : History). ShowsGates d h.reads (c.args.node.layer - 1) (2 * c.args.node.offset) (entry c.know_under.new.book) c.know_under.new.set) same
    (c.in_default-know_under.ensures.gates known_mid) in
    on_ok_weaker c.know_under-2.result
    (λ right. gates_both d old.history.reads c.args.node.layer c.args.node.offset (entry c.know_under.new.book) (entry c.know_under-2.new.book)
    c.know_children.new.set c.know_under.new.set c.know_under-2.new.set (omega (arith, c.if-node-eq0.false))
    (c.in_default.ensures.gate known (some_at c.get.result _ c.get.ensures.get c.if-is_none.ensures))
    c.know_under.ensures.elsewhere left c.know_under-2.ensures.others c.know_under-2.ensures.elsewhere
    (subst (λ (h : History). ShowsGates d h.reads (c.args.node.layer - 1) (2 * c.args.node.offset + 1) (entry c.know_under-2.new.book) c.know_under-2.new.set) same_third right))
    (c.know_under-2.ensures.gates known_third)
