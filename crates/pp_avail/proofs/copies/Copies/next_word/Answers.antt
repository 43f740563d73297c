use Rattle.std.proofs.Common.{◌≡◌, ◌-◌, ◌/◌, [], length, ◌∙◌, arith, slice_index_or}
use Rattle.std.proofs.lemmas.List.{get_or_default}
use Rattle.pp_avail.proofs.Numbers.{numbers_size, level_has, level_size, none_of_level, next_found}
use Rattle.pp_avail.proofs.copies.Copies.next_word.Goals as goal

pub returns-then-is_empty-clause-small : goal.returns-then-is_empty-clause-small
returns-then-is_empty-clause-small c = omega (arith, c.self.invariant.small, numbers_size c.self.inside.planes.items c.args.self.now c.self.view_is)

pub returns-clause-small : goal.returns-clause-small
returns-clause-small c = omega (arith, c.self.invariant.small, numbers_size c.self.inside.planes.items c.args.self.now c.self.view_is)

pub returns-then-is_empty-clause-next : goal.returns-then-is_empty-clause-next
returns-then-is_empty-clause-next c = λ i low.
    let level : c.index-level.result.now ≡ slice_index_or c.self.inside.levels.items (c.args.copies - 1) [] =
    c.index-level.ensures ∙ get_or_default c.self.inside.levels.items (c.args.copies - 1) c.index-level.result.now [] (omega (arith, c.self.invariant.width, c.requires.some, c.requires.most)) in
    none_of_level c.args.wanted.now c.args.row.now c.index-level.result.now c.args.self.now c.args.copies i
    (level_has c.self.inside.planes.items c.self.inside.levels.items c.index-level.result.now c.args.self.now c.args.copies i c.self.invariant c.self.view_is c.requires.some c.requires.most level)
    (c.is_empty.ensures c.if-is_empty.true (i / 64))

pub next_common-requires-clause-third : goal.next_common-requires-clause-third
next_common-requires-clause-third c =
    let level : c.index-level.result.now ≡ slice_index_or c.self.inside.levels.items (c.args.copies - 1) [] =
    c.index-level.ensures ∙ get_or_default c.self.inside.levels.items (c.args.copies - 1) c.index-level.result.now [] (omega (arith, c.self.invariant.width, c.requires.some, c.requires.most)) in
    let size = level_size c.self.inside.planes.items c.self.inside.levels.items c.index-level.result.now c.args.copies c.self.invariant c.requires.some c.requires.most level in
    omega (arith, c.words.ensures.size, c.marks.ensures.marks.size, size, c.requires.wanted, c.requires.row, numbers_size c.self.inside.planes.items c.args.self.now c.self.view_is)

pub returns-clause-next : goal.returns-clause-next
returns-clause-next c =
    let level : c.index-level.result.now ≡ slice_index_or c.self.inside.levels.items (c.args.copies - 1) [] =
    c.index-level.ensures ∙ get_or_default c.self.inside.levels.items (c.args.copies - 1) c.index-level.result.now [] (omega (arith, c.self.invariant.width, c.requires.some, c.requires.most)) in
    let size = level_size c.self.inside.planes.items c.self.inside.levels.items c.index-level.result.now c.args.copies c.self.invariant c.requires.some c.requires.most level in
    next_found c.args.wanted.now c.args.row.now c.index-level.result.now c.args.self.now c.marks.result.now c.marks-2.result.now c.words.result.now c.args.copies c.args.from
    (length c.args.self.now) c.next_common.result c.marks.ensures.marks c.marks-2.ensures.marks c.words.ensures
    (λ i. level_has c.self.inside.planes.items c.self.inside.levels.items c.index-level.result.now c.args.self.now c.args.copies i c.self.invariant c.self.view_is c.requires.some c.requires.most level)
    (omega (arith, size, numbers_size c.self.inside.planes.items c.args.self.now c.self.view_is)) c.next_common.ensures
