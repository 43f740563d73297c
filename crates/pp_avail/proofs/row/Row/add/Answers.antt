use Rattle.std.proofs.Common.{◌<◌, length, sym, subst, ◌∙◌, arith}
use Rattle.std.proofs.lemmas.List.{get_or_default}
use Rattle.pp_tree.specs.Sets.{IsWordOf}
use Rattle.pp_tree.proofs.Marking.{value_size, word_of}
use Rattle.pp_avail.proofs.Rows.{both_inside, joined_row}
use Rattle.pp_avail.proofs.row.Row.add.Goals as goal
use Rattle.pp_avail.proofs.row.Row.add.Goals.{After-index}

pub index-requires : goal.index-requires
index-requires c = omega (arith, c.requires.here, c.self.invariant.size, value_size c.self.inside.count c.self.inside.words.items c.args.self.now c.self.view_is)

-- the word before
before : (c : After-index) → IsWordOf c.args.self.now c.args.w c.index.result.now
before c =
    let inside : c.args.w < length c.self.inside.words.items =
    omega (arith, c.requires.here, c.self.invariant.size, value_size c.self.inside.count c.self.inside.words.items c.args.self.now c.self.view_is) in
    subst (λ v. IsWordOf c.args.self.now c.args.w v)
    (sym (c.index.ensures ∙ get_or_default c.self.inside.words.items c.args.w c.index.result.now 0 inside))
    (word_of c.self.inside.count c.self.inside.words.items c.args.self.now c.args.w c.self.view_is c.self.invariant.inside)

pub put_word-requires-clause-inside : goal.put_word-requires-clause-inside
put_word-requires-clause-inside c = λ i among.
    both_inside c.args.self.now c.args.w c.index.result.now c.args.bits i (before (goal.at.put_word-requires-clause-inside c).After-index) c.requires.inside among

pub returns-clause-bits : goal.returns-clause-bits
returns-clause-bits c = λ i.
    c.put_word.ensures.bits i ∙ joined_row c.args.self.now c.args.w c.index.result.now c.args.bits i (before (goal.at.returns-clause-bits c).After-index)
