use Rattle.std.proofs.Common.{◌<◌, ◌/◌, ◌==◌, ◌&&◌, ◌||◌, not, false, length, sym, subst, ap, ◌∙◌, arith, slice_index_or}
use Rattle.std.proofs.lemmas.List.{get_or_default}
use Rattle.std.proofs.lemmas.Bool.{both_ways}
use Rattle.pp_tree.specs.Sets.{IsWordOf}
use Rattle.pp_tree.proofs.Marking.{value_size, word_of}
use Rattle.pp_avail.specs.Rows.{is_among}
use Rattle.pp_avail.proofs.Rows.{none_among}
use Rattle.pp_avail.proofs.row.Row.take.Goals as goal

pub index-word-requires : goal.index-word-requires
index-word-requires c = omega (arith, c.requires, c.self.invariant.size, value_size c.self.inside.count c.self.inside.words.items c.args.self.now c.self.view_is)

pub put_word-requires-clause-inside : goal.put_word-requires-clause-inside
put_word-requires-clause-inside c = λ i among. absurd (both_ways (is_among c.args.w 0 i) (none_among c.args.w i) among)

pub returns-clause-word : goal.returns-clause-word
returns-clause-word c =
    let inside : c.args.w < length c.self.inside.words.items =
    omega (arith, c.requires, c.self.invariant.size, value_size c.self.inside.count c.self.inside.words.items c.args.self.now c.self.view_is) in
    subst (λ v. IsWordOf c.args.self.now c.args.w v)
    (sym (c.index-word.ensures ∙ get_or_default c.self.inside.words.items c.args.w c.index-word.result.now 0 inside))
    (word_of c.self.inside.count c.self.inside.words.items c.args.self.now c.args.w c.self.view_is c.self.invariant.inside)

pub returns-clause-bits : goal.returns-clause-bits
returns-clause-bits c = λ i.
    c.put_word.ensures.bits i ∙ ap (λ b. b || (not (i / 64 == c.args.w) && slice_index_or c.args.self.now i false)) (none_among c.args.w i)
