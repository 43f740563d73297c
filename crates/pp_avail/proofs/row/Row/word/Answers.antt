use Rattle.std.proofs.Common.{◌<◌, length, sym, subst, ◌∙◌, arith}
use Rattle.std.proofs.lemmas.List.{get_or_default}
use Rattle.pp_tree.specs.Sets.{IsWordOf}
use Rattle.pp_tree.proofs.Marking.{value_size, word_of}
use Rattle.pp_avail.proofs.row.Row.word.Goals as goal

pub index-requires : goal.index-requires
index-requires c = omega (arith, c.requires, c.self.invariant.size, value_size c.self.inside.count c.self.inside.words.items c.args.self.now c.self.view_is)

pub returns : goal.returns
returns c =
    let inside : c.args.w < length c.self.inside.words.items =
    omega (arith, c.requires, c.self.invariant.size, value_size c.self.inside.count c.self.inside.words.items c.args.self.now c.self.view_is) in
    subst (λ v. IsWordOf c.args.self.now c.args.w v)
    (sym (c.index.ensures ∙ get_or_default c.self.inside.words.items c.args.w c.index.result.now 0 inside))
    (word_of c.self.inside.count c.self.inside.words.items c.args.self.now c.args.w c.self.view_is c.self.invariant.inside)
