use Rattle.std.proofs.Common.{◌/◌, slice_index, bit_or, ap, ◌∙◌}
use Rattle.std.proofs.lemmas.List.{get_or-set_same}
use Rattle.pp_tree.proofs.Packing.{word_filled, ones_stay}
use Rattle.pp_tree.proofs.bits.fill_word.Goals as goal

pub returns-clause-full : goal.returns-clause-full
returns-clause-full c = λ full.
    get_or-set_same c.args.words.now (c.args.first / 64) (bit_or (slice_index c.args.words.now (c.args.first / 64)) c.mask.result) 0 (rw c.requires.one c.requires.inside)
    ∙ ap (λ w. bit_or w c.mask.result) full ∙ ones_stay c.mask.result c.mask.type_inv

pub returns-clause-bits : goal.returns-clause-bits
returns-clause-bits c = λ i. word_filled c.args.words.now c.args.first c.args.last c.mask.result c.requires.order c.requires.one c.requires.inside c.mask.ensures i
