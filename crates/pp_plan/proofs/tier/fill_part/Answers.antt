use Rattle.pp_tree.proofs.Packing.{word_filled}
use Rattle.pp_plan.proofs.tier.fill_part.Goals as goal

pub returns-clause-bits : goal.returns-clause-bits
returns-clause-bits c = word_filled c.args.words.now c.args.first c.args.last c.mask.result c.requires.order c.requires.one c.requires.inside c.mask.ensures
