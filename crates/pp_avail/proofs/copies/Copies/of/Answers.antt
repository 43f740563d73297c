use Rattle.std.proofs.Common.{◌/◌, refl, ◌∙◌, arith}
use Rattle.pp_avail.proofs.Numbers.{numbers_size, number_by_word}
use Rattle.pp_avail.proofs.copies.Copies.of.Goals as goal

pub index-requires : goal.index-requires
index-requires c = omega (arith, c.requires, numbers_size c.self.inside.planes.items c.args.self.now c.self.view_is)

pub returns : goal.returns
returns c = c.at.ensures.value ∙ number_by_word c.self.inside.planes.items c.args.self.now c.index.result.now (c.args.i / 64) c.args.i c.self.view_is
    (omega (arith, c.requires, numbers_size c.self.inside.planes.items c.args.self.now c.self.view_is)) c.index.ensures refl
