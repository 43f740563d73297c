use Rattle.std.proofs.Common.{◌/◌, ◌%◌, ◌<◌, ◌==◌, sym, ap, ◌∙◌, arith}
use Rattle.std.specs.Int.{bit_at}
use Rattle.std.proofs.lemmas.Nat.Bits.{shr_and_one}
use Rattle.std.proofs.lemmas.List.{get_or_default}
use Rattle.pp_tree.proofs.Marking.{value_bit, value_size}
use Rattle.pp_avail.proofs.row.Row.has.Goals as goal

pub index-requires : goal.index-requires
index-requires c =
    omega (arith, c.requires, c.self.invariant.size, value_size c.self.inside.count c.self.inside.words.items c.args.self.now c.self.view_is)

pub returns : goal.returns
returns c =
    let inside : c.args.i < c.self.inside.count = omega (arith, c.requires, value_size c.self.inside.count c.self.inside.words.items c.args.self.now c.self.view_is) in
    ap (λ b. b == 1) (shr_and_one c.index.result.now (c.args.i % 64)
    ∙ ap (λ w. bit_at w (c.args.i % 64)) (c.index.ensures ∙ get_or_default c.self.inside.words.items (c.args.i / 64) c.index.result.now 0 (omega (arith, inside, c.self.invariant.size))))
    ∙ sym (value_bit c.self.inside.count c.self.inside.words.items c.args.self.now c.args.i c.self.view_is c.self.invariant.inside)
