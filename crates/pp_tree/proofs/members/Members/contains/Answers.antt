use Rattle.std.proofs.Common.{◌/◌, ◌%◌, ◌<◌, ◌==◌, length, false, sym, ap, ◌∙◌, arith, slice_index_or}
use Rattle.std.specs.Int.{bit_at}
use Rattle.std.proofs.lemmas.Nat.Bits.{shr_and_one}
use Rattle.std.proofs.lemmas.List.{get_or_default}
use Rattle.pp_tree.proofs.Packing.{bit_in, count_is}
use Rattle.pp_tree.proofs.members.Members.contains.Goals as goal

pub index-requires : goal.index-requires
index-requires c =
    omega (arith, c.self.invariant.size, ap (λ xs. length xs) c.self.view_is, count_is c.self.inside.count c.self.inside.words.items)

pub returns : goal.returns
returns c =
    let inside : c.args.i < c.self.inside.count = omega (arith, ap (λ xs. length xs) c.self.view_is, count_is c.self.inside.count c.self.inside.words.items) in
    ap (λ b. b == 1) (shr_and_one c.index.result.now (c.args.i % 64)
    ∙ ap (λ w. bit_at w (c.args.i % 64)) (c.index.ensures ∙ get_or_default c.self.inside.words.items (c.args.i / 64) c.index.result.now 0 (omega (arith, inside, c.self.invariant.size))))
    ∙ sym (bit_in c.self.inside.count c.self.inside.words.items c.args.i inside)
    ∙ ap (λ xs. slice_index_or xs c.args.i false) c.self.view_is
