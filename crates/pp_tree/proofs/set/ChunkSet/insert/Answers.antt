use Rattle.std.proofs.Common.{◌<◌, ◌^◌, length, sym, subst, ap, ◌∙◌, List, Bool, arith}
use Rattle.std.specs.Prelude.{count_by}
use Rattle.pp_tree.proofs.HeldCounts.{room_for}
use Rattle.pp_tree.proofs.set.ChunkSet.insert.Goals as goal

pub overflow_add-self : goal.overflow_add-self
overflow_add-self c =
    let room = room_for c.args.self.now c.args.i c.requires (sym c.contains.ensures ∙ c.if-not-contains.true) in
    let short : length c.args.self.now < 2 ^ 32 = subst (λ (xs : List Bool). length xs < 2 ^ 32) c.self.view_is c.self.invariant.0 in
    let count = c.self.invariant.1 ∙ ap (λ (xs : List Bool). count_by (λ (b : Bool). b) xs) c.self.view_is in
    omega (arith, room, short, count)
