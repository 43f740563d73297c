use Rattle.std.proofs.Common.{length, replicate, false, sym, ap, ◌∙◌}
use Rattle.std.specs.Vec.{vec_len}
use Rattle.pp_tree.proofs.Packing.{none_set, count_is}
use Rattle.pp_tree.proofs.bits.Bits.clear.Goals as goal

pub returns : goal.returns
returns c =
    none_set c.self.inside.count (vec_len c.self.inside.words) c.fill.new.self.items (c.fill.ensures.items (λ y e. e))
    ∙ ap (λ n. replicate n false) (sym (count_is c.self.inside.count c.self.inside.words.items) ∙ ap (λ xs. length xs) c.self.view_is)
