use Rattle.std.proofs.Common.{subst}
use Rattle.pp_tree.specs.Bits.{bit_of}
use Rattle.pp_tree.specs.Marks.{IsFirstFrom}
use Rattle.pp_avail.proofs.Rows.{none_marked_bits}
use Rattle.pp_avail.proofs.row.Row.is_empty.Goals as goal

pub returns : goal.returns
returns c = λ empty i.
    none_marked_bits c.self.inside.count c.self.inside.words.items c.self.inside.any.items c.self.inside.lacks.items c.args.self.now i c.next_set.result c.is_none.result
    c.self.view_is c.self.invariant
    (subst (λ xs. IsFirstFrom (λ k. bit_of xs k) 0 c.next_set.result) c.deref.ensures.value c.next_set.ensures) c.is_none.ensures empty
