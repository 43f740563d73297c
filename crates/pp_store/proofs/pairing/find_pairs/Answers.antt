use Rattle.std.proofs.Common.{◌+◌, length, arith, sym, ◌∙◌, ap, subst, List, Bool, true}
use Rattle.std.specs.Prelude.{is_some}
use Rattle.pp_terms.specs.format.Descriptor.{height_of}
use Rattle.pp_tree.specs.Book.{entry}
use Rattle.std.proofs.Math.ListN.{length-set}
use Rattle.pp_store.proofs.Marking.{IsMarking, marked, unmarked, none_size}
use Rattle.pp_store.proofs.pairing.find_pairs.Goals as goal
use Rattle.pp_store.proofs.pairing.find_pairs.Goals.{then-left-height+then-is_some, else-left-height, else-left-height-via-then-left-height+else-is_some, else-left-height-via-else-left-height}

pub set-requires : goal.set-requires
set-requires c =
    let size = none_size c.args.pairs.now _ c.requires.none in
    omega (arith, size, c.loop-slot.invariant.size, c.chunks-slot-end.ensures.chunks)

pub loop-slot-preserved : goal.loop-slot-preserved
loop-slot-preserved c = elim c.if-left-height.branch [
  | then-left-height+then-is_some w ↦
      let size = none_size c.args.pairs.now _ c.requires.none in
      record {
        size = ap (λ (ps : List Bool). length ps) (w.pairs-is ∙ w.set.ensures) ∙ length-set c.loop-slot.pairs c.loop-slot.slot true ∙ c.loop-slot.invariant.size;
        marking = marked (height_of c.args.descriptor.now) (entry c.args.book.now) c.loop-slot.pairs c.loop-slot.slot c.left_child-left.result.layer
            c.left_child-left.result.offset c.left_child-left.ensures c.loop-slot.invariant.marking c.if-left-height.pairs
            (omega (arith, size, c.loop-slot.invariant.size, c.chunks-slot-end.ensures.chunks))
            (ap (λ o. is_some o) (sym w.get.ensures.get) ∙ sym w.is_some.ensures ∙ w.if-is_some.true) (w.pairs-is ∙ w.set.ensures);
      }
  | else-left-height w ↦ elim w.else-left-height.branch [
    | else-left-height-via-then-left-height+else-is_some w' ↦ record {
      size = ap (λ (ps : List Bool). length ps) w.pairs-is ∙ c.loop-slot.invariant.size;
      marking = subst (λ (ps : List Bool). IsMarking (height_of c.args.descriptor.now) (entry c.args.book.now) ps (c.loop-slot.slot + 1)) (sym w.pairs-is)
          (unmarked (height_of c.args.descriptor.now) (entry c.args.book.now) c.loop-slot.pairs c.loop-slot.slot c.left_child-left.result.layer
          c.left_child-left.result.offset c.left_child-left.ensures c.loop-slot.invariant.marking
          (λ low. ap (λ o. is_some o) (sym w'.get.ensures.get) ∙ sym w'.is_some.ensures ∙ w'.if-is_some.false));
    }
    | else-left-height-via-else-left-height w' ↦ record {
      size = ap (λ (ps : List Bool). length ps) w.pairs-is ∙ c.loop-slot.invariant.size;
      marking = subst (λ (ps : List Bool). IsMarking (height_of c.args.descriptor.now) (entry c.args.book.now) ps (c.loop-slot.slot + 1)) (sym w.pairs-is)
          (unmarked (height_of c.args.descriptor.now) (entry c.args.book.now) c.loop-slot.pairs c.loop-slot.slot c.left_child-left.result.layer
          c.left_child-left.result.offset c.left_child-left.ensures c.loop-slot.invariant.marking
          (λ low. absurd (let high = w'.if-left-height.false in omega (arith, high, low, c.height-height.ensures.height))));
    }
  ]
]
