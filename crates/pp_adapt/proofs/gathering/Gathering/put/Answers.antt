use Rattle.std.proofs.Common.{◌≡◌, ap, sym, ◌∙◌, subst, List, [], ℕ, length, take, drop, ◌++◌, arith}
use Rattle.std.specs.Prelude.{slice_index}
use Rattle.std.proofs.lemmas.List.{take_at, nil_from_length}
use Rattle.pp_terms.specs.disk.Disk.{Write}
use Rattle.pp_adapt.specs.declared.extents.Extent.{Extent}
use Rattle.pp_adapt.specs.Gathered.{Gathered, pieces_of, IsGatheredOver}
use Rattle.pp_adapt.proofs.Pieces.{gathered_over}
use Rattle.pp_adapt.proofs.gathering.Gathering.put.Goals as goal
use Rattle.pp_adapt.proofs.gathering.Gathering.put.Goals.{then-is_empty, else-is_empty}

-- the pieces before the write, seen from where the window begins after it
before_is : (c : goal.After-self-2-1) → pieces_of c.if-is_empty.base c.self.inside.bytes.items c.self.inside.extents.items ≡ c.args.self.now.pieces
before_is c = elim c.if-is_empty.branch [
  | then-is_empty w ↦
      let none : c.self.inside.extents.items ≡ [] = nil_from_length c.self.inside.extents.items (grind arith) in
      ap (λ (es : List Extent). pieces_of c.if-is_empty.base c.self.inside.bytes.items es) none
      ∙ ap (λ (es : List Extent). pieces_of c.self.inside.base c.self.inside.bytes.items es) (sym none)
      ∙ ap (λ (g : Gathered). g.pieces) c.self.view_is
  | else-is_empty w ↦
      ap (λ (base : ℕ). pieces_of base c.self.inside.bytes.items c.self.inside.extents.items) w.base-is ∙ ap (λ (g : Gathered). g.pieces) c.self.view_is
]

bytes_are : (c : goal.After-self-2-1) → take c.self.inside.bytes.len (c.overwrite.new.bytes ++ drop (length c.overwrite.new.bytes) c.self.inside.bytes.items) ≡ c.overwrite.new.bytes
bytes_are c = take_at c.overwrite.new.bytes (drop (length c.overwrite.new.bytes) c.self.inside.bytes.items) c.self.inside.bytes.len (omega arith)

pub returns-clause-put : goal.returns-clause-put
returns-clause-put c =
    let at = c.in-Some.ensures.some.0 in
    let over = gathered_over c.if-is_empty.base c.args.place c.in-Some.start c.self.inside.bytes.items c.overwrite.new.bytes c.args.bytes.now
    c.self.inside.extents.items c.add.new.extents.items at c.self.invariant.apart c.add.ensures.apart (omega arith) (omega arith) c.if-not-add.ensures.covered
    c.overwrite.ensures.inside (λ i out. c.overwrite.ensures.outside i out ∙ ap (λ (l : List ℕ). slice_index l i) c.deref_mut.ensures.value) in
    rw (bytes_are c) (subst (λ (before : List Write). IsGatheredOver before c.args.place c.args.bytes.now (pieces_of c.if-is_empty.base c.overwrite.new.bytes c.add.new.extents.items)) (before_is c) over)
