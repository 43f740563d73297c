use Rattle.std.proofs.Common.{◌≡◌, ◌<◌, ◌+◌, ◌*◌, [], length, sym, subst, ap, ◌∙◌, arith, slice_index_or, slice_set}
use Rattle.std.specs.Vec.{with_items}
use Rattle.std.proofs.lemmas.List.{with_items_is}
use Rattle.pp_avail.specs.Planes.{no_planes}
use Rattle.pp_avail.specs.Levels.{is_in, IsLevelAt, IsLevelled}
use Rattle.pp_avail.proofs.Numbers.{numbers_size, number_read, number_here, numbers_written, levelled_anew}
use Rattle.pp_avail.proofs.copies.Copies.replace.Goals as goal

pub index_mut-requires : goal.index_mut-requires
index_mut-requires c = omega (arith, c.requires.here, numbers_size c.self.inside.planes.items c.args.self.now c.self.view_is)

pub refresh-requires-clause-sizes : goal.refresh-requires-clause-sizes
refresh-requires-clause-sizes c = λ k lt.
    omega (
      arith,
      c.self.invariant.sizes k lt,
      ap (λ xs. length (slice_index_or xs k [])) c.deref_mut.ensures.value,
      c.requires.here,
      numbers_size c.self.inside.planes.items c.args.self.now c.self.view_is,
    )

pub invariant_of-self : goal.invariant_of-self
invariant_of-self c =
    let inside : c.args.w < length c.self.inside.planes.items = omega (arith, c.requires.here, numbers_size c.self.inside.planes.items c.args.self.now c.self.view_is) in
    let whole : (with_items c.self.inside.levels c.refresh.new.levels).items ≡ c.refresh.new.levels =
    with_items_is c.self.inside.levels c.refresh.new.levels
    (omega (arith, c.refresh.ensures.width, c.deref_mut.ensures.len, ap (λ xs. length xs) c.deref_mut.ensures.value, c.self.invariant.width)) in
    subst (λ xs. IsLevelled (slice_set c.self.inside.planes.items c.args.w c.args.planes) xs) (sym whole)
    (levelled_anew c.self.inside.planes.items c.self.inside.levels.items c.refresh.new.levels c.args.w c.args.planes c.self.invariant inside c.requires.most c.refresh.ensures.width
    (λ k. c.refresh.ensures.sizes k ∙ ap (λ xs. length (slice_index_or xs k [])) c.deref_mut.ensures.value)
    (λ k v other. c.refresh.ensures.others k v other ∙ ap (λ xs. is_in xs k v) c.deref_mut.ensures.value)
    (c.refresh.ensures.here (slice_index_or c.self.inside.planes.items c.args.w no_planes)
    (λ k lt. sym (number_read c.self.inside.planes.items c.args.self.now (64 * c.args.w + k) c.self.view_is ∙ number_here c.self.inside.planes.items c.args.w k lt)
    ∙ c.requires.stepped k lt)
    (λ fewer lt. subst (λ xs. IsLevelAt xs c.args.w (slice_index_or c.self.inside.planes.items c.args.w no_planes) fewer) (sym c.deref_mut.ensures.value)
    (c.self.invariant.level c.args.w fewer lt inside))))

pub returns-clause-counts : goal.returns-clause-counts
returns-clause-counts c = λ i.
    numbers_written c.self.inside.planes.items c.args.self.now c.args.w i c.args.planes c.self.view_is
    (omega (arith, c.requires.here, numbers_size c.self.inside.planes.items c.args.self.now c.self.view_is))
