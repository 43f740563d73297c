use Rattle.std.proofs.Common.{◌≡◌, ◌<◌, ◌+◌, ◌*◌, ◌%◌, cond, length, ap, ◌∙◌, arith, slice_index}
use Rattle.std.specs.Int.{bit_at}
use Rattle.std.proofs.lemmas.Nat.Bits.{bit_at-lt}
use Rattle.pp_tree.proofs.Marking.{place_in}
use Rattle.pp_avail.specs.Planes.{number_at}
use Rattle.pp_avail.specs.Rows.{is_among}
use Rattle.pp_avail.proofs.Numbers.{lowered_step, numbers_size, number_read, place_read, number_by_word, among_place, one_to_take, counts_lowered}
use Rattle.pp_avail.proofs.copies.Copies.lower.Goals as goal

pub index-requires : goal.index-requires
index-requires c = omega (arith, c.requires.here, numbers_size c.self.inside.planes.items c.args.self.now c.self.view_is)

pub lower-requires : goal.lower-requires
lower-requires c = λ k.
    let inside : c.args.w < length c.self.inside.planes.items = omega (arith, c.requires.here, numbers_size c.self.inside.planes.items c.args.self.now c.self.view_is) in
    one_to_take c.index.result.now c.args.chunks k c.ranges.chunks.fits (λ lt one.
    omega (
      arith,
      c.requires.some (64 * c.args.w + k) (among_place c.args.w c.args.chunks k lt one),
      place_read c.self.inside.planes.items c.args.self.now c.index.result.now c.args.w k c.self.view_is inside c.index.ensures lt,
    ))

pub replace-requires-clause-most : goal.replace-requires-clause-most
replace-requires-clause-most c = λ k lt.
    let inside : c.args.w < length c.self.inside.planes.items = omega (arith, c.requires.here, numbers_size c.self.inside.planes.items c.args.self.now c.self.view_is) in
    let read : slice_index c.args.self.now (64 * c.args.w + k) ≡ number_at c.index.result.now k =
    place_read c.self.inside.planes.items c.args.self.now c.index.result.now c.args.w k c.self.view_is inside c.index.ensures lt in
    let most = c.self.invariant.most (64 * c.args.w + k) in
    let number = number_read c.self.inside.planes.items c.args.self.now (64 * c.args.w + k) c.self.view_is in
    omega (arith, c.lower.ensures k, most, number, read)

pub replace-requires-clause-steps : goal.replace-requires-clause-steps
replace-requires-clause-steps c = λ k one.
    let inside : c.args.w < length c.self.inside.planes.items = omega (arith, c.requires.here, numbers_size c.self.inside.planes.items c.args.self.now c.self.view_is) in
    let lt : k < 64 = place_in c.args.chunks k c.ranges.chunks.fits one in
    let read : slice_index c.args.self.now (64 * c.args.w + k) ≡ number_at c.index.result.now k =
    place_read c.self.inside.planes.items c.args.self.now c.index.result.now c.args.w k c.self.view_is inside c.index.ensures lt in
    let most = c.self.invariant.most (64 * c.args.w + k) in
    let number = number_read c.self.inside.planes.items c.args.self.now (64 * c.args.w + k) c.self.view_is in
    omega (arith, c.lower.ensures k, one, most, number, read)

pub replace-requires-clause-stepped : goal.replace-requires-clause-stepped
replace-requires-clause-stepped c = λ k lt.
    let inside : c.args.w < length c.self.inside.planes.items = omega (arith, c.requires.here, numbers_size c.self.inside.planes.items c.args.self.now c.self.view_is) in
    place_read c.self.inside.planes.items c.args.self.now c.index.result.now c.args.w k c.self.view_is inside c.index.ensures lt
    ∙ lowered_step (number_at c.index.result.now k) (number_at c.lower.new.self k) (bit_at c.args.chunks k) (bit_at-lt c.args.chunks k) (c.lower.ensures k)

pub returns-clause-counts : goal.returns-clause-counts
returns-clause-counts c = λ i.
    let inside : c.args.w < length c.self.inside.planes.items = omega (arith, c.requires.here, numbers_size c.self.inside.planes.items c.args.self.now c.self.view_is) in
    ap (λ n. n + cond (is_among c.args.w c.args.chunks i) 1 0) (c.replace.ensures.counts i)
    ∙ counts_lowered (slice_index c.args.self.now i) (number_at c.index.result.now (i % 64)) (number_at c.lower.new.self (i % 64)) c.args.w c.args.chunks i
    (λ here. number_by_word c.self.inside.planes.items c.args.self.now c.index.result.now c.args.w i c.self.view_is inside c.index.ensures here)
    (c.lower.ensures (i % 64))
