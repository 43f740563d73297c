use Rattle.std.proofs.Common.{◌≡◌, ◌<◌, ◌+◌, ◌*◌, ◌%◌, length, ◌∙◌, arith, slice_index}
use Rattle.std.specs.Int.{bit_at}
use Rattle.std.proofs.lemmas.Nat.Bits.{bit_at-lt}
use Rattle.pp_avail.specs.Planes.{number_at}
use Rattle.pp_avail.proofs.Numbers.{raised_step, numbers_size, number_read, place_read, number_by_word, among_place, room_for_more, still_most, counts_raised}
use Rattle.pp_avail.proofs.copies.Copies.raise.Goals as goal

pub index-requires : goal.index-requires
index-requires c = omega (arith, c.requires.here, numbers_size c.self.inside.planes.items c.args.self.now c.self.view_is)

pub raise-requires : goal.raise-requires
raise-requires c = λ k.
    let inside : c.args.w < length c.self.inside.planes.items = omega (arith, c.requires.here, numbers_size c.self.inside.planes.items c.args.self.now c.self.view_is) in
    room_for_more c.index.result.now c.args.chunks k c.ranges.chunks.fits (λ lt one.
    omega (
      arith,
      c.requires.room (64 * c.args.w + k) (among_place c.args.w c.args.chunks k lt one),
      place_read c.self.inside.planes.items c.args.self.now c.index.result.now c.args.w k c.self.view_is inside c.index.ensures lt,
    ))

pub replace-requires-clause-most : goal.replace-requires-clause-most
replace-requires-clause-most c = λ k lt.
    let inside : c.args.w < length c.self.inside.planes.items = omega (arith, c.requires.here, numbers_size c.self.inside.planes.items c.args.self.now c.self.view_is) in
    let read : slice_index c.args.self.now (64 * c.args.w + k) ≡ number_at c.index.result.now k =
    place_read c.self.inside.planes.items c.args.self.now c.index.result.now c.args.w k c.self.view_is inside c.index.ensures lt in
    let most = c.self.invariant.most (64 * c.args.w + k) in
    let number = number_read c.self.inside.planes.items c.args.self.now (64 * c.args.w + k) c.self.view_is in
    omega (
      arith,
      c.raise.ensures k,
      still_most c.index.result.now c.args.chunks k (omega (arith, most, number, read))
          (λ one. omega (arith, c.requires.room (64 * c.args.w + k) (among_place c.args.w c.args.chunks k lt one), read)),
    )

pub replace-requires-clause-steps : goal.replace-requires-clause-steps
replace-requires-clause-steps c = λ k one. omega (arith, c.raise.ensures k, one)

pub replace-requires-clause-stepped : goal.replace-requires-clause-stepped
replace-requires-clause-stepped c = λ k lt.
    let inside : c.args.w < length c.self.inside.planes.items = omega (arith, c.requires.here, numbers_size c.self.inside.planes.items c.args.self.now c.self.view_is) in
    place_read c.self.inside.planes.items c.args.self.now c.index.result.now c.args.w k c.self.view_is inside c.index.ensures lt
    ∙ raised_step (number_at c.index.result.now k) (number_at c.raise.new.self k) (bit_at c.args.chunks k) (bit_at-lt c.args.chunks k) (c.raise.ensures k)

pub returns-clause-counts : goal.returns-clause-counts
returns-clause-counts c = λ i.
    let inside : c.args.w < length c.self.inside.planes.items = omega (arith, c.requires.here, numbers_size c.self.inside.planes.items c.args.self.now c.self.view_is) in
    c.replace.ensures.counts i
    ∙ counts_raised (slice_index c.args.self.now i) (number_at c.index.result.now (i % 64)) (number_at c.raise.new.self (i % 64)) c.args.w c.args.chunks i
    (λ here. number_by_word c.self.inside.planes.items c.args.self.now c.index.result.now c.args.w i c.self.view_is inside c.index.ensures here)
    (c.raise.ensures (i % 64))
