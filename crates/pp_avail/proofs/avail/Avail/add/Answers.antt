use Rattle.std.proofs.Common.{◌≡◌, ◌==◌, ◌&&◌, ◌||◌, false, [], ap, sym, ◌∙◌, arith, length, slice_index, slice_index_or}
use Rattle.pp_avail.specs.Rows.{is_among}
use Rattle.pp_avail.proofs.Counting.{seat_read, room, counted_anew, counts_with, row_with, fresh_parts, has_added}
use Rattle.pp_avail.proofs.avail.Avail.add.Goals as goal

pub add-requires-clause-inside : goal.add-requires-clause-inside
add-requires-clause-inside c = λ i among.
    let row : c.index_mut-row.result.now ≡ slice_index_or c.self.inside.seats.items c.args.seat [] =
    seat_read c.self.inside.seats.items c.args.seat c.index_mut-row.result.now (omega (arith, c.self.invariant.width, c.requires.seat)) c.index_mut-row.ensures.value in
    let parts = fresh_parts c.index_mut-row.result.now c.args.w c.args.chunks c.word.result i c.word.type_inv c.word.ensures among in
    omega (arith, c.requires.inside i parts.0, ap (λ xs. length xs) row, c.self.invariant.sizes c.args.seat c.requires.seat, ap (λ o. o.chunks) c.self.view_is)

pub raise-requires-clause-room : goal.raise-requires-clause-room
raise-requires-clause-room c = λ i among.
    let row : c.index_mut-row.result.now ≡ slice_index_or c.self.inside.seats.items c.args.seat [] =
    seat_read c.self.inside.seats.items c.args.seat c.index_mut-row.result.now (omega (arith, c.self.invariant.width, c.requires.seat)) c.index_mut-row.ensures.value in
    let parts = fresh_parts c.index_mut-row.result.now c.args.w c.args.chunks c.word.result i c.word.type_inv c.word.ensures among in
    room c.self.inside.chunks c.self.inside.seats.items c.self.inside.counts c.args.seat i c.self.invariant c.requires.seat
    (ap (λ xs. slice_index_or xs i false) (sym row) ∙ parts.1)

pub invariant_of-self : goal.invariant_of-self
invariant_of-self c =
    let row : c.index_mut-row.result.now ≡ slice_index_or c.self.inside.seats.items c.args.seat [] =
    seat_read c.self.inside.seats.items c.args.seat c.index_mut-row.result.now (omega (arith, c.self.invariant.width, c.requires.seat)) c.index_mut-row.ensures.value in
    counted_anew c.self.inside.chunks c.self.inside.seats.items c.self.inside.counts c.raise.new.self c.args.seat c.add.new.self c.self.invariant c.requires.seat
    (c.add.ensures.len ∙ ap (λ xs. length xs) row ∙ c.self.invariant.sizes c.args.seat c.requires.seat)
    c.raise.ensures.len
    (λ i. counts_with (slice_index_or c.self.inside.seats.items c.args.seat []) c.index_mut-row.result.now c.add.new.self c.args.w c.args.chunks c.word.result i
    (slice_index c.self.inside.counts i) (slice_index c.raise.new.self i) row c.word.type_inv c.word.ensures (c.add.ensures.bits i) (c.raise.ensures.counts i))

pub returns-clause-seats : goal.returns-clause-seats
returns-clause-seats c = λ s i.
    let row : c.index_mut-row.result.now ≡ slice_index_or c.self.inside.seats.items c.args.seat [] =
    seat_read c.self.inside.seats.items c.args.seat c.index_mut-row.result.now (omega (arith, c.self.invariant.width, c.requires.seat)) c.index_mut-row.ensures.value in
    has_added c.self.inside.seats.items c.args.seat s i c.add.new.self (is_among c.args.w c.args.chunks i) (omega (arith, c.self.invariant.width, c.requires.seat))
    (row_with (slice_index_or c.self.inside.seats.items c.args.seat []) c.index_mut-row.result.now c.add.new.self c.args.w c.args.chunks c.word.result i row c.word.type_inv c.word.ensures (c.add.ensures.bits i))
    ∙ ap (λ o. slice_index_or (slice_index_or o.seats s []) i false || (s == c.args.seat && is_among c.args.w c.args.chunks i)) c.self.view_is
