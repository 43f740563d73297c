use Rattle.std.proofs.Common.{◌≡◌, [], ap, ◌∙◌, arith, length, slice_index, slice_index_or}
use Rattle.pp_avail.proofs.Counting.{seat_read, counted_anew, counts_without}
use Rattle.pp_avail.proofs.avail.Avail.take.Goals as goal

pub invariant_of-self : goal.invariant_of-self
invariant_of-self c =
    let row : c.index_mut-row.result.now ≡ slice_index_or c.self.inside.seats.items c.args.seat [] =
    seat_read c.self.inside.seats.items c.args.seat c.index_mut-row.result.now (omega (arith, c.self.invariant.width, c.requires.seat)) c.index_mut-row.ensures.value in
    counted_anew c.self.inside.chunks c.self.inside.seats.items c.self.inside.counts c.lower.new.self c.args.seat c.take-chunks.new.self c.self.invariant c.requires.seat
    (c.take-chunks.ensures.len ∙ ap (λ xs. length xs) row ∙ c.self.invariant.sizes c.args.seat c.requires.seat)
    c.lower.ensures.len
    (λ i. counts_without (slice_index_or c.self.inside.seats.items c.args.seat []) c.index_mut-row.result.now c.take-chunks.new.self c.args.w c.take-chunks.result i
    (slice_index c.self.inside.counts i) (slice_index c.lower.new.self i) row c.take-chunks.ensures.word (c.take-chunks.ensures.bits i) (c.lower.ensures.counts i))
