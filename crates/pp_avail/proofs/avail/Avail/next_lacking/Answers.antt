use Rattle.std.proofs.Common.{◌≡◌, [], ap, ◌∙◌, arith, length, slice_index_or}
use Rattle.pp_avail.proofs.Counting.{seat_read, lacking_of_seat}
use Rattle.pp_avail.proofs.avail.Avail.next_lacking.Goals as goal

pub returns : goal.returns
returns c =
    let row : c.index.result.now ≡ slice_index_or c.self.inside.seats.items c.args.seat [] =
    seat_read c.self.inside.seats.items c.args.seat c.index.result.now (omega (arith, c.self.invariant.width, c.requires)) c.index.ensures in
    lacking_of_seat c.args.self.now c.args.seat c.args.from c.args.to c.index.result.now c.next_lacking.result
    (row ∙ ap (λ o. slice_index_or o.seats c.args.seat []) c.self.view_is)
    (ap (λ xs. length xs) row ∙ c.self.invariant.sizes c.args.seat c.requires ∙ ap (λ o. o.chunks) c.self.view_is)
    c.next_lacking.ensures
