use Rattle.std.proofs.Common.{◌+◌, ◌*◌, arith}
use Rattle.pp_avail.specs.Planes.{number_at}
use Rattle.pp_avail.proofs.Numbers.{numbers_size, place_read, found_in_word}
use Rattle.pp_avail.proofs.copies.Copies.in_word.Goals as goal

pub overflow_cast-w : goal.overflow_cast-w
overflow_cast-w c = omega (arith, c.requires.here, c.self.invariant.small, numbers_size c.self.inside.planes.items c.args.self.now c.self.view_is)

pub index-requires : goal.index-requires
index-requires c = omega (arith, c.requires.here, numbers_size c.self.inside.planes.items c.args.self.now c.self.view_is)

pub returns : goal.returns
returns c = λ k lt.
    found_in_word c.word.result c.word-2.result c.places_of-places.result (number_at c.index.result.now k) k c.args.wanted.now c.args.row.now c.args.self.now c.args.copies (64 * c.args.w + k)
    (c.word.ensures k lt) (c.word-2.ensures k lt) (c.places_of-places.ensures k lt)
    (place_read c.self.inside.planes.items c.args.self.now c.index.result.now c.args.w k c.self.view_is
    (omega (arith, c.requires.here, numbers_size c.self.inside.planes.items c.args.self.now c.self.view_is)) c.index.ensures lt)
