use Rattle.std.proofs.Common.{◌≤◌, ◌∙◌, refl, ap, sym, length, decimal, arith}
use Rattle.std.proofs.lemmas.List.{length-take-le}
use Rattle.pp_tree.specs.Method.{method_of}
use Rattle.pp_tree.proofs.TextPieces.{text_of_pieces}
use Rattle.pp_tree.proofs.Digits.{chunk_digits, size_digits, method_digits}
use Rattle.pp_tree.proofs.descriptor.Descriptor.write.Goals as goal

pub put_decimal-at-requires : goal.put_decimal-at-requires
put_decimal-at-requires c =
    let chunk : length (decimal c.from.result) ≤ 4 = rw c.from.ensures (chunk_digits _ c.self.invariant.chunk_size) in
    omega arith

pub put-at-requires-3 : goal.put-at-requires-3
put-at-requires-3 c =
    let chunk : length (decimal c.from.result) ≤ 4 = rw c.from.ensures (chunk_digits _ c.self.invariant.chunk_size) in
    omega arith

pub put_decimal-at-requires-2 : goal.put_decimal-at-requires-2
put_decimal-at-requires-2 c =
    let chunk : length (decimal c.from.result) ≤ 4 = rw c.from.ensures (chunk_digits _ c.self.invariant.chunk_size) in
    let size = size_digits _ _ c.self.invariant.chunk_size c.self.invariant.content_size in
    omega (arith, size)

pub put-at-requires-4 : goal.put-at-requires-4
put-at-requires-4 c =
    let chunk : length (decimal c.from.result) ≤ 4 = rw c.from.ensures (chunk_digits _ c.self.invariant.chunk_size) in
    let size = size_digits _ _ c.self.invariant.chunk_size c.self.invariant.content_size in
    omega (arith, size)

pub put_decimal-requires : goal.put_decimal-requires
put_decimal-requires c =
    let chunk : length (decimal c.from.result) ≤ 4 = rw c.from.ensures (chunk_digits _ c.self.invariant.chunk_size) in
    let size = size_digits _ _ c.self.invariant.chunk_size c.self.invariant.content_size in
    let method : length (decimal c.from-2.result) ≤ 1 =
    rw (c.from-2.ensures, c.number.ensures) (method_digits (method_of c.self.inside.method)) in
    omega (arith, size)

pub returns-clause-text : goal.returns-clause-text
returns-clause-text c =
    rw (← c.self.view_is) (text_of_pieces _ c.bytes.result.now c.from.result c.self.inside.size c.from-2.result
    _ _ _ _ _ _ _ _ c.bytes.ensures.same c.from.ensures refl (c.from-2.ensures ∙ c.number.ensures)
    c.put-at.ensures.front c.put_hex-at.ensures.front c.put-at-2.ensures.front c.put_decimal-at.ensures.front
    c.put-at-3.ensures.front c.put_decimal-at-2.ensures.front c.put-at-4.ensures.front c.put_decimal.ensures.front)

pub returns-clause-len : goal.returns-clause-len
returns-clause-len c =
    let chunk : length (decimal c.from.result) ≤ 4 = rw c.from.ensures (chunk_digits _ c.self.invariant.chunk_size) in
    let size = size_digits _ _ c.self.invariant.chunk_size c.self.invariant.content_size in
    let method : length (decimal c.from-2.result) ≤ 1 =
    rw (c.from-2.ensures, c.number.ensures) (method_digits (method_of c.self.inside.method)) in
    let fits : c.put_decimal.result ≤ length c.put_decimal.new.out = omega (arith, size) in
    let text = returns-clause-text c in
    sym (length-take-le c.put_decimal.result c.put_decimal.new.out fits) ∙ ap length text
