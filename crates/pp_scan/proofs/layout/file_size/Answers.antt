use Rattle.std.proofs.Common.{◌^◌, ◌*◌, ◌≤◌, ◌%◌, arith}
use Rattle.std.proofs.Math.Nat.{mul-le-mul_left}
use Rattle.std.proofs.Math.Pow.{pow_mono}
use Rattle.pp_terms.specs.disk.Store.{slot_size}
use Rattle.pp_scan.proofs.layout.file_size.Goals as goal

pub slot_place-requires-clause-few : goal.slot_place-requires-clause-few
slot_place-requires-clause-few c = let up : 2 ^ c.height.result ≤ 2 ^ 20 = pow_mono c.height.ensures.range in omega (arith, up)

pub returns-clause-most : goal.returns-clause-most
returns-clause-most c =
    let up : 2 ^ c.height.result ≤ 2 ^ 20 = pow_mono c.height.ensures.range in
    let low : (1 * 2 ^ c.height.result) % 2 ^ 32 ≤ 2 ^ 20 = omega (arith, up) in
    let le = mul-le-mul_left (slot_size c.chunk.result) low in
    omega (arith, le, c.slot_place.ensures, c.chunk.ensures.range)
