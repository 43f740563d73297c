-- How many decimal digits the numbers of a descriptor have.
use Rattle.std.proofs.Common.{ℕ, ◌≤◌, ◌<◌, length, decimal, arith}
use Rattle.std.proofs.lemmas.Fmt.{length-decimal-le}
use Rattle.pp_terms.specs.tree.Content.{IsChunkSize, IsContentSize}
use Rattle.pp_terms.specs.format.Descriptor.{Method, method_number, Bin32, Range32, Bin64, Range64}
use Rattle.pp_tree.proofs.Sizes.{chunk_size_range, content_size_range}

pub chunk_digits : (n : ℕ) → IsChunkSize n → length (decimal n) ≤ 4
chunk_digits n h =
    let range = chunk_size_range n h in length-decimal-le 4 n (omega arith) (omega (arith, range.1)) (omega (arith, range.1))

pub size_digits : (chunk n : ℕ) → IsChunkSize chunk → IsContentSize chunk n → length (decimal n) ≤ 10
size_digits chunk n size is =
    let range = content_size_range chunk n size is in
    length-decimal-le 10 n (omega arith) (omega (arith, range.1)) (omega (arith, range.1))

pub method_below : (m : Method) → method_number m < 10
method_below Bin32 = omega arith
method_below Range32 = omega arith
method_below Bin64 = omega arith
method_below Range64 = omega arith

pub method_digits : (m : Method) → length (decimal (method_number m)) ≤ 1
method_digits m =
    let below = method_below m in length-decimal-le 1 (method_number m) (omega arith) (omega (arith, below)) (omega (arith, below))
