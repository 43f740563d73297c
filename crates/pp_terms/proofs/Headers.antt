-- The header of a store.
use Rattle.std.proofs.Common.{◌≡◌, length, get_or, replicate, refl, arith}
use Rattle.std.proofs.lemmas.List.{length-append}
use Rattle.pp_terms.specs.format.Descriptor.{Descriptor}
use Rattle.pp_terms.specs.disk.Store.{header}

pub length-header : (d : Descriptor) → length d.root ≡ 32 → length (header d) ≡ 64
unfolding header
length-header d is = omega (arith, length-append d.root (replicate 12 0))

-- a header begins with a P
pub header-first : (d : Descriptor) → get_or (header d) 0 0 ≡ 80
unfolding header
header-first d = refl
