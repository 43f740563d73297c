-- The header's parts, written one after another over zeros.
use Rattle.std.proofs.Common.{◌≡◌, ℕ, List, ◌++◌, replicate, codes}
use Rattle.std.specs.Int.{w32, w64, to_be_bytes}
use borrow.Rule.Slice.PartMut.{put_mid}
use Rattle.pp_terms.specs.format.Descriptor.{Descriptor}
use Rattle.pp_terms.specs.disk.Store.{header}

pub header_placed : (d : Descriptor) (name chunk size root : List ℕ) → name ≡ codes "PPSTORE2" → chunk ≡ to_be_bytes w32 d.chunk → size ≡ to_be_bytes w64 d.size → root ≡ d.root
    → put_mid 20 32 (put_mid 12 8 (put_mid 8 4 (name ++ replicate 56 0) chunk) size) root ≡ header d
unfolding header
header_placed d name chunk size root is_name is_chunk is_size is_root =
    λ i. put_mid 20 32 (put_mid 12 8 (put_mid 8 4 (is_name i ++ replicate 56 0) (is_chunk i)) (is_size i)) (is_root i)
