-- The text of a descriptor, put together from left to right.
use Rattle.std.proofs.Common.{◌≡◌, ℕ, List, ◌++◌, codes, decimal, ap, ◌∙◌, refl}
use Rattle.hex.specs.Hex.{encode_lower}
use Rattle.pp_terms.specs.format.Descriptor.{Descriptor, descriptor_text, method_number}

pub text_of_pieces : (d : Descriptor) (root : List ℕ) (chunk size method : ℕ) (t1 t2 t3 t4 t5 t6 t7 t8 : List ℕ)
    → root ≡ d.root → chunk ≡ d.chunk → size ≡ d.size → method ≡ method_number d.method
    → t1 ≡ codes "ppspp1:" → t2 ≡ t1 ++ encode_lower root → t3 ≡ t2 ++ codes ":" → t4 ≡ t3 ++ decimal chunk
    → t5 ≡ t4 ++ codes ":" → t6 ≡ t5 ++ decimal size → t7 ≡ t6 ++ codes ":" → t8 ≡ t7 ++ decimal method
    → t8 ≡ descriptor_text d
unfolding descriptor_text
text_of_pieces d root chunk size method t1 t2 t3 t4 t5 t6 t7 t8 r c s m e1 e2 e3 e4 e5 e6 e7 e8 =
    e8 ∙ ap (λ t. t ++ decimal method) (e7 ∙ ap (λ t. t ++ codes ":") (e6 ∙ ap (λ t. t ++ decimal size)
    (e5 ∙ ap (λ t. t ++ codes ":") (e4 ∙ ap (λ t. t ++ decimal chunk) (e3 ∙ ap (λ t. t ++ codes ":")
    (e2 ∙ ap (λ t. t ++ encode_lower root) e1))))))
    ∙ rw (r, c, s, m) refl
