-- The six chunk sizes, and how they are spelled.
use Rattle.std.proofs.Common.{◌≡◌, ⊎_elim, ℕ, List, refl, ◌∙◌, ap, arith, decimal, codes}
use Rattle.std.specs.Fmt.{digits}
use Rattle.pp_terms.specs.tree.Content.{IsChunkSize}
use Rattle.pp_tree.proofs.Sizes.{size_of_chunk_size}

pub spelled_256 : (word : List ℕ) → word ≡ codes "256" → IsChunkSize 256 × (word ≡ decimal 256)
unfolding digits
spelled_256 word is = (record { exponent = 8; least = omega arith; greatest = omega arith; power = refl }, is)

pub spelled_512 : (word : List ℕ) → word ≡ codes "512" → IsChunkSize 512 × (word ≡ decimal 512)
unfolding digits
spelled_512 word is = (record { exponent = 9; least = omega arith; greatest = omega arith; power = refl }, is)

pub spelled_1024 : (word : List ℕ) → word ≡ codes "1024" → IsChunkSize 1024 × (word ≡ decimal 1024)
unfolding digits
spelled_1024 word is = (record { exponent = 10; least = omega arith; greatest = omega arith; power = refl }, is)

pub spelled_2048 : (word : List ℕ) → word ≡ codes "2048" → IsChunkSize 2048 × (word ≡ decimal 2048)
unfolding digits
spelled_2048 word is = (record { exponent = 11; least = omega arith; greatest = omega arith; power = refl }, is)

pub spelled_4096 : (word : List ℕ) → word ≡ codes "4096" → IsChunkSize 4096 × (word ≡ decimal 4096)
unfolding digits
spelled_4096 word is = (record { exponent = 12; least = omega arith; greatest = omega arith; power = refl }, is)

pub spelled_8192 : (word : List ℕ) → word ≡ codes "8192" → IsChunkSize 8192 × (word ≡ decimal 8192)
unfolding digits
spelled_8192 word is = (record { exponent = 13; least = omega arith; greatest = omega arith; power = refl }, is)

spelled_as : (word : List ℕ) (chunk n : ℕ) → word ≡ decimal chunk → chunk ≡ n → word ≡ decimal n
spelled_as word chunk n is same = is ∙ ap decimal same

-- a word that spells none of them
pub none_spelled : (word : List ℕ) → (word ≡ codes "256" → ⊥) → (word ≡ codes "512" → ⊥) → (word ≡ codes "1024" → ⊥) → (word ≡ codes "2048" → ⊥)
    → (word ≡ codes "4096" → ⊥) → (word ≡ codes "8192" → ⊥) → (chunk : ℕ) → IsChunkSize chunk → word ≡ decimal chunk → ⊥
unfolding digits
none_spelled word a b c d e f chunk size is =
    ⊎_elim (λ n. a (spelled_as word chunk 256 is n)) (λ r.
    ⊎_elim (λ n. b (spelled_as word chunk 512 is n)) (λ r.
    ⊎_elim (λ n. c (spelled_as word chunk 1024 is n)) (λ r.
    ⊎_elim (λ n. d (spelled_as word chunk 2048 is n)) (λ r.
    ⊎_elim (λ n. e (spelled_as word chunk 4096 is n)) (λ n. f (spelled_as word chunk 8192 is n)) r) r) r) r) (size_of_chunk_size chunk size)
