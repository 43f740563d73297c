-- Chunk sizes one by one, and how many chunks a content is cut into.
use Rattle.std.proofs.Common.{◌≡◌, ◌⊎◌, ℕ, ◌+◌, ◌*◌, ◌^◌, ◌≤◌, ◌<◌, Bool, nat_eq, List, [], ◌∷◌, refl, sym, ◌∙◌, ap, subst, inl, inr, arith, IsTrue}
use Rattle.std.proofs.lemmas.Grind.{div_ceil_times}
use Rattle.std.specs.List.{list_any}
use Rattle.std.specs.Int.{div_ceil}
use Rattle.std.proofs.lemmas.Bool.Decides.{nat_tests}
use Rattle.pp_terms.specs.tree.Content.{IsChunkSize, IsContentSize, chunk_count}

-- the chunk sizes
abbrev sizes : List ℕ
sizes = 256 ∷ 512 ∷ 1024 ∷ 2048 ∷ 4096 ∷ 8192 ∷ []

abbrev IsSize : ℕ → Type 0
IsSize n = (n ≡ 256) ⊎ ((n ≡ 512) ⊎ ((n ≡ 1024) ⊎ ((n ≡ 2048) ⊎ ((n ≡ 4096) ⊎ (n ≡ 8192)))))

exponents : (e : ℕ) → 8 ≤ e → e ≤ 13 → (e ≡ 8) ⊎ ((e ≡ 9) ⊎ ((e ≡ 10) ⊎ ((e ≡ 11) ⊎ ((e ≡ 12) ⊎ (e ≡ 13)))))
exponents e low high = grind arith

size_of_test : (n : ℕ) → IsTrue (list_any (λ y. nat_eq y n) sizes) → IsSize n
size_of_test n h = grind (arith, nat_tests)

chunk_size_of_size : (n : ℕ) → IsSize n → IsChunkSize n
chunk_size_of_size n (inl e) = record { exponent = 8; least = omega arith; greatest = omega arith; power = e }
chunk_size_of_size n (inr (inl e)) = record { exponent = 9; least = omega arith; greatest = omega arith; power = e }
chunk_size_of_size n (inr (inr (inl e))) = record { exponent = 10; least = omega arith; greatest = omega arith; power = e }
chunk_size_of_size n (inr (inr (inr (inl e)))) = record { exponent = 11; least = omega arith; greatest = omega arith; power = e }
chunk_size_of_size n (inr (inr (inr (inr (inl e))))) = record { exponent = 12; least = omega arith; greatest = omega arith; power = e }
chunk_size_of_size n (inr (inr (inr (inr (inr e))))) = record { exponent = 13; least = omega arith; greatest = omega arith; power = e }

test_at : (n m : ℕ) → n ≡ m → IsTrue (list_any (λ y. nat_eq y m) sizes) → IsTrue (list_any (λ y. nat_eq y n) sizes)
test_at n m e h = subst (λ (x : ℕ). IsTrue (list_any (λ y. nat_eq y x) sizes)) (sym e) h

test_of_size : (n : ℕ) → IsSize n → IsTrue (list_any (λ y. nat_eq y n) sizes)
test_of_size n (inl e) = test_at n 256 e refl
test_of_size n (inr (inl e)) = test_at n 512 e refl
test_of_size n (inr (inr (inl e))) = test_at n 1024 e refl
test_of_size n (inr (inr (inr (inl e)))) = test_at n 2048 e refl
test_of_size n (inr (inr (inr (inr (inl e))))) = test_at n 4096 e refl
test_of_size n (inr (inr (inr (inr (inr e))))) = test_at n 8192 e refl

size_at : (n e m : ℕ) → n ≡ 2 ^ e → e ≡ m → n ≡ 2 ^ m
size_at n e m p q = p ∙ ap (λ x. 2 ^ x) q

-- a chunk size is one of the six
pub size_of_chunk_size : (n : ℕ) → IsChunkSize n
    → (n ≡ 256) ⊎ ((n ≡ 512) ⊎ ((n ≡ 1024) ⊎ ((n ≡ 2048) ⊎ ((n ≡ 4096) ⊎ (n ≡ 8192)))))
size_of_chunk_size n h =
    elim (exponents h.exponent h.least h.greatest) [
      | inl e ↦ inl (size_at n h.exponent 8 h.power e)
      | inr r ↦ elim r [
        | inl e ↦ inr (inl (size_at n h.exponent 9 h.power e))
        | inr r ↦ elim r [
          | inl e ↦ inr (inr (inl (size_at n h.exponent 10 h.power e)))
          | inr r ↦ elim r [
            | inl e ↦ inr (inr (inr (inl (size_at n h.exponent 11 h.power e))))
            | inr r ↦ elim r [
              | inl e ↦ inr (inr (inr (inr (inl (size_at n h.exponent 12 h.power e)))))
              | inr e ↦ inr (inr (inr (inr (inr (size_at n h.exponent 13 h.power e)))))
            ]
          ]
        ]
      ]
    ]

-- the test of the code
pub chunk_size_tested : (n : ℕ) (b : Bool) → b ≡ list_any (λ y. nat_eq y n) (256 ∷ 512 ∷ 1024 ∷ 2048 ∷ 4096 ∷ 8192 ∷ [])
    → (IsTrue b → IsChunkSize n) × (IsChunkSize n → IsTrue b)
chunk_size_tested n b e = (
  λ t. chunk_size_of_size n (size_of_test n (subst (λ (x : Bool). IsTrue x) e t)),
  λ h. subst (λ (x : Bool). IsTrue x) (sym e) (test_of_size n (size_of_chunk_size n h)),
)

-- a chunk size has three or four digits
pub chunk_size_range : (n : ℕ) → IsChunkSize n → (256 ≤ n) × (n ≤ 8192)
chunk_size_range n h = let six = size_of_chunk_size n h in (omega arith, omega arith)

-- rounding up, by the quotient of the next multiple
pub chunk_count_by_ceil : (bytes chunk : ℕ) → 0 < chunk → div_ceil bytes chunk ≡ chunk_count bytes chunk
chunk_count_by_ceil bytes chunk h = grind (arith, div_ceil_times)

-- the chunks hold all bytes, and all but one of them don't
pub chunk_count_holds : (bytes chunk : ℕ) → 0 < chunk
    → (bytes ≤ chunk_count bytes chunk * chunk) × (chunk_count bytes chunk * chunk < bytes + chunk)
chunk_count_holds bytes chunk h = (omega arith, omega arith)

-- a content has at least one chunk and at most 2 ^ 20
pub chunk_count_range : (bytes chunk : ℕ) → 0 < chunk → IsContentSize chunk bytes
    → (0 < chunk_count bytes chunk) × (chunk_count bytes chunk ≤ 2 ^ 20)
chunk_count_range bytes chunk h is =
    let held = chunk_count_holds bytes chunk h in
    (grind (arith, is.some, held.0), grind (arith, is.within, held.1))

-- a chunk begins inside the content
pub chunk_begins : (bytes chunk i : ℕ) → 0 < chunk → i < chunk_count bytes chunk → i * chunk < bytes
chunk_begins bytes chunk i h lt =
    let held = chunk_count_holds bytes chunk h in
    let below : (i + 1) * chunk ≤ chunk_count bytes chunk * chunk = grind arith in
    omega arith

-- a content's size
pub content_size_range : (chunk bytes : ℕ) → IsChunkSize chunk → IsContentSize chunk bytes → (0 < bytes) × (bytes ≤ 2 ^ 33)
content_size_range chunk bytes size is =
    let range = chunk_size_range chunk size in
    (is.some, omega (arith, range.1, is.within))
