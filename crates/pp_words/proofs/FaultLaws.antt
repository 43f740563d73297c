-- A text has at most one fault of a descriptor's text, and none if it is one's.
use Rattle.std.proofs.Common.{◌≡◌, ℕ, List, length, sym, ◌∙◌, ap, subst, inl, inr, Err}
use Rattle.std.proofs.lemmas.Bool.{cases_order}
use Rattle.pp_terms.specs.tree.Content.{IsChunkSize, IsContentSize}
use Rattle.pp_terms.specs.format.Descriptor.{Descriptor}
use Rattle.pp_terms.specs.format.DescriptorRead.{Spelling, IsSpelled, number_of, before_chunk, before_size, before_method, IsFormFault, IsChunkFault, IsSizeFault, IsMethodFault}
use Rattle.pp_terms.specs.format.DescriptorFault.{DescriptorFault, Form, Chunk, Size, Method, HasFault}
use Rattle.pp_words.specs.CommandLine.{IsDescriptorText}
use Rattle.pp_tree.specs.declared.descriptor.DescriptorFault.TheVariants as fault
use Rattle.pp_tree.proofs.Readings.{each_read, same_spelling}

pub no_fault : (text : List ℕ) (f : DescriptorFault) (d : Descriptor) → HasFault text f → IsDescriptorText text d → ⊥
no_fault text (Form at) d is right = let e = each_read text (Err (fault.Form at)) tt tt tt is d right.valid right.bytes right.text_is in cc
no_fault text (Chunk at) d is right = let e = each_read text (Err (fault.Chunk at)) tt tt tt is d right.valid right.bytes right.text_is in cc
no_fault text (Size at) d is right = let e = each_read text (Err (fault.Size at)) tt tt tt is d right.valid right.bytes right.text_is in cc
no_fault text (Method at) d is right = let e = each_read text (Err (fault.Method at)) tt tt tt is d right.valid right.bytes right.text_is in cc

-- ---- one fault

form_same : (text : List ℕ) (a b : ℕ) → IsFormFault text a → IsFormFault text b → a ≡ b
form_same text a b one two = elim (cases_order a b) [
  | inl same ↦ same
  | inr (inl less) ↦ absurd (one.longest b less two.within two.begins)
  | inr (inr more) ↦ absurd (two.longest a more one.within one.begins)
]

-- the words and their places are the same
pub record AreSame (s z : Spelling) : Type 0 where
  pub chunk : number_of s.chunk ≡ number_of z.chunk
  pub size : number_of s.size ≡ number_of z.size
  pub method : number_of s.method ≡ number_of z.method
  pub chunk_place : length (before_chunk s) ≡ length (before_chunk z)
  pub size_place : length (before_size s) ≡ length (before_size z)
  pub method_place : length (before_method s) ≡ length (before_method z)

same_words : (s z : Spelling) (text : List ℕ) → IsSpelled s text → IsSpelled z text → AreSame s z
same_words s z text one two =
    let same = same_spelling s z text one two in
    let all : s ≡ z =
    ap (λ (r : List ℕ). record { root = r; chunk = s.chunk; size = s.size; method = s.method }) same.0
    ∙ ap (λ (r : List ℕ). record { root = z.root; chunk = r; size = s.size; method = s.method }) same.1
    ∙ ap (λ (r : List ℕ). record { root = z.root; chunk = z.chunk; size = r; method = s.method }) same.2
    ∙ ap (λ (r : List ℕ). record { root = z.root; chunk = z.chunk; size = z.size; method = r }) same.3 in
    record {
      chunk = ap (λ (w : Spelling). number_of w.chunk) all;
      size = ap (λ (w : Spelling). number_of w.size) all;
      method = ap (λ (w : Spelling). number_of w.method) all;
      chunk_place = ap (λ (w : Spelling). length (before_chunk w)) all;
      size_place = ap (λ (w : Spelling). length (before_size w)) all;
      method_place = ap (λ (w : Spelling). length (before_method w)) all;
    }

chunk_same : (text : List ℕ) (a b : ℕ) → IsChunkFault text a → IsChunkFault text b → a ≡ b
chunk_same text a b one two =
    one.place ∙ (same_words one.words two.words text one.spelled two.spelled).chunk_place ∙ sym two.place

size_same : (text : List ℕ) (a b : ℕ) → IsSizeFault text a → IsSizeFault text b → a ≡ b
size_same text a b one two =
    one.place ∙ (same_words one.words two.words text one.spelled two.spelled).size_place ∙ sym two.place

method_same : (text : List ℕ) (a b : ℕ) → IsMethodFault text a → IsMethodFault text b → a ≡ b
method_same text a b one two =
    one.place ∙ (same_words one.words two.words text one.spelled two.spelled).method_place ∙ sym two.place

chunk_not_size : (text : List ℕ) (a b : ℕ) → IsChunkFault text a → IsSizeFault text b → ⊥
chunk_not_size text a b one two =
    let same = same_words one.words two.words text one.spelled two.spelled in
    one.wrong (subst (λ n. IsChunkSize n) (sym same.chunk) two.chunk_size)

chunk_not_method : (text : List ℕ) (a b : ℕ) → IsChunkFault text a → IsMethodFault text b → ⊥
chunk_not_method text a b one two =
    let same = same_words one.words two.words text one.spelled two.spelled in
    one.wrong (subst (λ n. IsChunkSize n) (sym same.chunk) two.chunk_size)

size_not_method : (text : List ℕ) (a b : ℕ) → IsSizeFault text a → IsMethodFault text b → ⊥
size_not_method text a b one two =
    let same = same_words one.words two.words text one.spelled two.spelled in
    one.wrong (subst (λ n. IsContentSize n (number_of one.words.size)) (sym same.chunk)
    (subst (λ n. IsContentSize (number_of two.words.chunk) n) (sym same.size) two.content_size))

pub fault_same : (text : List ℕ) (f g : DescriptorFault) → HasFault text f → HasFault text g → f ≡ g
fault_same text (Form a) (Form b) one two = ap Form (form_same text a b one two)
fault_same text (Form a) (Chunk b) one two = absurd (one.formless (two.words, two.spelled))
fault_same text (Form a) (Size b) one two = absurd (one.formless (two.words, two.spelled))
fault_same text (Form a) (Method b) one two = absurd (one.formless (two.words, two.spelled))
fault_same text (Chunk a) (Form b) one two = absurd (two.formless (one.words, one.spelled))
fault_same text (Chunk a) (Chunk b) one two = ap Chunk (chunk_same text a b one two)
fault_same text (Chunk a) (Size b) one two = absurd (chunk_not_size text a b one two)
fault_same text (Chunk a) (Method b) one two = absurd (chunk_not_method text a b one two)
fault_same text (Size a) (Form b) one two = absurd (two.formless (one.words, one.spelled))
fault_same text (Size a) (Chunk b) one two = absurd (chunk_not_size text b a two one)
fault_same text (Size a) (Size b) one two = ap Size (size_same text a b one two)
fault_same text (Size a) (Method b) one two = absurd (size_not_method text a b one two)
fault_same text (Method a) (Form b) one two = absurd (two.formless (one.words, one.spelled))
fault_same text (Method a) (Chunk b) one two = absurd (chunk_not_method text b a two one)
fault_same text (Method a) (Size b) one two = absurd (size_not_method text b a two one)
fault_same text (Method a) (Method b) one two = ap Method (method_same text a b one two)
