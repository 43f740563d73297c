-- A text is one target's at most, has one fault of a target's text at most, and none if it is one's.
use Rattle.std.proofs.Common.{◌≡◌, ◌⊎◌, ℕ, false, List, [], ◌∷◌, ◌++◌, length, get_or, codes, Result, Ok, Err, refl, sym, ◌∙◌, ap, subst, inl, inr, append_assoc}
use Rattle.std.proofs.Math.ListN.{get_or-append}
use Rattle.std.proofs.lemmas.Bool.{cases_order}
use Rattle.std.proofs.lemmas.List.{append_cancel_left}
use Rattle.pp_terms.specs.tree.Content.{IsChunkSize, IsContentSize}
use Rattle.pp_terms.specs.format.Descriptor as terms
use Rattle.pp_terms.specs.format.DescriptorRead.{is_digit, IsNumber, Spelling, number_of, before_chunk, before_size, before_method}
use Rattle.pp_terms.specs.format.DescriptorFault.{DescriptorFault, Form, Chunk, Size, Method}
use Rattle.pp_terms.proofs.Facts.{front_same}
use Rattle.pp_tree.specs.Method.{method_of, method_from}
use Rattle.pp_tree.specs.declared.descriptor.DescriptorFault as declared
use Rattle.pp_tree.specs.declared.descriptor.DescriptorFault.TheVariants as fault
use Rattle.pp_tree.proofs.Languages.{number_same, false_true}
use Rattle.pp_targets.specs.Target.{Target, Sized, Auto}
use Rattle.pp_targets.specs.Names.{target_of}
use Rattle.pp_targets.specs.TargetRead.{IsSpelled, IsFormFault, IsChunkFault, IsSizeFault, IsMethodFault}
use Rattle.pp_targets.specs.declared.target.Target as found
use Rattle.pp_targets.specs.declared.target.Target.TheVariants as of_form
use Rattle.pp_targets.proofs.TargetReadings.{each_target}
use Rattle.pp_words.specs.CommandLine.{IsTargetText, HasTargetFault}

-- ---- a target of the definitions, in Rust

abbrev target_from : Target → found.Target
target_from (Sized d) = of_form.Sized d
target_from (Auto name) = of_form.Auto (record { root = name.root; chunk = name.chunk; method = method_from name.method })

of_method_from : (m : terms.Method) → method_of (method_from m) ≡ m
of_method_from terms.Bin32 = refl
of_method_from terms.Range32 = refl
of_method_from terms.Bin64 = refl
of_method_from terms.Range64 = refl

of_target_from : (t : Target) → target_of (target_from t) ≡ t
of_target_from (Sized d) = refl
of_target_from (Auto name) =
    ap (λ (m : terms.Method). Auto (record { root = name.root; chunk = name.chunk; method = m })) (of_method_from name.method)

in_rust : (text : List ℕ) (t : Target) → IsTargetText text t → IsTargetText text (target_of (target_from t))
in_rust text t is = subst (λ (x : Target). IsTargetText text x) (sym (of_target_from t)) is

-- ---- one target, and no fault

ok_same : (x y : found.Target) → ◌≡◌ {A = Result found.Target declared.DescriptorFault} (Ok x) (Ok y) → x ≡ y
ok_same x y e = cc

pub target_same : (text : List ℕ) (a b : Target) → IsTargetText text a → IsTargetText text b → a ≡ b
target_same text a b one two =
    let is = in_rust text a one in
    let also = in_rust text b two in
    let answer = each_target text (Ok (target_from a)) is.text_is is.valid is.bytes tt (target_from b) also.valid also.bytes also.text_is in
    sym (of_target_from a) ∙ ap (λ (x : found.Target). target_of x) (ok_same (target_from a) (target_from b) answer) ∙ of_target_from b

pub no_fault : (text : List ℕ) (f : DescriptorFault) (t : Target) → HasTargetFault text f → IsTargetText text t → ⊥
no_fault text (Form at) t is right =
    let it = in_rust text t right in
    let e = each_target text (Err (fault.Form at)) tt tt tt is (target_from t) it.valid it.bytes it.text_is in cc
no_fault text (Chunk at) t is right =
    let it = in_rust text t right in
    let e = each_target text (Err (fault.Chunk at)) tt tt tt is (target_from t) it.valid it.bytes it.text_is in cc
no_fault text (Size at) t is right =
    let it = in_rust text t right in
    let e = each_target text (Err (fault.Size at)) tt tt tt is (target_from t) it.valid it.bytes it.text_is in cc
no_fault text (Method at) t is right =
    let it = in_rust text t right in
    let e = each_target text (Err (fault.Method at)) tt tt tt is (target_from t) it.valid it.bytes it.text_is in cc

-- ---- the words of a text of either form

-- a number before a colon
number_before_colon : (x r y v : List ℕ) → IsNumber x → IsNumber y → x ++ 58 ∷ r ≡ y ++ 58 ∷ v → (x ≡ y) × (r ≡ v)
number_before_colon x r y v is_x is_y e =
    let same = number_same x (58 ∷ r) y (58 ∷ v) is_x is_y (λ h. absurd (false_true false refl h)) (λ h. false_true false refl h) e in
    let rest = append_cancel_left x (58 ∷ r) (58 ∷ v) (e ∙ ap (λ z. z ++ 58 ∷ v) same) in
    (sym same, append_cancel_left (58 ∷ []) r v rest)

number_not_auto : (x r v : List ℕ) → IsNumber x → x ++ r ≡ codes "auto" ++ v → ⊥
number_not_auto x r v is e =
    let first : get_or x 0 0 ≡ 97 = sym (get_or-append x r 0 0 is.some) ∙ ap (λ xs. get_or xs 0 0) e in
    let wrong : is_digit (get_or x 0 0) ≡ false = ap (λ c. is_digit c) first in
    false_true (is_digit (get_or x 0 0)) wrong (is.digits 0 is.some)

-- a size or `auto` before a colon
size_before_colon : (x r y v : List ℕ) → IsNumber x ⊎ (x ≡ codes "auto") → IsNumber y ⊎ (y ≡ codes "auto") → x ++ 58 ∷ r ≡ y ++ 58 ∷ v
    → (x ≡ y) × (r ≡ v)
size_before_colon x r y v (inl one) (inl two) e = number_before_colon x r y v one two e
size_before_colon x r y v (inl one) (inr two) e =
    absurd (number_not_auto x (58 ∷ r) (58 ∷ v) one (e ∙ ap (λ (z : List ℕ). z ++ 58 ∷ v) two))
size_before_colon x r y v (inr one) (inl two) e =
    absurd (number_not_auto y (58 ∷ v) (58 ∷ r) two (sym e ∙ ap (λ (z : List ℕ). z ++ 58 ∷ r) one))
size_before_colon x r y v (inr one) (inr two) e =
    let same : x ≡ y = one ∙ sym two in
    let rest = append_cancel_left y (58 ∷ r) (58 ∷ v) (ap (λ (z : List ℕ). z ++ 58 ∷ r) (sym same) ∙ e) in
    (same, append_cancel_left (58 ∷ []) r v rest)

flat : (s : Spelling) → before_method s ++ s.method
    ≡ codes "ppspp1:" ++ (s.root ++ (58 ∷ (s.chunk ++ (58 ∷ (s.size ++ (58 ∷ s.method))))))
flat s = simp append_assoc

same_spelling : (s z : Spelling) (text : List ℕ) → IsSpelled s text → IsSpelled z text
    → (s.root ≡ z.root) × (s.chunk ≡ z.chunk) × (s.size ≡ z.size) × (s.method ≡ z.method)
same_spelling s z text one two =
    let whole = sym (flat s) ∙ sym one.text_is ∙ two.text_is ∙ flat z in
    let rest_s : List ℕ = 58 ∷ (s.chunk ++ (58 ∷ (s.size ++ (58 ∷ s.method)))) in
    let rest_z : List ℕ = 58 ∷ (z.chunk ++ (58 ∷ (z.size ++ (58 ∷ z.method)))) in
    let e1 : s.root ++ rest_s ≡ z.root ++ rest_z = append_cancel_left (codes "ppspp1:") (s.root ++ rest_s) (z.root ++ rest_z) whole in
    let root = front_same s.root rest_s z.root rest_z (one.root_length ∙ sym two.root_length) e1 in
    let e2 = append_cancel_left s.root rest_s rest_z (e1 ∙ ap (λ x. x ++ rest_z) (sym root)) in
    let e3 = append_cancel_left (58 ∷ []) (s.chunk ++ (58 ∷ (s.size ++ (58 ∷ s.method)))) (z.chunk ++ (58 ∷ (z.size ++ (58 ∷ z.method)))) e2 in
    let chunk = number_before_colon s.chunk (s.size ++ (58 ∷ s.method)) z.chunk (z.size ++ (58 ∷ z.method)) one.chunk_number two.chunk_number e3 in
    let size = size_before_colon s.size s.method z.size z.method one.size_word two.size_word chunk.1 in
    (root, chunk.0, size.0, size.1)

spelling_same : (s z : Spelling) → s.root ≡ z.root → s.chunk ≡ z.chunk → s.size ≡ z.size → s.method ≡ z.method → s ≡ z
spelling_same s z root chunk size method =
    ap (λ (w : List ℕ). record { root = w; chunk = s.chunk; size = s.size; method = s.method }) root
    ∙ ap (λ (w : List ℕ). record { root = z.root; chunk = w; size = s.size; method = s.method }) chunk
    ∙ ap (λ (w : List ℕ). record { root = z.root; chunk = z.chunk; size = w; method = s.method }) size
    ∙ ap (λ (w : List ℕ). record { root = z.root; chunk = z.chunk; size = z.size; method = w }) method

same_words : (s z : Spelling) (text : List ℕ) → IsSpelled s text → IsSpelled z text → s ≡ z
same_words s z text one two =
    let same = same_spelling s z text one two in spelling_same s z same.0 same.1 same.2 same.3

-- ---- one fault

form_same : (text : List ℕ) (a b : ℕ) → IsFormFault text a → IsFormFault text b → a ≡ b
form_same text a b one two = elim (cases_order a b) [
  | inl same ↦ same
  | inr (inl less) ↦ absurd (one.longest b less two.within two.begins)
  | inr (inr more) ↦ absurd (two.longest a more one.within one.begins)
]

chunk_same : (text : List ℕ) (a b : ℕ) → IsChunkFault text a → IsChunkFault text b → a ≡ b
chunk_same text a b one two =
    let same = same_words one.words two.words text one.spelled two.spelled in
    one.place ∙ ap (λ (w : Spelling). length (before_chunk w)) same ∙ sym two.place

size_same : (text : List ℕ) (a b : ℕ) → IsSizeFault text a → IsSizeFault text b → a ≡ b
size_same text a b one two =
    let same = same_words one.words two.words text one.spelled two.spelled in
    one.place ∙ ap (λ (w : Spelling). length (before_size w)) same ∙ sym two.place

method_same : (text : List ℕ) (a b : ℕ) → IsMethodFault text a → IsMethodFault text b → a ≡ b
method_same text a b one two =
    let same = same_words one.words two.words text one.spelled two.spelled in
    one.place ∙ ap (λ (w : Spelling). length (before_method w)) same ∙ sym two.place

chunk_not_size : (text : List ℕ) (a b : ℕ) → IsChunkFault text a → IsSizeFault text b → ⊥
chunk_not_size text a b one two =
    let same = same_words one.words two.words text one.spelled two.spelled in
    one.wrong (subst (λ (w : Spelling). IsChunkSize (number_of w.chunk)) (sym same) two.chunk_size)

chunk_not_method : (text : List ℕ) (a b : ℕ) → IsChunkFault text a → IsMethodFault text b → ⊥
chunk_not_method text a b one two =
    let same = same_words one.words two.words text one.spelled two.spelled in
    one.wrong (subst (λ (w : Spelling). IsChunkSize (number_of w.chunk)) (sym same) two.chunk_size)

size_not_method : (text : List ℕ) (a b : ℕ) → IsSizeFault text a → IsMethodFault text b → ⊥
size_not_method text a b one two =
    let same = same_words one.words two.words text one.spelled two.spelled in
    let number = subst (λ (w : Spelling). IsNumber w.size) same one.number in
    one.wrong (subst (λ (w : Spelling). IsContentSize (number_of w.chunk) (number_of w.size)) (sym same) (two.content_size number))

pub fault_same : (text : List ℕ) (f g : DescriptorFault) → HasTargetFault text f → HasTargetFault text g → f ≡ g
fault_same text (Form a) (Form b) one two = ap Form (form_same text a b one two)
fault_same text (Form a) (Chunk b) one two = absurd (one.formless (two.words, two.spelled))
fault_same text (Form a) (Size b) one two = absurd (one.formless (two.words, two.spelled))
fault_same text (Form a) (Method b) one two = absurd (one.formless (two.words, two.spelled))
fault_same text (Chunk a) (Form b) one two = absurd (two.formless (one.words, one.spelled))
fault_same text (Chunk a) (Chunk b) one two = ap Chunk (chunk_same text a b one two)
fault_same text (Chunk a) (Size b) one two = absurd (chunk_not_size text a b one two)
fault_same text (Chunk a) (Method b) one two = absurd (chunk_not_method text a b one two)
fault_same text (Size a) (Form b) one two = absurd (two.formless (one.words, one.spelled))
fault_same text (Size a) (Chunk b) one two = absurd (chunk_not_size text b a two one)
fault_same text (Size a) (Size b) one two = ap Size (size_same text a b one two)
fault_same text (Size a) (Method b) one two = absurd (size_not_method text a b one two)
fault_same text (Method a) (Form b) one two = absurd (two.formless (one.words, one.spelled))
fault_same text (Method a) (Chunk b) one two = absurd (chunk_not_method text b a two one)
fault_same text (Method a) (Size b) one two = absurd (size_not_method text b a two one)
fault_same text (Method a) (Method b) one two = ap Method (method_same text a b one two)
