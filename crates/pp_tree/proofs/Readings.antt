-- A text's words are read in one way, and the words of a descriptor's text give the descriptor back.
use Rattle.std.proofs.Common.{◌≡◌, ℕ, ◌<◌, ◌≤◌, ◌^◌, ◌==◌, cond, true, false, List, [], ◌∷◌, ◌++◌, length, get_or, codes, decimal, Result, Ok, Err, refl, sym, ◌∙◌, ap, subst, inl, inr, arith, append_assoc}
use Rattle.std.specs.Prelude.{IfOk, IfErr}
use Rattle.std.proofs.lemmas.Bool.{cases_eq}
use Rattle.std.proofs.lemmas.Bool.Decides.{nat_tests}
use Rattle.std.proofs.lemmas.List.{append_cancel_left}
use Rattle.std.proofs.lemmas.Fmt.{digits_decimal, digits_value-decimal, decimal-digits_value, decimal_nonempty, first_decimal, length-decimal-le, decimal_digit}
use Rattle.std.proofs.lemmas.Str.Parse.{IsNumeralModel, numerals_by_fold, tells_by_index}
use Rattle.hex.specs.Hex.{encode_lower, decode_of, IsBytes, lower_digits}
use Rattle.hex.proofs.HexLemmas.{decode_of-encode_lower, length-encode_with}
use Rattle.pp_terms.specs.tree.Content.{IsChunkSize, IsContentSize}
use Rattle.pp_terms.specs.format.Descriptor.{Descriptor, Method, Bin32, Range32, Bin64, Range64, method_number, descriptor_text, IsDescriptor}
use Rattle.pp_terms.specs.format.DescriptorRead.{is_digit, IsNumber, number_after, number_of, Spelling, IsSpelled, IsChunkFault, before_method}
use Rattle.pp_terms.proofs.Facts.{front_same}
use Rattle.pp_tree.specs.declared.descriptor.DescriptorFault.{DescriptorFault}
use Rattle.pp_tree.specs.declared.descriptor.DescriptorFault.TheVariants.{Form, Chunk, Size, Method as OfMethod}
use Rattle.pp_tree.specs.Faults.{IsFaultOf}
use Rattle.pp_tree.specs.Scan.{AreWords}
use Rattle.pp_tree.specs.declared.form.Words.{Words}
use Rattle.pp_tree.proofs.Languages.{number_same, false_true}
use Rattle.pp_tree.proofs.Digits.{method_below}
use Rattle.pp_tree.proofs.HexDigits.{encoded_lower}
use Rattle.pp_tree.proofs.Numerals.{digit_range}
use Rattle.pp_tree.proofs.Sizes.{chunk_size_range, content_size_range}

-- the digits of numbers, in the words of std
abbrev AreDigits : List ℕ → Type 0
AreDigits ds = (i : ℕ) → i < length ds → (48 ≤ get_or ds i 0) × (get_or ds i 0 ≤ 57)

own : IsNumeralModel AreDigits (number_after 0)
own = numerals_by_fold AreDigits tells_by_index number_after (record { empty = λ n. refl; more = λ n c cs h. refl })

digits_are : (text : List ℕ) → IsNumber text → AreDigits text
digits_are text is = λ i lt. digit_range (get_or text i 0) (is.digits i lt)

-- a number's text is what its number writes
pub decimal_of_number : (text : List ℕ) → IsNumber text → number_of text < 2 ^ 64 → decimal (number_of text) ≡ text
decimal_of_number text is low = decimal-digits_value own text (digits_are text is) is.some is.plain low

pub number_of_decimal : (n : ℕ) → n < 2 ^ 64 → number_of (decimal n) ≡ n
number_of_decimal n low = digits_value-decimal own n low

digit_of_range : (c : ℕ) → (48 ≤ c) × (c ≤ 57) → is_digit c ≡ true
digit_of_range c range = grind (arith, nat_tests)

pub decimal_is_number : (n : ℕ) → n < 2 ^ 64 → IsNumber (decimal n)
decimal_is_number n low = record {
  some = decimal_nonempty n low;
  most = length-decimal-le 20 n (omega arith) (omega arith) low;
  digits = λ k lt. digit_of_range (get_or (decimal n) k 0) (digits_decimal own n low k lt);
  plain = λ nought. elim (cases_eq n 0) [
    | inl zero_is ↦ ap (λ m. length (decimal m)) zero_is ∙ ap (λ xs. length xs) (decimal_digit 0 (omega arith))
    | inr some ↦ (let first = first_decimal n (omega arith) low in absurd (omega arith))
  ];
}

-- the words of a descriptor
abbrev pub spelling_of : Descriptor → Spelling
spelling_of d = record { root = encode_lower d.root; chunk = decimal d.chunk; size = decimal d.size; method = decimal (method_number d.method) }

-- what is written is in the form
pub spelled : (d : Descriptor) (text : List ℕ) → IsDescriptor d → IsBytes d.root → text ≡ descriptor_text d
    → IsSpelled (spelling_of d) text
unfolding descriptor_text
spelled d text is bytes e =
    let range = chunk_size_range d.chunk is.chunk_size in
    let most = content_size_range d.chunk d.size is.chunk_size is.content_size in
    let small = method_below d.method in
    let long = length-encode_with lower_digits d.root in
    let size = is.root_length in
    record {
      text_is = e;
      root_length = omega (arith, long);
      root_digits = λ k lt. encoded_lower d.root bytes k (omega arith);
      chunk_number = decimal_is_number d.chunk (omega arith);
      size_number = decimal_is_number d.size (omega arith);
      method_number = decimal_is_number (method_number d.method) (omega arith);
    }

-- a number before a colon
number_before_colon : (x r y v : List ℕ) → IsNumber x → IsNumber y → x ++ 58 ∷ r ≡ y ++ 58 ∷ v → (x ≡ y) × (r ≡ v)
number_before_colon x r y v is_x is_y e =
    let same = number_same x (58 ∷ r) y (58 ∷ v) is_x is_y (λ h. absurd (false_true false refl h)) (λ h. false_true false refl h) e in
    let rest = append_cancel_left x (58 ∷ r) (58 ∷ v) (e ∙ ap (λ z. z ++ 58 ∷ v) same) in
    (sym same, append_cancel_left (58 ∷ []) r v rest)

-- the words one after the other
flat : (s : Spelling) → before_method s ++ s.method
    ≡ codes "ppspp1:" ++ (s.root ++ (58 ∷ (s.chunk ++ (58 ∷ (s.size ++ (58 ∷ s.method))))))
flat s = simp append_assoc

-- the words of a text
pub same_spelling : (s z : Spelling) (text : List ℕ) → IsSpelled s text → IsSpelled z text
    → (s.root ≡ z.root) × (s.chunk ≡ z.chunk) × (s.size ≡ z.size) × (s.method ≡ z.method)
same_spelling s z text one two =
    let whole = sym (flat s) ∙ sym one.text_is ∙ two.text_is ∙ flat z in
    let rest_s : List ℕ = 58 ∷ (s.chunk ++ (58 ∷ (s.size ++ (58 ∷ s.method)))) in
    let rest_z : List ℕ = 58 ∷ (z.chunk ++ (58 ∷ (z.size ++ (58 ∷ z.method)))) in
    let e1 : s.root ++ rest_s ≡ z.root ++ rest_z = append_cancel_left (codes "ppspp1:") (s.root ++ rest_s) (z.root ++ rest_z) whole in
    let root = front_same s.root rest_s z.root rest_z (one.root_length ∙ sym two.root_length) e1 in
    let e2 = append_cancel_left s.root rest_s rest_z (e1 ∙ ap (λ x. x ++ rest_z) (sym root)) in
    let e3 = append_cancel_left (58 ∷ []) (s.chunk ++ (58 ∷ (s.size ++ (58 ∷ s.method)))) (z.chunk ++ (58 ∷ (z.size ++ (58 ∷ z.method)))) e2 in
    let chunk = number_before_colon s.chunk (s.size ++ (58 ∷ s.method)) z.chunk (z.size ++ (58 ∷ z.method)) one.chunk_number two.chunk_number e3 in
    let size = number_before_colon s.size s.method z.size z.method one.size_number two.size_number chunk.1 in
    (root, chunk.0, size.0, size.1)

-- a method by its number
from_number : ℕ → Method
from_number n = cond (n == 0) Bin32 (cond (n == 2) Range32 (cond (n == 3) Bin64 Range64))

back_from_number : (m : Method) → from_number (method_number m) ≡ m
unfolding from_number
back_from_number Bin32 = refl
back_from_number Range32 = refl
back_from_number Bin64 = refl
back_from_number Range64 = refl

method_same : (m n : Method) → method_number m ≡ method_number n → m ≡ n
method_same m n e = sym (back_from_number m) ∙ ap from_number e ∙ back_from_number n

decimal_same : (m n : ℕ) → m < 2 ^ 64 → n < 2 ^ 64 → decimal m ≡ decimal n → m ≡ n
decimal_same m n m_low n_low e = sym (number_of_decimal m m_low) ∙ ap number_of e ∙ number_of_decimal n n_low

root_same : (x y : List ℕ) → IsBytes x → IsBytes y → encode_lower x ≡ encode_lower y → x ≡ y
root_same x y all_x all_y e =
    let one = decode_of-encode_lower x all_x in
    let two = decode_of-encode_lower y all_y in
    let both : decode_of (encode_lower x) ≡ decode_of (encode_lower y) = ap (λ t. decode_of t) e in cc

-- two descriptors of one text
pub descriptor_same : (x d : Descriptor) (text : List ℕ) → IsDescriptor x → IsDescriptor d → IsBytes x.root → IsBytes d.root
    → text ≡ descriptor_text x → text ≡ descriptor_text d → x ≡ d
descriptor_same x d text is_x is_d all_x all_d one two =
    let same = same_spelling (spelling_of x) (spelling_of d) text (spelled x text is_x all_x one) (spelled d text is_d all_d two) in
    let range_x = chunk_size_range x.chunk is_x.chunk_size in
    let range_d = chunk_size_range d.chunk is_d.chunk_size in
    let most_x = content_size_range x.chunk x.size is_x.chunk_size is_x.content_size in
    let most_d = content_size_range d.chunk d.size is_d.chunk_size is_d.content_size in
    let small_x = method_below x.method in
    let small_d = method_below d.method in
    let root = root_same x.root d.root all_x all_d same.0 in
    let chunk = decimal_same x.chunk d.chunk (omega arith) (omega arith) same.1 in
    let size = decimal_same x.size d.size (omega arith) (omega arith) same.2 in
    let number = decimal_same (method_number x.method) (method_number d.method) (omega arith) (omega arith) same.3 in
    let method = method_same x.method d.method number in
    ap (λ (r : List ℕ). record { root = r; chunk = x.chunk; size = x.size; method = x.method }) root
    ∙ ap (λ (n : ℕ). record { root = d.root; chunk = n; size = x.size; method = x.method }) chunk
    ∙ ap (λ (n : ℕ). record { root = d.root; chunk = d.chunk; size = n; method = x.method }) size
    ∙ ap (λ (m : Method). record { root = d.root; chunk = d.chunk; size = d.size; method = m }) method

-- a descriptor's text has no fault
no_fault : (text : List ℕ) (fault : DescriptorFault) (d : Descriptor) → IsFaultOf text fault → IsDescriptor d → IsBytes d.root
    → text ≡ descriptor_text d → ⊥
no_fault text (Form at) d is ok all e = is.formless (spelling_of d, spelled d text ok all e)
no_fault text (Chunk at) d is ok all e =
    let same = same_spelling is.words (spelling_of d) text is.spelled (spelled d text ok all e) in
    let range = chunk_size_range d.chunk ok.chunk_size in
    let chunk = ap number_of same.1 ∙ number_of_decimal d.chunk (omega arith) in
    is.wrong (subst (λ n. IsChunkSize n) (sym chunk) ok.chunk_size)
no_fault text (Size at) d is ok all e =
    let same = same_spelling is.words (spelling_of d) text is.spelled (spelled d text ok all e) in
    let range = chunk_size_range d.chunk ok.chunk_size in
    let most = content_size_range d.chunk d.size ok.chunk_size ok.content_size in
    let chunk = ap number_of same.1 ∙ number_of_decimal d.chunk (omega arith) in
    let size = ap number_of same.2 ∙ number_of_decimal d.size (omega arith) in
    is.wrong (subst (λ n. IsContentSize n (number_of is.words.size)) (sym chunk)
    (subst (λ n. IsContentSize d.chunk n) (sym size) ok.content_size))
no_fault text (OfMethod at) d is ok all e =
    let same = same_spelling is.words (spelling_of d) text is.spelled (spelled d text ok all e) in
    let small = method_below d.method in
    is.wrong d.method (ap number_of same.3 ∙ number_of_decimal (method_number d.method) (omega arith))

-- the answer for a descriptor's text
pub each_read : (text : List ℕ) (r : Result Descriptor DescriptorFault) → IfOk r (λ d. text ≡ descriptor_text d) → IfOk r IsDescriptor
    → IfOk r (λ d. IsBytes d.root) → IfErr r (IsFaultOf text) → (d : Descriptor) → IsDescriptor d → IsBytes d.root
    → text ≡ descriptor_text d → r ≡ Ok d
each_read text (Ok x) is valid bytes fault d ok all e = ap (λ (v : Descriptor). Ok v) (descriptor_same x d text valid ok bytes all is e)
each_read text (Err f) is valid bytes fault d ok all e = absurd (no_fault text f d fault ok all e)

-- the text of the words that were found
pub text_found : (text : List ℕ) (found : Words) (d : Descriptor) → AreWords text found → d.root ≡ found.root
    → d.chunk ≡ found.chunk → d.size ≡ found.size → found.chunk ≤ 2 ^ 13 → found.size ≤ 2 ^ 33
    → found.method ≡ method_number d.method → text ≡ descriptor_text d
unfolding descriptor_text
text_found text found d is root chunk size chunk_low size_low method =
    let small = method_below d.method in
    let chunk_is = is.chunk_is in
    let size_is = is.size_is in
    let method_is = is.method_is in
    let w1 : is.words.root ≡ encode_lower d.root = sym is.root_text ∙ ap (λ xs. encode_lower xs) (sym root) in
    let w2 : is.words.chunk ≡ decimal d.chunk =
    sym (decimal_of_number is.words.chunk is.spelled.chunk_number (omega arith)) ∙ ap decimal (sym (chunk ∙ is.chunk_is)) in
    let w3 : is.words.size ≡ decimal d.size =
    sym (decimal_of_number is.words.size is.spelled.size_number (omega arith)) ∙ ap decimal (sym (size ∙ is.size_is)) in
    let w4 : is.words.method ≡ decimal (method_number d.method) =
    sym (decimal_of_number is.words.method is.spelled.method_number (omega arith)) ∙ ap decimal (sym is.method_is ∙ method) in
    is.spelled.text_is ∙ all_words is.words.root (encode_lower d.root) is.words.chunk (decimal d.chunk) is.words.size (decimal d.size)
    is.words.method (decimal (method_number d.method)) w1 w2 w3 w4
  where
    all_words : (a a' b b' c c' e e' : List ℕ) → a ≡ a' → b ≡ b' → c ≡ c' → e ≡ e'
        → before_method (record { root = a; chunk = b; size = c; method = e }) ++ e
        ≡ before_method (record { root = a'; chunk = b'; size = c'; method = e' }) ++ e'
    all_words a a' b b' c c' e e' p q r s =
        ap (λ x. before_method (record { root = x; chunk = b; size = c; method = e }) ++ e) p
        ∙ ap (λ x. before_method (record { root = a'; chunk = x; size = c; method = e }) ++ e) q
        ∙ ap (λ x. before_method (record { root = a'; chunk = b'; size = x; method = e }) ++ e) r
        ∙ ap (λ x. before_method (record { root = a'; chunk = b'; size = c'; method = e' }) ++ x) s

-- the fault of a chunk size
pub chunk_fault : (text : List ℕ) (found : Words) → AreWords text found → ¬ IsChunkSize found.chunk → IsChunkFault text found.chunk_at
chunk_fault text found is wrong = record {
  words = is.words;
  spelled = is.spelled;
  place = is.chunk_place;
  wrong = λ size. wrong (subst (λ n. IsChunkSize n) (sym is.chunk_is) size);
}

pub too_large : (n : ℕ) → 2 ^ 13 < n → ¬ IsChunkSize n
too_large n gt is = let range = chunk_size_range n is in omega arith
