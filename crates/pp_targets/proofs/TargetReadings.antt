-- A target's text is read in one way, and what is wrong with a text of neither form.
use Rattle.std.proofs.Common.{◌≡◌, ◌⊎◌, ℕ, ◌≤◌, ◌^◌, max, false, List, [], ◌∷◌, ◌++◌, take, get_or, codes, decimal, Result, Ok, Err, refl, sym, ◌∙◌, ap, subst, inl, inr, arith, append_assoc}
use Rattle.std.specs.Prelude.{IfOk, IfErr}
use Rattle.std.proofs.Math.ListN.{get_or-append}
use Rattle.std.proofs.lemmas.Bool.{cases_lt}
use Rattle.std.proofs.lemmas.List.{append_cancel_left}
use Rattle.hex.specs.Hex.{encode_lower, IsBytes, lower_digits}
use Rattle.hex.proofs.HexLemmas.{length-encode_with}
use Rattle.pp_terms.specs.tree.Content.{IsChunkSize}
use Rattle.pp_terms.specs.format.Descriptor.{Descriptor, method_number, descriptor_text, IsDescriptor}
use Rattle.pp_terms.specs.format.DescriptorRead as sized
use Rattle.pp_terms.specs.format.DescriptorRead.{is_digit, IsNumber, number_of, Spelling, before_method}
use Rattle.pp_terms.proofs.Facts.{front_same}
use Rattle.pp_tree.specs.Method.{method_of, method_from}
use Rattle.pp_tree.specs.Faults.{IsFaultOf}
use Rattle.pp_tree.specs.declared.descriptor.Method.{Method}
use Rattle.pp_tree.specs.declared.descriptor.Method.TheVariants.{Bin32, Range32, Bin64, Range64}
use Rattle.pp_tree.specs.declared.descriptor.DescriptorFault.{DescriptorFault}
use Rattle.pp_tree.specs.declared.descriptor.DescriptorFault.TheVariants.{Form, Chunk, Size, Method as OfMethod}
use Rattle.pp_tree.proofs.Languages.{number_same, false_true}
use Rattle.pp_tree.proofs.Digits.{method_below}
use Rattle.pp_tree.proofs.HexDigits.{encoded_lower}
use Rattle.pp_tree.proofs.Sizes.{chunk_size_range}
use Rattle.pp_tree.proofs.Readings.{decimal_of_number, number_of_decimal, decimal_is_number, spelling_of, spelled, descriptor_same, each_read}
use Rattle.pp_targets.specs.Target.{SwarmName}
use Rattle.pp_targets.specs.Names.{name_of, target_of}
use Rattle.pp_targets.specs.TargetText.{IsName, IsTarget, root_in, name_text, target_text}
use Rattle.pp_targets.specs.TargetRead.{IsSpelled, HasForm, IsFormFault, IsChunkFault, HasFault}
use Rattle.pp_targets.specs.NameWords.{IsNameSpelled, HasNameForm, IsNameFault, AreNameWords}
use Rattle.pp_targets.specs.declared.form.Words.{Words}
use Rattle.pp_targets.specs.declared.target.SwarmName as declared
use Rattle.pp_targets.specs.declared.target.Target.{Target}
use Rattle.pp_targets.specs.declared.target.Target.TheVariants.{Sized, Auto}
use Rattle.pp_targets.proofs.NameForms.{flat}

-- ---- the two forms

pub sized_form : (s : Spelling) (text : List ℕ) → sized.IsSpelled s text → IsSpelled s text
sized_form s text is = record {
  text_is = is.text_is;
  root_length = is.root_length;
  root_digits = is.root_digits;
  chunk_number = is.chunk_number;
  size_word = inl is.size_number;
  method_number = is.method_number;
}

pub name_form : (s : Spelling) (text : List ℕ) → IsNameSpelled s text → IsSpelled s text
name_form s text is = record {
  text_is = is.text_is;
  root_length = is.root_length;
  root_digits = is.root_digits;
  chunk_number = is.chunk_number;
  size_word = inr is.auto;
  method_number = is.method_number;
}

as_sized : (s : Spelling) (text : List ℕ) → IsSpelled s text → IsNumber s.size → sized.IsSpelled s text
as_sized s text is number = record {
  text_is = is.text_is;
  root_length = is.root_length;
  root_digits = is.root_digits;
  chunk_number = is.chunk_number;
  size_number = number;
  method_number = is.method_number;
}

as_name : (s : Spelling) (text : List ℕ) → IsSpelled s text → s.size ≡ codes "auto" → IsNameSpelled s text
as_name s text is auto = record {
  text_is = is.text_is;
  root_length = is.root_length;
  root_digits = is.root_digits;
  chunk_number = is.chunk_number;
  auto = auto;
  method_number = is.method_number;
}

which_form : (text : List ℕ) → HasForm text → sized.HasForm text ⊎ HasNameForm text
which_form text (s, is) = elim is.size_word [
  | inl number ↦ inl (s, as_sized s text is number)
  | inr auto ↦ inr (s, as_name s text is auto)
]

-- the place is the greater one
pub either_fault : (text : List ℕ) (begun place at : ℕ) → sized.IsFormFault text begun → IsNameFault text place → at ≡ max place begun
    → IsFormFault text at
either_fault text begun place at one two at_is = record {
  formless = λ form. elim (which_form text form) [ inl f ↦ one.formless f | inr f ↦ two.formless f ];
  within = omega (arith, one.within, two.within);
  begins = elim (cases_lt place begun) [
    | inl lt ↦
        let same : begun ≡ at = omega arith in
        let (rest, (s, is)) = one.begins in (
          rest,
          (s, sized_form s (take at text ++ rest) (subst (λ (n : ℕ). sized.IsSpelled s (take n text ++ rest)) same is)),
        )
    | inr ge ↦
        let same : place ≡ at = omega arith in
        let (rest, (s, is)) = two.begins in
        (rest, (s, name_form s (take at text ++ rest) (subst (λ (n : ℕ). IsNameSpelled s (take n text ++ rest)) same is)))
  ];
  longest = λ k lt le (rest, form). elim (which_form (take k text ++ rest) form) [
    | inl f ↦ one.longest k (omega arith) le (rest, f)
    | inr f ↦ two.longest k (omega arith) le (rest, f)
  ];
}

-- ---- names

pub chunk_fault : (text : List ℕ) (found : Words) → AreNameWords text found → ¬ IsChunkSize found.chunk → IsChunkFault text found.chunk_at
chunk_fault text found is wrong = record {
  words = is.words;
  spelled = name_form is.words text is.spelled;
  place = is.chunk_place;
  wrong = λ size. wrong (subst (λ n. IsChunkSize n) (sym is.chunk_is) size);
}

-- a name's text in words
name_flat : (name : SwarmName) → name_text name
    ≡ codes "ppspp1:" ++ (encode_lower name.root ++ (codes ":" ++ (decimal name.chunk ++ (codes ":auto:" ++ decimal (method_number name.method)))))
unfolding name_text
name_flat name = simp append_assoc

-- the text of the words that were found
pub name_found : (text : List ℕ) (found : Words) (name : SwarmName) → AreNameWords text found → name.root ≡ found.root
    → name.chunk ≡ found.chunk → found.chunk ≤ 2 ^ 13 → found.method ≡ method_number name.method → text ≡ name_text name
name_found text found name is root chunk low method =
    let small = method_below name.method in
    let chunk_is = is.chunk_is in
    let method_is = is.method_is in
    let w1 : is.words.root ≡ encode_lower name.root = sym is.root_text ∙ ap (λ xs. encode_lower xs) (sym root) in
    let w2 : is.words.chunk ≡ decimal name.chunk =
    sym (decimal_of_number is.words.chunk is.spelled.chunk_number (omega arith)) ∙ ap decimal (sym (chunk ∙ is.chunk_is)) in
    let w3 : is.words.method ≡ decimal (method_number name.method) =
    sym (decimal_of_number is.words.method is.spelled.method_number (omega arith)) ∙ ap decimal (sym is.method_is ∙ method) in
    is.spelled.text_is ∙ flat is.words is.spelled.auto
    ∙ ap (λ (x : List ℕ). codes "ppspp1:" ++ (x ++ (codes ":" ++ (is.words.chunk ++ (codes ":auto:" ++ is.words.method))))) w1
    ∙ ap (λ (x : List ℕ). codes "ppspp1:" ++ (encode_lower name.root ++ (codes ":" ++ (x ++ (codes ":auto:" ++ is.words.method))))) w2
    ∙ ap (λ (x : List ℕ). codes "ppspp1:" ++ (encode_lower name.root ++ (codes ":" ++ (decimal name.chunk ++ (codes ":auto:" ++ x))))) w3
    ∙ sym (name_flat name)

-- the words of a name
abbrev spelling_of_name : SwarmName → Spelling
spelling_of_name name =
    record { root = encode_lower name.root; chunk = decimal name.chunk; size = codes "auto"; method = decimal (method_number name.method) }

name_spelled : (name : SwarmName) (text : List ℕ) → IsName name → IsBytes name.root → text ≡ name_text name
    → IsNameSpelled (spelling_of_name name) text
name_spelled name text is bytes e =
    let range = chunk_size_range name.chunk is.chunk_size in
    let small = method_below name.method in
    let long = length-encode_with lower_digits name.root in
    let size = is.root_length in
    record {
      text_is = e ∙ name_flat name ∙ sym (flat (spelling_of_name name) refl);
      root_length = omega (arith, long);
      root_digits = λ k lt. encoded_lower name.root bytes k (omega arith);
      chunk_number = decimal_is_number name.chunk (omega arith);
      auto = refl;
      method_number = decimal_is_number (method_number name.method) (omega arith);
    }

-- a number before a colon
number_before_colon : (x r y v : List ℕ) → IsNumber x → IsNumber y → x ++ 58 ∷ r ≡ y ++ 58 ∷ v → (x ≡ y) × (r ≡ v)
number_before_colon x r y v is_x is_y e =
    let same = number_same x (58 ∷ r) y (58 ∷ v) is_x is_y (λ h. absurd (false_true false refl h)) (λ h. false_true false refl h) e in
    let rest = append_cancel_left x (58 ∷ r) (58 ∷ v) (e ∙ ap (λ z. z ++ 58 ∷ v) same) in
    (sym same, append_cancel_left (58 ∷ []) r v rest)

-- the words of a name's text
same_words : (s z : Spelling) (text : List ℕ) → IsNameSpelled s text → IsNameSpelled z text
    → (s.root ≡ z.root) × (s.chunk ≡ z.chunk) × (s.method ≡ z.method)
same_words s z text one two =
    let whole = sym (flat s one.auto) ∙ sym one.text_is ∙ two.text_is ∙ flat z two.auto in
    let rest_s : List ℕ = codes ":" ++ (s.chunk ++ (codes ":auto:" ++ s.method)) in
    let rest_z : List ℕ = codes ":" ++ (z.chunk ++ (codes ":auto:" ++ z.method)) in
    let e1 : s.root ++ rest_s ≡ z.root ++ rest_z = append_cancel_left (codes "ppspp1:") (s.root ++ rest_s) (z.root ++ rest_z) whole in
    let root = front_same s.root rest_s z.root rest_z (one.root_length ∙ sym two.root_length) e1 in
    let e2 = append_cancel_left s.root rest_s rest_z (e1 ∙ ap (λ x. x ++ rest_z) (sym root)) in
    let e3 = append_cancel_left (codes ":") (s.chunk ++ (codes ":auto:" ++ s.method)) (z.chunk ++ (codes ":auto:" ++ z.method)) e2 in
    let chunk = number_before_colon s.chunk (codes "auto:" ++ s.method) z.chunk (codes "auto:" ++ z.method) one.chunk_number two.chunk_number e3 in
    let method = append_cancel_left (codes "auto:") s.method z.method chunk.1 in
    (root, chunk.0, method)

-- no text has both forms
forms_apart : (s z : Spelling) (text : List ℕ) → sized.IsSpelled s text → IsNameSpelled z text → ⊥
forms_apart s z text one two =
    let mine : before_method s ++ s.method ≡ codes "ppspp1:" ++ (s.root ++ (codes ":" ++ (s.chunk ++ (codes ":" ++ (s.size ++ (codes ":" ++ s.method)))))) = simp append_assoc in
    let whole = sym mine ∙ sym one.text_is ∙ two.text_is ∙ flat z two.auto in
    let rest_s : List ℕ = codes ":" ++ (s.chunk ++ (codes ":" ++ (s.size ++ (codes ":" ++ s.method)))) in
    let rest_z : List ℕ = codes ":" ++ (z.chunk ++ (codes ":auto:" ++ z.method)) in
    let e1 : s.root ++ rest_s ≡ z.root ++ rest_z = append_cancel_left (codes "ppspp1:") (s.root ++ rest_s) (z.root ++ rest_z) whole in
    let root = front_same s.root rest_s z.root rest_z (one.root_length ∙ sym two.root_length) e1 in
    let e2 = append_cancel_left s.root rest_s rest_z (e1 ∙ ap (λ x. x ++ rest_z) (sym root)) in
    let e3 = append_cancel_left (codes ":") (s.chunk ++ (codes ":" ++ (s.size ++ (codes ":" ++ s.method)))) (z.chunk ++ (codes ":auto:" ++ z.method)) e2 in
    let chunk = number_before_colon s.chunk (s.size ++ (codes ":" ++ s.method)) z.chunk (codes "auto:" ++ z.method) one.chunk_number two.chunk_number e3 in
    let first : get_or s.size 0 0 ≡ 97 = sym (get_or-append s.size (codes ":" ++ s.method) 0 0 one.size_number.some) ∙ ap (λ xs. get_or xs 0 0) chunk.1 in
    let wrong : is_digit (get_or s.size 0 0) ≡ false = ap (λ c. is_digit c) first in
    false_true (is_digit (get_or s.size 0 0)) wrong (one.size_number.digits 0 one.size_number.some)

-- ---- the answer for a target's text

-- a descriptor's text has none of the faults of a descriptor's
none_sized : (text : List ℕ) (fault : DescriptorFault) (d : Descriptor) → IsFaultOf text fault → IsDescriptor d → IsBytes d.root
    → text ≡ descriptor_text d → ⊥
none_sized text fault d is ok all e =
    let answer : Result Descriptor DescriptorFault = Err fault in
    let same = each_read text (Err fault) tt tt tt is d ok all e in cc

no_sized_fault : (text : List ℕ) (fault : DescriptorFault) (d : Descriptor) → HasFault text fault → IsDescriptor d → IsBytes d.root
    → text ≡ descriptor_text d → ⊥
no_sized_fault text (Form at) d is ok all e =
    is.formless (spelling_of d, sized_form (spelling_of d) text (spelled d text ok all e))
no_sized_fault text (Chunk at) d is ok all e = elim is.spelled.size_word [
  | inl number ↦ none_sized text (Chunk at) d
      (record { words = is.words; spelled = as_sized is.words text is.spelled number; place = is.place; wrong = is.wrong }) ok all e
  | inr auto ↦ forms_apart (spelling_of d) is.words text (spelled d text ok all e) (as_name is.words text is.spelled auto)
]
no_sized_fault text (Size at) d is ok all e = none_sized text (Size at) d
    (record {
      words = is.words;
      spelled = as_sized is.words text is.spelled is.number;
      place = is.place;
      chunk_size = is.chunk_size;
      wrong = is.wrong;
    }) ok all e
no_sized_fault text (OfMethod at) d is ok all e = elim is.spelled.size_word [
  | inl number ↦ none_sized text (OfMethod at) d
      (record {
        words = is.words;
        spelled = as_sized is.words text is.spelled number;
        place = is.place;
        chunk_size = is.chunk_size;
        content_size = is.content_size number;
        wrong = is.wrong;
      }) ok all e
  | inr auto ↦ forms_apart (spelling_of d) is.words text (spelled d text ok all e) (as_name is.words text is.spelled auto)
]

no_name_fault : (text : List ℕ) (fault : DescriptorFault) (name : SwarmName) → HasFault text fault → IsName name → IsBytes name.root
    → text ≡ name_text name → ⊥
no_name_fault text (Form at) name is ok all e =
    is.formless (spelling_of_name name, name_form (spelling_of_name name) text (name_spelled name text ok all e))
no_name_fault text (Chunk at) name is ok all e = elim is.spelled.size_word [
  | inl number ↦ forms_apart is.words (spelling_of_name name) text (as_sized is.words text is.spelled number) (name_spelled name text ok all e)
  | inr auto ↦
      let same = same_words is.words (spelling_of_name name) text (as_name is.words text is.spelled auto) (name_spelled name text ok all e) in
      let range = chunk_size_range name.chunk ok.chunk_size in
      let chunk = ap number_of same.1 ∙ number_of_decimal name.chunk (omega arith) in
      is.wrong (subst (λ n. IsChunkSize n) (sym chunk) ok.chunk_size)
]
no_name_fault text (Size at) name is ok all e =
    forms_apart is.words (spelling_of_name name) text (as_sized is.words text is.spelled is.number) (name_spelled name text ok all e)
no_name_fault text (OfMethod at) name is ok all e = elim is.spelled.size_word [
  | inl number ↦ forms_apart is.words (spelling_of_name name) text (as_sized is.words text is.spelled number) (name_spelled name text ok all e)
  | inr auto ↦
      let same = same_words is.words (spelling_of_name name) text (as_name is.words text is.spelled auto) (name_spelled name text ok all e) in
      let small = method_below name.method in
      is.wrong name.method (ap number_of same.2 ∙ number_of_decimal (method_number name.method) (omega arith))
]

-- a name as a descriptor of one byte
abbrev of_one_byte : SwarmName → Descriptor
of_one_byte name = record { root = name.root; chunk = name.chunk; size = 1; method = name.method }

one_byte : (name : SwarmName) → IsName name → IsDescriptor (of_one_byte name)
one_byte name is =
    let range = chunk_size_range name.chunk is.chunk_size in
    record { root_length = is.root_length; chunk_size = is.chunk_size; content_size = record { some = omega arith; within = omega arith } }

text_of_one_byte : (x y : SwarmName) → encode_lower x.root ≡ encode_lower y.root → decimal x.chunk ≡ decimal y.chunk
    → decimal (method_number x.method) ≡ decimal (method_number y.method) → descriptor_text (of_one_byte x) ≡ descriptor_text (of_one_byte y)
unfolding descriptor_text
text_of_one_byte x y root chunk method =
    ap (λ (r : List ℕ). codes "ppspp1:" ++ r ++ codes ":" ++ decimal x.chunk ++ codes ":" ++ decimal 1 ++ codes ":" ++ decimal (method_number x.method)) root
    ∙ ap (λ (c : List ℕ). codes "ppspp1:" ++ encode_lower y.root ++ codes ":" ++ c ++ codes ":" ++ decimal 1 ++ codes ":" ++ decimal (method_number x.method)) chunk
    ∙ ap (λ (m : List ℕ). codes "ppspp1:" ++ encode_lower y.root ++ codes ":" ++ decimal y.chunk ++ codes ":" ++ decimal 1 ++ codes ":" ++ m) method

-- two names of one text
names_same : (x y : SwarmName) (text : List ℕ) → IsName x → IsName y → IsBytes x.root → IsBytes y.root
    → text ≡ name_text x → text ≡ name_text y → of_one_byte x ≡ of_one_byte y
names_same x y text is_x is_y all_x all_y one two =
    let same = same_words (spelling_of_name x) (spelling_of_name y) text (name_spelled x text is_x all_x one) (name_spelled y text is_y all_y two) in
    descriptor_same (of_one_byte x) (of_one_byte y) (descriptor_text (of_one_byte x)) (one_byte x is_x) (one_byte y is_y) all_x all_y refl
    (text_of_one_byte x y same.0 same.1 same.2)

back_from_method : (m : Method) → method_from (method_of m) ≡ m
back_from_method Bin32 = refl
back_from_method Range32 = refl
back_from_method Bin64 = refl
back_from_method Range64 = refl

declared_same : (x y : declared.SwarmName) → of_one_byte (name_of x) ≡ of_one_byte (name_of y) → x ≡ y
declared_same x y e =
    let root : x.root ≡ y.root = ap (λ (d : Descriptor). d.root) e in
    let chunk : x.chunk ≡ y.chunk = ap (λ (d : Descriptor). d.chunk) e in
    let method : x.method ≡ y.method = sym (back_from_method x.method) ∙ ap (λ (d : Descriptor). method_from d.method) e ∙ back_from_method y.method in
    ap (λ (r : List ℕ). let n : declared.SwarmName = record { root = r; chunk = x.chunk; method = x.method } in n) root
    ∙ ap (λ (c : ℕ). let n : declared.SwarmName = record { root = y.root; chunk = c; method = x.method } in n) chunk
    ∙ ap (λ (m : Method). let n : declared.SwarmName = record { root = y.root; chunk = y.chunk; method = m } in n) method

target_same : (text : List ℕ) (x t : Target) → IsTarget (target_of x) → IsTarget (target_of t) → IsBytes (root_in (target_of x))
    → IsBytes (root_in (target_of t)) → text ≡ target_text (target_of x) → text ≡ target_text (target_of t) → x ≡ t
target_same text (Sized d) (Sized e) ok ok' all all' one two = ap (λ (v : Descriptor). Sized v) (descriptor_same d e text ok ok' all all' one two)
target_same text (Sized d) (Auto n) ok ok' all all' one two =
    absurd (forms_apart (spelling_of d) (spelling_of_name (name_of n)) text (spelled d text ok all one) (name_spelled (name_of n) text ok' all' two))
target_same text (Auto n) (Sized d) ok ok' all all' one two =
    absurd (forms_apart (spelling_of d) (spelling_of_name (name_of n)) text (spelled d text ok' all' two) (name_spelled (name_of n) text ok all one))
target_same text (Auto n) (Auto m) ok ok' all all' one two =
    ap (λ (v : declared.SwarmName). Auto v) (declared_same n m (names_same (name_of n) (name_of m) text ok ok' all all' one two))

no_fault : (text : List ℕ) (fault : DescriptorFault) (t : Target) → HasFault text fault → IsTarget (target_of t)
    → IsBytes (root_in (target_of t)) → text ≡ target_text (target_of t) → ⊥
no_fault text fault (Sized d) is ok all e = no_sized_fault text fault d is ok all e
no_fault text fault (Auto n) is ok all e = no_name_fault text fault (name_of n) is ok all e

pub each_target : (text : List ℕ) (r : Result Target DescriptorFault) → IfOk r (λ t. text ≡ target_text (target_of t))
    → IfOk r (λ t. IsTarget (target_of t)) → IfOk r (λ t. IsBytes (root_in (target_of t))) → IfErr r (HasFault text) → (t : Target)
    → IsTarget (target_of t) → IsBytes (root_in (target_of t)) → text ≡ target_text (target_of t) → r ≡ Ok t
each_target text (Ok x) is valid bytes fault t ok all e = ap (λ (v : Target). Ok v) (target_same text x t valid ok bytes all is e)
each_target text (Err f) is valid bytes fault t ok all e = absurd (no_fault text f t fault ok all e)
