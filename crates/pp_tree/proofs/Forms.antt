-- The form of a descriptor's text as a list of parts.
use Rattle.std.proofs.Common.{◌≡◌, ℕ, ◌+◌, ◌-◌, ◌<◌, ◌≤◌, ◌==◌, true, false, List, [], ◌∷◌, ◌++◌, length, take, drop, get_or, codes, replicate, refl, sym, ◌∙◌, ap, subst, arith, append_assoc}
use Rattle.std.proofs.lemmas.Bool.Decides.{nat_tests}
use Rattle.std.proofs.lemmas.List.{ext_get_or, take-take, take-append-drop, length-replicate, get_or-replicate, append-nil}
use Rattle.pp_terms.specs.format.DescriptorRead.{is_digit, is_lower_hex, IsNumber, IsSpelled, HasForm, IsFormFault}
use Rattle.pp_tree.specs.Scan.{as_word, as_hex}
use Rattle.pp_tree.proofs.Languages.{Part, Fixed, Numeral, Matches, Made, Sample, IsApart, IsStopAt, false_true}

abbrev pub word : List ℕ → Part
word w = Fixed (length w) (as_word w)

abbrev pub hex : Part
hex = Fixed 64 as_hex

abbrev pub parts : List Part
parts = word (codes "ppspp1:") ∷ hex ∷ word (codes ":") ∷ Numeral ∷ word (codes ":") ∷ Numeral ∷ word (codes ":") ∷ Numeral ∷ []

-- a word is that word
pub word_is : (w x : List ℕ) → Matches (word w) x → x ≡ w
word_is w x is = ext_get_or 0 x w is.0 (λ k lt.
    let inner : k < length w = omega (arith, is.0) in
    let test : (get_or x k 0 == get_or w k 0) ≡ true = is.1 k inner in
    grind (arith, nat_tests))

pub word_matches : (w : List ℕ) → Matches (word w) w
word_matches w = (refl, λ k lt. grind (arith, nat_tests))

pub made_of_form : (text : List ℕ) → HasForm text → Made parts text
made_of_form text (s, is) = (
  codes "ppspp1:",
  _,
  word_matches (codes "ppspp1:"),
  (
    s.root,
    _,
    (is.root_length, is.root_digits),
    (
      codes ":",
      _,
      word_matches (codes ":"),
      (
        s.chunk,
        _,
        is.chunk_number,
        (
          codes ":",
          _,
          word_matches (codes ":"),
          (
            s.size,
            _,
            is.size_number,
            (
              codes ":",
              _,
              word_matches (codes ":"),
              (s.method, [], is.method_number, refl, refl),
              refl,
            ),
            refl,
          ),
          refl,
        ),
        refl,
      ),
      refl,
    ),
    refl,
  ),
  is.text_is ∙ simp (append_assoc, append-nil),
)

-- eight pieces put together
all_pieces : (text w y1 h y2 c1 y3 chunk y4 c2 y5 size y6 c3 y7 method y8 first colon : List ℕ)
    → text ≡ w ++ y1 → y1 ≡ h ++ y2 → y2 ≡ c1 ++ y3 → y3 ≡ chunk ++ y4 → y4 ≡ c2 ++ y5 → y5 ≡ size ++ y6 → y6 ≡ c3 ++ y7
    → y7 ≡ method ++ y8 → y8 ≡ [] → w ≡ first → c1 ≡ colon → c2 ≡ colon → c3 ≡ colon
    → text ≡ first ++ (h ++ (colon ++ (chunk ++ (colon ++ (size ++ (colon ++ (method ++ [])))))))
all_pieces text w y1 h y2 c1 y3 chunk y4 c2 y5 size y6 c3 y7 method y8 first colon e1 e2 e3 e4 e5 e6 e7 e8 none w_is a b c = cc

pub spelled_by : (text w y1 h y2 c1 y3 chunk y4 c2 y5 size y6 c3 y7 method y8 : List ℕ)
    → text ≡ w ++ y1 → y1 ≡ h ++ y2 → y2 ≡ c1 ++ y3 → y3 ≡ chunk ++ y4 → y4 ≡ c2 ++ y5 → y5 ≡ size ++ y6 → y6 ≡ c3 ++ y7
    → y7 ≡ method ++ y8 → y8 ≡ [] → Matches (word (codes "ppspp1:")) w → Matches hex h → Matches (word (codes ":")) c1
    → IsNumber chunk → Matches (word (codes ":")) c2 → IsNumber size → Matches (word (codes ":")) c3 → IsNumber method
    → IsSpelled (record { root = h; chunk = chunk; size = size; method = method }) text
spelled_by text w y1 h y2 c1 y3 chunk y4 c2 y5 size y6 c3 y7 method y8 e1 e2 e3 e4 e5 e6 e7 e8 none mw mh m1 mc m2 ms m3 mm =
    record {
      text_is = all_pieces text w y1 h y2 c1 y3 chunk y4 c2 y5 size y6 c3 y7 method y8 (codes "ppspp1:") (codes ":")
          e1 e2 e3 e4 e5 e6 e7 e8 none (word_is (codes "ppspp1:") w mw) (word_is (codes ":") c1 m1) (word_is (codes ":") c2 m2)
          (word_is (codes ":") c3 m3) ∙ sym (simp (append_assoc, append-nil));
      root_length = mh.0;
      root_digits = mh.1;
      chunk_number = mc;
      size_number = ms;
      method_number = mm;
    }

pub form_of_made : (text : List ℕ) → Made parts text → HasForm text
form_of_made text (
  w,
  y1,
  mw,
  (
    h,
    y2,
    mh,
    (
      c1,
      y3,
      m1,
      (
        chunk,
        y4,
        mc,
        (
          c2,
          y5,
          m2,
          (
            size,
            y6,
            ms,
            (
              c3,
              y7,
              m3,
              (method, y8, mm, none, e8),
              e7,
            ),
            e6,
          ),
          e5,
        ),
        e4,
      ),
      e3,
    ),
    e2,
  ),
  e1,
) = (
  record { root = h; chunk = chunk; size = size; method = method },
  spelled_by text w y1 h y2 c1 y3 chunk y4 c2 y5 size y6 c3 y7 method y8 e1 e2 e3 e4 e5 e6 e7 e8 none mw mh m1 mc m2 ms m3 mm,
)

-- the fault of a text, by where it stops
pub form_fault : (text : List ℕ) (stop : ℕ) → IsStopAt parts text 0 stop → IsFormFault text stop
form_fault text stop is =
    let whole : stop - 0 ≡ stop = omega arith in
    record {
      formless = λ form. is.rest.fails (made_of_form text form);
      within = omega (arith, is.rest.within);
      begins = (
        is.rest.begins.0,
        form_of_made (take stop text ++ is.rest.begins.0)
            (subst (λ n. Made parts (take n text ++ is.rest.begins.0)) whole is.rest.begins.1),
      );
      longest = λ k lt le (rest, form).
          let low : stop - 0 + 1 ≤ k = omega arith in
          let split : take k text ++ rest ≡ take (stop - 0 + 1) text ++ (drop (stop - 0 + 1) (take k text) ++ rest) =
          ap (λ z. z ++ rest) (sym (take-append-drop (stop - 0 + 1) (take k text)))
          ∙ append_assoc (take (stop - 0 + 1) (take k text)) (drop (stop - 0 + 1) (take k text)) rest
          ∙ ap (λ z. z ++ (drop (stop - 0 + 1) (take k text) ++ rest)) (take-take (stop - 0 + 1) k text low) in
          is.rest.longest (omega arith) (drop (stop - 0 + 1) (take k text) ++ rest)
          (subst (λ z. Made parts z) split (made_of_form (take k text ++ rest) form));
    }

-- texts of the last parts
also : (p : Part) (ps : List Part) (x : List ℕ) → Matches p x → Sample ps → Sample (p ∷ ps)
also p ps x matches (t, made) = (x ++ t, (x, t, matches, made, refl))

pub nothing_left : Sample []
nothing_left = ([], refl)

nought : IsNumber (48 ∷ [])
nought = record {
  some = omega arith;
  most = omega arith;
  digits = λ k lt. (let e : k ≡ 0 = omega arith in ap (λ j. is_digit (get_or (48 ∷ []) j 0)) e);
  plain = λ _. refl;
}

pub number_left : (ps : List Part) → Sample ps → Sample (Numeral ∷ ps)
number_left ps sample = also Numeral ps (48 ∷ []) nought sample

pub word_left : (w : List ℕ) (ps : List Part) → Sample ps → Sample (word w ∷ ps)
word_left w ps sample = also (word w) ps w (word_matches w) sample

pub zeros : List ℕ
zeros = replicate 64 48

pub zeros_match : Matches hex zeros
unfolding zeros
zeros_match = (length-replicate {A = ℕ} 64 48, λ k lt. ap (λ c. is_lower_hex c) (get_or-replicate {A = ℕ} 64 k 48 0 lt))

pub hex_left : (ps : List Part) → Sample ps → Sample (hex ∷ ps)
hex_left ps sample = also hex ps zeros zeros_match sample

-- no colon and no end is a digit
pub colon_apart : (ps : List Part) → IsApart (word (codes ":") ∷ ps)
colon_apart ps t (x, y, matches, made, e) digit =
    let same = word_is (codes ":") x matches in
    let first : get_or t 0 0 ≡ 58 = ap (λ z. get_or z 0 0) (e ∙ ap (λ z. z ++ y) same) in
    let wrong : is_digit (get_or t 0 0) ≡ false = ap (λ c. is_digit c) first in
    false_true (is_digit (get_or t 0 0)) wrong digit

pub end_apart : IsApart []
end_apart t e digit =
    let wrong : is_digit (get_or t 0 0) ≡ false = ap (λ z. is_digit (get_or z 0 0)) e in
    false_true (is_digit (get_or t 0 0)) wrong digit
