-- The form of a name's text as a list of parts, and the fault wherever a text stops.
use Rattle.std.proofs.Common.{◌≡◌, ℕ, ◌+◌, ◌-◌, ◌<◌, ◌≤◌, false, Bool, List, [], ◌∷◌, ◌++◌, length, take, drop, get_or, codes, refl, sym, ◌∙◌, ap, subst, arith, append_assoc}
use Rattle.std.proofs.lemmas.List.{take-take, take-append-drop, append-nil, length-append, drop_all}
use Rattle.hex.specs.Hex.{encode_lower, IsBytes}
use Rattle.pp_terms.specs.format.DescriptorRead.{is_digit, IsNumber, Spelling, before_method}
use Rattle.pp_tree.specs.Scan.{as_word, as_hex, IsRead, IsStopped, IsNumberRead, IsNoNumber}
use Rattle.pp_tree.proofs.Languages.{Part, Fixed, Numeral, Matches, Made, Sample, IsApart, IsStopAt, piece, length-piece, split_at, on_fixed, on_number, stop_fixed, stop_number, stop_end, matches_fixed, matches_number, false_true}
use Rattle.pp_tree.proofs.Forms.{word, hex, word_is, word_matches, nothing_left, number_left, word_left, hex_left, zeros, zeros_match, end_apart}
use Rattle.pp_targets.specs.NameWords.{IsNameSpelled, HasNameForm, IsNameFault, AreNameWords}
use Rattle.pp_targets.specs.declared.form.Words.{Words}

abbrev front : List ℕ
front = codes "ppspp1:"

abbrev colon : List ℕ
colon = codes ":"

abbrev auto : List ℕ
auto = codes ":auto:"

-- the parts, from the last on
abbrev from_method : List Part
from_method = Numeral ∷ []

abbrev from_auto : List Part
from_auto = word auto ∷ from_method

abbrev from_chunk : List Part
from_chunk = Numeral ∷ from_auto

abbrev from_colon : List Part
from_colon = word colon ∷ from_chunk

abbrev from_root : List Part
from_root = hex ∷ from_colon

abbrev parts : List Part
parts = word front ∷ from_root

-- the words one after the other
pub flat : (s : Spelling) → s.size ≡ codes "auto" → before_method s ++ s.method ≡ front ++ (s.root ++ (colon ++ (s.chunk ++ (auto ++ s.method))))
flat s is =
    ap (λ (z : List ℕ). before_method (record { root = s.root; chunk = s.chunk; size = z; method = s.method }) ++ s.method) is
    ∙ simp append_assoc

made_of_name : (text : List ℕ) → HasNameForm text → Made parts text
made_of_name text (s, is) = (
  front,
  s.root ++ (colon ++ (s.chunk ++ (auto ++ s.method))),
  word_matches front,
  (
    s.root,
    colon ++ (s.chunk ++ (auto ++ s.method)),
    (is.root_length, is.root_digits),
    (
      colon,
      s.chunk ++ (auto ++ s.method),
      word_matches colon,
      (
        s.chunk,
        auto ++ s.method,
        is.chunk_number,
        (auto, s.method, word_matches auto, (s.method, [], is.method_number, refl, sym (append-nil s.method)), refl),
        refl,
      ),
      refl,
    ),
    refl,
  ),
  is.text_is ∙ flat s is.auto,
)

-- six pieces put together
all_pieces : (text w y1 h y2 c1 y3 chunk y4 c2 y5 method y6 : List ℕ)
    → text ≡ w ++ y1 → y1 ≡ h ++ y2 → y2 ≡ c1 ++ y3 → y3 ≡ chunk ++ y4 → y4 ≡ c2 ++ y5 → y5 ≡ method ++ y6 → y6 ≡ []
    → text ≡ w ++ (h ++ (c1 ++ (chunk ++ (c2 ++ (method ++ [])))))
all_pieces text w y1 h y2 c1 y3 chunk y4 c2 y5 method y6 e1 e2 e3 e4 e5 e6 none = cc

spelled_by : (text w y1 h y2 c1 y3 chunk y4 c2 y5 method y6 : List ℕ)
    → text ≡ w ++ y1 → y1 ≡ h ++ y2 → y2 ≡ c1 ++ y3 → y3 ≡ chunk ++ y4 → y4 ≡ c2 ++ y5 → y5 ≡ method ++ y6 → y6 ≡ []
    → Matches (word front) w → Matches hex h → Matches (word colon) c1 → IsNumber chunk → Matches (word auto) c2 → IsNumber method
    → IsNameSpelled (record { root = h; chunk = chunk; size = codes "auto"; method = method }) text
spelled_by text w y1 h y2 c1 y3 chunk y4 c2 y5 method y6 e1 e2 e3 e4 e5 e6 none mw mh m1 mc m2 mm =
    let s : Spelling = record { root = h; chunk = chunk; size = codes "auto"; method = method } in
    record {
      text_is = all_pieces text w y1 h y2 c1 y3 chunk y4 c2 y5 method y6 e1 e2 e3 e4 e5 e6 none
          ∙ ap (λ (x : List ℕ). x ++ (h ++ (c1 ++ (chunk ++ (c2 ++ (method ++ [])))))) (word_is front w mw)
          ∙ ap (λ (x : List ℕ). front ++ (h ++ (x ++ (chunk ++ (c2 ++ (method ++ [])))))) (word_is colon c1 m1)
          ∙ ap (λ (x : List ℕ). front ++ (h ++ (colon ++ (chunk ++ (x ++ (method ++ [])))))) (word_is auto c2 m2)
          ∙ ap (λ (x : List ℕ). front ++ (h ++ (colon ++ (chunk ++ (auto ++ x))))) (append-nil method)
          ∙ sym (flat (record { root = h; chunk = chunk; size = codes "auto"; method = method }) refl);
      root_length = mh.0;
      root_digits = mh.1;
      chunk_number = mc;
      auto = refl;
      method_number = mm;
    }

name_of_made : (text : List ℕ) → Made parts text → HasNameForm text
name_of_made text (w, y1, mw, (h, y2, mh, (c1, y3, m1, (chunk, y4, mc, (c2, y5, m2, (method, y6, mm, none, e6), e5), e4), e3), e2), e1) = (
  record { root = h; chunk = chunk; size = codes "auto"; method = method },
  spelled_by text w y1 h y2 c1 y3 chunk y4 c2 y5 method y6 e1 e2 e3 e4 e5 e6 none mw mh m1 mc m2 mm,
)

-- the fault of a text, by where it stops
name_fault : (text : List ℕ) (stop : ℕ) → IsStopAt parts text 0 stop → IsNameFault text stop
name_fault text stop is =
    let whole : stop - 0 ≡ stop = omega arith in
    record {
      formless = λ form. is.rest.fails (made_of_name text form);
      within = omega (arith, is.rest.within);
      begins = (
        is.rest.begins.0,
        name_of_made (take stop text ++ is.rest.begins.0)
            (subst (λ n. Made parts (take n text ++ is.rest.begins.0)) whole is.rest.begins.1),
      );
      longest = λ k lt le (rest, form).
          let low : stop - 0 + 1 ≤ k = omega arith in
          let split : take k text ++ rest ≡ take (stop - 0 + 1) text ++ (drop (stop - 0 + 1) (take k text) ++ rest) =
          ap (λ z. z ++ rest) (sym (take-append-drop (stop - 0 + 1) (take k text)))
          ∙ append_assoc (take (stop - 0 + 1) (take k text)) (drop (stop - 0 + 1) (take k text)) rest
          ∙ ap (λ z. z ++ (drop (stop - 0 + 1) (take k text) ++ rest)) (take-take (stop - 0 + 1) k text low) in
          is.rest.longest (omega arith) (drop (stop - 0 + 1) (take k text) ++ rest)
          (subst (λ z. Made parts z) split (made_of_name (take k text ++ rest) form));
    }

-- no text behind a number begins with a digit
auto_apart : IsApart from_auto
auto_apart t (x, y, matches, made, e) digit =
    let same = word_is auto x matches in
    let first : get_or t 0 0 ≡ 58 = ap (λ z. get_or z 0 0) (e ∙ ap (λ z. z ++ y) same) in
    let wrong : is_digit (get_or t 0 0) ≡ false = ap (λ c. is_digit c) first in
    false_true (is_digit (get_or t 0 0)) wrong digit

-- the text was read up to a place, and the other parts are to come
abbrev pub Way : List Part → List ℕ → ℕ → Type 0
Way ps t at = (stop : ℕ) → IsStopAt ps t at stop → IsNameFault t stop

past_fixed : (test : ℕ → ℕ → Bool) (len : ℕ) (ps : List Part) (t : List ℕ) (at end : ℕ) → Way (Fixed len test ∷ ps) t at
    → IsRead test len t at end → Way ps t end
past_fixed test len ps t at end way is = λ stop later. way stop (on_fixed test len ps t at end stop is later)

past_number : (ps : List Part) (t : List ℕ) (at value end : ℕ) → Way (Numeral ∷ ps) t at → IsNumberRead t at value end
    → IsApart ps → Way ps t end
past_number ps t at value end way is apart = λ stop later. way stop (on_number ps t at value end stop is apart later)

pub stage_root : (t : List ℕ) (a : ℕ) → IsRead (as_word front) 7 t 0 a → Way from_root t a
stage_root t a is = past_fixed (as_word front) 7 from_root t 0 a (name_fault t) is

pub stage_colon : (t : List ℕ) (a b : ℕ) → Way from_root t a → IsRead as_hex 64 t a b → Way from_colon t b
stage_colon t a b way is = past_fixed as_hex 64 from_colon t a b way is

pub stage_chunk : (t : List ℕ) (a b : ℕ) → Way from_colon t a → IsRead (as_word colon) 1 t a b → Way from_chunk t b
stage_chunk t a b way is = past_fixed (as_word colon) 1 from_chunk t a b way is

pub stage_auto : (t : List ℕ) (a value b : ℕ) → Way from_chunk t a → IsNumberRead t a value b → Way from_auto t b
stage_auto t a value b way is = past_number from_auto t a value b way is auto_apart

pub stage_method : (t : List ℕ) (a b : ℕ) → Way from_auto t a → IsRead (as_word auto) 6 t a b → Way from_method t b
stage_method t a b way is = past_fixed (as_word auto) 6 from_method t a b way is

pub stage_end : (t : List ℕ) (a value b : ℕ) → Way from_method t a → IsNumberRead t a value b → Way [] t b
stage_end t a value b way is = past_number [] t a value b way is end_apart

-- samples of what is left
left_method : Sample from_method
left_method = number_left [] nothing_left

left_auto : Sample from_auto
left_auto = word_left auto from_method left_method

left_chunk : Sample from_chunk
left_chunk = number_left from_auto left_auto

left_colon : Sample from_colon
left_colon = word_left colon from_chunk left_chunk

-- the faults at each stage
pub fault_at_front : (t : List ℕ) (stop : ℕ) → IsStopped (as_word front) 7 t 0 stop → IsNameFault t stop
fault_at_front t stop is =
    name_fault t stop (stop_fixed (as_word front) 7 from_root t 0 stop front is (word_matches front) (hex_left from_colon left_colon))

pub fault_at_root : (t : List ℕ) (a stop : ℕ) → Way from_root t a → IsStopped as_hex 64 t a stop → IsNameFault t stop
fault_at_root t a stop way is = way stop (stop_fixed as_hex 64 from_colon t a stop zeros is zeros_match left_colon)

pub fault_at_colon : (t : List ℕ) (a stop : ℕ) → Way from_colon t a → IsStopped (as_word colon) 1 t a stop → IsNameFault t stop
fault_at_colon t a stop way is = way stop (stop_fixed (as_word colon) 1 from_chunk t a stop colon is (word_matches colon) left_chunk)

pub fault_at_chunk : (t : List ℕ) (a stop : ℕ) → Way from_chunk t a → a ≤ length t → IsNoNumber t a stop → IsNameFault t stop
fault_at_chunk t a stop way inside is = way stop (stop_number from_auto t a stop inside is left_auto)

pub fault_at_auto : (t : List ℕ) (a stop : ℕ) → Way from_auto t a → IsStopped (as_word auto) 6 t a stop → IsNameFault t stop
fault_at_auto t a stop way is = way stop (stop_fixed (as_word auto) 6 from_method t a stop auto is (word_matches auto) left_method)

pub fault_at_method : (t : List ℕ) (a stop : ℕ) → Way from_method t a → a ≤ length t → IsNoNumber t a stop → IsNameFault t stop
fault_at_method t a stop way inside is = way stop (stop_number [] t a stop inside is nothing_left)

pub fault_at_end : (t : List ℕ) (a : ℕ) → Way [] t a → a < length t → IsNameFault t a
fault_at_end t a way lt = way a (stop_end t a lt)

-- where the pieces of a text end
three_pieces : (x y z : List ℕ) → length (x ++ y ++ z) ≡ length x + length y + length z
three_pieces x y z = length-append (x ++ y) z ∙ ap (λ n. n + length z) (length-append x y)

-- all words were read
pub words_read : (t : List ℕ) (found : Words) (a b c h : ℕ)
    → IsRead (as_word front) 7 t 0 a → IsRead as_hex 64 t a b → IsRead (as_word colon) 1 t b found.chunk_at
    → IsNumberRead t found.chunk_at found.chunk c → IsRead (as_word auto) 6 t c found.method_at
    → IsNumberRead t found.method_at found.method h → length t ≤ h
    → encode_lower found.root ≡ piece t a b → IsBytes found.root → length found.root ≡ 32 → AreNameWords t found
words_read t found a b c h r1 r2 r3 r4 r5 r6 over text bytes size =
    let p1 = r1.end_is in
    let p2 = r2.end_is in
    let p3 = r3.end_is in
    let p4 = r4.some in
    let p5 = r5.end_is in
    let p6 = r6.some in
    let o1 : 0 ≤ a = omega arith in
    let o2 : a ≤ b = omega arith in
    let o3 : b ≤ found.chunk_at = omega arith in
    let o4 : found.chunk_at ≤ c = omega arith in
    let o5 : c ≤ found.method_at = omega arith in
    let o6 : found.method_at ≤ h = omega arith in
    let size2 = length-piece t a b o2 r2.inside in
    let size4 = length-piece t found.chunk_at c o4 r4.inside in
    let first : length (front ++ piece t a b ++ colon) ≡ 7 + length (piece t a b) + 1 = three_pieces front (piece t a b) colon in
    let second = three_pieces (front ++ piece t a b ++ colon) (piece t found.chunk_at c) colon in
    let third = three_pieces (front ++ piece t a b ++ colon ++ piece t found.chunk_at c ++ colon) (codes "auto") colon in
    let one : length colon ≡ 1 = refl in
    let four : length (codes "auto") ≡ 4 = refl in
    record {
      words = record { root = piece t a b; chunk = piece t found.chunk_at c; size = codes "auto"; method = piece t found.method_at h };
      spelled = spelled_by t (piece t 0 a) (drop a t) (piece t a b) (drop b t) (piece t b found.chunk_at) (drop found.chunk_at t)
          (piece t found.chunk_at c) (drop c t) (piece t c found.method_at) (drop found.method_at t) (piece t found.method_at h) (drop h t)
          (split_at t 0 a o1) (split_at t a b o2) (split_at t b found.chunk_at o3) (split_at t found.chunk_at c o4)
          (split_at t c found.method_at o5) (split_at t found.method_at h o6) (drop_all h t over)
          (matches_fixed (as_word front) 7 t 0 a r1) (matches_fixed as_hex 64 t a b r2) (matches_fixed (as_word colon) 1 t b found.chunk_at r3)
          (matches_number t found.chunk_at found.chunk c r4) (matches_fixed (as_word auto) 6 t c found.method_at r5)
          (matches_number t found.method_at found.method h r6);
      root_text = text;
      root_bytes = bytes;
      root_length = size;
      chunk_is = r4.value_is;
      method_is = r6.value_is;
      chunk_place = omega (arith, first, size2);
      method_place = omega (arith, first, size2, second, size4, third, one, four);
    }
