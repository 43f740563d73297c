-- Reading the words one after the other, and the fault wherever the text stops.
use Rattle.std.proofs.Common.{◌≡◌, ℕ, zero, suc, ◌+◌, ◌<◌, ◌≤◌, Bool, List, [], ◌∷◌, ◌++◌, length, drop, codes, refl, ◌∙◌, ap, arith}
use Rattle.std.proofs.lemmas.List.{length-append, drop_all}
use Rattle.hex.specs.Hex.{encode_lower, IsBytes}
use Rattle.pp_terms.specs.format.DescriptorRead.{IsFormFault}
use Rattle.pp_tree.specs.declared.form.Words.{Words}
use Rattle.pp_tree.specs.Scan.{as_word, as_hex, IsRead, IsStopped, IsNumberRead, IsNoNumber, AreWords}
use Rattle.pp_tree.proofs.Languages.{Part, Fixed, Numeral, Made, IsApart, IsStopAt, piece, length-piece, split_at, on_fixed, on_number, stop_fixed, stop_number, stop_end, matches_fixed, matches_number}
use Rattle.pp_tree.proofs.Forms.{word, hex, parts, form_fault, spelled_by, nothing_left, number_left, word_left, hex_left, zeros, zeros_match, word_matches, colon_apart, end_apart}

abbrev colon : List ℕ
colon = codes ":"

-- the parts from the second on
abbrev pub from_root : List Part
from_root = hex ∷ word colon ∷ Numeral ∷ word colon ∷ Numeral ∷ word colon ∷ Numeral ∷ []

-- the text was read up to a place, and the other parts are to come
abbrev pub Way : List Part → List ℕ → ℕ → Type 0
Way ps t at = (stop : ℕ) → IsStopAt ps t at stop → IsFormFault t stop

pub at_front : (t : List ℕ) → Way parts t 0
at_front t = form_fault t

pub past_fixed : (test : ℕ → ℕ → Bool) (len : ℕ) (ps : List Part) (t : List ℕ) (at end : ℕ) → Way (Fixed len test ∷ ps) t at
    → IsRead test len t at end → Way ps t end
past_fixed test len ps t at end way is = λ stop later. way stop (on_fixed test len ps t at end stop is later)

pub past_number : (ps : List Part) (t : List ℕ) (at value end : ℕ) → Way (Numeral ∷ ps) t at → IsNumberRead t at value end
    → IsApart ps → Way ps t end
past_number ps t at value end way is apart = λ stop later. way stop (on_number ps t at value end stop is apart later)

-- the stages, each with what was read so far
pub stage_root : (t : List ℕ) (a : ℕ) → IsRead (as_word (codes "ppspp1:")) 7 t 0 a → Way from_root t a
stage_root t a is = past_fixed (as_word (codes "ppspp1:")) 7 from_root t 0 a (at_front t) is

abbrev pub from_colon : ℕ → List Part
from_colon zero = []
from_colon (suc n) = word colon ∷ Numeral ∷ from_colon n

apart : (n : ℕ) → IsApart (from_colon n)
apart zero = end_apart
apart (suc n) = colon_apart (Numeral ∷ from_colon n)

pub stage_colon : (t : List ℕ) (a b : ℕ) → Way from_root t a → IsRead as_hex 64 t a b → Way (from_colon 3) t b
stage_colon t a b way is = past_fixed as_hex 64 (from_colon 3) t a b way is

pub stage_number : (t : List ℕ) (n a b : ℕ) → Way (from_colon (suc n)) t a → IsRead (as_word (codes ":")) 1 t a b
    → Way (Numeral ∷ from_colon n) t b
stage_number t n a b way is = past_fixed (as_word (codes ":")) 1 (Numeral ∷ from_colon n) t a b way is

pub stage_next : (t : List ℕ) (n a value b : ℕ) → Way (Numeral ∷ from_colon n) t a → IsNumberRead t a value b → Way (from_colon n) t b
stage_next t n a value b way is = past_number (from_colon n) t a value b way is (apart n)

-- samples of what is left
left : (n : ℕ) → (x : List ℕ) × Made (from_colon n) x
left zero = nothing_left
left (suc n) = word_left colon (Numeral ∷ from_colon n) (number_left (from_colon n) (left n))

-- the faults at each stage
pub fault_at_front : (t : List ℕ) (stop : ℕ) → IsStopped (as_word (codes "ppspp1:")) 7 t 0 stop → IsFormFault t stop
fault_at_front t stop is =
    at_front t stop (stop_fixed (as_word (codes "ppspp1:")) 7 from_root t 0 stop (codes "ppspp1:") is (word_matches (codes "ppspp1:"))
    (hex_left (from_colon 3) (left 3)))

pub fault_at_root : (t : List ℕ) (a stop : ℕ) → Way from_root t a → IsStopped as_hex 64 t a stop → IsFormFault t stop
fault_at_root t a stop way is = way stop (stop_fixed as_hex 64 (from_colon 3) t a stop zeros is zeros_match (left 3))

pub fault_at_colon : (t : List ℕ) (n a stop : ℕ) → Way (from_colon (suc n)) t a → IsStopped (as_word (codes ":")) 1 t a stop
    → IsFormFault t stop
fault_at_colon t n a stop way is =
    way stop (stop_fixed (as_word (codes ":")) 1 (Numeral ∷ from_colon n) t a stop colon is (word_matches colon)
    (number_left (from_colon n) (left n)))

pub fault_at_number : (t : List ℕ) (n a stop : ℕ) → Way (Numeral ∷ from_colon n) t a → a ≤ length t → IsNoNumber t a stop
    → IsFormFault t stop
fault_at_number t n a stop way inside is = way stop (stop_number (from_colon n) t a stop inside is (left n))

pub fault_at_end : (t : List ℕ) (a : ℕ) → Way (from_colon 0) t a → a < length t → IsFormFault t a
fault_at_end t a way lt = way a (stop_end t a lt)

-- where the pieces of a text end
three_pieces : (x y z : List ℕ) → length (x ++ y ++ z) ≡ length x + length y + length z
three_pieces x y z = length-append (x ++ y) z ∙ ap (λ n. n + length z) (length-append x y)

-- all words were read
pub words_read : (t : List ℕ) (found : Words) (a b c e h : ℕ)
    → IsRead (as_word (codes "ppspp1:")) 7 t 0 a → IsRead as_hex 64 t a b → IsRead (as_word (codes ":")) 1 t b found.chunk_at
    → IsNumberRead t found.chunk_at found.chunk c → IsRead (as_word (codes ":")) 1 t c found.size_at
    → IsNumberRead t found.size_at found.size e → IsRead (as_word (codes ":")) 1 t e found.method_at
    → IsNumberRead t found.method_at found.method h → length t ≤ h
    → encode_lower found.root ≡ piece t a b → IsBytes found.root → length found.root ≡ 32 → AreWords t found
words_read t found a b c e h r1 r2 r3 r4 r5 r6 r7 r8 over text bytes size =
    let p1 = r1.end_is in
    let p2 = r2.end_is in
    let p3 = r3.end_is in
    let p4 = r4.some in
    let p5 = r5.end_is in
    let p6 = r6.some in
    let p7 = r7.end_is in
    let p8 = r8.some in
    let o1 : 0 ≤ a = omega arith in
    let o2 : a ≤ b = omega arith in
    let o3 : b ≤ found.chunk_at = omega arith in
    let o4 : found.chunk_at ≤ c = omega arith in
    let o5 : c ≤ found.size_at = omega arith in
    let o6 : found.size_at ≤ e = omega arith in
    let o7 : e ≤ found.method_at = omega arith in
    let o8 : found.method_at ≤ h = omega arith in
    let size2 = length-piece t a b o2 r2.inside in
    let size4 = length-piece t found.chunk_at c o4 r4.inside in
    let size6 = length-piece t found.size_at e o6 r6.inside in
    let front : length (codes "ppspp1:" ++ piece t a b ++ codes ":") ≡ 7 + length (piece t a b) + 1 =
    three_pieces (codes "ppspp1:") (piece t a b) (codes ":") in
    let second = three_pieces (codes "ppspp1:" ++ piece t a b ++ codes ":") (piece t found.chunk_at c) (codes ":") in
    let third = three_pieces (codes "ppspp1:" ++ piece t a b ++ codes ":" ++ piece t found.chunk_at c ++ codes ":")
    (piece t found.size_at e) (codes ":") in
    let one : length (codes ":") ≡ 1 = refl in
    record {
      words = record { root = piece t a b; chunk = piece t found.chunk_at c; size = piece t found.size_at e; method = piece t found.method_at h };
      spelled = spelled_by t (piece t 0 a) (drop a t) (piece t a b) (drop b t) (piece t b found.chunk_at) (drop found.chunk_at t)
          (piece t found.chunk_at c) (drop c t) (piece t c found.size_at) (drop found.size_at t) (piece t found.size_at e) (drop e t)
          (piece t e found.method_at) (drop found.method_at t) (piece t found.method_at h) (drop h t)
          (split_at t 0 a o1) (split_at t a b o2) (split_at t b found.chunk_at o3) (split_at t found.chunk_at c o4)
          (split_at t c found.size_at o5) (split_at t found.size_at e o6) (split_at t e found.method_at o7)
          (split_at t found.method_at h o8) (drop_all h t over)
          (matches_fixed (as_word (codes "ppspp1:")) 7 t 0 a r1) (matches_fixed as_hex 64 t a b r2)
          (matches_fixed (as_word (codes ":")) 1 t b found.chunk_at r3) (matches_number t found.chunk_at found.chunk c r4)
          (matches_fixed (as_word (codes ":")) 1 t c found.size_at r5) (matches_number t found.size_at found.size e r6)
          (matches_fixed (as_word (codes ":")) 1 t e found.method_at r7) (matches_number t found.method_at found.method h r8);
      root_text = text;
      root_bytes = bytes;
      root_length = size;
      chunk_is = r4.value_is;
      size_is = r6.value_is;
      method_is = r8.value_is;
      chunk_place = omega (arith, front, size2);
      size_place = omega (arith, front, size2, second, size4, one);
      method_place = omega (arith, front, size2, second, size4, third, size6, one);
    }
