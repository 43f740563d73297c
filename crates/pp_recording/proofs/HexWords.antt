-- Words of hexadecimal digits.
use Rattle.std.proofs.Common.{◌≡◌, ℕ, zero, suc, ◌*◌, ◌/◌, ◌%◌, ◌<◌, ◌≤◌, Bool, true, false, ◌&&◌, List, [], ◌∷◌, length, get_or, refl, sym, arith}
use Rattle.std.specs.List.{list_all}
use Rattle.hex.specs.Hex.{encode_lower}
use Rattle.pp_terms.specs.format.DescriptorRead.{is_lower_hex}
use Rattle.pp_tree.proofs.HexDigits.{lower_pairs}
use Rattle.pp_recording.specs.Spelling.{hex_text}
use Rattle.pp_recording.specs.Lines.{IsHex}

all_parts : (a b : Bool) → (a && b) ≡ true → (a ≡ true) × (b ≡ true)
all_parts true true e = (refl, refl)
all_parts true false e = absurd cc
all_parts false b e = absurd cc

pub each_digit : (s : List ℕ) → list_all is_lower_hex s ≡ true → (k : ℕ) → k < length s → is_lower_hex (get_or s k 0) ≡ true
each_digit [] all k lt = absurd (omega arith)
each_digit (c ∷ cs) all zero lt = (all_parts (is_lower_hex c) (list_all is_lower_hex cs) all).0
each_digit (c ∷ cs) all (suc k) lt = each_digit cs (all_parts (is_lower_hex c) (list_all is_lower_hex cs) all).1 k (omega arith)

pub each_digit_of : (s : List ℕ) (n : ℕ) → length s ≡ n → list_all is_lower_hex s ≡ true → (k : ℕ) → k < n → is_lower_hex (get_or s k 0) ≡ true
each_digit_of s n size all k lt = each_digit s all k (omega (arith, size, lt))

-- not the text of no bytes
hex_of : (word bytes : List ℕ) → 0 < length bytes → encode_lower bytes ≡ word → word ≡ hex_text bytes
hex_of word [] some e = absurd (omega arith)
hex_of word (b ∷ bs) some e = sym e

pub hex_pairs : (word : List ℕ) → length word % 2 ≡ 0 → 0 < length word → length word ≤ 131072 → list_all is_lower_hex word ≡ true → IsHex word
hex_pairs word even some few all =
    let half : length word ≡ 2 * (length word / 2) = omega arith in
    let (bytes, is, fine, size) = lower_pairs (length word / 2) word half (each_digit word all) in
    record { bytes = bytes; text = hex_of word bytes (omega (arith, size, some, even)) is; few = omega (arith, size, few); all = fine }

pub no_bytes : IsHex (45 ∷ [])
no_bytes = record { bytes = []; text = refl; few = omega arith; all = λ i. omega arith }
