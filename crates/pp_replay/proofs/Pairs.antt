-- Pairs of hexadecimal digits, and the bytes that they write.
use Rattle.std.proofs.Common.{◌≡◌, ◌⊎◌, inl, inr, ℕ, ◌+◌, ◌*◌, ◌%◌, ◌<◌, ◌≤◌, ◌==◌, nat_le, Bool, true, false, ◌&&◌, Option, Some, None, Result, Ok, Err, List, [], ◌∷◌, length, is_some, unwrap_or, refl, sym, ◌∙◌, ap, arith}
use Rattle.std.specs.List.{list_all}
use Rattle.std.proofs.lemmas.Bool.{and_from, le-leb, lt-leb, false≢true}
use Rattle.hex.specs.Hex.{lower_digits, decode_of, decode_sized}
use Rattle.hex.proofs.HexLemmas.{decode_of-encode_lower, decode_sized-twice, length-encode_with}
use Rattle.pp_terms.specs.format.DescriptorRead.{is_lower_hex}
use Rattle.pp_world.specs.ScheduleFault.{ScheduleKind}
use Rattle.pp_world.specs.ScheduleFault as wrong
use Rattle.pp_world.specs.ScheduleRead.{◌>>=◌, where_true, found, nibble, byte_before, bytes_of, datagram_in}
use Rattle.pp_world.proofs.Steps.{bytes_read, are_bytes}
use Rattle.pp_replay.specs.Written.{bytes_in}

-- ---- which words are of pairs

some_before : (is_right : Bool) (b : ℕ) (o : Option (List ℕ)) → is_some (byte_before is_right b o) ≡ (is_some o && is_right)
some_before is_right b None = refl
some_before true b (Some bytes) = refl
some_before false b (Some bytes) = refl

grouped : (e a h l : Bool) → ((e && a) && (h && l)) ≡ (e && (h && (l && a)))
grouped true true true true = refl
grouped true true true false = refl
grouped true true false l = refl
grouped true false true true = refl
grouped true false true false = refl
grouped true false false l = refl
grouped false a h l = refl

pub pairs_are : (word : List ℕ) → is_some (bytes_of word) ≡ ((length word % 2 == 0) && list_all is_lower_hex word)
pairs_are [] = refl
pairs_are (a ∷ []) = refl
pairs_are (a ∷ b ∷ rest) =
    let even : length rest % 2 ≡ length (a ∷ b ∷ rest) % 2 = omega arith in
    some_before (is_lower_hex a && is_lower_hex b) (16 * nibble a + nibble b) (bytes_of rest)
    ∙ ap (λ (x : Bool). x && (is_lower_hex a && is_lower_hex b)) (pairs_are rest)
    ∙ grouped (length rest % 2 == 0) (list_all is_lower_hex rest) (is_lower_hex a) (is_lower_hex b)
    ∙ ap (λ (n : ℕ). (n == 0) && list_all is_lower_hex (a ∷ b ∷ rest)) even

-- ---- what they write

some_in : (word : List ℕ) → is_some (bytes_of word) ≡ true → bytes_of word ≡ Some (bytes_in word)
some_in word is = by (bytes_of word) is refl
  where
    by : (o : Option (List ℕ)) → is_some o ≡ true → bytes_of word ≡ o → bytes_of word ≡ Some (bytes_in word)
    by None is e = absurd (false≢true is)
    by (Some bytes) is e = e ∙ sym (ap (λ (p : Option (List ℕ)). Some (unwrap_or p [])) e)

pub length-bytes_in : (word : List ℕ) → is_some (bytes_of word) ≡ true → length word ≡ 2 * length (bytes_in word)
length-bytes_in word is =
    ap length (bytes_read word (bytes_in word) (some_in word is)).0 ∙ length-encode_with lower_digits (bytes_in word)

pub decoded : (word : List ℕ) (n : ℕ) → is_some (bytes_of word) ≡ true → n ≡ length (bytes_in word)
    → decode_sized word n ≡ Ok (bytes_in word)
decoded word n is size =
    let read = bytes_read word (bytes_in word) (some_in word is) in
    decode_sized-twice word n (length-bytes_in word is ∙ ap (λ (k : ℕ). 2 * k) (sym size))
    ∙ ap decode_of read.0 ∙ decode_of-encode_lower (bytes_in word) (are_bytes (bytes_in word) read.1)

-- ---- datagrams

abbrev fits : List ℕ → Bool
fits bytes = nat_le 1 (length bytes) && nat_le (length bytes) 16384

abbrev of_bytes : Option (List ℕ) → Result (List ℕ) ScheduleKind
of_bytes o = found wrong.Hex o >>= λ bytes. where_true (fits bytes) wrong.Hex bytes

pub no_pairs : (word : List ℕ) → is_some (bytes_of word) ≡ false → datagram_in word ≡ Err wrong.Hex
no_pairs word isnt = by (bytes_of word) isnt
  where
    by : (o : Option (List ℕ)) → is_some o ≡ false → of_bytes o ≡ Err wrong.Hex
    by None e = refl
    by (Some bytes) e = absurd (false≢true (sym e))

second : (a b : Bool) → b ≡ false → (a && b) ≡ false
second true b e = e
second false b e = refl

pub no_size : (word : List ℕ) → (length word ≡ 0) ⊎ (32768 < length word) → datagram_in word ≡ Err wrong.Hex
no_size word size = by (is_some (bytes_of word)) refl
  where
    unfit : (bytes : List ℕ) → length word ≡ 2 * length bytes → fits bytes ≡ false
    unfit bytes twice = elim size [
      | inl none ↦ let nought : length bytes ≡ 0 = omega (arith, none, twice) in ap (λ (n : ℕ). nat_le 1 n && nat_le n 16384) nought
      | inr many ↦ second (nat_le 1 (length bytes)) (nat_le (length bytes) 16384) (lt-leb (length bytes) 16384 (omega (arith, many, twice)))
    ]

    by : (b : Bool) → is_some (bytes_of word) ≡ b → datagram_in word ≡ Err wrong.Hex
    by false is = no_pairs word is
    by true is = ap of_bytes (some_in word is)
        ∙ ap (λ (b : Bool). where_true b wrong.Hex (bytes_in word)) (unfit (bytes_in word) (length-bytes_in word is))

pub datagram_read : (word : List ℕ) → is_some (bytes_of word) ≡ true → 0 < length word → length word ≤ 32768
    → datagram_in word ≡ Ok (bytes_in word)
datagram_read word is some few =
    let twice = length-bytes_in word is in
    ap of_bytes (some_in word is)
    ∙ ap (λ (b : Bool). where_true b wrong.Hex (bytes_in word))
    (and_from (nat_le 1 (length (bytes_in word))) (nat_le (length (bytes_in word)) 16384)
    (le-leb 1 (length (bytes_in word)) (omega (arith, some, twice)))
    (le-leb (length (bytes_in word)) 16384 (omega (arith, few, twice))))
