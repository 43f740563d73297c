-- The bytes that digits write, and where they are put.
use Rattle.std.proofs.Common.{◌≡◌, ℕ, ◌+◌, ◌-◌, ◌/◌, List, [], ◌∷◌, ◌++◌, length, take, drop, replicate, codes, Ok, refl, sym, ◌∙◌, ap, arith}
use Rattle.std.proofs.lemmas.List.{append-nil, length-append, length-drop, length-take-le, take_all, length-replicate, take_at, drop_all}
use Rattle.hex.specs.Hex.{encode_lower, decode_sized, IsBytes, lower_digits}
use Rattle.hex.proofs.HexLemmas.{length-encode_with, decode_sized-encode_lower}
use Rattle.pp_recording.specs.Spelling.{hex_text}

-- `-` writes no bytes
pub no_digits : (word bytes : List ℕ) → word ≡ codes "-" → word ≡ hex_text bytes → bytes ≡ []
no_digits word [] dash is = refl
no_digits word (b ∷ bs) dash is =
    let size = length-encode_with lower_digits (b ∷ bs) in
    let sizes : 1 ≡ length (encode_lower (b ∷ bs)) = ap (λ (t : List ℕ). length t) (sym dash ∙ is) in absurd (omega arith)

-- other words write the bytes of their pairs
pub some_digits : (word bytes : List ℕ) → (word ≡ codes "-" → ⊥) → word ≡ hex_text bytes → word ≡ encode_lower bytes
some_digits word [] other is = absurd (other is)
some_digits word (b ∷ bs) other is = is

pub half_digits : (word bytes : List ℕ) → (word ≡ codes "-" → ⊥) → word ≡ hex_text bytes → length word / 2 ≡ length bytes
half_digits word bytes other is =
    let size = length-encode_with lower_digits bytes in
    let sizes : length word ≡ length (encode_lower bytes) = ap (λ (t : List ℕ). length t) (some_digits word bytes other is) in omega arith

pub decoded : (word bytes : List ℕ) (n : ℕ) → (word ≡ codes "-" → ⊥) → word ≡ hex_text bytes → IsBytes bytes → n ≡ length word / 2
    → decode_sized word n ≡ Ok bytes
decoded word bytes n other is all size =
    ap (λ (t : List ℕ). decode_sized t n) (some_digits word bytes other is)
    ∙ decode_sized-encode_lower bytes n (sym (size ∙ half_digits word bytes other is)) all

-- ---- bytes put behind others

pub put_behind : (xs out s : List ℕ) (a n : ℕ) → s ≡ xs ++ replicate n 0 → a ≡ length xs
    → take a s ++ (out ++ drop (length s - a) (drop a s)) ≡ xs ++ out
put_behind xs out s a n is at =
    let front : take a s ≡ xs = ap (λ (t : List ℕ). take a t) is ∙ take_at xs (replicate n 0) a (sym at) in
    let none : drop (length s - a) (drop a s) ≡ [] = drop_all (length s - a) (drop a s) (let left = length-drop a s in omega (arith, left)) in
    ap (λ (t : List ℕ). t ++ (out ++ drop (length s - a) (drop a s))) front ∙ ap (λ (t : List ℕ). xs ++ (out ++ t)) none
    ∙ ap (λ (t : List ℕ). xs ++ t) (append-nil out)

pub all_put : (xs out s items : List ℕ) (a n len : ℕ) → s ≡ items → items ≡ xs ++ replicate n 0 → a ≡ length xs → length out ≡ n → len ≡ length items
    → take len (take a s ++ (out ++ drop (length s - a) (drop a s)) ++ drop (length (take a s ++ (out ++ drop (length s - a) (drop a s)))) items) ≡ xs ++ out
all_put xs out s items a n len same is at size long =
    let put = put_behind xs out s a n (same ∙ is) at in
    let count : length items ≡ length xs + n = ap (λ (t : List ℕ). length t) is ∙ length-append xs (replicate n 0) ∙ ap (λ (m : ℕ). length xs + m) (length-replicate n 0) in
    let placed = length-append xs out in
    ap (λ (t : List ℕ). take len (t ++ drop (length t) items)) put
    ∙ take_at (xs ++ out) (drop (length (xs ++ out)) items) len (omega (arith, placed, count, size, long))

-- the part that is left for them
pub part_size : (xs s items : List ℕ) (a n : ℕ) → s ≡ items → items ≡ xs ++ replicate n 0 → a ≡ length xs → length (take (length s - a) (drop a s)) ≡ n
part_size xs s items a n same is at =
    let count : length s ≡ length xs + n =
    ap (λ (t : List ℕ). length t) (same ∙ is) ∙ length-append xs (replicate n 0) ∙ ap (λ (m : ℕ). length xs + m) (length-replicate n 0) in
    let left = length-drop a s in
    length-take-le (length s - a) (drop a s) (omega (arith, left)) ∙ omega (arith, count, at)

-- items that were made longer
pub made_longer : (xs items : List ℕ) (a n m : ℕ) → items ≡ take (a + n) xs ++ replicate (a + n - m) 0 → a ≡ length xs → m ≡ length xs
    → items ≡ xs ++ replicate n 0
made_longer xs items a n m is at long =
    let more : a + n - m ≡ n = omega arith in
    is ∙ ap (λ (t : List ℕ). t ++ replicate (a + n - m) 0) (take_all (a + n) xs (omega arith)) ∙ ap (λ (k : ℕ). xs ++ replicate k 0) more
