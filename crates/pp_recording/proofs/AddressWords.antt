-- The one spelling of an address is an address's, and has no space.
use Rattle.std.proofs.Common.{◌≡◌, ◌≢◌, ℕ, zero, suc, ◌+◌, ◌*◌, ◌/◌, ◌%◌, ◌^◌, ◌<◌, ◌≤◌, true, false, List, [], ◌∷◌, ◌++◌, length, get_or, flat_map, drop, codes, decimal, refl, sym, ◌∙◌, ap, subst, inl, inr, arith, append_assoc, le-leb}
use Rattle.std.proofs.lemmas.Bool.{cases_lt, lt-leb}
use Rattle.std.proofs.lemmas.Bool.Decides.{nat_tests}
use Rattle.std.proofs.lemmas.List.Elements.{All-append, All-cons, All-nil, All-drop, All-from_get_or}
use Rattle.std.proofs.NetLemmas.Texts.{IsDotted-ipv4_text}
use Rattle.std.specs.Char.{digit_value, digit_char}
use Rattle.std.specs.Net.Addr.{octets_of, segments_of}
use Rattle.std.specs.Net.Text.{ipv4_text, hex, groups_text}
use Rattle.std.specs.Net.Grammar.{IsGroup, IsGroupsAfter, IsGroups}
use Rattle.hex.specs.Hex.{IsBytes}
use Rattle.pp_terms.specs.format.DescriptorRead.{is_digit}
use Rattle.pp_terms.specs.format.Traffic.{Address, V4, V6}
use Rattle.pp_terms.specs.format.Addresses.{IsAddress}
use Rattle.pp_tree.proofs.Readings.{decimal_is_number}
use Rattle.pp_words.proofs.AddressParts.{right_v4, right_v6, address_same}
use Rattle.pp_recording.specs.Spelling.{address_text}
use Rattle.pp_recording.specs.Recording.{IsPeerAddress}
use Rattle.pp_recording.proofs.Splits.{Lacks}

-- ---- groups

value_of_digit : (d : ℕ) → d < 16 → digit_value (digit_char d) ≡ d
value_of_digit d h = grind (arith, nat_tests)

group_of : (n : ℕ) → n < 2 ^ 16 → IsGroup (hex n) n
unfolding hex
group_of n fits =
    let a = value_of_digit (n / 0x1000) (omega arith) in
    let b = value_of_digit (n / 0x100 % 16) (omega arith) in
    let c = value_of_digit (n / 0x10 % 16) (omega arith) in
    let d = value_of_digit (n % 16) (omega arith) in
    elim (cases_lt n 0x1000) [
      | inr four ↦ rw (le-leb _ n four) (omega arith)
      | inl h₃ ↦ elim (cases_lt n 0x100) [
        | inr three ↦ rw (lt-leb _ n h₃, le-leb _ n three) (omega arith)
        | inl h₂ ↦ elim (cases_lt n 0x10) [
          | inr two ↦ rw (lt-leb _ n h₃, lt-leb _ n h₂, le-leb _ n two) (omega arith)
          | inl h₁ ↦ rw (lt-leb _ n h₃, lt-leb _ n h₂, lt-leb _ n h₁) (omega arith)
        ]
      ]
    ]

abbrev AreGroups : List ℕ → Type 0
AreGroups xs = (k : ℕ) → get_or xs k 0 < 2 ^ 16

groups_after : (xs : List ℕ) → AreGroups xs → IsGroupsAfter false (58 ∷ []) (flat_map (λ t. 58 ∷ hex t) xs) xs
groups_after [] h = refl
groups_after (x ∷ xs) h = inl (hex x, _, refl, group_of x (h 0), groups_after xs (λ j. h (suc j)))

groups_of : (xs : List ℕ) → AreGroups xs → IsGroups false (groups_text xs) xs
groups_of [] h = refl
groups_of (x ∷ xs) h = inl (hex x, _, refl, group_of x (h 0), groups_after xs (λ j. h (suc j)))

segments_low : (xs : List ℕ) → IsBytes xs → AreGroups (segments_of xs)
segments_low [] all = λ k. omega arith
segments_low (a ∷ []) all = λ k. omega arith
segments_low (a ∷ b ∷ xs) all =
    let first : a < 256 = all 0 in
    let second : b < 256 = all 1 in
    let later = segments_low xs (λ k. all (suc (suc k))) in
    λ k. elim k as (λ j. get_or (segments_of (a ∷ b ∷ xs)) j 0 < 2 ^ 16) [ zero ↦ omega arith | suc j ↦ later j ]

segments_count : (n : ℕ) (xs : List ℕ) → length xs ≡ 2 * n → length (segments_of xs) ≡ n
segments_count zero [] size = refl
segments_count (suc n) [] size = absurd (omega arith)
segments_count n (a ∷ []) size = absurd (omega arith)
segments_count zero (a ∷ b ∷ xs) size = absurd (omega arith)
segments_count (suc n) (a ∷ b ∷ xs) size = let rest = segments_count n xs (omega arith) in omega arith

octets_back : (n : ℕ) (xs : List ℕ) → length xs ≡ 2 * n → IsBytes xs → xs ≡ octets_of (segments_of xs)
octets_back n [] even all = refl
octets_back n (a ∷ []) even all = absurd (omega arith)
octets_back zero (a ∷ b ∷ xs) even all = absurd (omega arith)
octets_back (suc n) (a ∷ b ∷ xs) even all =
    let first : a < 256 = all 0 in
    let second : b < 256 = all 1 in
    let high : a ≡ (a * 256 + b) / 256 = omega arith in
    let low : b ≡ (a * 256 + b) % 256 = omega arith in
    let rest = octets_back n xs (omega arith) (λ k. all (suc (suc k))) in
    ap (λ c. c ∷ b ∷ xs) high ∙ ap (λ c. (a * 256 + b) / 256 ∷ c ∷ xs) low ∙ ap (λ ys. (a * 256 + b) / 256 ∷ (a * 256 + b) % 256 ∷ ys) rest

-- ---- the one spelling

pub spells : (a : Address) → IsPeerAddress a → IsAddress (address_text a) a
unfolding address_text
spells (V4 bytes port) (size, all, ports) =
    right_v4 _ (ipv4_text bytes) (decimal port) bytes port (append_assoc (ipv4_text bytes) (codes ":") (decimal port)) refl ports.0 ports.1
    (IsDotted-ipv4_text bytes size all)
spells (V6 bytes port) (size, all, ports) =
    right_v6 _ (codes "[" ++ groups_text (segments_of bytes) ++ codes "]") (decimal port) (groups_text (segments_of bytes)) (segments_of bytes) bytes port
    (six_parts (groups_text (segments_of bytes)) (decimal port)) refl ports.0 ports.1 refl
    (inl (groups_of (segments_of bytes) (segments_low bytes all), segments_count 8 bytes size)) (octets_back 8 bytes size all)
  where
    six_parts : (inner port : List ℕ) → codes "[" ++ inner ++ codes "]:" ++ port ≡ (codes "[" ++ inner ++ codes "]") ++ 58 ∷ port
    six_parts inner port = simp append_assoc

pub spelled_same : (a b : Address) → IsPeerAddress a → IsPeerAddress b → address_text a ≡ address_text b → a ≡ b
spelled_same a b one two e = address_same (address_text a) a b (spells a one) (subst (λ t. IsAddress t b) (sym e) (spells b two))

-- ---- it has no space

digit_apart : (byte c : ℕ) → byte < 48 → is_digit c ≡ true → c ≢ byte
digit_apart byte c low is same =
    let tested : is_digit byte ≡ true = ap (λ n. is_digit n) (sym same) ∙ is in
    grind (arith, nat_tests)

pub decimal_lacks : (byte n : ℕ) → byte < 48 → n < 2 ^ 64 → Lacks byte (decimal n)
decimal_lacks byte n low fits =
    let number = decimal_is_number n fits in
    All-from_get_or (λ b. b ≢ byte) (decimal n) 0 (λ k lt. digit_apart byte (get_or (decimal n) k 0) low (number.digits k lt))

hex_apart : (byte d : ℕ) → byte < 48 → d < 16 → digit_char d ≢ byte
hex_apart byte d low fits same = grind (arith, nat_tests)

-- the text has no such byte
pub record IsClear (byte : ℕ) (text : List ℕ) : Type 0 where
  pub all : Lacks byte text

pub none_clear : (byte : ℕ) → IsClear byte []
none_clear byte = record { all = All-nil (λ b. b ≢ byte) }

pub one_clear : (byte c : ℕ) (xs : List ℕ) → c ≢ byte → IsClear byte xs → IsClear byte (c ∷ xs)
one_clear byte c xs other rest = record { all = All-cons (λ b. b ≢ byte) c xs other rest.all }

pub both_clear : (byte : ℕ) (xs ys : List ℕ) → IsClear byte xs → IsClear byte ys → IsClear byte (xs ++ ys)
both_clear byte xs ys p q = record { all = All-append (λ b. b ≢ byte) xs ys p.all q.all }

pub number_clear : (byte n : ℕ) → byte < 48 → n < 2 ^ 64 → IsClear byte (decimal n)
number_clear byte n low fits = record { all = decimal_lacks byte n low fits }

drop_clear : (byte n : ℕ) (xs : List ℕ) → IsClear byte xs → IsClear byte (drop n xs)
drop_clear byte n xs p = record { all = All-drop (λ b. b ≢ byte) n xs p.all }

sign_clear : (byte c : ℕ) → byte < 46 → 46 ≤ c → IsClear byte (c ∷ [])
sign_clear byte c low high = one_clear byte c [] (λ same. omega (arith, low, high, same)) (none_clear byte)

group_clear : (byte n : ℕ) → byte < 48 → n < 2 ^ 16 → IsClear byte (hex n)
unfolding hex
group_clear byte n low fits = drop_clear byte _ _
    (one_clear byte _ _ (hex_apart byte (n / 0x1000) low (omega arith))
    (one_clear byte _ _ (hex_apart byte (n / 0x100 % 16) low (omega arith))
    (one_clear byte _ _ (hex_apart byte (n / 0x10 % 16) low (omega arith))
    (one_clear byte _ _ (hex_apart byte (n % 16) low (omega arith)) (none_clear byte)))))

behind_clear : (byte : ℕ) (xs : List ℕ) → byte < 48 → AreGroups xs → IsClear byte (flat_map (λ t. 58 ∷ hex t) xs)
behind_clear byte [] low h = none_clear byte
behind_clear byte (x ∷ xs) low h =
    both_clear byte (58 ∷ hex x) (flat_map (λ t. 58 ∷ hex t) xs)
    (one_clear byte 58 (hex x) (λ same. omega (arith, low, same)) (group_clear byte x low (h 0))) (behind_clear byte xs low (λ j. h (suc j)))

groups_clear : (byte : ℕ) (xs : List ℕ) → byte < 48 → AreGroups xs → IsClear byte (groups_text xs)
groups_clear byte [] low h = none_clear byte
groups_clear byte (x ∷ xs) low h =
    both_clear byte (hex x) (flat_map (λ t. 58 ∷ hex t) xs) (group_clear byte x low (h 0)) (behind_clear byte xs low (λ j. h (suc j)))

octet_clear : (byte k : ℕ) (bytes : List ℕ) → byte < 46 → IsBytes bytes → IsClear byte (decimal (get_or bytes k 0))
octet_clear byte k bytes low all = let small = all k in number_clear byte (get_or bytes k 0) (omega arith) (omega arith)

address_clear : (byte : ℕ) (a : Address) → byte < 46 → IsPeerAddress a → IsClear byte (address_text a)
unfolding address_text
address_clear byte (V4 bytes port) low (size, all, ports) =
    let point = sign_clear byte 46 low (omega arith) in
    let parts = both_clear byte _ _ (both_clear byte _ _ (both_clear byte _ _ (both_clear byte _ _ (both_clear byte _ _ (both_clear byte _ _
    (octet_clear byte 0 bytes low all) point) (octet_clear byte 1 bytes low all)) point) (octet_clear byte 2 bytes low all)) point)
    (octet_clear byte 3 bytes low all) in
    both_clear byte _ _ (both_clear byte _ _ parts (sign_clear byte 58 low (omega arith))) (number_clear byte port (omega arith) (omega (arith, ports.1)))
address_clear byte (V6 bytes port) low (size, all, ports) =
    both_clear byte _ _ (both_clear byte _ _ (both_clear byte _ _ (sign_clear byte 91 low (omega arith))
    (groups_clear byte (segments_of bytes) (omega arith) (segments_low bytes all)))
    (one_clear byte 93 _ (λ same. omega (arith, low, same)) (sign_clear byte 58 low (omega arith))))
    (number_clear byte port (omega arith) (omega (arith, ports.1)))

pub address_lacks : (byte : ℕ) (a : Address) → byte < 46 → IsPeerAddress a → Lacks byte (address_text a)
address_lacks byte a low is = (address_clear byte a low is).all
