-- A text of an address is split at its last colon, and each text is at most one address's.
use Rattle.std.proofs.Common.{◌≡◌, ◌≢◌, ℕ, ◌^◌, ◌<◌, true, false, List, [], ◌∷◌, ◌++◌, get_or, codes, decimal, Option, Some, None, All, refl, sym, ◌∙◌, ap, subst, arith, append_assoc}
use Rattle.std.specs.Prelude.{option_map, MatchOption}
use Rattle.std.specs.Net.Addr.{octets_of}
use Rattle.std.specs.Net.Grammar.{IsDotted}
use Rattle.std.proofs.lemmas.List.{append_cancel_right}
use Rattle.std.proofs.lemmas.List.Elements.{All-head, All-tail, All-from_get_or}
use Rattle.std.proofs.Math.ListN.{get_or-append}
use Rattle.pp_terms.specs.format.DescriptorRead.{is_digit, number_of}
use Rattle.pp_terms.specs.format.Traffic.{Address, V4, V6}
use Rattle.pp_terms.specs.format.Addresses.{AreEightGroups, IsHost, port_of, IsAddress}
use Rattle.pp_tree.proofs.Readings.{decimal_is_number, number_of_decimal}
use Rattle.pp_words.proofs.AddressTexts.{dotted_same, groups_same}

-- the byte is no colon
abbrev pub NoColon : ℕ → Type 0
NoColon byte = byte ≢ 58

-- ---- the last colon

colon_inside : (xs ys : List ℕ) → All NoColon (xs ++ 58 ∷ ys) → ⊥
colon_inside [] ys none = All-head NoColon 58 ys none refl
colon_inside (x ∷ xs) ys none = colon_inside xs ys (All-tail NoColon x (xs ++ 58 ∷ ys) none)

last_colon : (a b x y : List ℕ) → All NoColon b → All NoColon y → a ++ 58 ∷ b ≡ x ++ 58 ∷ y → (a ≡ x) × (b ≡ y)
last_colon [] b [] y b_none y_none e = (refl, cc)
last_colon [] b (c ∷ x) y b_none y_none e =
    let rest : b ≡ x ++ 58 ∷ y = cc in
    absurd (colon_inside x y (subst (λ t. All NoColon t) rest b_none))
last_colon (c ∷ a) b [] y b_none y_none e =
    let rest : y ≡ a ++ 58 ∷ b = cc in
    absurd (colon_inside a b (subst (λ t. All NoColon t) rest y_none))
last_colon (c ∷ a) b (d ∷ x) y b_none y_none e =
    let head : c ≡ d = cc in
    let rest : a ++ 58 ∷ b ≡ x ++ 58 ∷ y = cc in
    let (front, back) = last_colon a b x y b_none y_none rest in
    (ap (λ t. c ∷ t) front ∙ ap (λ n. n ∷ x) head, back)

digit_no_colon : (c : ℕ) → is_digit c ≡ true → c ≢ 58
digit_no_colon c is same = let no_digit : is_digit c ≡ false = ap (λ n. is_digit n) same in cc

decimal_no_colon : (n : ℕ) → n < 2 ^ 64 → All NoColon (decimal n)
decimal_no_colon n low =
    let number = decimal_is_number n low in
    All-from_get_or NoColon (decimal n) 0 (λ k lt. digit_no_colon (get_or (decimal n) k 0) (number.digits k lt))

-- the parts of an address that was split there
pub record HasParts (host port : List ℕ) (address : Address) : Type 0 where
  pub host_is : IsHost host address
  pub port_is : port ≡ decimal (port_of address)
  pub port_low : 0 < port_of address
  pub port_high : port_of address < 2 ^ 16

pub parts_of : (text host port : List ℕ) (address : Address) → text ≡ host ++ 58 ∷ port → All NoColon port → IsAddress text address → HasParts host port address
parts_of text host port address split none is =
    let whole = sym is.text_is ∙ split in
    let shown : is.host ++ 58 ∷ decimal (port_of address) ≡ host ++ 58 ∷ port =
    sym (append_assoc is.host (codes ":") (decimal (port_of address))) ∙ whole in
    let high = is.port_high in
    let (front, back) = last_colon is.host (decimal (port_of address)) host port (decimal_no_colon (port_of address) (omega arith)) none shown in
    record {
      host_is = subst (λ t. IsHost t address) front is.host_is;
      port_is = sym back;
      port_low = is.port_low;
      port_high = high;
    }

pub without_colon : (text : List ℕ) (address : Address) → All NoColon text → IsAddress text address → ⊥
without_colon text address none is =
    colon_inside is.host (decimal (port_of address))
    (subst (λ t. All NoColon t) (is.text_is ∙ append_assoc is.host (codes ":") (decimal (port_of address))) none)

-- ---- brackets

bracket_same : (a b : List ℕ) → codes "[" ++ a ++ codes "]" ≡ codes "[" ++ b ++ codes "]" → a ≡ b
bracket_same a b e =
    let rest : a ++ codes "]" ≡ b ++ codes "]" = behind (a ++ codes "]") (b ++ codes "]") e in
    append_cancel_right a b (codes "]") rest
  where
    behind : (x y : List ℕ) → 91 ∷ x ≡ 91 ∷ y → x ≡ y
    behind x y e = cc

dotted_no_bracket : (host bytes inner : List ℕ) → IsDotted host bytes → host ≡ codes "[" ++ inner ++ codes "]" → ⊥
dotted_no_bracket host bytes inner is e =
    let low = is.fit.0 in
    let number = decimal_is_number is.a (omega arith) in
    let parts : host ≡ decimal is.a ++ (codes "." ++ (decimal is.b ++ (codes "." ++ (decimal is.c ++ (codes "." ++ decimal is.d))))) =
    is.spelled ∙ regroup (decimal is.a) (codes ".") (decimal is.b) (decimal is.c) (decimal is.d) in
    let first : get_or (decimal is.a) 0 0 ≡ 91 =
    sym (get_or-append (decimal is.a) _ 0 0 number.some) ∙ ap (λ t. get_or t 0 0) (sym parts ∙ e) in
    let digit = number.digits 0 number.some in
    let wrong : is_digit (get_or (decimal is.a) 0 0) ≡ false = ap (λ n. is_digit n) first in
    cc
  where
    regroup : (a p b c d : List ℕ) → a ++ p ++ b ++ p ++ c ++ p ++ d ≡ a ++ (p ++ (b ++ (p ++ (c ++ (p ++ d)))))
    regroup a p b c d = simp append_assoc

-- ---- no address

pub wrong_port : (text host port : List ℕ) (address : Address) → text ≡ host ++ 58 ∷ port → All NoColon port
    → ((n : ℕ) → 0 < n → n < 2 ^ 16 → port ≡ decimal n → ⊥) → IsAddress text address → ⊥
wrong_port text host port address split none never is =
    let parts = parts_of text host port address split none is in
    never (port_of address) parts.port_low parts.port_high parts.port_is

pub wrong_v6 : (text host port inner : List ℕ) (address : Address) → text ≡ host ++ 58 ∷ port → All NoColon port
    → host ≡ codes "[" ++ inner ++ codes "]" → ((groups : List ℕ) → AreEightGroups inner groups → ⊥) → IsAddress text address → ⊥
wrong_v6 text host port inner (V4 bytes n) split none bracketed never is =
    let parts = parts_of text host port (V4 bytes n) split none is in
    dotted_no_bracket host bytes inner parts.host_is bracketed
wrong_v6 text host port inner (V6 bytes n) split none bracketed never is =
    let parts = parts_of text host port (V6 bytes n) split none is in
    let in_it = parts.host_is in
    let same = bracket_same in_it.inner inner (sym in_it.text_is ∙ bracketed) in
    never in_it.groups (subst (λ t. AreEightGroups t in_it.groups) same in_it.inner_is)

pub wrong_v4 : (text host port : List ℕ) (address : Address) → text ≡ host ++ 58 ∷ port → All NoColon port
    → ((inner : List ℕ) → host ≡ codes "[" ++ inner ++ codes "]" → ⊥) → ((bytes : List ℕ) → IsDotted host bytes → ⊥) → IsAddress text address → ⊥
wrong_v4 text host port (V4 bytes n) split none unbracketed never is =
    let parts = parts_of text host port (V4 bytes n) split none is in never bytes parts.host_is
wrong_v4 text host port (V6 bytes n) split none unbracketed never is =
    let parts = parts_of text host port (V6 bytes n) split none is in
    let in_it = parts.host_is in unbracketed in_it.inner in_it.text_is

-- ---- an address

pub right_v4 : (text host port bytes : List ℕ) (n : ℕ) → text ≡ host ++ 58 ∷ port → port ≡ decimal n → 0 < n → n < 2 ^ 16
    → IsDotted host bytes → IsAddress text (V4 bytes n)
right_v4 text host port bytes n split port_is low high dotted = record {
  host = host;
  host_is = dotted;
  port_low = low;
  port_high = high;
  text_is = split ∙ ap (λ t. host ++ 58 ∷ t) port_is ∙ sym (append_assoc host (codes ":") (decimal n));
}

pub right_v6 : (text host port inner groups bytes : List ℕ) (n : ℕ) → text ≡ host ++ 58 ∷ port → port ≡ decimal n → 0 < n → n < 2 ^ 16
    → host ≡ codes "[" ++ inner ++ codes "]" → AreEightGroups inner groups → bytes ≡ octets_of groups → IsAddress text (V6 bytes n)
right_v6 text host port inner groups bytes n split port_is low high bracketed eight bytes_are = record {
  host = host;
  host_is = record { inner = inner; groups = groups; text_is = bracketed; inner_is = eight; bytes_are = bytes_are };
  port_low = low;
  port_high = high;
  text_is = split ∙ ap (λ t. host ++ 58 ∷ t) port_is ∙ sym (append_assoc host (codes ":") (decimal n));
}

-- ---- one address

port_same : (m n : ℕ) → m < 2 ^ 16 → n < 2 ^ 16 → decimal m ≡ decimal n → m ≡ n
port_same m n low high e =
    sym (number_of_decimal m (omega arith)) ∙ ap (λ t. number_of t) e ∙ number_of_decimal n (omega arith)

pub zero_port : (text : List ℕ) (m n : ℕ) → text ≡ decimal m → m ≡ 0 → 0 < n → n < 2 ^ 16 → text ≡ decimal n → ⊥
zero_port text m n one zero_is low high two =
    let same = port_same m n (omega arith) high (sym one ∙ two) in omega arith

host_same : (host : List ℕ) (a b : Address) → IsHost host a → IsHost host b → port_of a ≡ port_of b → a ≡ b
host_same host (V4 x m) (V4 y n) one two e =
    ap (λ t. V4 t m) (dotted_same host x y one two) ∙ ap (λ k. V4 y k) e
host_same host (V4 x m) (V6 y n) one two e = absurd (dotted_no_bracket host x two.inner one two.text_is)
host_same host (V6 x m) (V4 y n) one two e = absurd (dotted_no_bracket host y one.inner two one.text_is)
host_same host (V6 x m) (V6 y n) one two e =
    let inner = bracket_same one.inner two.inner (sym one.text_is ∙ two.text_is) in
    let groups = groups_same two.inner one.groups two.groups (subst (λ t. AreEightGroups t one.groups) inner one.inner_is) two.inner_is in
    let bytes : x ≡ y = one.bytes_are ∙ ap (λ t. octets_of t) groups ∙ sym two.bytes_are in
    ap (λ t. V6 t m) bytes ∙ ap (λ k. V6 y k) e

pub address_same : (text : List ℕ) (a b : Address) → IsAddress text a → IsAddress text b → a ≡ b
address_same text a b one two =
    let high = one.port_high in
    let parts = parts_of text one.host (decimal (port_of a)) b (one.text_is ∙ append_assoc one.host (codes ":") (decimal (port_of a)))
    (decimal_no_colon (port_of a) (omega arith)) two in
    host_same one.host a b one.host_is parts.host_is (port_same (port_of a) (port_of b) high parts.port_high parts.port_is)

pub each_address : {A : Type 0} (view : A → Address) (text : List ℕ) (r : Option A)
    → MatchOption r ((address : Address) → IsAddress text address → ⊥) (λ a. IsAddress text (view a))
    → (address : Address) → IsAddress text address → option_map view r ≡ Some address
each_address view text None found address is = absurd (found address is)
each_address view text (Some a) found address is = ap (λ x. Some x) (address_same text (view a) address found is)
