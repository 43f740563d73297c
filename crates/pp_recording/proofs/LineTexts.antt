-- Each line is at most one node's or one record's.
use Rattle.std.proofs.Common.{◌≡◌, ◌≢◌, ℕ, ◌^◌, ◌<◌, ◌≤◌, true, List, [], ◌∷◌, ◌++◌, length, get_or, codes, decimal, refl, sym, ◌∙◌, ap, arith, append_assoc}
use Rattle.std.proofs.lemmas.Bool.Decides.{nat_tests}
use Rattle.std.proofs.lemmas.Fmt.{decimal_injective}
use Rattle.std.proofs.lemmas.List.{append_cancel_left}
use Rattle.std.proofs.lemmas.List.Elements.{All-from_get_or}
use Rattle.hex.specs.Hex.{encode_lower, decode_of, IsBytes, lower_digits}
use Rattle.hex.proofs.HexLemmas.{decode_of-encode_lower, length-encode_with}
use Rattle.pp_terms.specs.format.DescriptorRead.{is_lower_hex}
use Rattle.pp_terms.specs.format.Traffic.{Address, Record, Received, Quiet, Sent}
use Rattle.pp_tree.proofs.HexDigits.{encoded_lower}
use Rattle.pp_recording.specs.Spelling.{address_text, hex_text, KnownNode, node_line, datagram_line, record_line}
use Rattle.pp_recording.specs.Recording.{IsPeerAddress, IsKeptRecord}
use Rattle.pp_recording.specs.Lines.{IsSomeNode}
use Rattle.pp_recording.proofs.Splits.{Lacks, split_same}
use Rattle.pp_recording.proofs.AddressWords.{IsClear, one_clear, none_clear, both_clear, number_clear, decimal_lacks, address_lacks, spelled_same}

-- ---- hexadecimal digits

digit_apart : (byte c : ℕ) → byte < 48 → is_lower_hex c ≡ true → c ≢ byte
digit_apart byte c low is same =
    let tested : is_lower_hex byte ≡ true = ap (λ n. is_lower_hex n) (sym same) ∙ is in
    grind (arith, nat_tests)

pub encoded_lacks : (byte : ℕ) (bytes : List ℕ) → byte < 48 → IsBytes bytes → Lacks byte (encode_lower bytes)
encoded_lacks byte bytes low all =
    let size = length-encode_with lower_digits bytes in
    All-from_get_or (λ b. b ≢ byte) (encode_lower bytes) 0
    (λ k lt. digit_apart byte (get_or (encode_lower bytes) k 0) low (encoded_lower bytes all k (omega (arith, lt, size))))

pub hex_lacks : (byte : ℕ) (bytes : List ℕ) → byte < 45 → IsBytes bytes → Lacks byte (hex_text bytes)
hex_lacks byte [] low all = (one_clear byte 45 [] (λ same. omega (arith, low, same)) (none_clear byte)).all
hex_lacks byte (b ∷ bs) low all = encoded_lacks byte (b ∷ bs) (omega arith) all

pub encoded_same : (x y : List ℕ) → IsBytes x → IsBytes y → encode_lower x ≡ encode_lower y → x ≡ y
encoded_same x y all_x all_y e =
    let one = decode_of-encode_lower x all_x in
    let two = decode_of-encode_lower y all_y in
    let both : decode_of (encode_lower x) ≡ decode_of (encode_lower y) = ap (λ t. decode_of t) e in cc

pub hex_same : (x y : List ℕ) → IsBytes x → IsBytes y → hex_text x ≡ hex_text y → x ≡ y
hex_same [] [] all_x all_y e = refl
hex_same [] (b ∷ bs) all_x all_y e =
    let size = length-encode_with lower_digits (b ∷ bs) in
    let sizes = ap (λ t. length t) e in absurd (omega arith)
hex_same (b ∷ bs) [] all_x all_y e =
    let size = length-encode_with lower_digits (b ∷ bs) in
    let sizes = ap (λ t. length t) e in absurd (omega arith)
hex_same (b ∷ bs) (c ∷ cs) all_x all_y e = encoded_same (b ∷ bs) (c ∷ cs) all_x all_y e

-- ---- three words, the first two before a space and the last before a line feed

pub record AreWords (a b c : List ℕ) : Type 0 where
  pub first : Lacks 32 a
  pub second : Lacks 32 b
  pub third : Lacks 10 c

abbrev pub in_line : List ℕ → List ℕ → List ℕ → List ℕ → List ℕ
in_line a b c x = a ++ 32 ∷ (b ++ 32 ∷ (c ++ 10 ∷ x))

pub record AreSame (a b c x d e f y : List ℕ) : Type 0 where
  pub first : a ≡ d
  pub second : b ≡ e
  pub third : c ≡ f
  pub behind : x ≡ y

pub words_same : (a b c x d e f y : List ℕ) → AreWords a b c → AreWords d e f → in_line a b c x ≡ in_line d e f y → AreSame a b c x d e f y
words_same a b c x d e f y one two is =
    let (first, rest) = split_same 32 a (b ++ 32 ∷ (c ++ 10 ∷ x)) d (e ++ 32 ∷ (f ++ 10 ∷ y)) one.first two.first is in
    let (second, rest2) = split_same 32 b (c ++ 10 ∷ x) e (f ++ 10 ∷ y) one.second two.second rest in
    let (third, rest3) = split_same 10 c x f y one.third two.third rest2 in
    record { first = first; second = second; third = third; behind = rest3 }

-- ---- nodes

pub node_flat : (n : KnownNode) (x : List ℕ) → node_line n ++ x ≡ codes "node " ++ in_line (decimal n.layer) (decimal n.offset) (encode_lower n.digest) x
unfolding node_line
node_flat n x = simp append_assoc

pub node_words : (n : KnownNode) → IsSomeNode n → AreWords (decimal n.layer) (decimal n.offset) (encode_lower n.digest)
node_words n is = let layer = is.layer in let offset = is.offset in record {
  first = decimal_lacks 32 n.layer (omega arith) (omega arith);
  second = decimal_lacks 32 n.offset (omega arith) (omega arith);
  third = encoded_lacks 10 n.digest (omega arith) is.bytes;
}

pub node_same : (n m : KnownNode) (x y : List ℕ) → IsSomeNode n → IsSomeNode m → node_line n ++ x ≡ node_line m ++ y → (n ≡ m) × (x ≡ y)
node_same n m x y one two e =
    let whole = append_cancel_left (codes "node ") (in_line (decimal n.layer) (decimal n.offset) (encode_lower n.digest) x)
    (in_line (decimal m.layer) (decimal m.offset) (encode_lower m.digest) y) (sym (node_flat n x) ∙ e ∙ node_flat m y) in
    let same = words_same _ _ _ x _ _ _ y (node_words n one) (node_words m two) whole in
    let (low, low2, low3, low4) : (n.layer ≤ 20) × (m.layer ≤ 20) × (n.offset ≤ 1048575) × (m.offset ≤ 1048575) =
    (one.layer, two.layer, one.offset, two.offset) in
    let layer = decimal_injective n.layer m.layer (omega arith) (omega arith) same.first in
    let offset = decimal_injective n.offset m.offset (omega arith) (omega arith) same.second in
    let digest = encoded_same n.digest m.digest one.bytes two.bytes same.third in (
      ap (λ (k : ℕ). record { layer = k; offset = n.offset; digest = n.digest }) layer
          ∙ ap (λ (j : ℕ). record { layer = m.layer; offset = j; digest = n.digest }) offset
          ∙ ap (λ (d : List ℕ). record { layer = m.layer; offset = m.offset; digest = d }) digest,
      same.behind,
    )

-- ---- records

datagram_flat : (word : List ℕ) (n : ℕ) (a : Address) (bytes x : List ℕ)
    → datagram_line word n a bytes ++ x ≡ word ++ in_line (decimal n) (address_text a) (hex_text bytes) x
datagram_flat word n a bytes x = simp append_assoc

datagram_words : (n : ℕ) (a : Address) (bytes : List ℕ) → n < 2 ^ 64 → IsPeerAddress a → IsBytes bytes → AreWords (decimal n) (address_text a) (hex_text bytes)
datagram_words n a bytes low is all = record {
  first = decimal_lacks 32 n (omega arith) low;
  second = address_lacks 32 a (omega arith) is;
  third = hex_lacks 10 bytes (omega arith) all;
}

datagram_same : (word : List ℕ) (n m : ℕ) (a b : Address) (xs ys x y : List ℕ) → n < 2 ^ 64 → m < 2 ^ 64 → IsPeerAddress a → IsPeerAddress b
    → IsBytes xs → IsBytes ys → datagram_line word n a xs ++ x ≡ datagram_line word m b ys ++ y → (n ≡ m) × (a ≡ b) × (xs ≡ ys) × (x ≡ y)
datagram_same word n m a b xs ys x y n_low m_low a_is b_is all_x all_y e =
    let whole = append_cancel_left word (in_line (decimal n) (address_text a) (hex_text xs) x)
    (in_line (decimal m) (address_text b) (hex_text ys) y) (sym (datagram_flat word n a xs x) ∙ e ∙ datagram_flat word m b ys y) in
    let same = words_same _ _ _ x _ _ _ y (datagram_words n a xs n_low a_is all_x) (datagram_words m b ys m_low b_is all_y) whole in
    (decimal_injective n m n_low m_low same.first, spelled_same a b a_is b_is same.second, hex_same xs ys all_x all_y same.third, same.behind)

quiet_same : (n m : ℕ) (x y : List ℕ) → n < 2 ^ 64 → m < 2 ^ 64 → record_line (Quiet n) ++ x ≡ record_line (Quiet m) ++ y → (n ≡ m) × (x ≡ y)
unfolding record_line
quiet_same n m x y n_low m_low e =
    let (same, rest) = split_same 10 (decimal n) x (decimal m) y (decimal_lacks 10 n (omega arith) n_low) (decimal_lacks 10 m (omega arith) m_low)
    (append_cancel_left (codes "quiet ") (decimal n ++ 10 ∷ x) (decimal m ++ 10 ∷ y) (sym (flat (decimal n) x) ∙ e ∙ flat (decimal m) y)) in
    (decimal_injective n m n_low m_low same, rest)
  where
    flat : (number x : List ℕ) → (codes "quiet " ++ number ++ codes "\n") ++ x ≡ codes "quiet " ++ (number ++ 10 ∷ x)
    flat number x = simp append_assoc

-- the first bytes of one text
pub heads_same : (c d : ℕ) (xs ys : List ℕ) → c ∷ xs ≡ d ∷ ys → c ≡ d
heads_same c d xs ys e = ap (λ t. get_or t 0 0) e

pub record_same : (q p : Record) (x y : List ℕ) → IsKeptRecord q → IsKeptRecord p → record_line q ++ x ≡ record_line p ++ y → (q ≡ p) × (x ≡ y)
unfolding record_line
record_same (Received n a xs) (Received m b ys) x y (n_low, a_is, few, all) (m_low, b_is, few2, all2) e =
    let (number, address, bytes, behind) = datagram_same (codes "received ") n m a b xs ys x y n_low m_low a_is b_is all all2 e in
    (ap (λ (k : ℕ). Received k a xs) number ∙ ap (λ (c : Address). Received m c xs) address ∙ ap (λ (zs : List ℕ). Received m b zs) bytes, behind)
record_same (Received n a xs) (Quiet m) x y one two e = let first = heads_same 114 113 _ _ e in absurd (omega (arith, first))
record_same (Received n a xs) (Sent m b ys) x y one two e = let first = heads_same 114 115 _ _ e in absurd (omega (arith, first))
record_same (Quiet n) (Received m b ys) x y one two e = let first = heads_same 113 114 _ _ e in absurd (omega (arith, first))
record_same (Quiet n) (Quiet m) x y one two e =
    let (number, behind) = quiet_same n m x y one two e in (ap (λ (k : ℕ). Quiet k) number, behind)
record_same (Quiet n) (Sent m b ys) x y one two e = let first = heads_same 113 115 _ _ e in absurd (omega (arith, first))
record_same (Sent n a xs) (Received m b ys) x y one two e = let first = heads_same 115 114 _ _ e in absurd (omega (arith, first))
record_same (Sent n a xs) (Quiet m) x y one two e = let first = heads_same 115 113 _ _ e in absurd (omega (arith, first))
record_same (Sent n a xs) (Sent m b ys) x y (n_low, a_is, few, all) (m_low, b_is, few2, all2) e =
    let (number, address, bytes, behind) = datagram_same (codes "sent ") n m a b xs ys x y n_low m_low a_is b_is all all2 e in
    (ap (λ (k : ℕ). Sent k a xs) number ∙ ap (λ (c : Address). Sent m c xs) address ∙ ap (λ (zs : List ℕ). Sent m b zs) bytes, behind)

-- ---- the first bytes of lines

pub node_head : (n : KnownNode) (x : List ℕ) → (rest : List ℕ) × (node_line n ++ x ≡ 110 ∷ rest)
unfolding node_line
node_head n x = (_, refl)

pub record_head : (q : Record) (x : List ℕ) → (head : ℕ) × (rest : List ℕ) × (record_line q ++ x ≡ head ∷ rest) × (110 < head)
unfolding record_line
record_head (Received n a xs) x = (114, _, refl, omega arith)
record_head (Quiet n) x = (113, _, refl, omega arith)
record_head (Sent n a xs) x = (115, _, refl, omega arith)

-- ---- lines

-- a text that ends in its only line feed
pub record IsLine (text : List ℕ) : Type 0 where
  pub row : List ℕ
  pub clean : Lacks 10 row
  pub is : text ≡ row ++ 10 ∷ []

pub node_is_line : (n : KnownNode) → IsSomeNode n → IsLine (node_line n)
unfolding node_line
node_is_line n is = let layer = is.layer in let offset = is.offset in
    let space : IsClear 10 (32 ∷ []) = one_clear 10 32 [] (λ same. omega (arith, same)) (none_clear 10) in
    let word : IsClear 10 (codes "node ") = letters in
    record {
      row = codes "node " ++ decimal n.layer ++ codes " " ++ decimal n.offset ++ codes " " ++ encode_lower n.digest;
      clean = (both_clear 10 _ _ (both_clear 10 _ _ (both_clear 10 _ _ (both_clear 10 _ _ (both_clear 10 _ _ word
          (number_clear 10 n.layer (omega arith) (omega arith))) space) (number_clear 10 n.offset (omega arith) (omega arith))) space)
          (record { all = encoded_lacks 10 n.digest (omega arith) is.bytes })).all;
      is = refl;
    }
  where
    letters : IsClear 10 (codes "node ")
    letters = one_clear 10 110 _ (λ same. omega (arith, same)) (one_clear 10 111 _ (λ same. omega (arith, same))
        (one_clear 10 100 _ (λ same. omega (arith, same)) (one_clear 10 101 _ (λ same. omega (arith, same))
        (one_clear 10 32 _ (λ same. omega (arith, same)) (none_clear 10)))))

datagram_is_line : (word : List ℕ) (n : ℕ) (a : Address) (bytes : List ℕ) → IsClear 10 word → n < 2 ^ 64 → IsPeerAddress a → IsBytes bytes
    → IsLine (datagram_line word n a bytes)
datagram_is_line word n a bytes clear low is all =
    let space : IsClear 10 (32 ∷ []) = one_clear 10 32 [] (λ same. omega (arith, same)) (none_clear 10) in
    record {
      row = word ++ decimal n ++ codes " " ++ address_text a ++ codes " " ++ hex_text bytes;
      clean = (both_clear 10 _ _ (both_clear 10 _ _ (both_clear 10 _ _ (both_clear 10 _ _ (both_clear 10 _ _ clear
          (number_clear 10 n (omega arith) low)) space) (record { all = address_lacks 10 a (omega arith) is })) space)
          (record { all = hex_lacks 10 bytes (omega arith) all })).all;
      is = refl;
    }

clear_word : (c : ℕ) (xs : List ℕ) → 10 < c → IsClear 10 xs → IsClear 10 (c ∷ xs)
clear_word c xs high rest = one_clear 10 c xs (λ same. omega (arith, high, same)) rest

pub record_is_line : (q : Record) → IsKeptRecord q → IsLine (record_line q)
unfolding record_line
record_is_line (Received n a bytes) (low, is, few, all) = datagram_is_line (codes "received ") n a bytes letters low is all
  where
    letters : IsClear 10 (codes "received ")
    letters = clear_word 114 _ (omega arith) (clear_word 101 _ (omega arith) (clear_word 99 _ (omega arith) (clear_word 101 _ (omega arith)
        (clear_word 105 _ (omega arith) (clear_word 118 _ (omega arith) (clear_word 101 _ (omega arith) (clear_word 100 _ (omega arith)
        (clear_word 32 _ (omega arith) (none_clear 10)))))))))
record_is_line (Quiet n) low = record {
  row = codes "quiet " ++ decimal n;
  clean = (both_clear 10 _ _ letters (number_clear 10 n (omega arith) low)).all;
  is = refl;
}
  where
    letters : IsClear 10 (codes "quiet ")
    letters = clear_word 113 _ (omega arith) (clear_word 117 _ (omega arith) (clear_word 105 _ (omega arith) (clear_word 101 _ (omega arith)
        (clear_word 116 _ (omega arith) (clear_word 32 _ (omega arith) (none_clear 10))))))
record_is_line (Sent n a bytes) (low, is, few, all) = datagram_is_line (codes "sent ") n a bytes letters low is all
  where
    letters : IsClear 10 (codes "sent ")
    letters = clear_word 115 _ (omega arith) (clear_word 101 _ (omega arith) (clear_word 110 _ (omega arith) (clear_word 116 _ (omega arith)
        (clear_word 32 _ (omega arith) (none_clear 10)))))
