-- Words that are no node's and no datagram's, and lines that say nothing.
use Rattle.std.proofs.Common.{◌≡◌, ◌≢◌, ◌⊎◌, ℕ, suc, ◌*◌, ◌%◌, ◌<◌, ◌≤◌, true, Some, None, List, [], ◌∷◌, ◌++◌, length, get_or, codes, decimal, refl, sym, ◌∙◌, ap, subst, inl, inr, arith, append_assoc}
use Rattle.std.specs.List.{list_all}
use Rattle.std.proofs.lemmas.List.{append_cancel_left, append_cancel_right}
use Rattle.std.proofs.lemmas.List.Elements.{All-append}
use Rattle.hex.specs.Hex.{encode_lower, IsBytes, lower_digits}
use Rattle.hex.proofs.HexLemmas.{length-encode_with}
use Rattle.pp_terms.specs.format.DescriptorRead.{is_lower_hex}
use Rattle.pp_terms.specs.format.Traffic as terms
use Rattle.pp_terms.specs.format.Traffic.{Received, Quiet, Sent}
use Rattle.pp_terms.specs.format.Addresses.{IsAddress}
use Rattle.pp_tree.proofs.HexDigits.{encoded_lower}
use Rattle.pp_recording.specs.Spelling.{address_text, hex_text, KnownNode, node_line, datagram_line, record_line}
use Rattle.pp_recording.specs.Recording.{IsPeerAddress, IsDatagram, IsKeptRecord, most_bytes}
use Rattle.pp_recording.specs.Lines.{IsHex, IsSomeNode, NoNode, NoDatagram, SaysNothing}
use Rattle.pp_recording.proofs.Splits.{Lacks, lacks_none, split_same}
use Rattle.pp_recording.proofs.AddressWords.{IsClear, one_clear, none_clear, decimal_lacks, address_lacks, spells}
use Rattle.pp_recording.proofs.LineTexts.{heads_same}

-- ---- hexadecimal digits

all_lower : (s : List ℕ) → ((k : ℕ) → k < length s → is_lower_hex (get_or s k 0) ≡ true) → list_all is_lower_hex s ≡ true
all_lower [] each = refl
all_lower (c ∷ cs) each =
    let first : is_lower_hex c ≡ true = each 0 (omega arith) in
    rw first (all_lower cs (λ k lt. each (suc k) (omega arith)))

pub encoded_digits : (bytes word : List ℕ) → IsBytes bytes → word ≡ encode_lower bytes → list_all is_lower_hex word ≡ true
encoded_digits bytes word all is =
    let size = length-encode_with lower_digits bytes in
    ap (λ w. list_all is_lower_hex w) is ∙ all_lower (encode_lower bytes) (λ k lt. encoded_lower bytes all k (omega (arith, lt, size)))

pub encoded_length : (bytes word : List ℕ) → word ≡ encode_lower bytes → length word ≡ 2 * length bytes
encoded_length bytes word is = ap (λ w. length w) is ∙ length-encode_with lower_digits bytes

-- a word of digits is `-`, or it has a fitting length and digits in lower case
pub hex_is : (word : List ℕ) → IsHex word
    → (word ≡ 45 ∷ []) ⊎ ((0 < length word) × (length word % 2 ≡ 0) × (length word ≤ 131072) × (list_all is_lower_hex word ≡ true))
hex_is word is = cases is.bytes is.text is.few is.all
  where
    cases : (bytes : List ℕ) → word ≡ hex_text bytes → length bytes ≤ most_bytes → IsBytes bytes
        → (word ≡ 45 ∷ []) ⊎ ((0 < length word) × (length word % 2 ≡ 0) × (length word ≤ 131072) × (list_all is_lower_hex word ≡ true))
    cases [] text few all = inl text
    cases (b ∷ bs) text few all =
        let size = encoded_length (b ∷ bs) word text in
        inr (omega arith, omega arith, omega arith, encoded_digits (b ∷ bs) word all text)

-- ---- nodes

node_words : (words : List ℕ) (n : KnownNode) → codes "node " ++ words ++ codes "\n" ≡ node_line n
    → words ≡ decimal n.layer ++ 32 ∷ (decimal n.offset ++ 32 ∷ encode_lower n.digest)
unfolding node_line
node_words words n e =
    append_cancel_right words (decimal n.layer ++ 32 ∷ (decimal n.offset ++ 32 ∷ encode_lower n.digest)) (codes "\n")
    (append_cancel_left (codes "node ") (words ++ codes "\n")
    ((decimal n.layer ++ 32 ∷ (decimal n.offset ++ 32 ∷ encode_lower n.digest)) ++ codes "\n") (one words ∙ e ∙ other (decimal n.layer) (decimal n.offset) (encode_lower n.digest)))
  where
    one : (ws : List ℕ) → codes "node " ++ (ws ++ codes "\n") ≡ codes "node " ++ ws ++ codes "\n"
    one ws = simp append_assoc

    other : (a b c : List ℕ) → codes "node " ++ a ++ codes " " ++ b ++ codes " " ++ c ++ codes "\n"
        ≡ codes "node " ++ ((a ++ 32 ∷ (b ++ 32 ∷ c)) ++ codes "\n")
    other a b c = simp append_assoc

pub no_first_space : (words : List ℕ) → Lacks 32 words → NoNode words
no_first_space words none n is e = lacks_none 32 words (decimal n.layer) (decimal n.offset ++ 32 ∷ encode_lower n.digest) none (node_words words n e)

-- the first word and what stands behind it
node_split : (words first rest : List ℕ) (n : KnownNode) → words ≡ first ++ 32 ∷ rest → Lacks 32 first → IsSomeNode n
    → codes "node " ++ words ++ codes "\n" ≡ node_line n → (first ≡ decimal n.layer) × (rest ≡ decimal n.offset ++ 32 ∷ encode_lower n.digest)
node_split words first rest n split clean is e =
    let low = is.layer in
    split_same 32 first rest (decimal n.layer) (decimal n.offset ++ 32 ∷ encode_lower n.digest) clean
    (decimal_lacks 32 n.layer (omega arith) (omega arith)) (sym split ∙ node_words words n e)

node_split_twice : (words first rest second digits : List ℕ) (n : KnownNode) → words ≡ first ++ 32 ∷ rest → Lacks 32 first
    → rest ≡ second ++ 32 ∷ digits → Lacks 32 second → IsSomeNode n → codes "node " ++ words ++ codes "\n" ≡ node_line n
    → (first ≡ decimal n.layer) × (second ≡ decimal n.offset) × (digits ≡ encode_lower n.digest)
node_split_twice words first rest second digits n split clean split2 clean2 is e =
    let (one, behind) = node_split words first rest n split clean is e in
    let high = is.offset in
    let (two, three) = split_same 32 second digits (decimal n.offset) (encode_lower n.digest) clean2
    (decimal_lacks 32 n.offset (omega arith) (omega arith)) (sym split2 ∙ behind) in
    (one, two, three)

pub no_second_space : (words first rest : List ℕ) → words ≡ first ++ 32 ∷ rest → Lacks 32 first → Lacks 32 rest → NoNode words
no_second_space words first rest split clean none n is e =
    lacks_none 32 rest (decimal n.offset) (encode_lower n.digest) none (node_split words first rest n split clean is e).1

pub no_layer : (words first rest : List ℕ) → words ≡ first ++ 32 ∷ rest → Lacks 32 first → ((k : ℕ) → k ≤ 20 → first ≡ decimal k → ⊥) → NoNode words
no_layer words first rest split clean none n is e = none n.layer is.layer (node_split words first rest n split clean is e).0

pub no_offset : (words first rest second digits : List ℕ) → words ≡ first ++ 32 ∷ rest → Lacks 32 first → rest ≡ second ++ 32 ∷ digits → Lacks 32 second
    → ((j : ℕ) → j ≤ 1048575 → second ≡ decimal j → ⊥) → NoNode words
no_offset words first rest second digits split clean split2 clean2 none n is e =
    none n.offset is.offset (node_split_twice words first rest second digits n split clean split2 clean2 is e).1

pub no_digest : (words first rest second digits : List ℕ) → words ≡ first ++ 32 ∷ rest → Lacks 32 first → rest ≡ second ++ 32 ∷ digits → Lacks 32 second
    → ((bytes : List ℕ) → length bytes ≡ 32 → IsBytes bytes → digits ≡ encode_lower bytes → ⊥) → NoNode words
no_digest words first rest second digits split clean split2 clean2 none n is e =
    none n.digest is.size is.bytes (node_split_twice words first rest second digits n split clean split2 clean2 is e).2

-- ---- datagrams

datagram_words : (words : List ℕ) (n : ℕ) (a : terms.Address) (bytes : List ℕ) → words ++ codes "\n" ≡ datagram_line [] n a bytes
    → words ≡ decimal n ++ 32 ∷ (address_text a ++ 32 ∷ hex_text bytes)
datagram_words words n a bytes e =
    append_cancel_right words (decimal n ++ 32 ∷ (address_text a ++ 32 ∷ hex_text bytes)) (codes "\n")
    (e ∙ other (decimal n) (address_text a) (hex_text bytes))
  where
    other : (b c d : List ℕ) → b ++ codes " " ++ c ++ codes " " ++ d ++ codes "\n" ≡ (b ++ 32 ∷ (c ++ 32 ∷ d)) ++ codes "\n"
    other b c d = simp append_assoc

datagram_split : (words first rest : List ℕ) (n : ℕ) (a : terms.Address) (bytes : List ℕ) → words ≡ first ++ 32 ∷ rest → Lacks 32 first
    → IsDatagram n a bytes → words ++ codes "\n" ≡ datagram_line [] n a bytes → (first ≡ decimal n) × (rest ≡ address_text a ++ 32 ∷ hex_text bytes)
datagram_split words first rest n a bytes split clean is e =
    split_same 32 first rest (decimal n) (address_text a ++ 32 ∷ hex_text bytes) clean
    (decimal_lacks 32 n (omega arith) is.0) (sym split ∙ datagram_words words n a bytes e)

datagram_split_twice : (words first rest second digits : List ℕ) (n : ℕ) (a : terms.Address) (bytes : List ℕ) → words ≡ first ++ 32 ∷ rest → Lacks 32 first
    → rest ≡ second ++ 32 ∷ digits → Lacks 32 second → IsDatagram n a bytes → words ++ codes "\n" ≡ datagram_line [] n a bytes
    → (second ≡ address_text a) × (digits ≡ hex_text bytes)
datagram_split_twice words first rest second digits n a bytes split clean split2 clean2 is e =
    split_same 32 second digits (address_text a) (hex_text bytes) clean2 (address_lacks 32 a (omega arith) is.1)
    (sym split2 ∙ (datagram_split words first rest n a bytes split clean is e).1)

pub no_number_space : (words : List ℕ) → Lacks 32 words → NoDatagram words
no_number_space words none n a bytes is e = lacks_none 32 words (decimal n) (address_text a ++ 32 ∷ hex_text bytes) none (datagram_words words n a bytes e)

pub no_address_space : (words first rest : List ℕ) → words ≡ first ++ 32 ∷ rest → Lacks 32 first → Lacks 32 rest → NoDatagram words
no_address_space words first rest split clean none n a bytes is e =
    lacks_none 32 rest (address_text a) (hex_text bytes) none (datagram_split words first rest n a bytes split clean is e).1

pub no_number : (words first rest : List ℕ) → words ≡ first ++ 32 ∷ rest → Lacks 32 first
    → ((n : ℕ) → n ≤ 18446744073709551615 → first ≡ decimal n → ⊥) → NoDatagram words
no_number words first rest split clean none n a bytes is e =
    let low = is.0 in none n (omega arith) (datagram_split words first rest n a bytes split clean is e).0

pub no_digits : (words first rest second digits : List ℕ) → words ≡ first ++ 32 ∷ rest → Lacks 32 first → rest ≡ second ++ 32 ∷ digits → Lacks 32 second
    → (IsHex digits → ⊥) → NoDatagram words
no_digits words first rest second digits split clean split2 clean2 none n a bytes is e =
    none (record {
      bytes = bytes;
      text = (datagram_split_twice words first rest second digits n a bytes split clean split2 clean2 is e).1;
      few = is.2;
      all = is.3;
    })

pub no_address : (words first rest second digits : List ℕ) → words ≡ first ++ 32 ∷ rest → Lacks 32 first → rest ≡ second ++ 32 ∷ digits → Lacks 32 second
    → ((a : terms.Address) → IsPeerAddress a → second ≡ address_text a → ⊥) → NoDatagram words
no_address words first rest second digits split clean split2 clean2 none n a bytes is e =
    none a is.1 (datagram_split_twice words first rest second digits n a bytes split clean split2 clean2 is e).0

-- ---- addresses

pub never_read : (word : List ℕ) (a : terms.Address) → IsPeerAddress a → word ≡ address_text a → IsAddress word a
never_read word a is e = subst (λ w. IsAddress w a) (sym e) (spells a is)

-- ---- whole lines

-- a line behind its first word
behind_word : (row word words : List ℕ) (text : List ℕ) → row ≡ word ++ 32 ∷ words → row ++ codes "\n" ≡ text → word ++ 32 ∷ (words ++ codes "\n") ≡ text
behind_word row word words text split e = sym (append_assoc word (32 ∷ words) (codes "\n")) ∙ sym (ap (λ t. t ++ codes "\n") split) ∙ e

space_clear : (row : List ℕ) → Lacks 32 row → Lacks 32 (row ++ codes "\n")
space_clear row none = All-append (λ b. b ≢ 32) row (codes "\n") none (one_clear 32 10 [] (λ same. omega (arith, same)) (none_clear 32)).all

abbrev node_rest : KnownNode → List ℕ
node_rest n = decimal n.layer ++ 32 ∷ (decimal n.offset ++ 32 ∷ (encode_lower n.digest ++ codes "\n"))

node_flat_word : (n : KnownNode) → node_line n ≡ codes "node" ++ 32 ∷ node_rest n
unfolding node_line
node_flat_word n = simp append_assoc

abbrev first_word : terms.Record → List ℕ
first_word (Received n a bytes) = codes "received"
first_word (Quiet n) = codes "quiet"
first_word (Sent n a bytes) = codes "sent"

abbrev rest_words : terms.Record → List ℕ
rest_words (Received n a bytes) = datagram_line [] n a bytes
rest_words (Quiet n) = decimal n ++ codes "\n"
rest_words (Sent n a bytes) = datagram_line [] n a bytes

record_flat_word : (q : terms.Record) → record_line q ≡ first_word q ++ 32 ∷ rest_words q
unfolding record_line
record_flat_word (Received n a bytes) = simp append_assoc
record_flat_word (Quiet n) = refl
record_flat_word (Sent n a bytes) = simp append_assoc

word_lacks : (c : ℕ) (xs : List ℕ) → 32 < c → IsClear 32 xs → IsClear 32 (c ∷ xs)
word_lacks c xs high rest = one_clear 32 c xs (λ same. omega (arith, high, same)) rest

node_lacks : Lacks 32 (codes "node")
node_lacks = (word_lacks 110 _ (omega arith) (word_lacks 111 _ (omega arith) (word_lacks 100 _ (omega arith) (word_lacks 101 _ (omega arith) (none_clear 32))))).all

first_lacks : (q : terms.Record) → Lacks 32 (first_word q)
first_lacks (Received n a bytes) = (word_lacks 114 _ (omega arith) (word_lacks 101 _ (omega arith) (word_lacks 99 _ (omega arith) (word_lacks 101 _ (omega arith)
    (word_lacks 105 _ (omega arith) (word_lacks 118 _ (omega arith) (word_lacks 101 _ (omega arith) (word_lacks 100 _ (omega arith) (none_clear 32))))))))).all
first_lacks (Quiet n) = (word_lacks 113 _ (omega arith) (word_lacks 117 _ (omega arith) (word_lacks 105 _ (omega arith) (word_lacks 101 _ (omega arith)
    (word_lacks 116 _ (omega arith) (none_clear 32)))))).all
first_lacks (Sent n a bytes) = (word_lacks 115 _ (omega arith) (word_lacks 101 _ (omega arith) (word_lacks 110 _ (omega arith) (word_lacks 116 _ (omega arith)
    (none_clear 32))))).all

node_first : (row name words : List ℕ) (n : KnownNode) → row ≡ name ++ 32 ∷ words → Lacks 32 name → row ++ codes "\n" ≡ node_line n
    → (name ≡ codes "node") × (words ++ codes "\n" ≡ node_rest n)
node_first row name words n split clean e =
    split_same 32 name (words ++ codes "\n") (codes "node") (node_rest n) clean node_lacks (behind_word row name words (node_line n) split e ∙ node_flat_word n)

record_first : (row name words : List ℕ) (q : terms.Record) → row ≡ name ++ 32 ∷ words → Lacks 32 name → row ++ codes "\n" ≡ record_line q
    → (name ≡ first_word q) × (words ++ codes "\n" ≡ rest_words q)
record_first row name words q split clean e =
    split_same 32 name (words ++ codes "\n") (first_word q) (rest_words q) clean (first_lacks q) (behind_word row name words (record_line q) split e ∙ record_flat_word q)

first_head : (q : terms.Record) → (head : ℕ) × (rest : List ℕ) × (first_word q ≡ head ∷ rest) × (110 < head)
first_head (Received n a bytes) = (114, _, refl, omega arith)
first_head (Quiet n) = (113, _, refl, omega arith)
first_head (Sent n a bytes) = (115, _, refl, omega arith)

pub no_word : (row : List ℕ) → Lacks 32 row → SaysNothing row
no_word row none = record {
  node = λ n is e. lacks_none 32 (row ++ codes "\n") (codes "node") (node_rest n) (space_clear row none) (e ∙ node_flat_word n);
  record_of = λ q is e. lacks_none 32 (row ++ codes "\n") (first_word q) (rest_words q) (space_clear row none) (e ∙ record_flat_word q);
}

pub no_node : (row words : List ℕ) → row ≡ codes "node" ++ 32 ∷ words → NoNode words → SaysNothing row
no_node row words split none = record {
  node = λ n is e. none n is (regroup words ∙ sym (ap (λ t. t ++ codes "\n") split) ∙ e);
  record_of = λ q is e.
      let (head, rest, word, high) = first_head q in
      let both = (record_first row (codes "node") words q split node_lacks e).0 in
      let first = heads_same 110 head _ rest (both ∙ word) in omega (arith, high, first);
}
  where
    regroup : (ws : List ℕ) → codes "node " ++ ws ++ codes "\n" ≡ (codes "node" ++ 32 ∷ ws) ++ codes "\n"
    regroup ws = simp append_assoc

-- the line's first word is none of a node, and none of other records
word_of : (row name words : List ℕ) (head : ℕ) (rest : List ℕ) → row ≡ name ++ 32 ∷ words → Lacks 32 name → name ≡ head ∷ rest → (head ≡ 110 → ⊥)
    → ((q : terms.Record) → IsKeptRecord q → name ≡ first_word q → words ++ codes "\n" ≡ rest_words q → ⊥) → SaysNothing row
word_of row name words head rest split clean is other none = record {
  node = λ n fine e. other (heads_same head 110 rest _ (sym is ∙ (node_first row name words n split clean e).0));
  record_of = λ q fine e. let (name_is, words_are) = record_first row name words q split clean e in none q fine name_is words_are;
}

pub no_quiet : (row words : List ℕ) → row ≡ codes "quiet" ++ 32 ∷ words → ((n : ℕ) → n ≤ 18446744073709551615 → words ≡ decimal n → ⊥) → SaysNothing row
no_quiet row words split none =
    word_of row (codes "quiet") words 113 _ split (first_lacks (Quiet 0)) refl (λ same. omega (arith, same)) each
  where
    each : (q : terms.Record) → IsKeptRecord q → codes "quiet" ≡ first_word q → words ++ codes "\n" ≡ rest_words q → ⊥
    each (Received n a bytes) fine name e = let first = heads_same 113 114 _ _ name in omega (arith, first)
    each (Quiet n) fine name e = none n (omega (arith, fine)) (append_cancel_right words (decimal n) (codes "\n") e)
    each (Sent n a bytes) fine name e = let first = heads_same 113 115 _ _ name in omega (arith, first)

pub no_received : (row words : List ℕ) → row ≡ codes "received" ++ 32 ∷ words → NoDatagram words → SaysNothing row
no_received row words split none =
    word_of row (codes "received") words 114 _ split (first_lacks (Received 0 (terms.V4 [] 0) [])) refl (λ same. omega (arith, same)) each
  where
    each : (q : terms.Record) → IsKeptRecord q → codes "received" ≡ first_word q → words ++ codes "\n" ≡ rest_words q → ⊥
    each (Received n a bytes) fine name e = none n a bytes fine e
    each (Quiet n) fine name e = let first = heads_same 114 113 _ _ name in omega (arith, first)
    each (Sent n a bytes) fine name e = let first = heads_same 114 115 _ _ name in omega (arith, first)

pub no_sent : (row words : List ℕ) → row ≡ codes "sent" ++ 32 ∷ words → NoDatagram words → SaysNothing row
no_sent row words split none =
    word_of row (codes "sent") words 115 _ split (first_lacks (Sent 0 (terms.V4 [] 0) [])) refl (λ same. omega (arith, same)) each
  where
    each : (q : terms.Record) → IsKeptRecord q → codes "sent" ≡ first_word q → words ++ codes "\n" ≡ rest_words q → ⊥
    each (Received n a bytes) fine name e = let first = heads_same 115 114 _ _ name in omega (arith, first)
    each (Quiet n) fine name e = let first = heads_same 115 113 _ _ name in omega (arith, first)
    each (Sent n a bytes) fine name e = none n a bytes fine e

pub no_name : (row name words : List ℕ) → row ≡ name ++ 32 ∷ words → Lacks 32 name → (name ≡ codes "node" → ⊥) → (name ≡ codes "quiet" → ⊥)
    → (name ≡ codes "received" → ⊥) → (name ≡ codes "sent" → ⊥) → SaysNothing row
no_name row name words split clean node quiet received sent = record {
  node = λ n fine e. node (node_first row name words n split clean e).0;
  record_of = λ q fine e. each q (record_first row name words q split clean e).0;
}
  where
    each : (q : terms.Record) → name ≡ first_word q → ⊥
    each (Received n a bytes) is = received is
    each (Quiet n) is = quiet is
    each (Sent n a bytes) is = sent is

pub some_same : (a b : terms.Address) → Some a ≡ Some b → a ≡ b
some_same a b e = cc

pub none_some : (a : terms.Address) → None ≡ Some a → ⊥
none_some a e = absurd cc

-- ---- what a line says

pub says_quiet : (row name words : List ℕ) (n : ℕ) → row ≡ name ++ 32 ∷ words → name ≡ codes "quiet" → words ≡ decimal n
    → row ++ codes "\n" ≡ record_line (Quiet n)
unfolding record_line
says_quiet row name words n split word is =
    ap (λ t. t ++ codes "\n") split ∙ ap (λ t. (t ++ 32 ∷ words) ++ codes "\n") word ∙ ap (λ t. (codes "quiet" ++ 32 ∷ t) ++ codes "\n") is

abbrev pub words_of : ℕ → terms.Address → List ℕ → List ℕ
words_of n a digits = decimal n ++ codes " " ++ address_text a ++ codes " " ++ digits

words_line : (n : ℕ) (a : terms.Address) (digits bytes : List ℕ) → digits ≡ hex_text bytes → words_of n a digits ++ codes "\n" ≡ datagram_line [] n a bytes
words_line n a digits bytes e = ap (λ t. words_of n a t ++ codes "\n") e

pub says_received : (row name words : List ℕ) (n : ℕ) (a : terms.Address) (digits : List ℕ) → row ≡ name ++ 32 ∷ words → name ≡ codes "received"
    → words ≡ words_of n a digits → (bytes : List ℕ) → digits ≡ hex_text bytes → row ++ codes "\n" ≡ record_line (Received n a bytes)
says_received row name words n a digits split word is bytes e =
    ap (λ t. t ++ codes "\n") split ∙ ap (λ t. (t ++ 32 ∷ words) ++ codes "\n") word
    ∙ append_assoc (codes "received") (32 ∷ words) (codes "\n")
    ∙ ap (λ t. codes "received" ++ 32 ∷ (t ++ codes "\n")) is
    ∙ ap (λ t. codes "received" ++ 32 ∷ t) (words_line n a digits bytes e) ∙ sym (record_flat_word (Received n a bytes))

pub says_sent : (row name words : List ℕ) (n : ℕ) (a : terms.Address) (digits : List ℕ) → row ≡ name ++ 32 ∷ words → name ≡ codes "sent"
    → words ≡ words_of n a digits → (bytes : List ℕ) → digits ≡ hex_text bytes → row ++ codes "\n" ≡ record_line (Sent n a bytes)
says_sent row name words n a digits split word is bytes e =
    ap (λ t. t ++ codes "\n") split ∙ ap (λ t. (t ++ 32 ∷ words) ++ codes "\n") word
    ∙ append_assoc (codes "sent") (32 ∷ words) (codes "\n")
    ∙ ap (λ t. codes "sent" ++ 32 ∷ (t ++ codes "\n")) is
    ∙ ap (λ t. codes "sent" ++ 32 ∷ t) (words_line n a digits bytes e) ∙ sym (record_flat_word (Sent n a bytes))

pub with_word : (row name word words : List ℕ) → row ≡ name ++ 32 ∷ words → name ≡ word → row ≡ word ++ 32 ∷ words
with_word row name word words split is = split ∙ ap (λ (t : List ℕ). t ++ 32 ∷ words) is
