-- Reading the text of a descriptor: its form, the numbers in it, and what is wrong with a text.
use Rattle.std.specs.Prelude.{◌≡◌, ℕ, ◌+◌, ◌-◌, ◌*◌, ◌<◌, ◌≤◌, nat_le, Bool, true, ◌&&◌, ◌||◌, List, [], ◌∷◌, ◌++◌, length, take, codes, slice_index}
use Rattle.pp_terms.specs.tree.Content.{IsChunkSize, IsContentSize}
use Rattle.pp_terms.specs.format.Descriptor.{Method, method_number as number_of_method}

abbrev pub is_digit : ℕ → Bool
is_digit c = nat_le 48 c && nat_le c 57

-- a hexadecimal digit in lower case
abbrev pub is_lower_hex : ℕ → Bool
is_lower_hex c = is_digit c || (nat_le 97 c && nat_le c 102)

-- A number's text: "0" or digits without a leading zero, at most 20.
pub record IsNumber (text : List ℕ) : Type 0 where
  pub some : 0 < length text
  pub most : length text ≤ 20
  pub digits : (k : ℕ) → k < length text → is_digit (slice_index text k) ≡ true
  pub plain : slice_index text 0 ≡ 48 → length text ≡ 1

-- the number that further digits make of a number
abbrev pub number_after : ℕ → List ℕ → ℕ
number_after n [] = n
number_after n (c ∷ cs) = number_after (n * 10 + (c - 48)) cs

-- the number that digits write
abbrev pub number_of : List ℕ → ℕ
number_of text = number_after 0 text

-- The words of a descriptor's text, between its colons.
pub record Spelling : Type 0 where
  pub root : List ℕ
  pub chunk : List ℕ
  pub size : List ℕ
  pub method : List ℕ

-- what stands before each number
abbrev pub before_chunk : Spelling → List ℕ
before_chunk s = codes "ppspp1:" ++ s.root ++ codes ":"

abbrev pub before_size : Spelling → List ℕ
before_size s = before_chunk s ++ s.chunk ++ codes ":"

abbrev pub before_method : Spelling → List ℕ
before_method s = before_size s ++ s.size ++ codes ":"

-- The text has the form, with these words: 64 hexadecimal digits in lower case and three numbers.
pub record IsSpelled (s : Spelling) (text : List ℕ) : Type 0 where
  pub text_is : text ≡ before_method s ++ s.method
  pub root_length : length s.root ≡ 64
  pub root_digits : (k : ℕ) → k < 64 → is_lower_hex (slice_index s.root k) ≡ true
  pub chunk_number : IsNumber s.chunk
  pub size_number : IsNumber s.size
  pub method_number : IsNumber s.method

abbrev pub HasForm : List ℕ → Type 0
HasForm text = (s : Spelling) × IsSpelled s text

-- these bytes begin some text of the form
abbrev pub BeginsForm : List ℕ → Type 0
BeginsForm bytes = (rest : List ℕ) × HasForm (bytes ++ rest)

-- The text doesn't have the form; the place is the length of its longest part, from its beginning, that begins some
-- text of the form.
pub record IsFormFault (text : List ℕ) (at : ℕ) : Type 0 where
  pub formless : HasForm text → ⊥
  pub within : at ≤ length text
  pub begins : BeginsForm (take at text)
  pub longest : (k : ℕ) → at < k → k ≤ length text → BeginsForm (take k text) → ⊥

-- The text has the form, and its second word is no chunk size; it begins at the place.
pub record IsChunkFault (text : List ℕ) (at : ℕ) : Type 0 where
  pub words : Spelling
  pub spelled : IsSpelled words text
  pub place : at ≡ length (before_chunk words)
  pub wrong : ¬ IsChunkSize (number_of words.chunk)

-- Its third word is no size of a content in chunks of that size.
pub record IsSizeFault (text : List ℕ) (at : ℕ) : Type 0 where
  pub words : Spelling
  pub spelled : IsSpelled words text
  pub place : at ≡ length (before_size words)
  pub chunk_size : IsChunkSize (number_of words.chunk)
  pub wrong : ¬ IsContentSize (number_of words.chunk) (number_of words.size)

-- Its fourth word is no method's number.
pub record IsMethodFault (text : List ℕ) (at : ℕ) : Type 0 where
  pub words : Spelling
  pub spelled : IsSpelled words text
  pub place : at ≡ length (before_method words)
  pub chunk_size : IsChunkSize (number_of words.chunk)
  pub content_size : IsContentSize (number_of words.chunk) (number_of words.size)
  pub wrong : (m : Method) → number_of words.method ≡ number_of_method m → ⊥
