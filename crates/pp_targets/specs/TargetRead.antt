-- Reading the text of a target: its two forms, the numbers in them, and what is wrong with a text.
use Rattle.std.specs.Prelude.{◌≡◌, ◌⊎◌, ℕ, ◌<◌, ◌≤◌, true, List, ◌++◌, length, take, codes, slice_index}
use Rattle.pp_terms.specs.tree.Content.{IsChunkSize, IsContentSize}
use Rattle.pp_terms.specs.format.Descriptor.{Method, method_number as number_of_method}
use Rattle.pp_terms.specs.format.DescriptorRead.{is_lower_hex, IsNumber, number_of, Spelling, before_chunk, before_size, before_method}
use Rattle.pp_tree.specs.declared.descriptor.DescriptorFault.{DescriptorFault}
use Rattle.pp_tree.specs.declared.descriptor.DescriptorFault.TheVariants.{Form, Chunk, Size, Method as OfMethod}

-- The text has one of the two forms, with these words: 64 hexadecimal digits in lower case and numbers, and for the size a
-- number or `auto`.
pub record IsSpelled (s : Spelling) (text : List ℕ) : Type 0 where
  pub text_is : text ≡ before_method s ++ s.method
  pub root_length : length s.root ≡ 64
  pub root_digits : (k : ℕ) → k < 64 → is_lower_hex (slice_index s.root k) ≡ true
  pub chunk_number : IsNumber s.chunk
  pub size_word : IsNumber s.size ⊎ (s.size ≡ codes "auto")
  pub method_number : IsNumber s.method

abbrev pub HasForm : List ℕ → Type 0
HasForm text = (s : Spelling) × IsSpelled s text

-- these bytes begin some text of either form
abbrev pub BeginsForm : List ℕ → Type 0
BeginsForm bytes = (rest : List ℕ) × HasForm (bytes ++ rest)

-- The text has neither form; the place is the length of its longest part, from its beginning, that begins some text of either.
pub record IsFormFault (text : List ℕ) (at : ℕ) : Type 0 where
  pub formless : HasForm text → ⊥
  pub within : at ≤ length text
  pub begins : BeginsForm (take at text)
  pub longest : (k : ℕ) → at < k → k ≤ length text → BeginsForm (take k text) → ⊥

-- The text has a form, and its second word is no chunk size; it begins at the place.
pub record IsChunkFault (text : List ℕ) (at : ℕ) : Type 0 where
  pub words : Spelling
  pub spelled : IsSpelled words text
  pub place : at ≡ length (before_chunk words)
  pub wrong : ¬ IsChunkSize (number_of words.chunk)

-- Its third word is a number, and no size of a content in chunks of that size.
pub record IsSizeFault (text : List ℕ) (at : ℕ) : Type 0 where
  pub words : Spelling
  pub spelled : IsSpelled words text
  pub place : at ≡ length (before_size words)
  pub chunk_size : IsChunkSize (number_of words.chunk)
  pub number : IsNumber words.size
  pub wrong : ¬ IsContentSize (number_of words.chunk) (number_of words.size)

-- Its fourth word is no method's number.
pub record IsMethodFault (text : List ℕ) (at : ℕ) : Type 0 where
  pub words : Spelling
  pub spelled : IsSpelled words text
  pub place : at ≡ length (before_method words)
  pub chunk_size : IsChunkSize (number_of words.chunk)
  pub content_size : IsNumber words.size → IsContentSize (number_of words.chunk) (number_of words.size)
  pub wrong : (m : Method) → number_of words.method ≡ number_of_method m → ⊥

-- the text has this fault
abbrev pub HasFault : List ℕ → DescriptorFault → Type 0
HasFault text (Form at) = IsFormFault text at
HasFault text (Chunk at) = IsChunkFault text at
HasFault text (Size at) = IsSizeFault text at
HasFault text (OfMethod at) = IsMethodFault text at
