-- The form of a name's text alone, and its words as the code finds them.
use Rattle.std.specs.Prelude.{◌≡◌, ℕ, ◌<◌, ◌≤◌, true, List, ◌++◌, length, take, codes, slice_index}
use Rattle.hex.specs.Hex.{encode_lower, IsBytes}
use Rattle.pp_terms.specs.format.DescriptorRead.{is_lower_hex, IsNumber, number_of, Spelling, before_chunk, before_method}
use Rattle.pp_targets.specs.declared.form.Words.{Words}

-- The text is a name's, with these words.
pub record IsNameSpelled (s : Spelling) (text : List ℕ) : Type 0 where
  pub text_is : text ≡ before_method s ++ s.method
  pub root_length : length s.root ≡ 64
  pub root_digits : (k : ℕ) → k < 64 → is_lower_hex (slice_index s.root k) ≡ true
  pub chunk_number : IsNumber s.chunk
  pub auto : s.size ≡ codes "auto"
  pub method_number : IsNumber s.method

abbrev pub HasNameForm : List ℕ → Type 0
HasNameForm text = (s : Spelling) × IsNameSpelled s text

-- The text doesn't have the form, and so many bytes of it begin some text that has.
pub record IsNameFault (text : List ℕ) (at : ℕ) : Type 0 where
  pub formless : HasNameForm text → ⊥
  pub within : at ≤ length text
  pub begins : (rest : List ℕ) × HasNameForm (take at text ++ rest)
  pub longest : (k : ℕ) → at < k → k ≤ length text → (rest : List ℕ) × HasNameForm (take k text ++ rest) → ⊥

-- These are the words of a text of the form: their places, the bytes of the root and the numbers.
pub record AreNameWords (bytes : List ℕ) (found : Words) : Type 0 where
  pub words : Spelling
  pub spelled : IsNameSpelled words bytes
  pub root_text : encode_lower found.root ≡ words.root
  pub root_bytes : IsBytes found.root
  pub root_length : length found.root ≡ 32
  pub chunk_is : found.chunk ≡ number_of words.chunk
  pub method_is : found.method ≡ number_of words.method
  pub chunk_place : found.chunk_at ≡ length (before_chunk words)
  pub method_place : found.method_at ≡ length (before_method words)
