-- How the code reads a text from left to right: words of fixed length, byte by byte under a test, and numbers.
use Rattle.std.specs.Prelude.{◌≡◌, ◌⊎◌, ℕ, ◌+◌, ◌-◌, ◌<◌, ◌≤◌, ◌==◌, Bool, true, false, List, take, drop, length, slice_index}
use Rattle.hex.specs.Hex.{encode_lower, IsBytes}
use Rattle.pp_terms.specs.format.DescriptorRead.{is_digit, is_lower_hex, number_of, Spelling, IsSpelled, before_chunk, before_size, before_method}
use Rattle.pp_tree.specs.declared.form.Words.{Words}

-- the test of a given word's bytes, and of hexadecimal digits
abbrev pub as_word : List ℕ → ℕ → ℕ → Bool
as_word word k c = c == slice_index word k

abbrev pub as_hex : ℕ → ℕ → Bool
as_hex k c = is_lower_hex c

-- All bytes of a word of that length pass the test.
pub record IsRead (test : ℕ → ℕ → Bool) (len : ℕ) (bytes : List ℕ) (at end : ℕ) : Type 0 where
  pub end_is : end ≡ at + len
  pub inside : end ≤ length bytes
  pub each : (k : ℕ) → k < len → test k (slice_index bytes (at + k)) ≡ true

-- The bytes pass the test up to a place inside the word, where the text ends or another byte stands.
pub record IsStopped (test : ℕ → ℕ → Bool) (len : ℕ) (bytes : List ℕ) (at stop : ℕ) : Type 0 where
  pub from : at ≤ stop
  pub short : stop < at + len
  pub inside : stop ≤ length bytes
  pub each : (k : ℕ) → at + k < stop → test k (slice_index bytes (at + k)) ≡ true
  pub wrong : stop < length bytes → test (stop - at) (slice_index bytes stop) ≡ false

-- A number stands there, and no longer one.
pub record IsNumberRead (bytes : List ℕ) (at value end : ℕ) : Type 0 where
  pub some : at < end
  pub most : end ≤ at + 20
  pub inside : end ≤ length bytes
  pub digits : (k : ℕ) → at ≤ k → k < end → is_digit (slice_index bytes k) ≡ true
  pub plain : slice_index bytes at ≡ 48 → end ≡ at + 1
  pub over : end < length bytes → is_digit (slice_index bytes end) ≡ true → (slice_index bytes at ≡ 48) ⊎ (end ≡ at + 20)
  pub value_is : value ≡ number_of (take (end - at) (drop at bytes))

-- No number begins there.
pub record IsNoNumber (bytes : List ℕ) (at stop : ℕ) : Type 0 where
  pub here : stop ≡ at
  pub wrong : at < length bytes → is_digit (slice_index bytes at) ≡ false

-- These are the words of a text of the form: their places, the bytes of the root and the numbers.
pub record AreWords (bytes : List ℕ) (found : Words) : Type 0 where
  pub words : Spelling
  pub spelled : IsSpelled words bytes
  pub root_text : encode_lower found.root ≡ words.root
  pub root_bytes : IsBytes found.root
  pub root_length : length found.root ≡ 32
  pub chunk_is : found.chunk ≡ number_of words.chunk
  pub size_is : found.size ≡ number_of words.size
  pub method_is : found.method ≡ number_of words.method
  pub chunk_place : found.chunk_at ≡ length (before_chunk words)
  pub size_place : found.size_at ≡ length (before_size words)
  pub method_place : found.method_at ≡ length (before_method words)
