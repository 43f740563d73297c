-- Worked examples of the text of a descriptor.
use Rattle.std.specs.Prelude.{◌≡◌, true, false, ◌++◌, length, codes}
use Rattle.pp_terms.specs.format.DescriptorRead.{is_digit, is_lower_hex, IsNumber, number_of, Spelling, before_chunk, before_size, before_method}

-- the words of a descriptor of 268,435,457 bytes in chunks of 256, which are too many chunks
abbrev pub too_many : Spelling
too_many = record {
  root = codes "ba7816bf8f01cfea414140de5dae2223b00361a396177a9cb410ff61f20015ad";
  chunk = codes "256";
  size = codes "268435457";
  method = codes "2";
}

pub record ReadExamples : Type 0 where
  -- "9" and "f" are digits of the root, "A" isn't
  pub digits : (is_digit 0x39 ≡ true) × (is_lower_hex 0x39 ≡ true) × (is_lower_hex 0x66 ≡ true) × (is_lower_hex 0x41 ≡ false)
  -- what digits write
  pub numbers : (number_of (codes "0") ≡ 0) × (number_of (codes "268435457") ≡ 268435457)
  -- a leading zero
  pub leading_zero : ¬ IsNumber (codes "0256")
  -- the text, and where its chunk size, size and method begin
  pub text : before_method too_many ++ codes "2"
      ≡ codes "ppspp1:ba7816bf8f01cfea414140de5dae2223b00361a396177a9cb410ff61f20015ad:256:268435457:2"
  pub places : (length (before_chunk too_many) ≡ 72) × (length (before_size too_many) ≡ 76) × (length (before_method too_many) ≡ 86)
