-- How long messages are.
use Rattle.std.proofs.Common.{◌≡◌, ℕ, ◌+◌, ◌≤◌, List, ◌++◌, length, arith}
use Rattle.std.specs.Int.{w32, w64, to_be_bytes}
use Rattle.std.proofs.lemmas.List.{length-append}
use Rattle.pp_terms.specs.tree.Range.{Span}
use Rattle.pp_terms.specs.format.Descriptor.{Method, Bin32, Range32, Bin64, Range64}
use Rattle.pp_terms.specs.format.Messages.{Data, Have, Integrity, only, spell, spell_span, bin_number_of}
use Rattle.pp_terms.proofs.MessageLaws.{wide32, wide64}

pub length_span : (method : Method) (s : Span) → length (spell_span method s) ≤ 16
length_span Bin32 s = omega (arith, wide32.len (bin_number_of s))
length_span Range32 s = omega (arith, length-append (to_be_bytes w32 s.first) (to_be_bytes w32 s.last), wide32.len s.first, wide32.len s.last)
length_span Bin64 s = omega (arith, wide64.len (bin_number_of s))
length_span Range64 s = omega (arith, length-append (to_be_bytes w64 s.first) (to_be_bytes w64 s.last), wide64.len s.first, wide64.len s.last)

pub length_have : (method : Method) (s : Span) → length (spell method (Have s)) ≤ 17
unfolding spell
length_have method s = omega (arith, length_span method s)

pub length_integrity : (method : Method) (s : Span) (digest : List ℕ) → length digest ≡ 32 → length (spell method (Integrity s digest)) ≤ 49
unfolding spell
length_integrity method s digest len = omega (arith, length_span method s, length-append (spell_span method s) digest)

pub length_data : (method : Method) (i sent_at : ℕ) (bytes : List ℕ) → length (spell method (Data i sent_at bytes)) ≤ 25 + length bytes
unfolding spell
length_data method i sent_at bytes =
    omega (arith, length_span method (only i), length-append (spell_span method (only i)) (to_be_bytes w64 sent_at ++ bytes), length-append (to_be_bytes w64 sent_at) bytes, wide64.len sent_at)
