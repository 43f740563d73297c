-- The options of a handshake, worked out at the bytes of one.
use Rattle.std.specs.Prelude.{◌≡◌, ℕ, true, false, Some, None, List, [], ◌∷◌, ◌++◌, replicate, Ok, Err}
use Rattle.std.specs.List.{range_with_len}
use Rattle.pp_terms.specs.format.Descriptor.{Descriptor, Range32}
use Rattle.pp_terms.specs.format.Options.{Options, none, Short, Unknown, Twice, BadLength, spelling_of, read_options}
use Rattle.pp_terms.specs.format.Mismatch.{mismatch_of, Version, Minimum, Swarm, Integrity, Hash, Addressing, Chunk}

-- a root of the bytes 1 to 32
abbrev pub some_root : List ℕ
some_root = range_with_len 1 32

-- the options that this peer sends in a swarm of that root, of chunks of 1,024 bytes and 32-bit ranges
abbrev pub sent : Options
sent = record {
  version = Some 1;
  minimum = Some 1;
  swarm = Some some_root;
  integrity = Some 1;
  hash = Some 2;
  addressing = Some 2;
  messages = Some (0xfe ∷ 0xf8 ∷ []);
  chunk = Some 1024;
}

abbrev pub sent_bytes : List ℕ
sent_bytes = 0 ∷ 1 ∷ 1 ∷ 1 ∷ 2 ∷ 0 ∷ 32 ∷ [] ++ some_root
    ++ 3 ∷ 1 ∷ 4 ∷ 2 ∷ 6 ∷ 2 ∷ 8 ∷ 2 ∷ 0xfe ∷ 0xf8 ∷ 9 ∷ 0 ∷ 0 ∷ 4 ∷ 0 ∷ 255 ∷ []

-- the same options, the last one first
abbrev pub turned_bytes : List ℕ
turned_bytes = 9 ∷ 0 ∷ 0 ∷ 4 ∷ 0 ∷ 8 ∷ 2 ∷ 0xfe ∷ 0xf8 ∷ 6 ∷ 2 ∷ 4 ∷ 2 ∷ 3 ∷ 1 ∷ 2 ∷ 0 ∷ 32 ∷ [] ++ some_root
    ++ 1 ∷ 1 ∷ 0 ∷ 1 ∷ 255 ∷ []

abbrev pub swarm_of_seven : Descriptor
swarm_of_seven = record { root = some_root; chunk = 1024; size = 7000; method = Range32 }

-- Options read, in two orders, with their faults, and compared.
pub record OptionExamples : Type 0 where
  -- 55 bytes, read in both orders, whatever follows
  pub in_order : read_options sent_bytes ≡ Ok (sent, 55)
  pub turned : read_options (turned_bytes ++ 7 ∷ 7 ∷ []) ≡ Ok (sent, 55)
  pub spelled : spelling_of sent ≡ sent_bytes
  -- code 255 alone is no options
  pub nothing : (read_options (255 ∷ []) ≡ Ok (none, 1)) × (spelling_of none ≡ 255 ∷ [])
  -- an option a second time, behind another one
  pub twice : read_options (4 ∷ 2 ∷ 0 ∷ 1 ∷ 4 ∷ 2 ∷ 255 ∷ []) ≡ Err (Twice 4 4)
  -- no code 255; no value; half a value; a swarm identifier that is shorter than it says
  pub short : (read_options [] ≡ Err (Short 0)) × (read_options (0 ∷ 1 ∷ []) ≡ Err (Short 2)) × (read_options (0 ∷ []) ≡ Err (Short 0))
      × (read_options (0 ∷ 1 ∷ 9 ∷ 0 ∷ 0 ∷ 4 ∷ []) ≡ Err (Short 2)) × (read_options (2 ∷ 1 ∷ 0 ∷ 255 ∷ []) ≡ Err (Short 0))
  -- a bitmap of 33 bytes, though none of them is there; one of 32 bytes
  pub bad_length : (read_options (8 ∷ 33 ∷ []) ≡ Err (BadLength 0 33)) × (read_options (8 ∷ 32 ∷ []) ≡ Err (Short 0))
  pub unknown : (read_options (5 ∷ []) ≡ Err (Unknown 0 5)) × (read_options (0 ∷ 1 ∷ 7 ∷ 255 ∷ []) ≡ Err (Unknown 2 7))
      × (read_options (10 ∷ []) ≡ Err (Unknown 0 10)) × (read_options (254 ∷ []) ≡ Err (Unknown 0 254))
  -- a code that came before is found before its value is looked at
  pub in_that_order : read_options (8 ∷ 0 ∷ 8 ∷ 33 ∷ []) ≡ Err (Twice 2 8)
  -- they are of that swarm, and each that differs is named, the first of them
  pub agrees : (mismatch_of swarm_of_seven false sent ≡ None) × (mismatch_of swarm_of_seven true sent ≡ None)
  pub differs : (mismatch_of swarm_of_seven false (record sent { hash = Some 0 }) ≡ Some (Hash 0))
      × (mismatch_of swarm_of_seven false (record sent { version = Some 0; hash = Some 0 }) ≡ Some (Version 0))
      × (mismatch_of swarm_of_seven false (record sent { minimum = Some 2 }) ≡ Some (Minimum 2))
      × (mismatch_of swarm_of_seven true (record sent { swarm = Some (replicate 32 0) }) ≡ Some Swarm)
      × (mismatch_of swarm_of_seven false (record sent { integrity = Some 0 }) ≡ Some (Integrity 0))
      × (mismatch_of swarm_of_seven false (record sent { addressing = Some 4; chunk = None }) ≡ Some (Addressing 4))
      × (mismatch_of swarm_of_seven false (record sent { chunk = Some 512 }) ≡ Some (Chunk 512))
  -- absent ones are taken as 1, 1, 1, 2, 2 and 1,024; an absent root differs, but in a reply
  pub absent : (mismatch_of swarm_of_seven true none ≡ None) × (mismatch_of swarm_of_seven false none ≡ Some Swarm)
      × (mismatch_of (record swarm_of_seven { chunk = 512 }) true none ≡ Some (Chunk 1024))
