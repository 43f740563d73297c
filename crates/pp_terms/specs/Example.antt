-- Worked examples: a content of 7,000 bytes in chunks of 1,024, and the store of "abc".
use Rattle.std.specs.Prelude.{◌≡◌, ℕ, ◌+◌, ◌*◌, ◌/◌, ◌%◌, ◌^◌, true, false, Some, List, [], ◌∷◌, ◌++◌, length, map, take, replicate, codes}
use Rattle.std.specs.List.{range_with_len}
use Rattle.pp_terms.specs.tree.Content.{chunk_count, chunk_length}
use Rattle.pp_terms.specs.tree.Tree.{empty_hash, node, height, root_of, is_full, peaks}
use Rattle.pp_terms.specs.format.Descriptor.{Descriptor, Range32, descriptor_of, descriptor_text}
use Rattle.pp_terms.specs.disk.Store.{header, slot_size, pair_place, open_gate, file_size}
use Rattle.pp_terms.specs.disk.Image.{known, holds, is_found}

-- 7,000 bytes: 5, 12, 19 .., with a step more at each 256th
abbrev pub seven : List ℕ
seven = map (λ j. (5 + 7 * j + j / 256 + j / 65536) % 256) (range_with_len 0 7000)

-- the descriptor of "abc" in chunks of 1,024 bytes, by ranges of 32-bit numbers
abbrev pub abc : Descriptor
abc = descriptor_of (codes "abc") 1024 Range32

-- its store: a header, the one chunk, zeros where a longer chunk and a pair would stand, and an open gate
abbrev pub store_of_abc : List ℕ
store_of_abc = header abc ++ codes "abc" ++ replicate 1085 0 ++ open_gate

-- A content of 7,000 bytes, its tree, and the root of "abc".
pub record TreeExamples : Type 0 where
  -- the content has seven chunks, the last one of 856 bytes
  pub seven_chunks : (chunk_count 7000 1024 ≡ 7) × (chunk_length 7000 1024 5 ≡ 1024) × (chunk_length 7000 1024 6 ≡ 856)
  -- and 7,000 bytes, which begin so
  pub seven_bytes : (length seven ≡ 7000) × (take 4 seven ≡ 5 ∷ 12 ∷ 19 ∷ 26 ∷ [])
  -- heights of trees of few leaves, and of the most
  pub heights : (height 1 ≡ 0) × (height 2 ≡ 1) × (height 3 ≡ 2) × (height 4 ≡ 2) × (height 5 ≡ 3) × (height 7 ≡ 3)
      × (height (2 ^ 20) ≡ 20)
  -- the peaks of seven leaves: over four of them, two and one
  pub peaks_of_seven : peaks 7 ≡ record { layer = 2; offset = 0 } ∷ record { layer = 1; offset = 2 } ∷ record { layer = 0; offset = 6 } ∷ []
  -- which nodes over seven leaves are full: node (1, 2) is, nodes (1, 3) and (2, 1) aren't
  pub full_nodes_of_seven : (is_full 7 (record { layer = 1; offset = 2 }) ≡ true) × (is_full 7 (record { layer = 0; offset = 6 }) ≡ true)
      × (is_full 7 (record { layer = 1; offset = 3 }) ≡ false) × (is_full 7 (record { layer = 2; offset = 1 }) ≡ false)
  -- the right half of the pair of (1, 3) is 32 zero bytes, whatever the leaves are
  pub last_half_is_empty : (leaf : ℕ → List ℕ) → node leaf 7 0 7 ≡ empty_hash
  -- over five leaves a node of layer 1 covers no chunk: it is 32 zero bytes too
  pub inner_node_is_empty : (leaf : ℕ → List ℕ) → node leaf 5 1 3 ≡ empty_hash
  -- the root of the seven chunks
  pub root_of_seven : root_of seven 1024 ≡
      0xb4 ∷ 0x2e ∷ 0xff ∷ 0xe6 ∷ 0xef ∷ 0xb1 ∷ 0xb6 ∷ 0x0e ∷ 0x31 ∷ 0x99 ∷ 0xb1 ∷ 0x81 ∷ 0x82 ∷ 0xc6 ∷ 0x3d ∷ 0x95 ∷
      0x77 ∷ 0xf6 ∷ 0xcd ∷ 0xfe ∷ 0xaa ∷ 0xa0 ∷ 0xac ∷ 0xb3 ∷ 0x39 ∷ 0x9a ∷ 0xc8 ∷ 0xd8 ∷ 0x7b ∷ 0x4d ∷ 0x8f ∷ 0x73 ∷ []
  -- the digest of "abc", which is the root of its tree
  pub root_of_abc : root_of (codes "abc") 1024 ≡
      0xba ∷ 0x78 ∷ 0x16 ∷ 0xbf ∷ 0x8f ∷ 0x01 ∷ 0xcf ∷ 0xea ∷ 0x41 ∷ 0x41 ∷ 0x40 ∷ 0xde ∷ 0x5d ∷ 0xae ∷ 0x22 ∷ 0x23 ∷
      0xb0 ∷ 0x03 ∷ 0x61 ∷ 0xa3 ∷ 0x96 ∷ 0x17 ∷ 0x7a ∷ 0x9c ∷ 0xb4 ∷ 0x10 ∷ 0xff ∷ 0x61 ∷ 0xf2 ∷ 0x00 ∷ 0x15 ∷ 0xad ∷ []

-- Where pairs stand, and the store of "abc".
pub record StoreExamples : Type 0 where
  -- the room of a chunk of 1,024 bytes, its pair and its gate
  pub slot : slot_size 1024 ≡ 1089
  -- the places of the pairs of nodes (1, 0), (2, 0), (1, 1), (3, 0), (1, 2), (2, 1) and (1, 3), chunks of 1,024 bytes
  pub pair_places : (pair_place 1024 0 0 ≡ 1088) × (pair_place 1024 1 0 ≡ 2177) × (pair_place 1024 0 1 ≡ 3266)
      × (pair_place 1024 2 0 ≡ 4355) × (pair_place 1024 0 2 ≡ 5444) × (pair_place 1024 1 1 ≡ 6533)
      × (pair_place 1024 0 3 ≡ 7622)
  -- the text of the descriptor of "abc"
  pub text_of_abc : descriptor_text abc ≡
      codes "ppspp1:ba7816bf8f01cfea414140de5dae2223b00361a396177a9cb410ff61f20015ad:1024:3:2"
  -- the header of its store
  pub header_of_abc : header abc ≡
      0x50 ∷ 0x50 ∷ 0x53 ∷ 0x54 ∷ 0x4f ∷ 0x52 ∷ 0x45 ∷ 0x32 ∷ 0x00 ∷ 0x00 ∷ 0x04 ∷ 0x00 ∷ 0x00 ∷ 0x00 ∷ 0x00 ∷ 0x00 ∷
      0x00 ∷ 0x00 ∷ 0x00 ∷ 0x03 ∷ 0xba ∷ 0x78 ∷ 0x16 ∷ 0xbf ∷ 0x8f ∷ 0x01 ∷ 0xcf ∷ 0xea ∷ 0x41 ∷ 0x41 ∷ 0x40 ∷ 0xde ∷
      0x5d ∷ 0xae ∷ 0x22 ∷ 0x23 ∷ 0xb0 ∷ 0x03 ∷ 0x61 ∷ 0xa3 ∷ 0x96 ∷ 0x17 ∷ 0x7a ∷ 0x9c ∷ 0xb4 ∷ 0x10 ∷ 0xff ∷ 0x61 ∷
      0xf2 ∷ 0x00 ∷ 0x15 ∷ 0xad ∷ 0x00 ∷ 0x00 ∷ 0x00 ∷ 0x00 ∷ 0x00 ∷ 0x00 ∷ 0x00 ∷ 0x00 ∷ 0x00 ∷ 0x00 ∷ 0x00 ∷ 0x00 ∷ []
  -- that image lets the root be known, and holds the chunk
  pub abc_is_held : (known abc store_of_abc 0 0 ≡ Some (root_of (codes "abc") 1024)) × (holds abc store_of_abc 0 ≡ true)
  -- one byte less, or another last byte, and it doesn't hold it
  pub abc_is_not_held : (holds abc (header abc ++ codes "ab") 0 ≡ false) × (holds abc (header abc ++ codes "abd") 0 ≡ false)
  -- an opening finds it there, and doesn't where its gate is closed or lies past the end
  pub abc_is_found : (is_found abc store_of_abc 0 ≡ true) × (is_found abc (header abc ++ codes "abc" ++ replicate 1086 0) 0 ≡ false)
      × (is_found abc (header abc ++ codes "abc") 0 ≡ false)
  -- it finds a chunk with another byte too, which isn't held: such an image isn't sound
  pub abd_is_found : (is_found abc (header abc ++ codes "abd" ++ replicate 1085 0 ++ open_gate) 0 ≡ true)
      × (holds abc (header abc ++ codes "abd" ++ replicate 1085 0 ++ open_gate) 0 ≡ false)
  -- the whole file of it, and of the seven chunks
  pub sizes : (file_size abc ≡ 1153) × (file_size (descriptor_of seven 1024 Range32) ≡ 8776)
