-- The texts of what stands in a recording: addresses, bytes, nodes and records.
use Rattle.std.specs.Prelude.{ℕ, List, [], ◌∷◌, ◌++◌, codes, decimal}
use Rattle.std.specs.Net.Addr.{segments_of}
use Rattle.std.specs.Net.Text.{ipv4_text, groups_text}
use Rattle.hex.specs.Hex.{encode_lower}
use Rattle.pp_terms.specs.format.Traffic.{Address, V4, V6, Record, Received, Quiet, Sent}

-- `A.B.C.D:PORT`, or `[g:g:g:g:g:g:g:g]:PORT` with all eight groups, in lower-case hexadecimal digits without leading zeros
unfoldable pub address_text : Address → List ℕ
address_text (V4 bytes port) = ipv4_text bytes ++ codes ":" ++ decimal port
address_text (V6 bytes port) = codes "[" ++ groups_text (segments_of bytes) ++ codes "]:" ++ decimal port

-- bytes in lower-case hexadecimal digits, and `-` for none
abbrev pub hex_text : List ℕ → List ℕ
hex_text [] = codes "-"
hex_text (byte ∷ bytes) = encode_lower (byte ∷ bytes)

-- A node of a book with its digest.
pub record KnownNode : Type 0 where
  pub layer : ℕ
  pub offset : ℕ
  pub digest : List ℕ

-- `node K J HEX`, and a line feed
unfoldable pub node_line : KnownNode → List ℕ
node_line n = codes "node " ++ decimal n.layer ++ codes " " ++ decimal n.offset ++ codes " " ++ encode_lower n.digest ++ codes "\n"

-- a first word with its space, a number, an address and bytes, and a line feed
abbrev pub datagram_line : List ℕ → ℕ → Address → List ℕ → List ℕ
datagram_line word number address bytes =
    word ++ decimal number ++ codes " " ++ address_text address ++ codes " " ++ hex_text bytes ++ codes "\n"

-- `received AT FROM HEX`, `quiet AT` or `sent MOMENT TO HEX`, and a line feed
unfoldable pub record_line : Record → List ℕ
record_line (Received at sender bytes) = datagram_line (codes "received ") at sender bytes
record_line (Quiet at) = codes "quiet " ++ decimal at ++ codes "\n"
record_line (Sent moment receiver bytes) = datagram_line (codes "sent ") moment receiver bytes
