-- Which messages of peer exchange another peer takes (RFC 7574, section 7.10).
use Rattle.std.specs.Prelude.{ℕ, ◌-◌, ◌/◌, ◌%◌, ◌^◌, ◌==◌, Bool, true, Option, Some, None, List, ◌∷◌, slice_index}
use Rattle.pp_terms.specs.format.Messages.{Message, Handshake}
use Rattle.pp_peer.specs.declared.supporting.Supports.{Supports}

-- a bitmap has the bit of a message type: that of type 0 is the highest of the first byte
abbrev pub has_type : List ℕ → ℕ → Bool
has_type bitmap type = slice_index bitmap (type / 8) / 2 ^ (7 - type % 8) % 2 == 1

-- PEX_REQ has type 6, and PEX_RESv6 type 12
abbrev pub by_bitmap : List ℕ → Supports
by_bitmap bitmap = record { requests = has_type bitmap 6; v6 = has_type bitmap 12 }

-- A handshake without the option says that all are taken.
abbrev pub by_option : Option (List ℕ) → Supports
by_option None = record { requests = true; v6 = true }
by_option (Some bitmap) = by_bitmap bitmap

-- by the first of a datagram's messages
abbrev pub supported_by : List Message → Supports
supported_by (Handshake source options ∷ rest) = by_option options.messages
supported_by _ = by_option None
