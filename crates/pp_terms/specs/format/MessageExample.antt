-- Worked examples of messages, of the datagrams that they stand in and of their faults.
use Rattle.std.specs.Prelude.{◌≡◌, Some, None, [], ◌∷◌, replicate}
use Rattle.pp_terms.specs.format.Descriptor.{Bin32, Range32, Bin64}
use Rattle.pp_terms.specs.format.Options as options
use Rattle.pp_terms.specs.format.HandshakeExample.{sent, sent_bytes}
use Rattle.pp_terms.specs.format.Messages.{Handshake, Data, Have, Request, only, spell, Short, UnknownType, Range, Wide, InOptions, Read, End, Cut, next_message, datagram}

-- Messages by ranges of 32-bit numbers, chunks of 1,024 bytes, unless another method is named.
pub record MessageExamples : Type 0 where
  -- a request of the first chunk, and the end behind it
  pub request : next_message Range32 1024 (8 ∷ 0 ∷ 0 ∷ 0 ∷ 0 ∷ 0 ∷ 0 ∷ 0 ∷ 0 ∷ []) ≡ Read (Request (only 0)) 9
  pub end : next_message Range32 1024 [] ≡ End
  -- one byte less; type 7; a range from 2 to 1; a DATA of chunks 0 and 1
  pub short : next_message Range32 1024 (8 ∷ 0 ∷ 0 ∷ 0 ∷ 0 ∷ 0 ∷ 0 ∷ 0 ∷ []) ≡ Cut 0 Short
  pub unknown : next_message Range32 1024 (7 ∷ 0 ∷ 0 ∷ 0 ∷ 0 ∷ 0 ∷ 0 ∷ 0 ∷ 0 ∷ []) ≡ Cut 0 (UnknownType 7)
  pub range : next_message Range32 1024 (9 ∷ 0 ∷ 0 ∷ 0 ∷ 2 ∷ 0 ∷ 0 ∷ 0 ∷ 1 ∷ []) ≡ Cut 0 Range
  pub wide : next_message Range32 1024 (1 ∷ 0 ∷ 0 ∷ 0 ∷ 0 ∷ 0 ∷ 0 ∷ 0 ∷ 1 ∷ replicate 10 7) ≡ Cut 0 Wide
  -- a DATA without a byte is too short, though its range is turned
  pub first_fault : next_message Range32 1024 (1 ∷ 0 ∷ 0 ∷ 0 ∷ 2 ∷ 0 ∷ 0 ∷ 0 ∷ 1 ∷ replicate 8 0) ≡ Cut 0 Short
  -- the chunks of bin 5 are 2 and 3; a bin of one bits alone has none
  pub bin : next_message Bin32 1024 (3 ∷ 0 ∷ 0 ∷ 0 ∷ 5 ∷ []) ≡ Read (Have (record { first = 2; last = 3 })) 5
  pub bin_spelled : spell Bin32 (Have (record { first = 2; last = 3 })) ≡ 3 ∷ 0 ∷ 0 ∷ 0 ∷ 5 ∷ []
  pub no_bin : next_message Bin64 1024 (3 ∷ replicate 8 255) ≡ Cut 0 Range
  -- a DATA in chunks of two bytes, and what stands behind it
  pub content : next_message Range32 2
      (1 ∷ 0 ∷ 0 ∷ 0 ∷ 6 ∷ 0 ∷ 0 ∷ 0 ∷ 6 ∷ 0 ∷ 0 ∷ 0 ∷ 0 ∷ 0 ∷ 0 ∷ 1 ∷ 0 ∷ 8 ∷ 9 ∷ 10 ∷ []) ≡ Read (Data 6 256 (8 ∷ 9 ∷ [])) 19
  -- a handshake of channel 0a0b0c0d, and one whose options have a fault at its seventh byte, counted from 0
  pub handshake : next_message Range32 1024 (0 ∷ 0x0a ∷ 0x0b ∷ 0x0c ∷ 0x0d ∷ sent_bytes) ≡ Read (Handshake 0x0a0b0c0d sent) 60
  pub bad_options : next_message Range32 1024 (0 ∷ 0 ∷ 0 ∷ 0 ∷ 9 ∷ 0 ∷ 1 ∷ 0 ∷ 1 ∷ 255 ∷ []) ≡ Cut 0 (InOptions (options.Twice 7 0))
  -- a datagram of a request and a faulty message behind it
  pub two : datagram Range32 1024 (1 ∷ 2 ∷ 3 ∷ 4 ∷ 8 ∷ 0 ∷ 0 ∷ 0 ∷ 0 ∷ 0 ∷ 0 ∷ 0 ∷ 0 ∷ 13 ∷ [])
      ≡ record { channel = Some 0x01020304; messages = record { read = Request (only 0) ∷ []; fault = Some (13, UnknownType 13) } }
  -- a keep-alive, and bytes that are no datagram
  pub keep_alive : datagram Range32 1024 (1 ∷ 2 ∷ 3 ∷ 4 ∷ [])
      ≡ record { channel = Some 0x01020304; messages = record { read = []; fault = None } }
  pub no_channel : datagram Range32 1024 (1 ∷ 2 ∷ 3 ∷ []) ≡ record { channel = None; messages = record { read = []; fault = None } }
