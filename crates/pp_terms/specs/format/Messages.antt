-- Messages and datagrams (RFC 7574, sections 3, 4, 7.8 and 8), in this profile. Numbers are big-endian.
use Rattle.std.specs.Prelude.{◌≡◌, ◌⊎◌, ℕ, zero, suc, ◌+◌, ◌-◌, ◌*◌, ◌^◌, ◌<◌, ◌≤◌, ◌==◌, nat_lt, if◌then◌else◌, List, [], ◌∷◌, ◌++◌, length, take, drop, Option, Some, None, Result, Ok, Err}
use Rattle.std.specs.List.{AllByRecursion}
use Rattle.std.specs.Int.{Width, w16, w32, w64, byte_len, to_be_bytes, from_be_bytes}
use Rattle.pp_terms.specs.format.Descriptor.{Method, Bin32, Range32, Bin64, Range64}
use Rattle.pp_terms.specs.tree.Bins.{bin_of, first_leaf, last_leaf}
use Rattle.pp_terms.specs.tree.Range.{Span}
use Rattle.pp_terms.specs.format.Options.{Options, OptionFault, IsSpelling, FitOptions, spelling_of, read_options, IsBytes}
use Rattle.pp_terms.specs.format.Options as options

-- A message; moments and delays in microseconds (section 3).
pub data Message : Type 0 where
  Handshake : (source : ℕ) (options : Options) → Message
  Data : (chunk sent_at : ℕ) (bytes : List ℕ) → Message
  Ack : (span : Span) (delay : ℕ) → Message
  Have : (span : Span) → Message
  Integrity : (span : Span) (digest : List ℕ) → Message
  Pex4 : (address : List ℕ) (port : ℕ) → Message
  PexReq : Message
  Request : (span : Span) → Message
  Cancel : (span : Span) → Message
  Choke : Message
  Unchoke : Message
  Pex6 : (address : List ℕ) (port : ℕ) → Message

-- the number of its type (section 8.2)
abbrev pub type_of : Message → ℕ
type_of (Handshake source options) = 0
type_of (Data chunk sent_at bytes) = 1
type_of (Ack span delay) = 2
type_of (Have span) = 3
type_of (Integrity span digest) = 4
type_of (Pex4 address port) = 5
type_of PexReq = 6
type_of (Request span) = 8
type_of (Cancel span) = 9
type_of Choke = 10
type_of Unchoke = 11
type_of (Pex6 address port) = 12

-- ---- chunk specifications (sections 4 and 7.8)

-- The chunks are the leaves under one bin (section 4.2): those from offset * 2 ^ layer on, 2 ^ layer of them.
pub record IsBinSpan (s : Span) : Type 0 where
  pub layer : ℕ
  pub offset : ℕ
  pub begins : s.first ≡ offset * 2 ^ layer
  pub ends : s.last + 1 ≡ (offset + 1) * 2 ^ layer

-- the number of the bin that has these leaves, 2 ^ (layer + 1) * offset + 2 ^ layer - 1: it lies in the middle of theirs,
-- which are twice first and twice last
abbrev pub bin_number_of : Span → ℕ
bin_number_of s = s.first + s.last

-- The method names these chunks. No bin has a number of one bits alone.
abbrev pub IsNamed : Method → Span → Type 0
IsNamed Bin32 s = IsBinSpan s × (bin_number_of s < 2 ^ 32 - 1)
IsNamed Range32 s = (s.first ≤ s.last) × (s.last < 2 ^ 32)
IsNamed Bin64 s = IsBinSpan s × (bin_number_of s < 2 ^ 64 - 1)
IsNamed Range64 s = (s.first ≤ s.last) × (s.last < 2 ^ 64)

-- one bin, or the first and the last chunk
abbrev pub spell_span : Method → Span → List ℕ
spell_span Bin32 s = to_be_bytes w32 (bin_number_of s)
spell_span Range32 s = to_be_bytes w32 s.first ++ to_be_bytes w32 s.last
spell_span Bin64 s = to_be_bytes w64 (bin_number_of s)
spell_span Range64 s = to_be_bytes w64 s.first ++ to_be_bytes w64 s.last

abbrev pub only : ℕ → Span
only chunk = record { first = chunk; last = chunk }

-- ---- spelling (sections 8.4 to 8.13)

-- what stands behind the type; a handshake's options by rising codes
abbrev pub spell_fields : Method → Message → List ℕ
spell_fields method (Handshake source options) = to_be_bytes w32 source ++ spelling_of options
spell_fields method (Data chunk sent_at bytes) = spell_span method (only chunk) ++ (to_be_bytes w64 sent_at ++ bytes)
spell_fields method (Ack span delay) = spell_span method span ++ to_be_bytes w64 delay
spell_fields method (Have span) = spell_span method span
spell_fields method (Integrity span digest) = spell_span method span ++ digest
spell_fields method (Pex4 address port) = address ++ to_be_bytes w16 port
spell_fields method PexReq = []
spell_fields method (Request span) = spell_span method span
spell_fields method (Cancel span) = spell_span method span
spell_fields method Choke = []
spell_fields method Unchoke = []
spell_fields method (Pex6 address port) = address ++ to_be_bytes w16 port

-- the spelling of a message; a handshake has others too
unfoldable pub spell : Method → Message → List ℕ
spell method m = type_of m ∷ spell_fields method m

-- Its fields have spellings.
abbrev pub Fits : Method → Message → Type 0
Fits method (Handshake source options) = (source < 2 ^ 32) × FitOptions options
Fits method (Data chunk sent_at bytes) = IsNamed method (only chunk) × (sent_at < 2 ^ 64) × (0 < length bytes)
Fits method (Ack span delay) = IsNamed method span × (delay < 2 ^ 64)
Fits method (Have span) = IsNamed method span
Fits method (Integrity span digest) = IsNamed method span × (length digest ≡ 32)
Fits method (Pex4 address port) = (length address ≡ 4) × (port < 2 ^ 16)
Fits method PexReq = Unit {0}
Fits method (Request span) = IsNamed method span
Fits method (Cancel span) = IsNamed method span
Fits method Choke = Unit {0}
Fits method Unchoke = Unit {0}
Fits method (Pex6 address port) = (length address ≡ 16) × (port < 2 ^ 16)

-- The bytes are a spelling of the message. The options of a handshake come in any order.
abbrev pub IsSpelt : Method → Message → List ℕ → Type 0
IsSpelt method (Handshake source options) text =
    (source < 2 ^ 32) × (tail : List ℕ) × IsSpelling options tail × (text ≡ 0 ∷ (to_be_bytes w32 source ++ tail))
IsSpelt method m text = Fits method m × (text ≡ spell method m)

-- The rest of its datagram may follow a message. A DATA has the bytes of one chunk, and one of fewer bytes is the last
-- message (this profile's).
abbrev pub MayPrecede : ℕ → Message → List ℕ → Type 0
MayPrecede chunk (Data number sent_at bytes) rest = (length bytes ≡ chunk) ⊎ ((length bytes < chunk) × (rest ≡ []))
MayPrecede chunk m rest = Unit {0}

-- A DATA has the bytes of a whole chunk.
abbrev pub IsFull : ℕ → Message → Type 0
IsFull chunk (Data number sent_at bytes) = length bytes ≡ chunk
IsFull chunk m = Unit {0}

-- A DATA has at most the bytes of a chunk.
abbrev pub AtMostFull : ℕ → Message → Type 0
AtMostFull chunk (Data number sent_at bytes) = length bytes ≤ chunk
AtMostFull chunk m = Unit {0}

-- The first bytes, so many, are a spelling of the message, and the others may follow it.
pub record BeginsWith (method : Method) (chunk : ℕ) (m : Message) (count : ℕ) (bytes : List ℕ) : Type 0 where
  pub within : count ≤ length bytes
  pub spelt : IsSpelt method m (take count bytes)
  pub may : MayPrecede chunk m (drop count bytes)

-- ---- reading

-- Why bytes don't begin with a message, where several apply the first of them: its type is unknown in this profile; its
-- fields end too early, or a DATA has no byte; the start of a range is above its end, or a bin has one bits alone; a
-- DATA names more than one chunk; its options have a fault, whose place is counted from the message's first byte.
pub data WireKind : Type 0 where
  UnknownType : (type : ℕ) → WireKind
  Short : WireKind
  Range : WireKind
  Wide : WireKind
  InOptions : (fault : OptionFault) → WireKind

infixl 10 ◌>>=◌
abbrev pub ◌>>=◌ : {A B : Type 0} → Result A WireKind → (A → Result B WireKind) → Result B WireKind
(Ok x) >>= f = f x
(Err e) >>= f = Err e

-- the first bytes, so many, and those after them
abbrev pub bytes_at : ℕ → List ℕ → Result (List ℕ × List ℕ) WireKind
bytes_at n bytes = if nat_lt (length bytes) n then Err Short else Ok (take n bytes, drop n bytes)

-- a number, and the bytes after it
abbrev pub number_at : Width → List ℕ → Result (ℕ × List ℕ) WireKind
number_at w bytes =
    if nat_lt (length bytes) (byte_len w) then Err Short else Ok (from_be_bytes w (take (byte_len w) bytes), drop (byte_len w) bytes)

-- how many bytes a chunk specification has
abbrev pub span_length : Method → ℕ
span_length Bin32 = 4
span_length Range32 = 8
span_length Bin64 = 8
span_length Range64 = 16

-- the leaves under the bin of that number of so many bits
unfoldable pub leaves_of : ℕ → ℕ → Span
leaves_of bits number = record { first = first_leaf (bin_of bits number); last = last_leaf (bin_of bits number) }

abbrev pub span_of_bin : ℕ → ℕ → Result Span WireKind
span_of_bin bits bin = if bin == 2 ^ bits - 1 then Err Range else Ok (leaves_of bits bin)

abbrev pub span_of_range : ℕ → ℕ → Result Span WireKind
span_of_range first last = if nat_lt last first then Err Range else Ok (record { first = first; last = last })

-- the chunks that a specification names
unfoldable pub span_in : Method → List ℕ → Result Span WireKind
span_in Bin32 bytes = span_of_bin 32 (from_be_bytes w32 bytes)
span_in Range32 bytes = span_of_range (from_be_bytes w32 (take 4 bytes)) (from_be_bytes w32 (drop 4 bytes))
span_in Bin64 bytes = span_of_bin 64 (from_be_bytes w64 bytes)
span_in Range64 bytes = span_of_range (from_be_bytes w64 (take 8 bytes)) (from_be_bytes w64 (drop 8 bytes))

-- the one chunk that a DATA names
abbrev pub one_chunk : Span → Result ℕ WireKind
one_chunk s = if s.first == s.last then Ok s.first else Err Wide

-- its place
abbrev pub place_of : OptionFault → ℕ
place_of (options.Short at) = at
place_of (options.Unknown at code) = at
place_of (options.Twice at code) = at
place_of (options.BadLength at size) = at

-- the fault, counted from so many bytes before
abbrev pub later : ℕ → OptionFault → OptionFault
later n (options.Short at) = options.Short (n + at)
later n (options.Unknown at code) = options.Unknown (n + at) code
later n (options.Twice at code) = options.Twice (n + at) code
later n (options.BadLength at size) = options.BadLength (n + at) size

abbrev pub options_in : List ℕ → Result (Options × ℕ) OptionFault → Result (Options × List ℕ) WireKind
options_in bytes (Ok x) = Ok (x.0, drop x.1 bytes)
options_in bytes (Err fault) = Err (InOptions (later 5 fault))

-- Behind the type: the message, and the bytes after it.
unfoldable pub handshake_at : List ℕ → Result (Message × List ℕ) WireKind
handshake_at bytes = do
  source ← number_at w32 bytes
  options ← options_in source.1 (read_options source.1)
  Ok (Handshake source.0 options.0, options.1)

-- at least one byte, and at most a chunk of them
abbrev pub chunk_bytes_at : ℕ → List ℕ → Result (List ℕ × List ℕ) WireKind
chunk_bytes_at chunk bytes = if length bytes == 0 then Err Short else Ok (take chunk bytes, drop chunk bytes)

unfoldable pub data_at : Method → ℕ → List ℕ → Result (Message × List ℕ) WireKind
data_at method chunk bytes = do
  place ← bytes_at (span_length method) bytes
  sent_at ← number_at w64 place.1
  content ← chunk_bytes_at chunk sent_at.1
  span ← span_in method place.0
  number ← one_chunk span
  Ok (Data number sent_at.0 content.0, content.1)

unfoldable pub ack_at : Method → List ℕ → Result (Message × List ℕ) WireKind
ack_at method bytes = do
  place ← bytes_at (span_length method) bytes
  delay ← number_at w64 place.1
  span ← span_in method place.0
  Ok (Ack span delay.0, delay.1)

unfoldable pub integrity_at : Method → List ℕ → Result (Message × List ℕ) WireKind
integrity_at method bytes = do
  place ← bytes_at (span_length method) bytes
  digest ← bytes_at 32 place.1
  span ← span_in method place.0
  Ok (Integrity span digest.0, digest.1)

-- a message of chunks alone
unfoldable pub span_at : Method → List ℕ → Result (Span × List ℕ) WireKind
span_at method bytes = do
  place ← bytes_at (span_length method) bytes
  span ← span_in method place.0
  Ok (span, place.1)

abbrev pub spanned : (Span → Message) → Result (Span × List ℕ) WireKind → Result (Message × List ℕ) WireKind
spanned make r = r >>= λ x. Ok (make x.0, x.1)

-- an address of so many bytes, and a port
unfoldable pub address_at : ℕ → List ℕ → Result (List ℕ × ℕ × List ℕ) WireKind
address_at size bytes = do
  address ← bytes_at size bytes
  port ← number_at w16 address.1
  Ok (address.0, port.0, port.1)

abbrev pub addressed : (List ℕ → ℕ → Message) → Result (List ℕ × ℕ × List ℕ) WireKind → Result (Message × List ℕ) WireKind
addressed make r = r >>= λ x. Ok (make x.0 x.1, x.2)

-- by the type: types 7 (SIGNED_INTEGRITY) and 13 to 255 are unknown in this profile
unfoldable pub message_at : Method → ℕ → ℕ → List ℕ → Result (Message × List ℕ) WireKind
message_at method chunk type bytes =
    if type == 0 then handshake_at bytes else
    (if type == 1 then data_at method chunk bytes else
    (if type == 2 then ack_at method bytes else
    (if type == 3 then spanned Have (span_at method bytes) else
    (if type == 4 then integrity_at method bytes else
    (if type == 5 then addressed Pex4 (address_at 4 bytes) else
    (if type == 6 then Ok (PexReq, bytes) else
    (if type == 8 then spanned Request (span_at method bytes) else
    (if type == 9 then spanned Cancel (span_at method bytes) else
    (if type == 10 then Ok (Choke, bytes) else
    (if type == 11 then Ok (Unchoke, bytes) else
    (if type == 12 then addressed Pex6 (address_at 16 bytes) else
    Err (UnknownType type))))))))))))

-- A message and the place behind it; the end of the bytes; or the place of a message that has a fault, and the fault.
pub data Step : Type 0 where
  Read : (message : Message) (next : ℕ) → Step
  End : Step
  Cut : (at : ℕ) (kind : WireKind) → Step

abbrev pub step_over : ℕ → Result (Message × List ℕ) WireKind → Step
step_over size (Ok x) = Read x.0 (size - length x.1)
step_over size (Err kind) = Cut 0 kind

-- what the bytes begin with, by the method and the chunk size of the swarm
unfoldable pub next_message : Method → ℕ → List ℕ → Step
next_message method chunk [] = End
next_message method chunk (type ∷ rest) = step_over (1 + length rest) (message_at method chunk type rest)

-- the same step, behind so many bytes
abbrev pub moved : ℕ → Step → Step
moved n (Read message next) = Read message (n + next)
moved n End = End
moved n (Cut at kind) = Cut (n + at) kind

-- ---- datagrams

-- Messages up to the end or the first fault, with its place.
pub record Messages : Type 0 where
  pub read : List Message
  pub fault : Option (ℕ × WireKind)

abbrev pub with_first : Message → Messages → Messages
with_first m more = record { read = m ∷ more.read; fault = more.fault }

-- the messages from this place on; the first number bounds how many they are
unfoldable pub messages_from : ℕ → Method → ℕ → ℕ → List ℕ → Messages
messages_from zero method chunk at bytes = record { read = []; fault = None }
messages_from (suc n) method chunk at bytes = elim (next_message method chunk bytes) [
  | Read m size ↦ with_first m (messages_from n method chunk (at + size) (drop size bytes))
  | End ↦ record { read = []; fault = None }
  | Cut place kind ↦ record { read = []; fault = Some (at + place, kind) }
]

-- the messages of bytes that begin at this place of a datagram: each has a byte at least
abbrev pub messages_at : Method → ℕ → ℕ → List ℕ → Messages
messages_at method chunk at bytes = messages_from (length bytes) method chunk at bytes

abbrev pub with_last : Message → Messages → Messages
with_last m before = record { read = before.read ++ m ∷ []; fault = before.fault }

-- A datagram: the number of a channel, none where it has fewer than four bytes, and messages (sections 8.2 and 8.3).
pub record Datagram : Type 0 where
  pub channel : Option ℕ
  pub messages : Messages

-- what is read of a datagram; places are counted from its first byte
unfoldable pub datagram : Method → ℕ → List ℕ → Datagram
datagram method chunk bytes =
    if nat_lt (length bytes) 4 then record { channel = None; messages = record { read = []; fault = None } } else
    record {
      channel = Some (from_be_bytes w32 (take 4 bytes));
      messages = messages_at method chunk 4 (drop 4 bytes);
    }

-- ---- laws

-- The messages of bytes are the first and those behind it, none at the end, and none behind a fault.
abbrev pub OneByOne : Type 0
OneByOne = (method : Method) (chunk at : ℕ) (bytes : List ℕ) → 0 < chunk → IsBytes bytes
    → ((m : Message) (size : ℕ) → next_message method chunk bytes ≡ Read m size
    → messages_at method chunk at bytes ≡ with_first m (messages_at method chunk (at + size) (drop size bytes)))
    × (next_message method chunk bytes ≡ End → messages_at method chunk at bytes ≡ record { read = []; fault = None })
    × ((place : ℕ) (kind : WireKind) → next_message method chunk bytes ≡ Cut place kind
    → messages_at method chunk at bytes ≡ record { read = []; fault = Some (at + place, kind) })

-- Where a datagram is read to its end, and no DATA has fewer bytes than a chunk, a message that is put behind it is
-- read behind the others.
abbrev pub GrowsByOne : Type 0
GrowsByOne = (method : Method) (chunk : ℕ) (bytes : List ℕ) (m : Message) (text : List ℕ) → 0 < chunk → IsBytes bytes → 4 ≤ length bytes
    → (datagram method chunk bytes).messages.fault ≡ None → AllByRecursion (IsFull chunk) (datagram method chunk bytes).messages.read
    → IsSpelt method m text → AtMostFull chunk m
    → datagram method chunk (bytes ++ text)
    ≡ record { channel = (datagram method chunk bytes).channel; messages = with_last m (datagram method chunk bytes).messages }

-- A spelling is read again, whatever follows that may.
abbrev pub SpeltIsRead : Type 0
SpeltIsRead = (method : Method) (chunk : ℕ) (m : Message) (text rest : List ℕ) → IsSpelt method m text → MayPrecede chunk m rest
    → next_message method chunk (text ++ rest) ≡ Read m (length text)

-- No spelling begins another message's, and each is of one message.
abbrev pub OneMessage : Type 0
OneMessage = (method : Method) (chunk : ℕ) (m n : Message) (a b x y : List ℕ) → IsSpelt method m a → IsSpelt method n b
    → MayPrecede chunk m x → MayPrecede chunk n y → a ++ x ≡ b ++ y → (a ≡ b) × (m ≡ n)
