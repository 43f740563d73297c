-- The options of a handshake (RFC 7574, section 7), in this profile: those of codes 0 to 4, 6, 8, 9, and the end, 255.
-- Numbers are big-endian.
use Rattle.std.specs.Prelude.{◌≡◌, ℕ, zero, suc, ◌+◌, ◌^◌, ◌<◌, ◌≤◌, ◌==◌, nat_lt, nat_le, Bool, false, not, ◌&&◌, ◌||◌, if◌then◌else◌, List, [], ◌∷◌, ◌++◌, length, take, drop, slice_index, Option, Some, None, is_some, IfSome, Result, Ok, Err}
use Rattle.std.specs.List.{flat_map, AllByRecursion}
use Rattle.std.specs.Int.{w16, w32, to_be_bytes, from_be_bytes}

-- The options that a handshake has; messages is the bitmap of the message types that are understood.
pub record Options : Type 0 where
  pub version : Option ℕ
  pub minimum : Option ℕ
  pub swarm : Option (List ℕ)
  pub integrity : Option ℕ
  pub hash : Option ℕ
  pub addressing : Option ℕ
  pub messages : Option (List ℕ)
  pub chunk : Option ℕ

-- no options
abbrev pub none : Options
none = record {
  version = None;
  minimum = None;
  swarm = None;
  integrity = None;
  hash = None;
  addressing = None;
  messages = None;
  chunk = None;
}

-- One option, with its value.
pub data OneOption : Type 0 where
  Version : (number : ℕ) → OneOption
  Minimum : (number : ℕ) → OneOption
  Swarm : (bytes : List ℕ) → OneOption
  Integrity : (number : ℕ) → OneOption
  Hash : (number : ℕ) → OneOption
  Addressing : (number : ℕ) → OneOption
  Messages : (bitmap : List ℕ) → OneOption
  Chunk : (size : ℕ) → OneOption

-- its code (section 7)
abbrev pub code_of : OneOption → ℕ
code_of (Version n) = 0
code_of (Minimum n) = 1
code_of (Swarm bytes) = 2
code_of (Integrity n) = 3
code_of (Hash n) = 4
code_of (Addressing n) = 6
code_of (Messages bitmap) = 8
code_of (Chunk n) = 9

-- its value: a byte; the swarm identifier behind a length of 16 bits; the bitmap behind a length of 8; 32 bits
abbrev pub value_bytes : OneOption → List ℕ
value_bytes (Version n) = n ∷ []
value_bytes (Minimum n) = n ∷ []
value_bytes (Swarm bytes) = to_be_bytes w16 (length bytes) ++ bytes
value_bytes (Integrity n) = n ∷ []
value_bytes (Hash n) = n ∷ []
value_bytes (Addressing n) = n ∷ []
value_bytes (Messages bitmap) = length bitmap ∷ bitmap
value_bytes (Chunk n) = to_be_bytes w32 n

-- a code, and the value
abbrev pub spelled : OneOption → List ℕ
spelled x = code_of x ∷ value_bytes x

-- Its value has a spelling: a bitmap has at most 32 bytes.
abbrev pub FitsOption : OneOption → Type 0
FitsOption (Version n) = n < 256
FitsOption (Minimum n) = n < 256
FitsOption (Swarm bytes) = length bytes < 2 ^ 16
FitsOption (Integrity n) = n < 256
FitsOption (Hash n) = n < 256
FitsOption (Addressing n) = n < 256
FitsOption (Messages bitmap) = length bitmap ≤ 32
FitsOption (Chunk n) = n < 2 ^ 32

-- the options with this one more
abbrev pub with_option : OneOption → Options → Options
with_option (Version n) o = record o { version = Some n }
with_option (Minimum n) o = record o { minimum = Some n }
with_option (Swarm bytes) o = record o { swarm = Some bytes }
with_option (Integrity n) o = record o { integrity = Some n }
with_option (Hash n) o = record o { hash = Some n }
with_option (Addressing n) o = record o { addressing = Some n }
with_option (Messages bitmap) o = record o { messages = Some bitmap }
with_option (Chunk n) o = record o { chunk = Some n }

-- the option of this code is among them
abbrev pub is_given : Options → ℕ → Bool
is_given o code =
    if code == 0 then is_some o.version else
    (if code == 1 then is_some o.minimum else
    (if code == 2 then is_some o.swarm else
    (if code == 3 then is_some o.integrity else
    (if code == 4 then is_some o.hash else
    (if code == 6 then is_some o.addressing else
    (if code == 8 then is_some o.messages else
    (if code == 9 then is_some o.chunk else false)))))))

-- The first, with these options in this order, none of a code that was given before, are the second.
abbrev pub Adds : Options → List OneOption → Options → Type 0
Adds seen [] o = seen ≡ o
Adds seen (x ∷ xs) o = (is_given seen (code_of x) ≡ false) × Adds (with_option x seen) xs o

-- A spelling of options: those that are present, in any order, none twice, then code 255.
pub record IsSpelling (o : Options) (bytes : List ℕ) : Type 0 where
  pub order : List OneOption
  pub fits : AllByRecursion FitsOption order
  pub adds : Adds none order o
  pub are : bytes ≡ flat_map spelled order ++ 255 ∷ []

-- The values of the options that are present have spellings.
pub record FitOptions (o : Options) : Type 0 where
  pub version : IfSome o.version (λ n. n < 256)
  pub minimum : IfSome o.minimum (λ n. n < 256)
  pub swarm : IfSome o.swarm (λ bytes. length bytes < 2 ^ 16)
  pub integrity : IfSome o.integrity (λ n. n < 256)
  pub hash : IfSome o.hash (λ n. n < 256)
  pub addressing : IfSome o.addressing (λ n. n < 256)
  pub messages : IfSome o.messages (λ bitmap. length bitmap ≤ 32)
  pub chunk : IfSome o.chunk (λ n. n < 2 ^ 32)

-- an option, if it is present
abbrev pub spelled_if : {A : Type 0} → (A → OneOption) → Option A → List ℕ
spelled_if make None = []
spelled_if make (Some x) = spelled (make x)

-- the spelling by rising codes
unfoldable pub spelling_of : Options → List ℕ
spelling_of o =
    spelled_if Version o.version ++ spelled_if Minimum o.minimum ++ spelled_if Swarm o.swarm
    ++ spelled_if Integrity o.integrity ++ spelled_if Hash o.hash ++ spelled_if Addressing o.addressing
    ++ spelled_if Messages o.messages ++ spelled_if Chunk o.chunk ++ 255 ∷ []

-- Why bytes don't begin with a spelling, and at which place: that of the code of which it speaks, and for a missing
-- code the number of the bytes. Too short; a code that isn't known; a code that was given before; a bitmap of more
-- than 32 bytes.
pub data OptionFault : Type 0 where
  Short : (at : ℕ) → OptionFault
  Unknown : (at code : ℕ) → OptionFault
  Twice : (at code : ℕ) → OptionFault
  BadLength : (at length : ℕ) → OptionFault

abbrev pub is_known : ℕ → Bool
is_known code = nat_le code 4 || (code == 6) || (code == 8) || (code == 9)

-- how many bytes the value of a known code takes, where the rest begins with it
abbrev pub value_length : ℕ → List ℕ → ℕ
value_length code rest =
    if code == 2 then 2 + from_be_bytes w16 (take 2 rest) else
    (if code == 8 then 1 + slice_index rest 0 else
    (if code == 9 then 4 else 1))

-- the option of a known code whose value is all there
abbrev pub option_of : ℕ → List ℕ → OneOption
option_of code rest =
    if code == 0 then Version (slice_index rest 0) else
    (if code == 1 then Minimum (slice_index rest 0) else
    (if code == 2 then Swarm (take (from_be_bytes w16 (take 2 rest)) (drop 2 rest)) else
    (if code == 3 then Integrity (slice_index rest 0) else
    (if code == 4 then Hash (slice_index rest 0) else
    (if code == 6 then Addressing (slice_index rest 0) else
    (if code == 8 then Messages (take (slice_index rest 0) (drop 1 rest)) else
    Chunk (from_be_bytes w32 (take 4 rest))))))))

-- the first fault of what begins with this code at this place, behind those options
unfoldable pub fault_at : Options → ℕ → ℕ → List ℕ → Option OptionFault
fault_at seen at code rest =
    if not (is_known code) then Some (Unknown at code) else
    (if is_given seen code then Some (Twice at code) else
    (if (code == 8) && nat_lt 32 (slice_index rest 0) then Some (BadLength at (slice_index rest 0)) else
    (if nat_lt (length rest) (value_length code rest) then Some (Short at) else None)))

abbrev pub unless : {A : Type 0} → Option OptionFault → Result A OptionFault → Result A OptionFault
unless None result = result
unless (Some fault) result = Err fault

-- The options from this place on, behind those that were seen, and the place behind code 255; or the first fault.
-- The first number bounds the options that are left.
unfoldable pub read_from : ℕ → Options → ℕ → List ℕ → Result (Options × ℕ) OptionFault
read_from zero seen at bytes = Err (Short at)
read_from (suc n) seen at [] = Err (Short at)
read_from (suc n) seen at (code ∷ rest) =
    if code == 255 then Ok (seen, at + 1) else
    unless (fault_at seen at code rest)
    (read_from n (with_option (option_of code rest) seen) (at + (1 + value_length code rest)) (drop (value_length code rest) rest))

-- the options that begin the bytes, and how many bytes they take, code 255 included; or the first fault
unfoldable pub read_options : List ℕ → Result (Options × ℕ) OptionFault
read_options bytes = read_from (length bytes) none 0 bytes

-- each is below 256
abbrev pub IsBytes : List ℕ → Type 0
IsBytes bytes = (i : ℕ) → slice_index bytes i < 256
