-- What is put at a place of an output.
use Rattle.std.specs.Prelude.{◌≡◌, ℕ, ◌+◌, ◌^◌, ◌<◌, ◌≤◌, List, ◌∷◌, ◌++◌, length, Result, Ok, Err}
use Rattle.std.specs.Int.{w64, to_be_bytes}
use Rattle.pp_terms.specs.Place.{placed}
use Rattle.pp_terms.specs.format.Descriptor.{Method, Bin32, Range32, Bin64, Range64}
use Rattle.pp_terms.specs.format.Options.{Options, IsSpelling}
use Rattle.pp_terms.specs.format.Messages.{Message, Handshake, Data, Ack, Have, Integrity, Pex4, PexReq, Request, Cancel, Choke, Unchoke, Pex6, IsNamed, only, spell_span}
use Rattle.pp_terms.specs.tree.Range.{Span}
use Rattle.pp_options.specs.Views.{HasSpelling}
use Rattle.pp_wire.specs.declared.message.PutFault.{PutFault}
use Rattle.pp_wire.specs.declared.message.PutFault.TheVariants.{NoRoom, NotABin}

-- The chunks are some, and the numbers of the method reach them.
abbrev pub IsSpan : Method → Span → Type 0
IsSpan Bin32 s = (s.first ≤ s.last) × (s.last < 2 ^ 32)
IsSpan Range32 s = (s.first ≤ s.last) × (s.last < 2 ^ 32)
IsSpan Bin64 s = s.first ≤ s.last
IsSpan Range64 s = s.first ≤ s.last

-- A source channel and these options have such a spelling.
abbrev pub IsHandshake : ℕ → Options → List ℕ → Type 0
IsHandshake source o tail = (source < 2 ^ 32) × IsSpelling o tail

-- What the caller of `put` owes: such spans, a DATA that isn't empty, options that have a spelling.
abbrev pub CanPut : Method → Message → Type 0
CanPut method (Handshake source options) = HasSpelling options
CanPut method (Data chunk sent_at bytes) = IsSpan method (only chunk) × (0 < length bytes)
CanPut method (Ack span delay) = IsSpan method span
CanPut method (Have span) = IsSpan method span
CanPut method (Integrity span digest) = IsSpan method span
CanPut method (Pex4 address port) = Unit {0}
CanPut method PexReq = Unit {0}
CanPut method (Request span) = IsSpan method span
CanPut method (Cancel span) = IsSpan method span
CanPut method Choke = Unit {0}
CanPut method Unchoke = Unit {0}
CanPut method (Pex6 address port) = Unit {0}

-- The method names the message's chunks, if it has some: bins are one bin.
abbrev pub NamesChunks : Method → Message → Type 0
NamesChunks method (Handshake source options) = Unit {0}
NamesChunks method (Data chunk sent_at bytes) = IsNamed method (only chunk)
NamesChunks method (Ack span delay) = IsNamed method span
NamesChunks method (Have span) = IsNamed method span
NamesChunks method (Integrity span digest) = IsNamed method span
NamesChunks method (Pex4 address port) = Unit {0}
NamesChunks method PexReq = Unit {0}
NamesChunks method (Request span) = IsNamed method span
NamesChunks method (Cancel span) = IsNamed method span
NamesChunks method Choke = Unit {0}
NamesChunks method Unchoke = Unit {0}
NamesChunks method (Pex6 address port) = Unit {0}

-- a DATA without the chunk's bytes: its type, its chunk and its moment
abbrev pub data_head : Method → ℕ → ℕ → List ℕ
data_head method chunk sent_at = 1 ∷ (spell_span method (only chunk) ++ to_be_bytes w64 sent_at)

-- What was put, by the answer: the text, with the place behind it; or nothing, since it has no name, or no room.
abbrev pub IsPut : Type 0 → List ℕ → List ℕ → ℕ → Result ℕ PutFault → List ℕ → Type 0
IsPut named text old at (Ok end) new =
    named × (end ≡ at + length text) × (end ≤ length old) × (new ≡ placed old at text)
IsPut named text old at (Err NoRoom) new = named × (length old < at + length text) × (new ≡ old)
IsPut named text old at (Err NotABin) new = (named → ⊥) × (new ≡ old)
