-- Messages, faults and steps, seen as the plain data that they mean.
use Rattle.std.specs.Prelude.{◌≡◌, Result, Ok, Err}
use Rattle.pp_terms.specs.tree.Range as ranges
use Rattle.pp_terms.specs.format.Messages as plain
use Rattle.pp_options.specs.Views.{options_of, fault_of}
use Rattle.pp_wire.specs.declared.message.Span.{Span}
use Rattle.pp_wire.specs.declared.message.Message.{Message}
use Rattle.pp_wire.specs.declared.message.Message.TheVariants.{Handshake, Data, Ack, Have, Integrity, Pex4, PexReq, Request, Cancel, Choke, Unchoke, Pex6}
use Rattle.pp_wire.specs.declared.message.ChunkKind.{ChunkKind}
use Rattle.pp_wire.specs.declared.message.ChunkKind.TheVariants as named
use Rattle.pp_wire.specs.declared.message.WireKind.{WireKind}
use Rattle.pp_wire.specs.declared.message.WireKind.TheVariants as kinds
use Rattle.pp_wire.specs.declared.message.Step.{Step}
use Rattle.pp_wire.specs.declared.message.Step.TheVariants as steps

abbrev pub span_of : Span → ranges.Span
span_of s = record { first = s.first; last = s.last }

-- the message, without where its bytes lie in memory
abbrev pub message_of : Message → plain.Message
message_of (Handshake source options) = plain.Handshake source (options_of options)
message_of (Data chunk sent_at bytes) = plain.Data chunk sent_at bytes.now
message_of (Ack span delay) = plain.Ack (span_of span) delay
message_of (Have span) = plain.Have (span_of span)
message_of (Integrity span digest) = plain.Integrity (span_of span) digest
message_of (Pex4 address port) = plain.Pex4 address port
message_of PexReq = plain.PexReq
message_of (Request span) = plain.Request (span_of span)
message_of (Cancel span) = plain.Cancel (span_of span)
message_of Choke = plain.Choke
message_of Unchoke = plain.Unchoke
message_of (Pex6 address port) = plain.Pex6 address port

-- the message that names chunks alone
abbrev pub naming : ChunkKind → ranges.Span → plain.Message
naming named.Have span = plain.Have span
naming named.Request span = plain.Request span
naming named.Cancel span = plain.Cancel span

abbrev pub kind_of : WireKind → plain.WireKind
kind_of kinds.Short = plain.Short
kind_of (kinds.UnknownType type) = plain.UnknownType type
kind_of kinds.Range = plain.Range
kind_of kinds.Wide = plain.Wide
kind_of (kinds.Options fault) = plain.InOptions (fault_of fault)

abbrev pub step_of : Step → plain.Step
step_of (steps.Message message next) = plain.Read (message_of message) next
step_of steps.End = plain.End
step_of (steps.Cut fault) = plain.Cut fault.at (kind_of fault.kind)

-- What a reader answered, seen by view, is what reading gives.
abbrev pub Gives : {X Y : Type 0} → (X → Y) → Result X WireKind → Result Y plain.WireKind → Type 0
Gives view (Ok x) read = read ≡ Ok (view x)
Gives view (Err kind) read = read ≡ Err (kind_of kind)
