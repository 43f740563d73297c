-- A chunk that was sent, with what stands around it in its datagram.
use Rattle.std.specs.Prelude.{ℕ, Bool, false, Option, Some, None, List, [], ◌∷◌, ◌++◌, take}
use Rattle.std.specs.List.{list_any}
use Rattle.pp_terms.specs.format.Traffic.{Address, Record, Received, Quiet, Sent}
use Rattle.pp_terms.specs.format.Descriptor.{Descriptor}
use Rattle.pp_terms.specs.format.Messages.{Message, Data, datagram}
use Rattle.pp_traffic.specs.Past.{read}
use Rattle.pp_promises.specs.Laws.{is_any_data}
use Rattle.pp_outside.specs.Outside.{address_of}
use Rattle.pp_recorded.specs.Parts.{all, rest}
use Rattle.pp_verdict.specs.declared.chunk.SentChunk as code

-- The datagram's receiver and channel number, the messages in front of the chunk, its number and bytes, and the messages
-- behind it.
pub record SentChunk : Type 0 where
  pub receiver : Address
  pub channel : Option ℕ
  pub front : List Message
  pub number : ℕ
  pub bytes : List ℕ
  pub rest : List Message

-- the first chunk among messages, behind others
abbrev pub chunk_in : Address → Option ℕ → List Message → List Message → Option SentChunk
chunk_in receiver channel front [] = None
chunk_in receiver channel front (Data i sent_at bytes ∷ rest) =
    Some (record { receiver = receiver; channel = channel; front = front; number = i; bytes = bytes; rest = rest })
chunk_in receiver channel front (m ∷ rest) = chunk_in receiver channel (front ++ m ∷ []) rest

-- the first chunk of a datagram that was sent
abbrev pub chunk_of : Descriptor → Record → Option SentChunk
chunk_of d (Received at sender bytes) = None
chunk_of d (Quiet at) = None
chunk_of d (Sent moment receiver bytes) =
    let it = read d (Sent moment receiver bytes) in chunk_in receiver it.channel [] it.messages.read

-- a datagram that was sent, with a chunk among its messages
abbrev pub has_chunk : Descriptor → Record → Bool
has_chunk d (Received at sender bytes) = false
has_chunk d (Quiet at) = false
has_chunk d (Sent moment receiver bytes) = list_any is_any_data (read d (Sent moment receiver bytes)).messages.read

-- as the code keeps it
abbrev pub shown : Descriptor → code.SentChunk → SentChunk
shown d c = record {
  receiver = address_of c.to;
  channel = (datagram d.method d.chunk c.datagram.now).channel;
  front = take c.count (all d c.datagram.now);
  number = c.number;
  bytes = c.bytes.now;
  rest = rest d c.datagram.now c.next;
}
